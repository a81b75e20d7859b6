use Rattle.std.proofs.Common.{◌<◌, length, sym, ◌∙◌, subst}
use Rattle.strip_setup.proofs.Numbers.{table_below}
use Rattle.strip_catalog.proofs.MadeRules.{sums_made}
use Rattle.strip_catalog.proofs.Named.{derived_at}
use Rattle.strip_catalog.proofs.keeping.first_made.Goals as goal

pub returns-clause-made : goal.returns-clause-made
returns-clause-made c =
    let below = table_below c.defs.result.now c.args.name.now c.in-Some.number (sym c.in-Some.ensures) in
    let derived = derived_at c.defs-2.result.now c.in-Some.number c.index-defs-number.result c.in-Some-query.query (subst (λ ts. c.in-Some.number < length ts) (c.defs.ensures ∙ sym c.defs-2.ensures) below) c.index-defs-number.is c.in-Some-query.is in
    sums_made c.args.setup.now c.defs-2.result.now c.in_ok-made.made c.in-Some.number c.defs-2.ensures c.in_ok-made.ensures derived
