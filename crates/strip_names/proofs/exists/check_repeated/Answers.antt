use Rattle.std.proofs.Common.{option_map, ap, sym, ◌∙◌}
use Rattle.strip_setup.specs.Catalog.{first}
use Rattle.strip_setup.specs.declared.errors.SetupError.TheVariants.{Exists}
use Rattle.strip_setup.proofs.Firsts.{carried}
use Rattle.strip_names.proofs.Repeated.{repeated-here, repeated-past}
use Rattle.strip_names.proofs.exists.check_repeated.Goals as goal

pub returns-then-has_name : goal.returns-then-has_name
returns-then-has_name c =
    let here = repeated-here c.args.names.now c.loop-i.i c.index-names-i.result c.loop-i-test.true c.index-names-i.is (sym c.has_name.ensures ∙ c.if-has_name.true) in
    carried _ _ c.refuse.result (ap (λ names. option_map Exists (first names)) c.loop-i.invariant ∙ ap (option_map Exists) here) c.refuse.ensures

pub loop-i-preserved : goal.loop-i-preserved
loop-i-preserved c =
    c.loop-i.invariant ∙ repeated-past c.args.names.now c.loop-i.i c.index-names-i.result c.loop-i-test.true c.index-names-i.is (sym c.has_name.ensures ∙ c.if-has_name.false)
