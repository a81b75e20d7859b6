use Rattle.std.proofs.Common.{Some, option_map, ap, sym, ◌∙◌}
use Rattle.strip_setup.specs.Catalog.{first}
use Rattle.strip_setup.specs.declared.errors.SetupError.TheVariants.{Exists}
use Rattle.strip_setup.proofs.Firsts.{carried}
use Rattle.strip_names.proofs.Steps.{taken-here, taken-past}
use Rattle.strip_names.proofs.exists.check_steps.Goals as goal

pub returns-then-is_kept_otherwise : goal.returns-then-is_kept_otherwise
returns-then-is_kept_otherwise c =
    let here = taken-here c.args.tables.now c.args.steps.now c.loop-i.i c.index-steps-i.result c.loop-i-test.true c.index-steps-i.is (sym c.is_kept_otherwise.ensures ∙ c.if-is_kept_otherwise.true) in
    carried _ _ c.refuse.result
    (ap (λ names. option_map Exists (first names)) c.loop-i.invariant ∙ ap (option_map Exists) here ∙ ap (λ name. Some (Exists name)) (sym c.kept_name.ensures))
    c.refuse.ensures

pub loop-i-preserved : goal.loop-i-preserved
loop-i-preserved c =
    c.loop-i.invariant ∙ taken-past c.args.tables.now c.args.steps.now c.loop-i.i c.index-steps-i.result c.loop-i-test.true c.index-steps-i.is (sym c.is_kept_otherwise.ensures ∙ c.if-is_kept_otherwise.false)
