use Rattle.std.proofs.Common.{◌∙◌, sym}
use Rattle.strip_value.specs.declared.queries.Place.{Place}
use Rattle.strip_eval.proofs.Keys.{ended_value, no_length}
use Rattle.strip_eval.proofs.groups.key_value.Goals as goal

-- the key has ended, and group columns are left
pub returns-in_default : goal.returns-in_default
returns-in_default c =
    let none : Place = record { entry = 0; column = 0 } in
    sym (ended_value c.args.places.now c.loop-place.place-index none c.loop-place.left.now c.args.calc.now c.loop-place-test.true (no_length c.loop-place.left.now c.in_default.ensures.cases)) ∙ c.loop-place.invariant
