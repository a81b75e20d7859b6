use Rattle.std.proofs.Common.{◌≡◌, ◌++◌, drop}
use Rattle.strip_engine.specs.Changes.{fired_by}
use Rattle.strip_engine.specs.Undo.{changes_of}
use Rattle.strip_engine.proofs.deltas.fired.Given as goal

abbrev pub invariant-loop-keeper : goal.invariant-loop-keeper
invariant-loop-keeper l =
    (l.number ≡ l.keeper-index)
    × (l.fired ++ fired_by l.number (drop l.keeper-index l.keepers) (changes_of l.log) ≡ fired_by 0 l.keepers (changes_of l.log))
