use Rattle.std.proofs.Common.{◌≡◌, ◌++◌, drop}
use Rattle.strip_engine.specs.Changes.{deltas}
use Rattle.strip_engine.specs.Undo.{changes_of}
use Rattle.strip_engine.proofs.deltas.delta_rows.Given as goal

abbrev pub invariant-loop-logged : goal.invariant-loop-logged
invariant-loop-logged l =
    l.rows.items ++ deltas l.side l.keeper (changes_of (drop l.logged-index l.log)) ≡ deltas l.side l.keeper (changes_of l.log)
