use Rattle.std.proofs.Common.{◌≡◌, ◌++◌}
use Rattle.std.specs.Vec.Iter.{into_iter_items}
use Rattle.strip_engine.specs.Changes.{bound_rows}
use Rattle.strip_engine.proofs.deltas.bind.Given as goal

abbrev pub invariant-loop-row : goal.invariant-loop-row
invariant-loop-row l = l.into ++ bound_rows (into_iter_items l.row-iterator) ≡ l.fn.into ++ bound_rows l.fn.rows.items
