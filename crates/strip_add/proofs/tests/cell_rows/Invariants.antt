use Rattle.std.proofs.Common.{◌≡◌, length}
use Rattle.std.specs.List.{AllByRecursion}
use Rattle.strip_add.specs.Cells.{AreInts}
use Rattle.strip_add.proofs.tests.cell_rows.Given as goal

abbrev pub invariant-loop-three : goal.invariant-loop-three
invariant-loop-three l = AllByRecursion AreInts l.rows × (length l.rows ≡ l.three-index)
