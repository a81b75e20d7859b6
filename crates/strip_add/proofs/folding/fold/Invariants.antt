use Rattle.std.proofs.Common.{take, map}
use Rattle.strip_meaning.specs.Sums.{as_derived}
use Rattle.strip_add.proofs.SumLaws.{FoldedSoFar}
use Rattle.strip_add.proofs.folding.fold.Given as goal

abbrev pub invariant-loop-row : goal.invariant-loop-row
invariant-loop-row l = FoldedSoFar l.into l.sums.def l.sums.rows (map (as_derived l.from) (take l.row-index l.rows))
