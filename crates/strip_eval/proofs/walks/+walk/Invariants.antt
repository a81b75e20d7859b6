use Rattle.std.proofs.Common.{◌++◌, length}
use Rattle.strip_eval.specs.Walks.{rows_behind}
use Rattle.strip_eval.proofs.Walked.{StillWalks}
use Rattle.strip_eval.proofs.walks.+walk.Given as goal

abbrev pub decreases-walk : goal.decreases-walk
decreases-walk l = length l.entries.now

abbrev pub invariant-loop-row : goal.invariant-loop-row
invariant-loop-row l = StillWalks l.query l.others (l.fn.into ++ rows_behind l.query l.fn.chosen l.fn.entries) l.fn.chosen l.into l.chosen l.row-iterator
