use Rattle.std.proofs.Common.{vec_len}
use Rattle.strip_engine.proofs.Restores.{Restoring}
use Rattle.strip_engine.proofs.undo.restoring.restore_all.Given as goal

abbrev pub invariant-loop-change : goal.invariant-loop-change
invariant-loop-change l = Restoring l.initial.tables.items l.initial.left.items l.tables.items l.left.items

abbrev pub decreases-loop-change : goal.decreases-loop-change
decreases-loop-change l = vec_len l.left
