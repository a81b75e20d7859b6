use Rattle.std.proofs.Common.{◌-◌, length}
use Rattle.strip_add.proofs.ApplyLaws.{PutSoFar}
use Rattle.strip_add.proofs.applying.put_all.Given as goal

abbrev pub invariant-loop-at : goal.invariant-loop-at
invariant-loop-at l = PutSoFar l.fn.table.def l.fn.table.rows l.totals l.at l.at l.table l.slots

abbrev pub invariant-loop-done : goal.invariant-loop-done
invariant-loop-done l = PutSoFar l.fn.table.def l.fn.table.rows l.totals (l.at - l.done) (length l.totals) l.table l.slots
