use Rattle.std.proofs.Common.{arith}
use Rattle.strip_add.proofs.ApplyLaws.{sweep_step}
use Rattle.strip_add.proofs.applying.remove_zeros.Goals as goal

pub loop-row-preserved : goal.loop-row-preserved
loop-row-preserved c =
    sweep_step c.args.table.now.def c.args.table.now.rows c.args.totals.now c.loop-row.row-index c.row-item.result c.loop-row.table c.remove_zero.new.table c.requires.rise (omega arith) c.row-item.is c.loop-row.invariant.0 c.loop-row.invariant.1 c.remove_zero.ensures
