use Rattle.strip_engine.proofs.Restores.{restoring_more}
use Rattle.strip_engine.proofs.undo.restoring.restore_all.Goals as goal

pub loop-change-preserved : goal.loop-change-preserved
loop-change-preserved c =
    restoring_more c.args.tables.now.items c.loop-change.tables.items c.restore.new.tables.items c.args.changes.items c.loop-change.left.items c.pop.new.self.items c.in-Some.change c.loop-change.invariant c.in-Some.ensures.items c.restore.ensures.tables c.restore.ensures.defs
