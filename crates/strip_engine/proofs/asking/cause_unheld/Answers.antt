use Rattle.std.proofs.Common.{◌∙◌}
use Rattle.strip_engine.proofs.Asked.{unheld_passed}
use Rattle.strip_engine.proofs.asking.cause_unheld.Goals as goal

pub loop-entry-preserved : goal.loop-entry-preserved
loop-entry-preserved c =
    unheld_passed c.args.holds.now c.loop-entry.least c.unheld_by.result c.smaller-least.result c.args.entries.now c.loop-entry.entry-index c.entry-item.result c.loop-entry-test.true c.entry-item.is c.unheld_by.ensures c.smaller-least.ensures
    ∙ c.loop-entry.invariant
