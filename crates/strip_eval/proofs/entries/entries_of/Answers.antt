use Rattle.strip_eval.proofs.Fits.{entries_more, rows_more}
use Rattle.strip_eval.proofs.entries.entries_of.Goals as goal

pub loop-input-preserved : goal.loop-input-preserved
loop-input-preserved c =
    let at = c.loop-input.input-index in
    let inputs = c.args.inputs.now in
    rw c.in_ok-push.ensures.items (record {
      rows = rows_more c.args.env.now inputs at c.loop-input.entries.items c.input-item.result c.entry_of.result c.loop-input-test.true c.input-item.is c.loop-input.invariant.rows c.entry_of.ensures.rows;
      fit = entries_more c.args.env.now inputs at c.loop-input.entries.items c.input-item.result c.entry_of.result c.loop-input-test.true c.input-item.is c.loop-input.invariant.fit c.entry_of.ensures.fit;
    })
