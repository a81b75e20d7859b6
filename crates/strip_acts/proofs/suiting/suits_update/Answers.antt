use Rattle.strip_acts.proofs.Parts.{update_told}
use Rattle.strip_acts.proofs.suiting.suits_update.Goals as goal

pub returns-then-is_there : goal.returns-then-is_there
returns-then-is_there c =
    update_told c.args.tables.now c.args.id c.args.sets.now c.args.filter.now c.new-reads.result c.is_there.result
    c.suits_changes.result c.new-reads.ensures c.is_there.ensures c.if-is_there.true c.suits_changes.ensures
