use Rattle.strip_acts.specs.Shapes.{is_short_item}
use Rattle.strip_acts.proofs.Counts.{listed_is}
use Rattle.strip_acts.proofs.suiting.are_short_items.Goals as goal

pub returns-then-not-is_empty : goal.returns-then-not-is_empty
returns-then-not-is_empty c =
    listed_is is_short_item c.args.items.now c.is_empty.result c.all_short_items.result c.is_empty.ensures c.if-not-is_empty.true
    c.all_short_items.ensures
