use Rattle.strip_acts.specs.Writable.{is_row}
use Rattle.strip_acts.proofs.Counts.{listed_is}
use Rattle.strip_acts.proofs.suiting.are_short_rows.Goals as goal

pub returns-then-not-is_empty : goal.returns-then-not-is_empty
returns-then-not-is_empty c =
    listed_is is_row c.args.rows.now c.is_empty.result c.all_rows.result c.is_empty.ensures c.if-not-is_empty.true
    c.all_rows.ensures
