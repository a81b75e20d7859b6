use Rattle.std.proofs.Common.{arith}
use Rattle.strip_table.proofs.Search.{put_full, put_over, put_in}
use Rattle.strip_table.proofs.table.put_row.Goals as goal

-- the key is new, and the limit is reached
pub returns-in-Some : goal.returns-in-Some
returns-in-Some c =
    let gap = rw (c.as_slice.ensures.value, c.values.ensures) at c.in-Err.ensures.gap in
    put_full c.args.columns.now c.args.limit c.args.rows.now.items c.args.row c.in-Err.at c.in-Some.limit c.len.result gap (omega arith) c.in-Some.ensures

-- the row takes the place of the one of its key
pub returns-in-Ok : goal.returns-in-Ok
returns-in-Ok c =
    let found = rw (c.as_slice.ensures.value, c.values.ensures) at c.in-Ok.ensures.found in
    let here = rw (← c.replace-old.ensures.value) at c.index_mut.ensures.value in
    rw c.replace-old.ensures.after (put_over c.args.columns.now c.args.limit c.args.rows.now.items c.args.row c.replace-old.result c.in-Ok.at c.requires found here)

-- the row is new
pub returns-in-Ok-insert : goal.returns-in-Ok-insert
returns-in-Ok-insert c =
    let gap = rw (c.as_slice.ensures.value, c.values.ensures) at c.in-Err.ensures.gap in
    rw c.in-Ok-insert.ensures.items (put_in c.args.columns.now c.args.limit c.args.rows.now.items c.args.row c.in-Err.at c.len.result gap (omega arith) c.in_default.ensures)
