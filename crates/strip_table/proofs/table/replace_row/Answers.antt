use Rattle.strip_table.proofs.Search.{back_over, back_none}
use Rattle.strip_table.proofs.table.replace_row.Goals as goal

-- the row takes the place of the one of its key
pub returns-in-Ok : goal.returns-in-Ok
returns-in-Ok c =
    let found = rw (c.as_slice.ensures.value, c.values.ensures) at c.in-Ok.ensures.found in
    back_over c.args.columns.now c.args.rows.now.items c.args.row c.in-Ok.at c.requires found

-- no row has the key
pub returns-in-Err : goal.returns-in-Err
returns-in-Err c =
    let gap = rw (c.as_slice.ensures.value, c.values.ensures) at c.in-Err.ensures.gap in
    back_none c.args.columns.now c.args.rows.now.items c.args.row c.in-Err._gap gap
