use Rattle.strip_table.proofs.Search.{overwrites, inserts}
use Rattle.strip_table.proofs.table.row_of.Goals as goal

pub returns-in-Ok : goal.returns-in-Ok
returns-in-Ok c =
    let there = overwrites c.args.columns.now c.args.rows.now c.args.key.now c.in-Ok.at c.requires c.in-Ok.ensures.found in
    let row = there.row c.index-rows-at.result in
    cc

pub returns-in-Err : goal.returns-in-Err
returns-in-Err c =
    let there = inserts c.args.columns.now c.args.rows.now c.args.key.now c.in-Err._gap c.in-Err.ensures.gap in
    let row = there.row in
    cc
