use Rattle.strip_table.proofs.Search.{overwrites, inserts}
use Rattle.strip_table.proofs.table.take_row.Goals as goal

pub returns-in-Ok-clause-row : goal.returns-in-Ok-clause-row
returns-in-Ok-clause-row c =
    let found = rw c.as_slice.ensures.value at c.in-Ok.ensures.found in
    let there = overwrites c.args.columns.now c.args.rows.now.items c.args.key.now c.in-Ok.at c.requires found in
    let row = there.row c.remove.result in
    cc

pub returns-in-Ok-clause-others : goal.returns-in-Ok-clause-others
returns-in-Ok-clause-others c =
    let found = rw c.as_slice.ensures.value at c.in-Ok.ensures.found in
    let there = overwrites c.args.columns.now c.args.rows.now.items c.args.key.now c.in-Ok.at c.requires found in
    let out = there.out in
    cc

pub returns-in-Err-clause-row : goal.returns-in-Err-clause-row
returns-in-Err-clause-row c =
    let gap = rw c.as_slice.ensures.value at c.in-Err.ensures.gap in
    let there = inserts c.args.columns.now c.args.rows.now.items c.args.key.now c.in-Err._gap gap in
    let row = there.row in
    cc

pub returns-in-Err-clause-others : goal.returns-in-Err-clause-others
returns-in-Err-clause-others c =
    let gap = rw c.as_slice.ensures.value at c.in-Err.ensures.gap in
    let there = inserts c.args.columns.now c.args.rows.now.items c.args.key.now c.in-Err._gap gap in
    let out = there.out in
    cc
