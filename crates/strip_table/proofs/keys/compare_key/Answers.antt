use Rattle.std.proofs.Common.{arith}
use Rattle.strip_table.proofs.Search.{longer_key}
use Rattle.strip_table.proofs.keys.compare_key.Goals as goal

-- the key has ended, and a key column is left
pub returns-in_default : goal.returns-in_default
returns-in_default c =
    let longer = longer_key c.args.columns.now c.args.row.now c.loop-column.left.now c.loop-column.column-index (omega arith) (c.in_default.ensures.cases) in
    cc
