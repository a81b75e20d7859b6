use Rattle.strip_table.proofs.Search.{put_keeps}
use Rattle.strip_table.proofs.table.Table.put.Goals as goal

pub invariant_of-self : goal.invariant_of-self
invariant_of-self c =
    let fits = rw (← c.self.view_is) at c.requires in
    put_keeps c.self.inside.def c.self.inside.rows.items c.args.row c.put_row.new.rows.items c.put_row.result c.self.invariant fits (rw c.as_slice.ensures at c.put_row.ensures)
