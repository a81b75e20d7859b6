use Rattle.std.proofs.Common.{sym, subst}
use Rattle.strip_value.specs.Table.{IsTable}
use Rattle.strip_value.proofs.KeyedLaws.{table_put_back}
use Rattle.strip_table.proofs.table.Table.put_back.Goals as goal

pub invariant_of-self : goal.invariant_of-self
invariant_of-self c =
    let fits = rw (← c.self.view_is) at c.requires in
    let back = rw c.as_slice.ensures at c.replace_row.ensures in
    subst (IsTable c.self.inside.def) (sym back) (table_put_back c.self.inside.def c.self.inside.rows.items c.args.row c.self.invariant fits)
