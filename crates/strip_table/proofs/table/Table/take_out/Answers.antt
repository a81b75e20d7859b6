use Rattle.std.proofs.Common.{sym, subst, ◌∙◌}
use Rattle.strip_value.specs.Table.{IsTable}
use Rattle.strip_value.proofs.KeyedLaws.{table_without}
use Rattle.strip_table.proofs.table.Table.take_out.Goals as goal

pub invariant_of-self : goal.invariant_of-self
invariant_of-self c =
    let out = rw c.as_slice.ensures at c.take_row.ensures.others in
    subst (IsTable c.self.inside.def) (sym out) (table_without c.self.inside.def c.self.inside.rows.items c.args.key.now c.self.invariant)
