use Rattle.std.proofs.Common.{◌≤◌, List, length, sym, ap, ◌∙◌, subst}
use Rattle.strip_value.specs.declared.tables.ColumnDef.{ColumnDef}
use Rattle.strip_value.specs.declared.tables.TableDef.{TableDef}
use Rattle.strip_value.proofs.Lists.{all_at}
use Rattle.strip_meaning.specs.Effect.{no_table}
use Rattle.strip_catalog.proofs.Sizes.{small}
use Rattle.strip_script.proofs.built.takes_row.Goals as goal

pub row_misfit-requires : goal.row_misfit-requires
row_misfit-requires c =
    let catalog = c.args.catalog.now in
    let narrow = all_at (λ (def : TableDef). length def.columns ≤ 16) catalog.tables c.in-Some.id no_table.def (small catalog c.requires).narrow c.in-Some.ensures.there in
    subst (λ (columns : List ColumnDef). length columns ≤ 16) (sym (c.as_slice.ensures ∙ ap (λ (def : TableDef). def.columns) c.table-def.ensures)) narrow
