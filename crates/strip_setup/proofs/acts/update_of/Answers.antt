use Rattle.std.proofs.Common.{ap, ◌∙◌}
use Rattle.strip_setup.specs.Catalog.{columns_of}
use Rattle.strip_setup.proofs.ActParts.{own_columns_few, own_entries_few}
use Rattle.strip_setup.proofs.acts.update_of.Goals as goal

pub sets_of-requires-clause-few : goal.sets_of-requires-clause-few
sets_of-requires-clause-few c = own_entries_few c.args.tables.now c.args.table.now c.as_slice.result.now c.requires.small (cc (c.in_ok-entries.ensures))

pub sets_of-requires-clause-narrow : goal.sets_of-requires-clause-narrow
sets_of-requires-clause-narrow c =
    own_columns_few c.args.tables.now c.args.table.now c.columns_of-columns.result.now c.requires.small (c.columns_of-columns.ensures ∙ ap columns_of c.table_named.ensures)

pub filter_of-requires : goal.filter_of-requires
filter_of-requires c = record { few = own_entries_few c.args.tables.now c.args.table.now c.as_slice-2.result.now c.requires.small (cc (c.in_ok-entries.ensures)) }
