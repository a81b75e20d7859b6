use Rattle.strip_setup.proofs.ActParts.{own_entries_few, select_is}
use Rattle.strip_setup.proofs.acts.act_of.Goals as goal

pub filter_of-requires : goal.filter_of-requires
filter_of-requires c =
    record { few = own_entries_few c.args.tables.now c.in-Delete.table c.as_slice-in-Delete.result.now c.requires.small (cc (c.in_ok-entries-in-Delete.ensures)) }

pub returns-in_ok-query_of-in-Select : goal.returns-in_ok-query_of-in-Select
returns-in_ok-query_of-in-Select c =
    select_is c.args.tables.now c.args.deed.now c.in-Select.query c.outside_rules.result c.in_ok-query_of-in-Select.field-0 c.in-Select.is c.outside_rules.ensures c.in_ok-query_of-in-Select.ensures
