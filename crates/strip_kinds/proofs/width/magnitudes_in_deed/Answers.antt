use Rattle.strip_setup.proofs.Meant.{select_few}
use Rattle.strip_kinds.proofs.Wide.{select_checked}
use Rattle.strip_kinds.proofs.width.magnitudes_in_deed.Goals as goal

pub magnitudes_in_query-requires : goal.magnitudes_in_query-requires
magnitudes_in_query-requires c = record {
  few = select_few c.args.tables.now c.args.deed.now c.in-Select.query c.outside_rules.result c.in-Select.is c.outside_rules.ensures c.requires.few c.requires.narrow;
}

pub returns-in-Select : goal.returns-in-Select
returns-in-Select c =
    select_checked c.args.tables.now c.args.deed.now c.in-Select.query _ c.magnitudes_in_query.result c.in-Select.is c.outside_rules.ensures c.magnitudes_in_query.ensures
