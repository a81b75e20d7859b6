use Rattle.strip_names.proofs.Absent.{select_checked}
use Rattle.strip_names.proofs.unknown.unknown_in_deed.Goals as goal

pub returns-in-Select : goal.returns-in-Select
returns-in-Select c =
    select_checked c.args.tables.now c.args.deed.now c.in-Select.query _ c.unknown_in_query.result c.in-Select.is c.outside_rules.ensures c.unknown_in_query.ensures
