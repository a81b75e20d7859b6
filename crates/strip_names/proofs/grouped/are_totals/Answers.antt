use Rattle.std.proofs.Common.{arith}
use Rattle.strip_names.proofs.Keys.{some_totals}
use Rattle.strip_names.proofs.grouped.are_totals.Goals as goal

pub returns-in_default : goal.returns-in_default
returns-in_default c = some_totals c.args.items.now _ (omega arith) c.all_totals.ensures
