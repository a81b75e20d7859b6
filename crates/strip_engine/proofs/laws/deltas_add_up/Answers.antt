use Rattle.strip_engine.proofs.QuietTables.{query_has_totals}
use Rattle.strip_engine.proofs.QuietTotals.{deltas_add_up}
use Rattle.strip_engine.proofs.laws.deltas_add_up.Goals as goal

pub returns-clause-deltas : goal.returns-clause-deltas
returns-clause-deltas c = deltas_add_up

pub returns-clause-query : goal.returns-clause-query
returns-clause-query c = query_has_totals
