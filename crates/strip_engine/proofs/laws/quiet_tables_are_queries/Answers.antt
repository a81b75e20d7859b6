use Rattle.strip_engine.proofs.QuietTables.{quiet_tables_are_queries}
use Rattle.strip_engine.proofs.laws.quiet_tables_are_queries.Goals as goal

pub returns : goal.returns
returns c = quiet_tables_are_queries
