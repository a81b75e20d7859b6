use Rattle.strip_catalog.proofs.TablesNamed.{tables_named}
use Rattle.strip_catalog.proofs.laws.tables_are_named.Goals as goal

pub returns : goal.returns
returns c = tables_named
