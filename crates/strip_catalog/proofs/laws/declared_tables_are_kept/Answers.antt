use Rattle.strip_catalog.proofs.KeptAlone.{declared_kept_alone}
use Rattle.strip_catalog.proofs.laws.declared_tables_are_kept.Goals as goal

pub returns : goal.returns
returns c = declared_kept_alone
