use Rattle.strip_catalog.proofs.OwnNames.{own_names}
use Rattle.strip_catalog.proofs.laws.names_are_their_own.Goals as goal

pub returns : goal.returns
returns c = own_names
