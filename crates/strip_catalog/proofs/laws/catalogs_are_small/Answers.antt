use Rattle.strip_catalog.proofs.Sizes.{small}
use Rattle.strip_catalog.proofs.laws.catalogs_are_small.Goals as goal

pub returns : goal.returns
returns c = small
