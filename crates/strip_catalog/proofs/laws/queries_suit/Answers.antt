use Rattle.strip_catalog.proofs.SuitStays.{derived_suit}
use Rattle.strip_catalog.proofs.laws.queries_suit.Goals as goal

pub returns : goal.returns
returns c = derived_suit
