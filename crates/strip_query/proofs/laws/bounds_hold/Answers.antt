use Rattle.strip_query.proofs.BoundLaws.{bounds_hold}
use Rattle.strip_query.proofs.laws.bounds_hold.Goals as goal

pub returns : goal.returns
returns c = bounds_hold
