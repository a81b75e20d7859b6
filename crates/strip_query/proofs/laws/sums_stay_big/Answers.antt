use Rattle.strip_query.proofs.BoundLaws.{sums_stay_big}
use Rattle.strip_query.proofs.laws.sums_stay_big.Goals as goal

pub returns : goal.returns
returns c = sums_stay_big
