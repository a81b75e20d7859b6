use Rattle.strip_bag.proofs.BagLaws.{same_counts}
use Rattle.strip_bag.proofs.laws.counts_decide.Goals as goal

pub returns : goal.returns
returns c = same_counts
