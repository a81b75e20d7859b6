use Rattle.strip_bag.proofs.LinearLaws.{sums_follow, lengths_follow}
use Rattle.strip_bag.proofs.laws.totals_follow.Goals as goal

pub returns : goal.returns
returns c = λ t places key e before after. (sums_follow t places key e before after, lengths_follow t places key before after)
