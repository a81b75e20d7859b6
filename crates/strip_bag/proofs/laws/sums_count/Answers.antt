use Rattle.strip_bag.proofs.BagLaws.{count_sum, bag_of_sum}
use Rattle.strip_bag.proofs.laws.sums_count.Goals as goal

pub returns-clause-counts : goal.returns-clause-counts
returns-clause-counts c = count_sum

pub returns-clause-bag : goal.returns-clause-bag
returns-clause-bag c = bag_of_sum
