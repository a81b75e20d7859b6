use Rattle.strip_bag.proofs.BagLaws.{count_less, bag_of_less}
use Rattle.strip_bag.proofs.laws.differences_count.Goals as goal

pub returns-clause-counts : goal.returns-clause-counts
returns-clause-counts c = count_less

pub returns-clause-bag : goal.returns-clause-bag
returns-clause-bag c = bag_of_less
