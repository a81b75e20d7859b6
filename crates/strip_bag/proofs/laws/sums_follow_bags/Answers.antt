use Rattle.strip_bag.proofs.LinearLaws.{order_keeps, sums_by_bag}
use Rattle.strip_bag.proofs.laws.sums_follow_bags.Goals as goal

pub returns-clause-order : goal.returns-clause-order
returns-clause-order c = order_keeps

pub returns-clause-sums : goal.returns-clause-sums
returns-clause-sums c = sums_by_bag
