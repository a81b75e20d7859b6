use Rattle.strip_bag.proofs.BagLaws.{count_same, count_other, bag_added}
use Rattle.strip_bag.proofs.laws.adding_raises.Goals as goal

pub returns-clause-raises : goal.returns-clause-raises
returns-clause-raises c = λ bag row times. (count_same bag row times, λ other ne. count_other bag row other times ne)

pub returns-clause-bag : goal.returns-clause-bag
returns-clause-bag c = bag_added
