use Rattle.strip_bag.proofs.BagLaws.{count_append, sum_append}
use Rattle.strip_bag.proofs.laws.appends_count.Goals as goal

pub returns-clause-counts : goal.returns-clause-counts
returns-clause-counts c = count_append

pub returns-clause-sum : goal.returns-clause-sum
returns-clause-sum c = sum_append
