use Rattle.strip_bag.proofs.BagLaws.{count_rows, bag_rows}
use Rattle.strip_bag.proofs.laws.rows_count.Goals as goal

pub returns-clause-counts : goal.returns-clause-counts
returns-clause-counts c = count_rows

pub returns-clause-bag : goal.returns-clause-bag
returns-clause-bag c = bag_rows
