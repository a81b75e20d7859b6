use Rattle.strip_bag.proofs.LinearLaws.{total_sum, total_less}
use Rattle.strip_bag.proofs.laws.grouping_is_linear.Goals as goal

pub returns : goal.returns
returns c = λ t places key e one two. (total_sum t places key e one two, total_less t places key e one two)
