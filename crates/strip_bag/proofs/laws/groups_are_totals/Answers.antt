use Rattle.strip_bag.proofs.LinearLaws.{one_chosen, sum_is_total, length_is_total, answers_grouped}
use Rattle.strip_bag.proofs.laws.groups_are_totals.Goals as goal

pub returns-clause-chosen : goal.returns-clause-chosen
returns-clause-chosen c = one_chosen

pub returns-clause-totals : goal.returns-clause-totals
returns-clause-totals c = λ t places key e rows. (sum_is_total t places key e rows, length_is_total t places key rows)

pub returns-clause-answers : goal.returns-clause-answers
returns-clause-answers c = answers_grouped
