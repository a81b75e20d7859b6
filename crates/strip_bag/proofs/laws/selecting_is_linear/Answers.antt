use Rattle.strip_bag.proofs.LinearLaws.{selected_sum, selected_less, answers_selected}
use Rattle.strip_bag.proofs.laws.selecting_is_linear.Goals as goal

pub returns-clause-linear : goal.returns-clause-linear
returns-clause-linear c = λ t items one two. (selected_sum t items one two, selected_less t items one two)

pub returns-clause-answers : goal.returns-clause-answers
returns-clause-answers c = answers_selected
