use Rattle.strip_add.proofs.LawProofs.{folds_sum, folds_append}
use Rattle.strip_add.proofs.laws.folds_add_up.Goals as goal

pub returns-clause-sums : goal.returns-clause-sums
returns-clause-sums c = folds_sum

pub returns-clause-append : goal.returns-clause-append
returns-clause-append c = folds_append
