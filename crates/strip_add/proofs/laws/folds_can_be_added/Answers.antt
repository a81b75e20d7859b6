use Rattle.strip_add.proofs.SumLaws.{folded_rises, sums_up_to}
use Rattle.strip_add.proofs.LawProofs.{folded_fit}
use Rattle.strip_add.proofs.laws.folds_can_be_added.Goals as goal

pub returns-clause-rise : goal.returns-clause-rise
returns-clause-rise c = folded_rises

pub returns-clause-fit : goal.returns-clause-fit
returns-clause-fit c = folded_fit

pub returns-clause-bounded : goal.returns-clause-bounded
returns-clause-bounded c = sums_up_to
