use Rattle.strip_eval.proofs.Asked.{may_sum_up}
use Rattle.strip_eval.proofs.tests.ask_sums.Goals as goal

pub check-requires : goal.check-requires
check-requires g c = may_sum_up _ _ _ c.column-part.ensures c.in_ok-query.ensures c.requires
