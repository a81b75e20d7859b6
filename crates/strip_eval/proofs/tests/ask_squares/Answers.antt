use Rattle.strip_eval.proofs.Asked.{may_sum_squares}
use Rattle.strip_eval.proofs.tests.ask_squares.Goals as goal

pub check-requires : goal.check-requires
check-requires g c = may_sum_squares _ _ _ c.in_ok-part.ensures c.in_ok-query.ensures c.requires
