use Rattle.strip_eval.proofs.Asked.{may_alike}
use Rattle.strip_eval.proofs.tests.ask_alike.Goals as goal

pub check-requires : goal.check-requires
check-requires g c = may_alike _ _ _ c.in_ok-filter.ensures c.in_ok-query.ensures c.requires
