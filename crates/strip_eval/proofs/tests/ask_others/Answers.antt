use Rattle.strip_eval.proofs.Asked.{may_others}
use Rattle.strip_eval.proofs.tests.ask_others.Goals as goal

pub check-requires : goal.check-requires
check-requires g c = may_others _ _ _ c.in_ok-filter.ensures c.in_ok-query.ensures c.requires
