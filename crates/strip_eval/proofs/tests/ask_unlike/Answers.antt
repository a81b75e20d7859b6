use Rattle.strip_eval.proofs.Asked.{may_unlike}
use Rattle.strip_eval.proofs.tests.ask_unlike.Goals as goal

pub check-requires : goal.check-requires
check-requires g c = may_unlike _ _ _ c.compare_both-filter.ensures c.in_ok-query.ensures c.requires
