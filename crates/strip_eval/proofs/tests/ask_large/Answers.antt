use Rattle.strip_eval.proofs.Asked.{may_sum_large}
use Rattle.strip_eval.proofs.tests.ask_large.Goals as goal

pub check-requires : goal.check-requires
check-requires g c = may_sum_large _ _ _ _ c.column-part.ensures c.large-filter.ensures c.in_ok-query.ensures c.requires
