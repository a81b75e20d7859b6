use Rattle.strip_eval.proofs.Asked.{has_added, has_before, has_now, may_chain}
use Rattle.strip_eval.proofs.tests.ask_before.Goals as goal

pub check-requires : goal.check-requires
check-requires g c = may_chain _ _ _ _ _ c.in_ok-query.ensures (has_before _ _ c.requires) (has_added _ _ c.requires) (has_now _ _ c.requires)
