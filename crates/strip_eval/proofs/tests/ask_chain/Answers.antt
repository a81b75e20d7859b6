use Rattle.strip_eval.proofs.Asked.{has_now, may_chain}
use Rattle.strip_eval.proofs.tests.ask_chain.Goals as goal

pub check-requires : goal.check-requires
check-requires g c = may_chain _ _ _ _ _ c.in_ok-query.ensures (has_now _ _ c.requires) (has_now _ _ c.requires) (has_now _ _ c.requires)
