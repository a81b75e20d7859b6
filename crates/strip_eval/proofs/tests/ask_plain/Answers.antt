use Rattle.strip_eval.proofs.Asked.{may_plain}
use Rattle.strip_eval.proofs.tests.ask_plain.Goals as goal

pub check-requires : goal.check-requires
check-requires g c = may_plain _ _ c.in_ok-query.ensures c.requires
