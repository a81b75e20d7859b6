use Rattle.strip_eval.proofs.Asked.{may_texts_below}
use Rattle.strip_eval.proofs.tests.ask_texts_below.Goals as goal

pub check-requires : goal.check-requires
check-requires g c = may_texts_below _ _ _ c.compare_both-filter.ensures c.in_ok-query.ensures c.requires
