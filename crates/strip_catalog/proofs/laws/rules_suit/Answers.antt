use Rattle.strip_catalog.proofs.RuleSuits.{rules_suiting}
use Rattle.strip_catalog.proofs.laws.rules_suit.Goals as goal

pub returns : goal.returns
returns c = rules_suiting
