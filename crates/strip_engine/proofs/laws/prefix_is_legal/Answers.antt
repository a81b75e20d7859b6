use Rattle.strip_engine.proofs.QuietActions.{prefix_is_legal}
use Rattle.strip_engine.proofs.laws.prefix_is_legal.Goals as goal

pub returns : goal.returns
returns c = prefix_is_legal
