use Rattle.strip_acts.proofs.Counts.{within_limits}
use Rattle.strip_acts.proofs.shapes.is_small_test.Goals as goal

pub returns : goal.returns
returns c = within_limits _ _ _ _ _ c.test_operators.ensures c.test_parentheses.ensures c.is_within.ensures
