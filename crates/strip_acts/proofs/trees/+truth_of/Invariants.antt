use Rattle.strip_acts.proofs.Sizes.{words}
use Rattle.strip_acts.proofs.trees.+truth_of.Given as goal

abbrev pub decreases-truth_of : goal.decreases-truth_of
decreases-truth_of l = words l.test.now
