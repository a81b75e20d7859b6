use Rattle.strip_query.proofs.Variants.{size}
use Rattle.strip_acts.proofs.trees.+expr_of.Given as goal

abbrev pub decreases-expr_of : goal.decreases-expr_of
decreases-expr_of l = size l.calc.now
