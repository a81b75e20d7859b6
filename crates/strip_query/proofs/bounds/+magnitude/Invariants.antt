use Rattle.strip_query.proofs.Variants.{size}
use Rattle.strip_query.proofs.bounds.+magnitude.Given as goal

abbrev pub decreases-magnitude : goal.decreases-magnitude
decreases-magnitude l = size l.calc.now
