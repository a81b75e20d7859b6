use Rattle.strip_parse.proofs.Printed.{printed, printed_within}
use Rattle.strip_parse.proofs.exactness.prints_itself.Goals as goal

pub returns-clause-tree : goal.returns-clause-tree
returns-clause-tree c = printed

pub returns-clause-within : goal.returns-clause-within
returns-clause-within c = printed_within
