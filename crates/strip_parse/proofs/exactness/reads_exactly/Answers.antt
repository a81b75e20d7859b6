use Rattle.strip_parse.proofs.Exact.{right, read_as}
use Rattle.strip_parse.proofs.exactness.reads_exactly.Goals as goal

pub returns-clause-right : goal.returns-clause-right
returns-clause-right c = right

pub returns-clause-all : goal.returns-clause-all
returns-clause-all c = read_as
