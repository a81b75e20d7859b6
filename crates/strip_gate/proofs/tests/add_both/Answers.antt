use Rattle.std.proofs.Common.{rules}
use Rattle.strip_gate.proofs.Lists.{stands_ok}
use Rattle.strip_gate.proofs.tests.add_both.Goals as goal

pub returns-clause-first : goal.returns-clause-first
returns-clause-first g c = stands_ok _ _ _ _ c.join.ensures.seen.0 (search rules)

pub returns-clause-second : goal.returns-clause-second
returns-clause-second g c = stands_ok _ _ _ _ c.join.ensures.seen.1 (search rules)
