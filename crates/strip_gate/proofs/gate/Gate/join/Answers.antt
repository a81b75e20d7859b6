use Rattle.std.proofs.Common.{rules}
use Rattle.strip_gate.proofs.Passes.{joined_as}
use Rattle.strip_gate.proofs.gate.Gate.join.Goals as goal

pub returns-clause-pass : goal.returns-clause-pass
returns-clause-pass g c = joined_as _ _ _ _ _ c.pass.view_is c.other.view_is c.requires.idle.0 (search rules)
