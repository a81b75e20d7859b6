use Rattle.std.proofs.Common.{subst}
use Rattle.strip_gate.specs.Pass.{HasEntries}
use Rattle.strip_gate.proofs.Passes.{has_entries}
use Rattle.strip_gate.proofs.pass.Pass.caller.Goals as goal

pub returns-clause-entries : goal.returns-clause-entries
returns-clause-entries g c = let i = c.self.invariant in subst (HasEntries g.S.Kept.caller) c.self.view_is (has_entries g.S.Kept.caller _ _ _ _ i.knows i.own)
