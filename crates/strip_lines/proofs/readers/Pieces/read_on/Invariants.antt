use Rattle.std.proofs.Common.{◌-◌}
use Rattle.strip_lines.proofs.CallLaws.{Progress}
use Rattle.strip_lines.proofs.readers.Pieces.read_on.Given as goal

abbrev pub invariant-reading : goal.invariant-reading
invariant-reading g l =
    Progress l.initial.self l.self (g.S.Source.left l.initial.source) (g.S.Source.left l.source) (g.S.Source.faults l.initial.source) (g.S.Source.faults l.source)

abbrev pub decreases-reading : goal.decreases-reading
decreases-reading g l = l.self.limit - l.self.taken
