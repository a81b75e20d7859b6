use Rattle.std.proofs.Common.{◌≡◌}
use Rattle.strip_lines.specs.Reading.{fresh, most_left}
use Rattle.strip_lines.proofs.RunLaws.{Run}
use Rattle.strip_lines.proofs.texts.all_statements.Given as goal

abbrev pub invariant-reading : goal.invariant-reading
invariant-reading g l =
    Run (fresh l.limit) l.reader (g.S.Source.left l.initial.source) (g.S.Source.left l.source) l.list
    × (g.S.Source.faults l.source ≡ g.S.Source.faults l.initial.source)

abbrev pub decreases-reading : goal.decreases-reading
decreases-reading g l = most_left l.reader
