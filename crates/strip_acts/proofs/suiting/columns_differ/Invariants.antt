use Rattle.std.proofs.Common.{◌≡◌, drop, map}
use Rattle.strip_acts.specs.Suiting.{all_differ}
use Rattle.strip_acts.proofs.suiting.columns_differ.Given as goal

abbrev pub invariant-loop-i : goal.invariant-loop-i
invariant-loop-i l = all_differ (map (λ s. s.column) l.sets) ≡ all_differ (map (λ s. s.column) (drop l.i l.sets))
