use Rattle.std.proofs.Common.{◌≡◌, drop, filter, flat_map, nat_le}
use Rattle.strip_kinds.specs.Width.{least_wide, magnitudes_in_query}
use Rattle.strip_kinds.proofs.rules.check_widths.Given as goal

abbrev pub invariant-loop-bound : goal.invariant-loop-bound
invariant-loop-bound l =
    flat_map (λ bound. filter (nat_le least_wide) (magnitudes_in_query l.scope bound.query)) l.queries
    ≡ flat_map (λ bound. filter (nat_le least_wide) (magnitudes_in_query l.scope bound.query)) (drop l.bound-index l.queries)
