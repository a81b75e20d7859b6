use Rattle.std.proofs.Common.{◌≡◌, drop, flat_map}
use Rattle.strip_kinds.specs.Mismatch.{mismatched_in_query}
use Rattle.strip_kinds.proofs.rules.check_kinds.Given as goal

abbrev pub invariant-loop-bound : goal.invariant-loop-bound
invariant-loop-bound l = flat_map (λ bound. mismatched_in_query l.scope bound.query) l.queries ≡ flat_map (λ bound. mismatched_in_query l.scope bound.query) (drop l.bound-index l.queries)
