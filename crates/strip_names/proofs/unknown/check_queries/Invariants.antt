use Rattle.std.proofs.Common.{◌≡◌, drop, flat_map}
use Rattle.strip_names.specs.Unknown.{unknown_in_query}
use Rattle.strip_names.proofs.unknown.check_queries.Given as goal

abbrev pub invariant-loop-bound : goal.invariant-loop-bound
invariant-loop-bound l = flat_map (λ bound. unknown_in_query l.scope bound.query) l.queries ≡ flat_map (λ bound. unknown_in_query l.scope bound.query) (drop l.bound-index l.queries)
