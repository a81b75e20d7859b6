use Rattle.std.proofs.Common.{◌≡◌, drop}
use Rattle.std.specs.List.{flat_map}
use Rattle.strip_names.specs.Exists.{taken_in_query}
use Rattle.strip_names.proofs.exists.check_queries.Given as goal

abbrev pub invariant-loop-bound : goal.invariant-loop-bound
invariant-loop-bound l = flat_map (λ bound. taken_in_query bound.query) l.queries ≡ flat_map (λ bound. taken_in_query bound.query) (drop l.bound-index l.queries)
