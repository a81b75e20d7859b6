use Rattle.std.proofs.Common.{◌≡◌, drop}
use Rattle.std.specs.List.{list_any}
use Rattle.strip_setup.specs.Queries.{query_of}
use Rattle.strip_names.specs.Grouped.{has_misplaced}
use Rattle.strip_names.proofs.grouped.is_misplaced_in_any.Given as goal

abbrev pub invariant-loop-bound : goal.invariant-loop-bound
invariant-loop-bound l =
    list_any (λ bound. has_misplaced (query_of l.scope bound.query)) l.queries ≡ list_any (λ bound. has_misplaced (query_of l.scope bound.query)) (drop l.bound-index l.queries)
