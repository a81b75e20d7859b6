use Rattle.std.proofs.Common.{◌≡◌, ◌++◌, drop}
use Rattle.strip_kinds.specs.Bound.{names_bound_by}
use Rattle.strip_kinds.proofs.bound.push_bound_names.Given as goal

abbrev pub invariant-loop-query : goal.invariant-loop-query
invariant-loop-query l = l.names ++ names_bound_by l.bound (drop l.query-index l.queries) ≡ l.initial.names ++ names_bound_by l.bound l.queries
