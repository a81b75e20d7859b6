use Rattle.std.proofs.Common.{◌≡◌, ◌++◌, drop, map}
use Rattle.strip_setup.specs.Resolve.{bound_query_of}
use Rattle.strip_setup.proofs.declares.bound_queries_of.Given as goal

abbrev pub invariant-loop-bound : goal.invariant-loop-bound
invariant-loop-bound l = l.made ++ map (bound_query_of l.scope l.names) (drop l.bound-index l.queries) ≡ map (bound_query_of l.scope l.names) l.queries
