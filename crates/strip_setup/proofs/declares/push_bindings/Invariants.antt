use Rattle.std.proofs.Common.{◌≡◌, ◌++◌, drop}
use Rattle.strip_setup.specs.Resolve.{bindings_of}
use Rattle.strip_setup.proofs.declares.push_bindings.Given as goal

abbrev pub invariant-loop-bound : goal.invariant-loop-bound
invariant-loop-bound l = l.made ++ bindings_of l.scope (drop l.bound-index l.queries) ≡ l.initial.made ++ bindings_of l.scope l.queries
