use Rattle.std.proofs.Common.{◌≡◌, ◌++◌, [], ℕ, List, drop, map}
use Rattle.strip_value.specs.declared.rules.BoundDef.{BoundDef}
use Rattle.strip_setup.specs.declared.answers.Binding.{Binding}
use Rattle.strip_setup.specs.Resolve.{columns_bound}
use Rattle.strip_kinds.proofs.bound.defs_bound.Given as goal

abbrev def_of : List Binding → List ℕ → BoundDef
def_of bindings name = record { name = name; columns = columns_bound bindings name [] }

abbrev pub invariant-loop-name : goal.invariant-loop-name
invariant-loop-name l = l.defs ++ map (def_of l.bindings) (drop l.name-index l.names) ≡ map (def_of l.bindings) l.names
