use Rattle.std.proofs.Common.{◌≡◌, ◌++◌, drop, map}
use Rattle.std.proofs.Common.{ℕ, List}
use Rattle.strip_value.specs.declared.rules.BoundDef.{BoundDef}
use Rattle.strip_setup.specs.declared.answers.Binding.{Binding}
use Rattle.strip_setup.specs.Resolve.{columns_bound, columns_so_far}
use Rattle.strip_setup.proofs.declares.bound_with.Given as goal

abbrev def_of : List BoundDef → List Binding → List ℕ → BoundDef
def_of bound bindings name = record { name = name; columns = columns_bound bindings name (columns_so_far bound name) }

abbrev pub invariant-loop-name : goal.invariant-loop-name
invariant-loop-name l = l.made ++ map (def_of l.bound l.bindings) (drop l.name-index l.name-items) ≡ map (def_of l.bound l.bindings) l.name-items
