use Rattle.std.proofs.Common.{◌≡◌, ◌++◌, ℕ, List, drop, map}
use Rattle.strip_value.specs.declared.rules.BoundDef.{BoundDef}
use Rattle.strip_setup.specs.Resolve.{columns_so_far}
use Rattle.strip_kinds.proofs.bound.defs_so_far.Given as goal

abbrev def_of : List BoundDef → List ℕ → BoundDef
def_of bound name = record { name = name; columns = columns_so_far bound name }

abbrev pub invariant-loop-name : goal.invariant-loop-name
invariant-loop-name l = l.defs ++ map (def_of l.bound) (drop l.name-index l.names) ≡ map (def_of l.bound) l.names
