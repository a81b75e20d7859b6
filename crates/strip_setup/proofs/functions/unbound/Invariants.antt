use Rattle.std.proofs.Common.{◌≡◌, ◌++◌, [], drop, map}
use Rattle.std.proofs.Common.{List, ℕ}
use Rattle.strip_value.specs.declared.rules.BoundDef.{BoundDef}
use Rattle.strip_setup.proofs.functions.unbound.Given as goal

abbrev bound_def : List ℕ → BoundDef
bound_def name = record { name = name; columns = [] }

abbrev pub invariant-loop-name : goal.invariant-loop-name
invariant-loop-name l = l.made ++ map bound_def (drop l.name-index l.names) ≡ map bound_def l.names
