use Rattle.std.proofs.Common.{◌≡◌, ◌++◌, drop, map}
use Rattle.strip_kinds.proofs.bound.binding_names.Given as goal

abbrev pub invariant-loop-binding : goal.invariant-loop-binding
invariant-loop-binding l = l.names ++ map (λ binding. binding.name) (drop l.binding-index l.bindings) ≡ map (λ binding. binding.name) l.bindings
