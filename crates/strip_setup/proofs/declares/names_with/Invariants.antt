use Rattle.std.proofs.Common.{◌≡◌, ◌++◌, drop, map}
use Rattle.strip_value.specs.declared.rules.BoundDef.{BoundDef}
use Rattle.strip_setup.specs.declared.answers.Binding.{Binding}
use Rattle.strip_setup.proofs.declares.names_with.Given as goal

abbrev pub invariant-loop-def : goal.invariant-loop-def
invariant-loop-def l = l.names ++ map (λ (def : BoundDef). def.name) (drop l.def-index l.bound) ≡ map (λ (def : BoundDef). def.name) l.bound

abbrev pub invariant-loop-binding : goal.invariant-loop-binding
invariant-loop-binding l = l.names ++ map (λ (binding : Binding). binding.name) (drop l.binding-index l.bindings) ≡ map (λ (def : BoundDef). def.name) l.bound ++ map (λ (binding : Binding). binding.name) l.bindings
