use Rattle.std.proofs.Common.{◌≡◌, ◌++◌, drop}
use Rattle.strip_kinds.specs.Mismatch.{kinds_bound}
use Rattle.strip_kinds.proofs.fits.kinds_bound.Given as goal

abbrev pub invariant-loop-binding : goal.invariant-loop-binding
invariant-loop-binding l = l.kinds ++ kinds_bound (drop l.binding-index l.bindings) l.name ≡ kinds_bound l.bindings l.name
