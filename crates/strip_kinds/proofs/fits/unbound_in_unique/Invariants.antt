use Rattle.std.proofs.Common.{◌≡◌, drop}
use Rattle.strip_kinds.specs.Bound.{unbound_in_unique}
use Rattle.strip_kinds.proofs.fits.unbound_in_unique.Given as goal

abbrev pub invariant-loop-name : goal.invariant-loop-name
invariant-loop-name l = unbound_in_unique l.bindings l.names ≡ unbound_in_unique l.bindings (drop l.name-index l.names)
