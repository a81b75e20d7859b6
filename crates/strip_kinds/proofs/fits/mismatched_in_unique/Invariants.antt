use Rattle.std.proofs.Common.{◌≡◌, drop}
use Rattle.strip_kinds.specs.Mismatch.{mismatched_in_unique}
use Rattle.strip_kinds.proofs.fits.mismatched_in_unique.Given as goal

abbrev pub invariant-loop-name : goal.invariant-loop-name
invariant-loop-name l = mismatched_in_unique l.bindings l.names ≡ mismatched_in_unique l.bindings (drop l.name-index l.names)
