use Rattle.std.proofs.Common.{◌≡◌, drop}
use Rattle.strip_kinds.specs.Mismatch.{mismatched_in_steps}
use Rattle.strip_kinds.proofs.fits.mismatched_in_steps.Given as goal

abbrev pub invariant-loop-fit : goal.invariant-loop-fit
invariant-loop-fit l = mismatched_in_steps l.fits ≡ mismatched_in_steps (drop l.fit-index l.fits)
