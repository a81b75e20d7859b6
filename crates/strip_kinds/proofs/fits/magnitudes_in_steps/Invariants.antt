use Rattle.std.proofs.Common.{◌≡◌, drop, filter}
use Rattle.std.specs.Prelude.{nat_le}
use Rattle.strip_kinds.specs.Width.{least_wide, magnitudes_in_steps}
use Rattle.strip_kinds.proofs.fits.magnitudes_in_steps.Given as goal

abbrev pub invariant-loop-fit : goal.invariant-loop-fit
invariant-loop-fit l =
    filter (nat_le least_wide) (magnitudes_in_steps l.fits) ≡ filter (nat_le least_wide) (magnitudes_in_steps (drop l.fit-index l.fits))
