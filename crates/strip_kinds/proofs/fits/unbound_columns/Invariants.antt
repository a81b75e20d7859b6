use Rattle.std.proofs.Common.{◌≡◌, drop}
use Rattle.strip_kinds.specs.Bound.{unbound_columns}
use Rattle.strip_kinds.proofs.fits.unbound_columns.Given as goal

abbrev pub invariant-loop-fit : goal.invariant-loop-fit
invariant-loop-fit l = unbound_columns l.fits ≡ unbound_columns (drop l.fit-index l.fits)
