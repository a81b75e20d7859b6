-- Counts of faults over several calls.
use Rattle.std.proofs.Common.{ℕ, ◌≤◌, arith}
use Rattle.strip_outside.specs.Faults.{raised, Rose}

-- a count that rose, and then did not fall, has risen
pub Rose-then : (before mid now : ℕ) → Rose before mid → mid ≤ now → Rose before now
Rose-then before mid now rose later = omega (arith, rose, later)

-- a count that did not fall, and then rose, has risen
pub then-Rose : (before mid now : ℕ) → before ≤ mid → Rose mid now → Rose before now
then-Rose before mid now later rose = omega (arith, rose, later)

-- a count that is raised by one has risen
pub Rose-raised : (before : ℕ) → Rose before (raised before)
Rose-raised before = omega arith
