use Rattle.std.proofs.Common.{◌≡◌, drop}
use Rattle.strip_meaning.specs.Sums.{any_total}
use Rattle.strip_add.specs.Parts.{numbers}
use Rattle.strip_add.proofs.applying.is_zero.Given as goal

abbrev pub invariant-loop-total : goal.invariant-loop-total
invariant-loop-total l = any_total (numbers (drop l.total-index l.totals)) ≡ any_total (numbers l.totals)
