use Rattle.std.proofs.Common.{◌≡◌, ◌++◌, drop}
use Rattle.strip_catalog.specs.Sums.{delta_items}
use Rattle.strip_catalog.proofs.sums.delta_items.Given as goal

abbrev pub invariant-loop-item : goal.invariant-loop-item
invariant-loop-item l = l.made ++ delta_items l.sign (drop l.item-index l.items) ≡ delta_items l.sign l.items
