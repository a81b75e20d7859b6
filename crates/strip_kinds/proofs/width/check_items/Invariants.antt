use Rattle.std.proofs.Common.{◌≡◌, drop, flat_map}
use Rattle.strip_kinds.specs.Walks.{wide_wholes}
use Rattle.strip_setup.specs.Parts.{total_wholes}
use Rattle.strip_kinds.proofs.width.check_items.Given as goal

abbrev pub invariant-loop-item : goal.invariant-loop-item
invariant-loop-item l = flat_map (λ item. wide_wholes l.kinds l.entries (total_wholes item.what)) l.items ≡ flat_map (λ item. wide_wholes l.kinds l.entries (total_wholes item.what)) (drop l.item-index l.items)
