use Rattle.std.proofs.Common.{◌≡◌, drop, flat_map}
use Rattle.strip_kinds.specs.Mismatch.{mismatched_in_all}
use Rattle.strip_setup.specs.Parts.{total_wholes}
use Rattle.strip_kinds.proofs.mismatch.check_items.Given as goal

abbrev pub invariant-loop-item : goal.invariant-loop-item
invariant-loop-item l = flat_map (λ item. mismatched_in_all l.entries (total_wholes item.what)) l.items ≡ flat_map (λ item. mismatched_in_all l.entries (total_wholes item.what)) (drop l.item-index l.items)
