use Rattle.std.proofs.Common.{◌≡◌, drop, map}
use Rattle.strip_value.specs.declared.queries.Item.{Item}
use Rattle.strip_names.specs.Grouped.{are_keys_and_totals}
use Rattle.strip_names.proofs.grouped.are_keys_and_totals.Given as goal

abbrev pub invariant-loop-place : goal.invariant-loop-place
invariant-loop-place l = are_keys_and_totals l.places (map (λ (item : Item). item.what) l.items) ≡ are_keys_and_totals (drop l.place-index l.places) (map (λ (item : Item). item.what) l.left)
