use Rattle.std.proofs.Common.{◌≡◌, ◌++◌, drop}
use Rattle.std.specs.List.{filter_map, slice_get}
use Rattle.strip_kinds.proofs.needs.columns_at.Given as goal

abbrev pub invariant-loop-number : goal.invariant-loop-number
invariant-loop-number l = l.found ++ filter_map (slice_get l.columns) (drop l.number-index l.numbers) ≡ filter_map (slice_get l.columns) l.numbers
