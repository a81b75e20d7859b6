use Rattle.std.proofs.Common.{◌≡◌, ◌&&◌, Some, length}
use Rattle.std.specs.List.{list_any}
use Rattle.strip_kinds.specs.Bound.{is_number, is_other}
use Rattle.strip_kinds.proofs.bound.any_is_other.Given as goal

abbrev pub decreases-loop-left : goal.decreases-loop-left
decreases-loop-left l = length l.left

abbrev pub invariant-loop-left : goal.invariant-loop-left
invariant-loop-left l =
    list_any (λ rule. is_number (Some l.number) rule.function && is_other l.function l.bound l.unique rule) l.rules ≡ list_any (λ rule. is_number (Some l.number) rule.function && is_other l.function l.bound l.unique rule) l.left
