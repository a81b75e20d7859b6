use Rattle.std.proofs.Common.{◌≡◌, ◌+◌, drop}
use Rattle.std.specs.List.{prefix_len}
use Rattle.strip_value.specs.Name.{is_digit}
use Rattle.strip_ast.proofs.cutting.digits_len.Given as goal

abbrev pub invariant-loop-at : goal.invariant-loop-at
invariant-loop-at l = prefix_len is_digit l.bytes ≡ l.at + prefix_len is_digit (drop l.at l.bytes)
