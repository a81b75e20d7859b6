use Rattle.std.proofs.Common.{◌≡◌, ◌+◌, drop}
use Rattle.std.specs.List.{prefix_len}
use Rattle.strip_value.specs.Name.{is_word_byte}
use Rattle.strip_ast.proofs.cutting.word_len.Given as goal

abbrev pub invariant-loop-at : goal.invariant-loop-at
invariant-loop-at l = prefix_len is_word_byte l.bytes ≡ l.at + prefix_len is_word_byte (drop l.at l.bytes)
