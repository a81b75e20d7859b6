use Rattle.std.proofs.Common.{◌≡◌, drop, false}
use Rattle.strip_ast.specs.Tokens.{text_from, text_behind}
use Rattle.strip_ast.proofs.cutting.text_behind_quote.Given as goal

abbrev pub invariant-loop-at : goal.invariant-loop-at
invariant-loop-at l = text_from false l.bytes ≡ text_behind l.value.items l.at (text_from l.pending (drop l.at l.bytes))
