use Rattle.std.proofs.Common.{◌≡◌, ◌++◌, drop}
use Rattle.strip_model.specs.Texts.{row_lines}
use Rattle.strip_model.proofs.texts.push_rows.Given as goal

abbrev pub invariant-loop-row : goal.invariant-loop-row
invariant-loop-row l = l.text.items ++ row_lines (drop l.row-index l.rows) ≡ l.initial.text.items ++ row_lines l.rows
