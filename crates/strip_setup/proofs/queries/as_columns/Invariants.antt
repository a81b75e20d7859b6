use Rattle.std.proofs.Common.{◌≡◌, ◌++◌, drop}
use Rattle.strip_setup.specs.Queries.{as_columns}
use Rattle.strip_setup.proofs.queries.as_columns.Given as goal

abbrev pub invariant-loop-answer : goal.invariant-loop-answer
invariant-loop-answer l = l.columns ++ as_columns (drop l.answer-index l.answers) ≡ as_columns l.answers
