use Rattle.std.proofs.Common.{◌≡◌, drop}
use Rattle.strip_kinds.specs.Bound.{same_columns}
use Rattle.strip_setup.specs.Queries.{as_columns}
use Rattle.strip_kinds.proofs.bound.same_answers.Given as goal

abbrev pub invariant-loop-answer : goal.invariant-loop-answer
invariant-loop-answer l = same_columns (as_columns l.answers) (as_columns l.others) ≡ same_columns (as_columns (drop l.answer-index l.answers)) (as_columns l.left)
