use Rattle.std.proofs.Common.{◌≡◌, ◌++◌, ◌+◌, drop, map}
use Rattle.std.specs.List.{enumerate_from}
use Rattle.strip_setup.specs.Queries.{answer_of}
use Rattle.strip_setup.proofs.queries.answers_over.Given as goal

abbrev pub invariant-loop-i : goal.invariant-loop-i
invariant-loop-i l = l.answers ++ map (answer_of l.entries) (enumerate_from (l.i + 1) (drop l.i l.items)) ≡ map (answer_of l.entries) (enumerate_from 1 l.items)
