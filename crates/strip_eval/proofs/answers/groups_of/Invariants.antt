use Rattle.strip_eval.proofs.Grouped.{StillGroups}
use Rattle.strip_eval.proofs.answers.groups_of.Given as goal

abbrev pub invariant-loop-row : goal.invariant-loop-row
invariant-loop-row l = StillGroups l.query l.places l.entry l.one l.row-iterator l.groups.items
