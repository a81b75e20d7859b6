use Rattle.std.proofs.Common.{◌≡◌, ◌++◌, false, drop, map}
use Rattle.strip_acts.specs.Trees.{entries_of, set_tree}
use Rattle.strip_acts.proofs.trees.set_trees.Given as goal

abbrev pub invariant-loop-set : goal.invariant-loop-set
invariant-loop-set l = l.trees ++ map (set_tree (entries_of false l.reads)) (drop l.set-index l.sets) ≡ map (set_tree (entries_of false l.reads)) l.sets
