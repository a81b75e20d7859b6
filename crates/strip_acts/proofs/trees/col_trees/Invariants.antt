use Rattle.std.proofs.Common.{◌≡◌, ◌++◌, true, drop, map}
use Rattle.strip_acts.specs.Trees.{col_tree, entries_of}
use Rattle.strip_acts.proofs.trees.col_trees.Given as goal

abbrev pub invariant-loop-place : goal.invariant-loop-place
invariant-loop-place l = l.trees ++ map (col_tree (entries_of true l.reads)) (drop l.place-index l.places) ≡ map (col_tree (entries_of true l.reads)) l.places
