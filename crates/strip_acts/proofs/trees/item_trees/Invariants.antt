use Rattle.std.proofs.Common.{◌≡◌, ◌++◌, true, drop, map}
use Rattle.strip_acts.specs.Trees.{entries_of, item_tree}
use Rattle.strip_acts.proofs.trees.item_trees.Given as goal

abbrev pub invariant-loop-item : goal.invariant-loop-item
invariant-loop-item l = l.trees ++ map (item_tree (entries_of true l.reads)) (drop l.item-index l.items) ≡ map (item_tree (entries_of true l.reads)) l.items
