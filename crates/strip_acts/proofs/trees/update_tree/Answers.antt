use Rattle.strip_acts.proofs.TreeParts.{sets_suit}
use Rattle.strip_acts.proofs.trees.update_tree.Goals as goal

pub set_trees-requires : goal.set_trees-requires
set_trees-requires c =
    sets_suit c.args.tables.now c.args.id c.args.sets.now c.args.filter.now c.new-reads.result c.new-reads.ensures c.requires
