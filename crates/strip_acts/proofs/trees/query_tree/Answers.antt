use Rattle.strip_acts.proofs.TreeParts.{filter_suits, items_suit}
use Rattle.strip_acts.proofs.trees.query_tree.Goals as goal

pub item_trees-requires : goal.item_trees-requires
item_trees-requires c =
    items_suit c.args.tables.now c.args.query.now c.as_slice-inputs.result.now c.new-reads.result c.as_slice.result.now
    c.as_slice-inputs.ensures c.new-reads.ensures c.as_slice.ensures c.requires

pub filter_tree-requires : goal.filter_tree-requires
filter_tree-requires c =
    filter_suits c.args.tables.now c.args.query.now c.as_slice-inputs.result.now c.new-reads.result c.as_slice-inputs.ensures
    c.new-reads.ensures c.requires
