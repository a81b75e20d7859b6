use Rattle.std.proofs.Common.{ap, ◌∙◌}
use Rattle.strip_setup.specs.Catalog.{Catalog}
use Rattle.strip_catalog.proofs.Accepting.{lent_meant, lent_stands, lent_tree, ok_weaker}
use Rattle.strip_catalog.proofs.catalog.Catalog.tree_of.Goals as goal

pub tree_of-requires : goal.tree_of-requires
tree_of-requires c =
    lent_meant _ c.args.self.now c.as_slice.result.now c.args.act.now c.self.view_is (c.as_slice.ensures ∙ ap (λ (v : Catalog). v.tables) c.self.view_is) c.self.invariant c.requires

pub returns-clause-stands : goal.returns-clause-stands
returns-clause-stands c =
    ok_weaker _ _ (lent_stands _ c.args.self.now c.as_slice.result.now c.args.act.now c.self.view_is (c.as_slice.ensures ∙ ap (λ (v : Catalog). v.tables) c.self.view_is) c.self.invariant c.requires) c.tree_of.result c.tree_of.ensures

pub returns-clause-tree : goal.returns-clause-tree
returns-clause-tree c =
    ok_weaker _ _ (lent_tree _ c.args.self.now c.as_slice.result.now c.args.act.now c.self.view_is (c.as_slice.ensures ∙ ap (λ (v : Catalog). v.tables) c.self.view_is) c.self.invariant) c.tree_of.result c.tree_of.ensures
