use Rattle.std.proofs.Common.{ap, ◌∙◌}
use Rattle.strip_setup.specs.Catalog.{Catalog}
use Rattle.strip_catalog.proofs.Accepting.{lent_named, lent_suits}
use Rattle.strip_catalog.proofs.catalog.Catalog.suits.Goals as goal

pub suits-requires : goal.suits-requires
suits-requires c = record {
  named = lent_named _ c.args.self.now c.as_slice.result.now c.self.view_is (c.as_slice.ensures ∙ ap (λ (v : Catalog). v.tables) c.self.view_is) c.self.invariant;
}

pub returns : goal.returns
returns c =
    lent_suits _ c.args.self.now c.as_slice.result.now c.args.act.now c.self.view_is (c.as_slice.ensures ∙ ap (λ (v : Catalog). v.tables) c.self.view_is) c.self.invariant c.suits.result c.suits.ensures
