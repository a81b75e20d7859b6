use Rattle.std.proofs.Common.{refl, ap, ◌∙◌}
use Rattle.strip_setup.specs.Catalog.{Catalog}
use Rattle.strip_catalog.proofs.ActCauses.{act_few, small_outside}
use Rattle.strip_catalog.proofs.Adding.{lent_small}
use Rattle.strip_catalog.proofs.catalog.Catalog.act.Goals as goal

pub refuse_act-requires : goal.refuse_act-requires
refuse_act-requires c = record { small = lent_small _ _ _ c.self.view_is c.setup.ensures c.self.invariant }

pub act_of-requires-clause-small : goal.act_of-requires-clause-small
act_of-requires-clause-small c =
    small_outside c.args.self.now c.as_slice.result.now (c.as_slice.ensures ∙ ap (λ (v : Catalog). v.tables) c.self.view_is) (lent_small _ _ _ c.self.view_is refl c.self.invariant)

pub act_of-requires-clause-few : goal.act_of-requires-clause-few
act_of-requires-clause-few c = act_few c.setup.result c.args.deed.now c.in_ok-refuse_act.ensures
