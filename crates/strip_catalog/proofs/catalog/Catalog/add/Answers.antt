use Rattle.strip_catalog.proofs.Adding.{added_declared, lent_small, text_written}
use Rattle.strip_catalog.proofs.catalog.Catalog.add.Goals as goal

pub refuse-requires : goal.refuse-requires
refuse-requires c = record { small = lent_small _ _ _ c.self.view_is c.setup-setup.ensures c.self.invariant; declaration = c.requires.declaration }

pub addition_of-requires-clause-small : goal.addition_of-requires-clause-small
addition_of-requires-clause-small c = lent_small _ _ _ c.self.view_is c.setup-setup.ensures c.self.invariant

pub install-requires : goal.install-requires
install-requires c =
    added_declared _ _ _ c.args.statement.now c.in-Ok.addition c.self.view_is c.setup-setup.ensures c.self.invariant (text_written _ c.requires.declaration c.requires.written) c.in_ok-refuse.ensures c.in-Ok.ensures
