use Rattle.strip_catalog.proofs.Installed.{kept_adds, kept_declared, lent_numbers, made_below}
use Rattle.strip_catalog.proofs.catalog.Catalog.keep.Goals as goal

pub refuse_made-requires-clause-numbers : goal.refuse_made-requires-clause-numbers
refuse_made-requires-clause-numbers c = lent_numbers _ _ _ c.self.view_is c.setup.ensures c.self.invariant

pub kept_addition-requires : goal.kept_addition-requires
kept_addition-requires c = made_below _ _ c.setup.result c.args.made c.self.view_is c.setup.ensures c.self.invariant c.requires.made

pub install-requires : goal.install-requires
install-requires c =
    kept_declared _ _ c.setup.result c.args.made c.self.view_is c.setup.ensures c.self.invariant c.requires.made c.in-Ok.addition c.in-Ok.ensures c.in_ok-refuse_made.ensures

pub returns : goal.returns
returns c =
    kept_adds _ _ c.setup.result c.args.made c.self.view_is c.setup.ensures c.self.invariant c.requires.made c.in-Ok.addition c.in-Ok.ensures c.in_ok-refuse_made.ensures c.install.new.self c.install.result c.install.ensures
