use Rattle.std.proofs.Common.{◌≤◌, length, subst}
use Rattle.strip_setup.specs.Small.{AreNarrow}
use Rattle.strip_setup.specs.Catalog.{Catalog}
use Rattle.strip_catalog.specs.Accepted.{IsDeclared}
use Rattle.strip_catalog.proofs.Sizes.{small}
use Rattle.strip_catalog.proofs.catalog.Catalog.defs.Goals as goal

pub returns-clause-declared : goal.returns-clause-declared
returns-clause-declared c = subst IsDeclared c.self.view_is c.self.invariant

pub returns-clause-few : goal.returns-clause-few
returns-clause-few c = subst (λ (v : Catalog). length v.tables ≤ 64) c.self.view_is (small _ c.self.invariant).tables

pub returns-clause-narrow : goal.returns-clause-narrow
returns-clause-narrow c = subst (λ (v : Catalog). AreNarrow v.tables) c.self.view_is (small _ c.self.invariant).narrow
