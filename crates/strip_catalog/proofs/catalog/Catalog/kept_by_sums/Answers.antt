use Rattle.strip_catalog.proofs.Adding.{lent_small}
use Rattle.strip_catalog.proofs.catalog.Catalog.kept_by_sums.Goals as goal

pub first_made-requires : goal.first_made-requires
first_made-requires c = record { small = lent_small _ _ _ c.self.view_is c.setup.ensures c.self.invariant }
