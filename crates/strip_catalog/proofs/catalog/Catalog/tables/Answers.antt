use Rattle.std.proofs.Common.{arith}
use Rattle.strip_catalog.proofs.Sizes.{small}
use Rattle.strip_catalog.proofs.catalog.Catalog.tables.Goals as goal

pub overflow_cast-result : goal.overflow_cast-result
overflow_cast-result c = let few = (small _ c.self.invariant).tables in let len = c.len.ensures in omega (arith, few, len)
