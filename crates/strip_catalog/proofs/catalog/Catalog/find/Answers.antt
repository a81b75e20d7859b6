use Rattle.std.proofs.Common.{length, sym, ap, arith}
use Rattle.strip_setup.proofs.Numbers.{table_below}
use Rattle.strip_catalog.proofs.Sizes.{small}
use Rattle.strip_catalog.proofs.catalog.Catalog.find.Goals as goal

pub overflow_cast-result : goal.overflow_cast-result
overflow_cast-result c =
    let few = (small _ c.self.invariant).tables in
    let below = table_below c.as_slice.result.now c.args.name.now c.in_ok-number.number (sym c.in_ok-number.ensures) in
    let same = ap length c.as_slice.ensures in
    omega (arith, few, below, same)
