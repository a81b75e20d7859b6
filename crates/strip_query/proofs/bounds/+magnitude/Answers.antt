use Rattle.strip_query.proofs.Variants.{parts_of_add, parts_of_sub, parts_of_mul, part_falls, bound_of_add, bound_of_sub, bound_of_mul}
use Rattle.strip_query.proofs.bounds.+magnitude.Goals as goal

pub magnitude-requires : goal.magnitude-requires
magnitude-requires t c =
    part_falls c.args.calc.now _ c.get.result.now _ t c.in-Add.is c.get.ensures (parts_of_add c.in-Add.left c.in-Add.right).0 c.decreases

pub magnitude-requires-in-Add : goal.magnitude-requires-in-Add
magnitude-requires-in-Add t c =
    part_falls c.args.calc.now _ c.get-in-Add.result.now _ t c.in-Add.is c.get-in-Add.ensures (parts_of_add c.in-Add.left c.in-Add.right).1 c.decreases

pub magnitude-requires-in-Sub : goal.magnitude-requires-in-Sub
magnitude-requires-in-Sub t c =
    part_falls c.args.calc.now _ c.get-in-Sub.result.now _ t c.in-Sub.is c.get-in-Sub.ensures (parts_of_sub c.in-Sub.left c.in-Sub.right).0 c.decreases

pub magnitude-requires-in-Sub-2 : goal.magnitude-requires-in-Sub-2
magnitude-requires-in-Sub-2 t c =
    part_falls c.args.calc.now _ c.get-in-Sub-2.result.now _ t c.in-Sub.is c.get-in-Sub-2.ensures (parts_of_sub c.in-Sub.left c.in-Sub.right).1 c.decreases

pub magnitude-requires-in-Mul : goal.magnitude-requires-in-Mul
magnitude-requires-in-Mul t c =
    part_falls c.args.calc.now _ c.get-in-Mul.result.now _ t c.in-Mul.is c.get-in-Mul.ensures (parts_of_mul c.in-Mul.left c.in-Mul.right).0 c.decreases

pub magnitude-requires-in-Mul-2 : goal.magnitude-requires-in-Mul-2
magnitude-requires-in-Mul-2 t c =
    part_falls c.args.calc.now _ c.get-in-Mul-2.result.now _ t c.in-Mul.is c.get-in-Mul-2.ensures (parts_of_mul c.in-Mul.left c.in-Mul.right).1 c.decreases

pub returns-in-Add : goal.returns-in-Add
returns-in-Add t c =
    bound_of_add c.args.kinds.now c.args.calc.now _ _ _ _ _ _ _ c.in-Add.is c.get.ensures c.get-in-Add.ensures c.magnitude.ensures c.magnitude-in-Add.ensures c.capped_sum.ensures

pub returns-in-Sub : goal.returns-in-Sub
returns-in-Sub t c =
    bound_of_sub c.args.kinds.now c.args.calc.now _ _ _ _ _ _ _ c.in-Sub.is c.get-in-Sub.ensures c.get-in-Sub-2.ensures c.magnitude-in-Sub.ensures c.magnitude-in-Sub-2.ensures c.capped_sum-in-Sub.ensures

pub returns-in-Mul : goal.returns-in-Mul
returns-in-Mul t c =
    bound_of_mul c.args.kinds.now c.args.calc.now _ _ _ _ _ _ _ c.in-Mul.is c.get-in-Mul.ensures c.get-in-Mul-2.ensures c.magnitude-in-Mul.ensures c.magnitude-in-Mul-2.ensures c.capped_product.ensures
