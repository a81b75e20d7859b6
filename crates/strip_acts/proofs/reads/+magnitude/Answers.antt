use Rattle.strip_query.proofs.Variants.{bound_of_add, bound_of_sub, bound_of_mul}
use Rattle.strip_acts.specs.Suiting.{kinds_in}
use Rattle.strip_acts.proofs.reads.+magnitude.Goals as goal

pub returns-in-Add : goal.returns-in-Add
returns-in-Add t c =
    bound_of_add (kinds_in c.args.reads.now) c.args.calc.now _ _ _ _ _ _ _ c.in-Add.is c.get.ensures c.get-in-Add.ensures
    c.magnitude.ensures c.magnitude-in-Add.ensures c.capped_sum.ensures

pub returns-in-Sub : goal.returns-in-Sub
returns-in-Sub t c =
    bound_of_sub (kinds_in c.args.reads.now) c.args.calc.now _ _ _ _ _ _ _ c.in-Sub.is c.get-in-Sub.ensures
    c.get-in-Sub-2.ensures c.magnitude-in-Sub.ensures c.magnitude-in-Sub-2.ensures c.capped_sum-in-Sub.ensures

pub returns-in-Mul : goal.returns-in-Mul
returns-in-Mul t c =
    bound_of_mul (kinds_in c.args.reads.now) c.args.calc.now _ _ _ _ _ _ _ c.in-Mul.is c.get-in-Mul.ensures
    c.get-in-Mul-2.ensures c.magnitude-in-Mul.ensures c.magnitude-in-Mul-2.ensures c.capped_product.ensures
