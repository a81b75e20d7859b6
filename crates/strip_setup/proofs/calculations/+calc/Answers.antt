use Rattle.strip_setup.proofs.Trees.{sum_is, difference_is, product_is}
use Rattle.strip_setup.proofs.calculations.+calc.Goals as goal

pub calc_of-returns-in_ok-right-in-Add : goal.calc_of-returns-in_ok-right-in-Add
calc_of-returns-in_ok-right-in-Add t c =
    let is = rw c.in-Add.is at c.in-Two.is in
    sum_is c.args.entries.now c.args.expr.now c.in-Two.left c.in-Two.right _ _ _ _ is c.get.ensures c.get-in-Add.ensures c.in_ok-left-in-Add.ensures c.in_ok-right-in-Add.ensures

pub calc_of-returns-in_ok-right-in-Sub : goal.calc_of-returns-in_ok-right-in-Sub
calc_of-returns-in_ok-right-in-Sub t c =
    let is = rw c.in-Sub.is at c.in-Two.is in
    difference_is c.args.entries.now c.args.expr.now c.in-Two.left c.in-Two.right _ _ _ _ is c.get-in-Sub.ensures c.get-in-Sub-2.ensures c.in_ok-left-in-Sub.ensures c.in_ok-right-in-Sub.ensures

pub calc_of-returns-in_ok-right-in-Mul : goal.calc_of-returns-in_ok-right-in-Mul
calc_of-returns-in_ok-right-in-Mul t c =
    let is = rw c.in-Mul.is at c.in-Two.is in
    product_is c.args.entries.now c.args.expr.now c.in-Two.left c.in-Two.right _ _ _ _ is c.get-in-Mul.ensures c.get-in-Mul-2.ensures c.in_ok-left-in-Mul.ensures c.in_ok-right-in-Mul.ensures
