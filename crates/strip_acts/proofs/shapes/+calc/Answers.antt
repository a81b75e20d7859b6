use Rattle.std.proofs.Common.{ap, ◌∙◌, nat_lt}
use Rattle.strip_acts.specs.Shapes.{calc_level, calc_parentheses}
use Rattle.strip_acts.specs.Writable.{opened}
use Rattle.strip_acts.proofs.Counts.{depth_made}
use Rattle.strip_acts.proofs.Variants.{parentheses_of_add, parentheses_of_sub, parentheses_of_mul}
use Rattle.strip_acts.proofs.shapes.+calc.Goals as goal

pub calc_parentheses-returns-in-Add : goal.calc_parentheses-returns-in-Add
calc_parentheses-returns-in-Add t c =
    depth_made calc_parentheses (λ z. opened (nat_lt (calc_level z) 4) (calc_parentheses z))
    (λ z. opened (nat_lt (calc_level z) 5) (calc_parentheses z)) c.args.calc.now c.in-Add.left c.in-Add.right _ _ _ _ _
    (ap calc_parentheses c.in-Add.is ∙ parentheses_of_add c.in-Add.left c.in-Add.right) c.get.ensures c.get-in-Add.ensures
    c.calc_operand.ensures c.calc_operand-in-Add.ensures c.max.ensures

pub calc_parentheses-returns-in-Sub : goal.calc_parentheses-returns-in-Sub
calc_parentheses-returns-in-Sub t c =
    depth_made calc_parentheses (λ z. opened (nat_lt (calc_level z) 4) (calc_parentheses z))
    (λ z. opened (nat_lt (calc_level z) 5) (calc_parentheses z)) c.args.calc.now c.in-Sub.left c.in-Sub.right _ _ _ _ _
    (ap calc_parentheses c.in-Sub.is ∙ parentheses_of_sub c.in-Sub.left c.in-Sub.right) c.get-in-Sub.ensures
    c.get-in-Sub-2.ensures c.calc_operand-in-Sub.ensures c.calc_operand-in-Sub-2.ensures c.max-in-Sub.ensures

pub calc_parentheses-returns-in-Mul : goal.calc_parentheses-returns-in-Mul
calc_parentheses-returns-in-Mul t c =
    depth_made calc_parentheses (λ z. opened (nat_lt (calc_level z) 5) (calc_parentheses z))
    (λ z. opened (nat_lt (calc_level z) 6) (calc_parentheses z)) c.args.calc.now c.in-Mul.left c.in-Mul.right _ _ _ _ _
    (ap calc_parentheses c.in-Mul.is ∙ parentheses_of_mul c.in-Mul.left c.in-Mul.right) c.get-in-Mul.ensures
    c.get-in-Mul-2.ensures c.calc_operand-in-Mul.ensures c.calc_operand-in-Mul-2.ensures c.max-in-Mul.ensures
