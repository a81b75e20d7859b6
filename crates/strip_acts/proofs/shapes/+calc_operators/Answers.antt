use Rattle.strip_acts.specs.Shapes.{calc_operators}
use Rattle.strip_acts.proofs.Counts.{count_made}
use Rattle.strip_acts.proofs.Variants.{operators_of_add, operators_of_sub, operators_of_mul}
use Rattle.std.proofs.Common.{ap, ◌∙◌}
use Rattle.strip_acts.proofs.shapes.+calc_operators.Goals as goal

pub returns-in-Add : goal.returns-in-Add
returns-in-Add t c =
    count_made calc_operators c.args.calc.now c.in-Add.left c.in-Add.right _ _ _ _ _
    (ap calc_operators c.in-Add.is ∙ operators_of_add c.in-Add.left c.in-Add.right) c.get.ensures c.get-in-Add.ensures
    c.calc_operators.ensures c.calc_operators-in-Add.ensures c.joined.ensures

pub returns-in-Sub : goal.returns-in-Sub
returns-in-Sub t c =
    count_made calc_operators c.args.calc.now c.in-Sub.left c.in-Sub.right _ _ _ _ _
    (ap calc_operators c.in-Sub.is ∙ operators_of_sub c.in-Sub.left c.in-Sub.right) c.get-in-Sub.ensures c.get-in-Sub-2.ensures
    c.calc_operators-in-Sub.ensures c.calc_operators-in-Sub-2.ensures c.joined-in-Sub.ensures

pub returns-in-Mul : goal.returns-in-Mul
returns-in-Mul t c =
    count_made calc_operators c.args.calc.now c.in-Mul.left c.in-Mul.right _ _ _ _ _
    (ap calc_operators c.in-Mul.is ∙ operators_of_mul c.in-Mul.left c.in-Mul.right) c.get-in-Mul.ensures c.get-in-Mul-2.ensures
    c.calc_operators-in-Mul.ensures c.calc_operators-in-Mul-2.ensures c.joined-in-Mul.ensures
