use Rattle.std.proofs.Common.{ap, ◌∙◌}
use Rattle.strip_acts.specs.Shapes.{calc_lines}
use Rattle.strip_acts.proofs.Counts.{first_decides, second_decides}
use Rattle.strip_acts.proofs.Variants.{lines_of_add, lines_of_sub, lines_of_mul}
use Rattle.strip_acts.proofs.shapes.+calc_lines.Goals as goal

pub returns-then-calc_lines : goal.returns-then-calc_lines
returns-then-calc_lines t c =
    second_decides calc_lines c.args.calc.now c.in-Add.left c.in-Add.right _ _ _ _
    (ap calc_lines c.in-Add.is ∙ lines_of_add c.in-Add.left c.in-Add.right) c.get.ensures c.get-then-calc_lines.ensures
    c.calc_lines.ensures c.if-calc_lines.true c.calc_lines-then-calc_lines.ensures

pub returns-then-calc_lines-2 : goal.returns-then-calc_lines-2
returns-then-calc_lines-2 t c =
    second_decides calc_lines c.args.calc.now c.in-Sub.left c.in-Sub.right _ _ _ _
    (ap calc_lines c.in-Sub.is ∙ lines_of_sub c.in-Sub.left c.in-Sub.right) c.get-in-Sub.ensures c.get-then-calc_lines-2.ensures
    c.calc_lines-in-Sub.ensures c.if-calc_lines-2.true c.calc_lines-then-calc_lines-2.ensures

pub returns-then-calc_lines-3 : goal.returns-then-calc_lines-3
returns-then-calc_lines-3 t c =
    second_decides calc_lines c.args.calc.now c.in-Mul.left c.in-Mul.right _ _ _ _
    (ap calc_lines c.in-Mul.is ∙ lines_of_mul c.in-Mul.left c.in-Mul.right) c.get-in-Mul.ensures c.get-then-calc_lines-3.ensures
    c.calc_lines-in-Mul.ensures c.if-calc_lines-3.true c.calc_lines-then-calc_lines-3.ensures

pub returns-else-calc_lines : goal.returns-else-calc_lines
returns-else-calc_lines t c =
    first_decides calc_lines c.args.calc.now c.in-Add.left c.in-Add.right _ _
    (ap calc_lines c.in-Add.is ∙ lines_of_add c.in-Add.left c.in-Add.right) c.get.ensures c.calc_lines.ensures
    c.if-calc_lines.false

pub returns-else-calc_lines-2 : goal.returns-else-calc_lines-2
returns-else-calc_lines-2 t c =
    first_decides calc_lines c.args.calc.now c.in-Sub.left c.in-Sub.right _ _
    (ap calc_lines c.in-Sub.is ∙ lines_of_sub c.in-Sub.left c.in-Sub.right) c.get-in-Sub.ensures c.calc_lines-in-Sub.ensures
    c.if-calc_lines-2.false

pub returns-else-calc_lines-3 : goal.returns-else-calc_lines-3
returns-else-calc_lines-3 t c =
    first_decides calc_lines c.args.calc.now c.in-Mul.left c.in-Mul.right _ _
    (ap calc_lines c.in-Mul.is ∙ lines_of_mul c.in-Mul.left c.in-Mul.right) c.get-in-Mul.ensures c.calc_lines-in-Mul.ensures
    c.if-calc_lines-3.false
