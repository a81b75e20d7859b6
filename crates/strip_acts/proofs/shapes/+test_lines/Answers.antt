use Rattle.std.proofs.Common.{sym, ap, ◌∙◌}
use Rattle.strip_acts.specs.Shapes.{test_lines}
use Rattle.strip_acts.proofs.Counts.{first_decides, second_decides}
use Rattle.strip_acts.proofs.Variants.{lines_of_and, lines_of_not, lines_of_or}
use Rattle.strip_acts.proofs.shapes.+test_lines.Goals as goal

pub returns-then-test_lines : goal.returns-then-test_lines
returns-then-test_lines t c =
    second_decides test_lines c.args.test.now c.in-And.left c.in-And.right _ _ _ _
    (ap test_lines c.in-And.is ∙ lines_of_and c.in-And.left c.in-And.right) c.get-in-And.ensures c.get-then-test_lines.ensures
    c.test_lines-in-And.ensures c.if-test_lines.true c.test_lines-then-test_lines.ensures

pub returns-then-test_lines-2 : goal.returns-then-test_lines-2
returns-then-test_lines-2 t c =
    second_decides test_lines c.args.test.now c.in-Or.left c.in-Or.right _ _ _ _
    (ap test_lines c.in-Or.is ∙ lines_of_or c.in-Or.left c.in-Or.right) c.get-in-Or.ensures c.get-then-test_lines-2.ensures
    c.test_lines-in-Or.ensures c.if-test_lines-2.true c.test_lines-then-test_lines-2.ensures

pub returns-else-test_lines : goal.returns-else-test_lines
returns-else-test_lines t c =
    first_decides test_lines c.args.test.now c.in-And.left c.in-And.right _ _
    (ap test_lines c.in-And.is ∙ lines_of_and c.in-And.left c.in-And.right) c.get-in-And.ensures c.test_lines-in-And.ensures
    c.if-test_lines.false

pub returns-else-test_lines-2 : goal.returns-else-test_lines-2
returns-else-test_lines-2 t c =
    first_decides test_lines c.args.test.now c.in-Or.left c.in-Or.right _ _
    (ap test_lines c.in-Or.is ∙ lines_of_or c.in-Or.left c.in-Or.right) c.get-in-Or.ensures c.test_lines-in-Or.ensures
    c.if-test_lines-2.false

pub returns-in-Not : goal.returns-in-Not
returns-in-Not t c =
    c.test_lines.ensures ∙ ap test_lines c.get.ensures ∙ sym (ap test_lines c.in-Not.is ∙ lines_of_not c.in-Not.inner)
