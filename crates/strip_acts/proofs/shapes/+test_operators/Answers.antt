use Rattle.strip_acts.specs.Shapes.{test_operators}
use Rattle.strip_acts.proofs.Counts.{count_made, one_more_made}
use Rattle.strip_acts.proofs.Variants.{operators_of_and, operators_of_not, operators_of_or}
use Rattle.std.proofs.Common.{ap, ◌∙◌}
use Rattle.strip_acts.proofs.shapes.+test_operators.Goals as goal

pub returns-in-And : goal.returns-in-And
returns-in-And t c =
    count_made test_operators c.args.test.now c.in-And.left c.in-And.right _ _ _ _ _
    (ap test_operators c.in-And.is ∙ operators_of_and c.in-And.left c.in-And.right) c.get-in-And.ensures c.get-in-And-2.ensures
    c.test_operators-in-And.ensures c.test_operators-in-And-2.ensures c.joined-in-And.ensures

pub returns-in-Or : goal.returns-in-Or
returns-in-Or t c =
    count_made test_operators c.args.test.now c.in-Or.left c.in-Or.right _ _ _ _ _
    (ap test_operators c.in-Or.is ∙ operators_of_or c.in-Or.left c.in-Or.right) c.get-in-Or.ensures c.get-in-Or-2.ensures
    c.test_operators-in-Or.ensures c.test_operators-in-Or-2.ensures c.joined-in-Or.ensures

pub returns-in-Not : goal.returns-in-Not
returns-in-Not t c =
    one_more_made test_operators c.args.test.now c.in-Not.inner _ _ _
    (ap test_operators c.in-Not.is ∙ operators_of_not c.in-Not.inner) c.get.ensures c.test_operators.ensures
    c.joined-in-Not.ensures
