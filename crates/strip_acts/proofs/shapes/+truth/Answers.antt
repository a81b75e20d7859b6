use Rattle.std.proofs.Common.{ap, ◌∙◌, nat_lt}
use Rattle.strip_acts.specs.Shapes.{test_level, test_parentheses}
use Rattle.strip_acts.specs.Writable.{opened}
use Rattle.strip_acts.proofs.Counts.{depth_made}
use Rattle.strip_acts.proofs.Variants.{parentheses_of_and, parentheses_of_or}
use Rattle.strip_acts.proofs.shapes.+truth.Goals as goal

pub test_parentheses-returns-in-And : goal.test_parentheses-returns-in-And
test_parentheses-returns-in-And t c =
    depth_made test_parentheses (λ z. opened (nat_lt (test_level z) 1) (test_parentheses z))
    (λ z. opened (nat_lt (test_level z) 2) (test_parentheses z)) c.args.test.now c.in-And.left c.in-And.right _ _ _ _ _
    (ap test_parentheses c.in-And.is ∙ parentheses_of_and c.in-And.left c.in-And.right) c.get-in-And.ensures
    c.get-in-And-2.ensures c.test_operand-in-And.ensures c.test_operand-in-And-2.ensures c.max-in-And.ensures

pub test_parentheses-returns-in-Or : goal.test_parentheses-returns-in-Or
test_parentheses-returns-in-Or t c =
    depth_made test_parentheses test_parentheses (λ z. opened (nat_lt (test_level z) 1) (test_parentheses z)) c.args.test.now
    c.in-Or.left c.in-Or.right _ _ _ _ _ (ap test_parentheses c.in-Or.is ∙ parentheses_of_or c.in-Or.left c.in-Or.right)
    c.get-in-Or.ensures c.get-in-Or-2.ensures c.test_parentheses.ensures c.test_operand-in-Or.ensures c.max-in-Or.ensures
