use Rattle.strip_setup.proofs.Trees.{not_is, and_is, or_is, others_are}
use Rattle.strip_setup.proofs.calculations.+truth.Goals as goal

pub test_of-returns-in_ok-boxed_test-in-Not : goal.test_of-returns-in_ok-boxed_test-in-Not
test_of-returns-in_ok-boxed_test-in-Not t c =
    not_is c.args.entries.now c.args.expr.now c.in-Not.inner _ c.in-Not.is (cc (c.in_ok-boxed_test-in-Not.ensures))

pub test_of-returns-in_ok-right-in-And : goal.test_of-returns-in_ok-right-in-And
test_of-returns-in_ok-right-in-And t c =
    let is = rw c.in-And.is at c.in-Two.is in
    and_is c.args.entries.now c.args.expr.now c.in-Two.left c.in-Two.right _ _ _ _ is c.get-in-And.ensures c.get-in-And-2.ensures c.in_ok-left-in-And.ensures c.in_ok-right-in-And.ensures

pub test_of-returns-in_ok-right-in-Or : goal.test_of-returns-in_ok-right-in-Or
test_of-returns-in_ok-right-in-Or t c =
    let is = rw c.in-Or.is at c.in-Two.is in
    or_is c.args.entries.now c.args.expr.now c.in-Two.left c.in-Two.right _ _ _ _ is c.get-in-Or.ensures c.get-in-Or-2.ensures c.in_ok-left-in-Or.ensures c.in_ok-right-in-Or.ensures

pub test_of-returns-in_default-op : goal.test_of-returns-in_default-op
test_of-returns-in_default-op t c =
    let given = rw (c.get-in_default-op.ensures, c.get-in_default-op-2.ensures) at c.compared.ensures in
    others_are c.args.entries.now c.args.expr.now c.in-Two.left c.in-Two.right c.in-Two.op c.compared.result c.in-Two.is c.in_default-op.not-And c.in_default-op.not-Or given
