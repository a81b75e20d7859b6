use Rattle.strip_kinds.proofs.Mixed.{truth_of_two, truth_of_not}
use Rattle.strip_kinds.proofs.mismatch.is_truth.Goals as goal

pub returns-in-Two : goal.returns-in-Two
returns-in-Two c = truth_of_two c.args.expr.now c.in-Two.left c.in-Two.right c.in-Two.op c.gives_truth.result c.in-Two.is c.gives_truth.ensures

pub returns-in-Not : goal.returns-in-Not
returns-in-Not c = truth_of_not c.args.expr.now c.in-Not.field-0 c.in-Not.is
