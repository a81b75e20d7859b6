use Rattle.strip_kinds.proofs.Wide.{is_computed_two, is_computed_not}
use Rattle.strip_kinds.proofs.width.is_computed.Goals as goal

pub returns-in-Two : goal.returns-in-Two
returns-in-Two c = is_computed_two c.args.expr.now c.in-Two.left c.in-Two.right c.in-Two.op c.is_truth.result c.in-Two.is c.is_truth.ensures

pub returns-in-Not : goal.returns-in-Not
returns-in-Not c = is_computed_not c.args.expr.now c.in-Not.field-0 c.in-Not.is
