use Rattle.strip_kinds.proofs.Wide.{no_sum_two, no_sum_not}
use Rattle.std.proofs.Common.{Ok, refl}
use Rattle.strip_kinds.proofs.width.check_summed.Goals as goal

pub returns-in-Two : goal.returns-in-Two
returns-in-Two c = no_sum_two c.args.kinds.now c.args.entries.now c.args.expr.now c.in-Two.left c.in-Two.right c.in-Two.op (Ok tt) c.in-Two.is refl

pub returns-in-Not : goal.returns-in-Not
returns-in-Not c = no_sum_not c.args.kinds.now c.args.entries.now c.args.expr.now c.in-Not.field-0 (Ok tt) c.in-Not.is refl
