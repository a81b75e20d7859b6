use Rattle.strip_kinds.proofs.Mixed.{left_has, right_has}
use Rattle.strip_kinds.proofs.mismatch.+first_column.Goals as goal

pub returns-in-Some : goal.returns-in-Some
returns-in-Some t c =
    left_has c.args.expr.now c.in-Two.left c.in-Two.right _ c.in-Two.op c.in-Some.name.now c.in-Two.is c.get.ensures c.in-Some.ensures

pub returns-in-None : goal.returns-in-None
returns-in-None t c =
    right_has c.args.expr.now c.in-Two.left c.in-Two.right _ _ c.in-Two.op _ c.in-Two.is c.get.ensures c.get-in-None.ensures c.in-None.ensures c.first_column-in-None.ensures
