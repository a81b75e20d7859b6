use Rattle.strip_kinds.proofs.Mixed.{joined_two}
use Rattle.strip_kinds.proofs.mismatch.is_joined_badly.Goals as goal

pub returns-in-Two : goal.returns-in-Two
returns-in-Two c =
    joined_two c.args.entries.now c.args.expr.now c.in-Two.left c.in-Two.right _ _ c.in-Two.op _ _ c.joins_badly.result c.in-Two.is c.get.ensures c.get-in-Two.ensures c.is_text.ensures c.is_text-in-Two.ensures c.joins_badly.ensures
