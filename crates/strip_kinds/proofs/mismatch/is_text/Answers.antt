use Rattle.strip_kinds.proofs.Mixed.{text_of_two}
use Rattle.strip_kinds.proofs.mismatch.is_text.Goals as goal

pub returns-in-Two : goal.returns-in-Two
returns-in-Two c = text_of_two c.args.entries.now c.args.expr.now c.in-Two.left c.in-Two.right c.in-Two.op c.in-Two.is
