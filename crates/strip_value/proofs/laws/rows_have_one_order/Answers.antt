use Rattle.strip_value.proofs.InOrder.{in_order_only}
use Rattle.strip_value.proofs.laws.rows_have_one_order.Goals as goal

pub returns-clause-only : goal.returns-clause-only
returns-clause-only c = in_order_only
