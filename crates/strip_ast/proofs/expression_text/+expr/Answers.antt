use Rattle.strip_ast.proofs.PrintLemmas.{two_printed}
use Rattle.strip_ast.proofs.expression_text.+expr.Goals as goal

pub print_expr-returns-in_ok-print_operand-in-Two-2 : goal.print_expr-returns-in_ok-print_operand-in-Two-2
print_expr-returns-in_ok-print_operand-in-Two-2 t c =
    two_printed c.args.into.now c.print_operand.new.into c.mark.new.self c.print_operand-in-Two.new.into c.in-Two.op c.in-Two.left c.in-Two.right c.args.expr.now c.in-Two.is (cc (c.in_ok-print_operand-in-Two.ensures)) (cc (c.in_ok-mark-in-Two.ensures)) (cc (c.in_ok-print_operand-in-Two-2.ensures))
