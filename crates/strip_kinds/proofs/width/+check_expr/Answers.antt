use Rattle.std.proofs.lemmas.Result.{err_from_is_err_and}
use Rattle.strip_kinds.proofs.Wide.{left_refused, right_refused, both_passed, inner_refused, inner_passed}
use Rattle.strip_kinds.proofs.width.+check_expr.Goals as goal

pub returns-in_err-check_expr-in-Two : goal.returns-in_err-check_expr-in-Two
returns-in_err-check_expr-in-Two t c =
    let p = err_from_is_err_and c.from_residual.result c.from_residual.ensures.1 in
    rw (p.1, p.2)
    (left_refused c.args.kinds.now c.args.entries.now c.args.expr.now c.in-Two.left c.in-Two.right _ c.in-Two.op _ c.in-Two.is c.get.ensures c.in_err-check_expr-in-Two.ensures)

pub returns-in_err-check_expr-in-Two-2 : goal.returns-in_err-check_expr-in-Two-2
returns-in_err-check_expr-in-Two-2 t c =
    let p = err_from_is_err_and c.from_residual-in_err-check_expr-in-Two-2.result c.from_residual-in_err-check_expr-in-Two-2.ensures.1 in
    rw (p.1, p.2)
    (right_refused c.args.kinds.now c.args.entries.now c.args.expr.now c.in-Two.left c.in-Two.right _ _ c.in-Two.op _ c.in-Two.is c.get.ensures c.get-in-Two.ensures c.in_ok-check_expr-in-Two.ensures c.in_err-check_expr-in-Two-2.ensures)

pub returns-in_ok-check_expr-in-Two-2 : goal.returns-in_ok-check_expr-in-Two-2
returns-in_ok-check_expr-in-Two-2 t c =
    both_passed c.args.kinds.now c.args.entries.now c.args.expr.now c.in-Two.left c.in-Two.right _ _ c.in-Two.op c.check_part.result c.in-Two.is c.get.ensures c.get-in-Two.ensures c.in_ok-check_expr-in-Two.ensures c.in_ok-check_expr-in-Two-2.ensures c.check_part.ensures

pub returns-in_err-check_expr-in-Not : goal.returns-in_err-check_expr-in-Not
returns-in_err-check_expr-in-Not t c =
    let p = err_from_is_err_and c.from_residual-in_err-check_expr-in-Not.result c.from_residual-in_err-check_expr-in-Not.ensures.1 in
    rw (p.1, p.2)
    (inner_refused c.args.kinds.now c.args.entries.now c.args.expr.now c.in-Not.inner _ _ c.in-Not.is c.get-in-Not.ensures c.in_err-check_expr-in-Not.ensures)

pub returns-in_ok-check_expr-in-Not : goal.returns-in_ok-check_expr-in-Not
returns-in_ok-check_expr-in-Not t c =
    inner_passed c.args.kinds.now c.args.entries.now c.args.expr.now c.in-Not.inner _ c.check_part-in-Not.result c.in-Not.is c.get-in-Not.ensures c.in_ok-check_expr-in-Not.ensures c.check_part-in-Not.ensures
