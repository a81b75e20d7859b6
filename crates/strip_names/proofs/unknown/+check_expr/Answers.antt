use Rattle.std.proofs.lemmas.Result.{err_from_is_err_and}
use Rattle.strip_names.proofs.Absent.{two_refused, two_passed}
use Rattle.strip_names.proofs.unknown.+check_expr.Goals as goal

pub returns-in_err-check_expr-in-Two : goal.returns-in_err-check_expr-in-Two
returns-in_err-check_expr-in-Two t c =
    let p = err_from_is_err_and c.from_residual.result c.from_residual.ensures.1 in
    rw (p.1, p.2)
    (two_refused c.args.entries.now c.args.expr.now c.in-Two.left c.in-Two.right _ c.in-Two.op _ c.in-Two.is c.get.ensures c.in_err-check_expr-in-Two.ensures)

pub returns-in_ok-check_expr-in-Two : goal.returns-in_ok-check_expr-in-Two
returns-in_ok-check_expr-in-Two t c =
    two_passed c.args.entries.now c.args.expr.now c.in-Two.left c.in-Two.right _ _ c.in-Two.op _ c.in-Two.is c.get.ensures c.get-in-Two.ensures c.in_ok-check_expr-in-Two.ensures c.check_expr-in-Two.ensures
