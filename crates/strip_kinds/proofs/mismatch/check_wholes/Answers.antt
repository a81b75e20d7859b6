use Rattle.std.proofs.lemmas.Result.{err_from_is_err_and}
use Rattle.strip_kinds.proofs.Mixed.{items_refused}
use Rattle.strip_kinds.proofs.mismatch.check_wholes.Goals as goal

pub returns-in_err-check_items : goal.returns-in_err-check_items
returns-in_err-check_items c =
    let p = err_from_is_err_and c.from_residual.result c.from_residual.ensures.1 in
    rw (p.1, p.2) (items_refused c.args.entries.now c.args.query.now _ _ c.as_slice.ensures c.in_err-check_items.ensures)
