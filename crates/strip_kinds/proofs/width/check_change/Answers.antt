use Rattle.std.proofs.lemmas.Result.{err_from_is_err_and}
use Rattle.strip_kinds.proofs.Wide.{sets_refused}
use Rattle.strip_kinds.proofs.width.check_change.Goals as goal

pub returns-in_err-check_sets : goal.returns-in_err-check_sets
returns-in_err-check_sets c =
    let p = err_from_is_err_and c.from_residual.result c.from_residual.ensures.1 in
    rw (p.1, p.2) (sets_refused c.args.kinds.now c.args.entries.now c.args.sets.now c.args.filter.now _ c.in_err-check_sets.ensures)
