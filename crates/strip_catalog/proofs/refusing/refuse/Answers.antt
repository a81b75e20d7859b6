use Rattle.std.proofs.lemmas.Result.{err_from_is_err_and}
use Rattle.strip_catalog.proofs.Refused.{kinds_refused, names_refused, rules_checked}
use Rattle.strip_catalog.proofs.refusing.refuse.Goals as goal

pub returns-in_err-check_names : goal.returns-in_err-check_names
returns-in_err-check_names c =
    let p = err_from_is_err_and c.from_residual.result c.from_residual.ensures.1 in
    rw (p.1, p.2) (names_refused c.args.setup.now c.args.statement.now _ c.requires.declaration c.in_err-check_names.ensures)

pub returns-in_err-check_kinds : goal.returns-in_err-check_kinds
returns-in_err-check_kinds c =
    let p = err_from_is_err_and c.from_residual-in_err-check_kinds.result c.from_residual-in_err-check_kinds.ensures.1 in
    rw (p.1, p.2) (kinds_refused c.args.setup.now c.args.statement.now _ c.requires.declaration c.in_ok-check_names.ensures c.in_err-check_kinds.ensures)

pub returns : goal.returns
returns c = rules_checked c.args.setup.now c.args.statement.now c.check_rules.result c.requires.declaration c.in_ok-check_names.ensures c.in_ok-check_kinds.ensures c.check_rules.ensures
