use Rattle.std.proofs.lemmas.Result.{err_from_is_err_and}
use Rattle.strip_catalog.proofs.ActCauses.{act_grouped, act_limit, act_mismatch, act_taken, act_unknown, act_wide}
use Rattle.strip_catalog.proofs.refusing.refuse_act.Goals as goal

pub returns-in_err-taken_in_deed : goal.returns-in_err-taken_in_deed
returns-in_err-taken_in_deed c =
    let p = err_from_is_err_and c.from_residual.result c.from_residual.ensures.1 in
    rw (p.1, p.2) (act_taken c.args.setup.now c.defs-tables.result.now c.args.deed.now c.defs-tables.ensures _ c.in_err-taken_in_deed.ensures)

pub returns-in_err-unknown_in_deed : goal.returns-in_err-unknown_in_deed
returns-in_err-unknown_in_deed c =
    let p = err_from_is_err_and c.from_residual-in_err-unknown_in_deed.result c.from_residual-in_err-unknown_in_deed.ensures.1 in
    rw (p.1, p.2) (act_unknown c.args.setup.now c.defs-tables.result.now c.args.deed.now c.defs-tables.ensures _ c.in_ok-taken_in_deed.ensures c.in_err-unknown_in_deed.ensures)

pub returns-in_err-limits_in_deed : goal.returns-in_err-limits_in_deed
returns-in_err-limits_in_deed c =
    let p = err_from_is_err_and c.from_residual-in_err-limits_in_deed.result c.from_residual-in_err-limits_in_deed.ensures.1 in
    rw (p.1, p.2) (act_limit c.args.setup.now c.defs-tables.result.now c.args.deed.now c.defs-tables.ensures _ c.in_ok-taken_in_deed.ensures c.in_ok-unknown_in_deed.ensures c.in_err-limits_in_deed.ensures)

pub returns-in_err-mismatched_in_deed : goal.returns-in_err-mismatched_in_deed
returns-in_err-mismatched_in_deed c =
    let p = err_from_is_err_and c.from_residual-in_err-mismatched_in_deed.result c.from_residual-in_err-mismatched_in_deed.ensures.1 in
    rw (p.1, p.2) (act_mismatch c.args.setup.now c.defs-tables.result.now c.args.deed.now c.defs-tables.ensures _ c.in_ok-taken_in_deed.ensures c.in_ok-unknown_in_deed.ensures c.in_ok-limits_in_deed.ensures c.in_err-mismatched_in_deed.ensures)

pub returns-in_err-magnitudes_in_deed : goal.returns-in_err-magnitudes_in_deed
returns-in_err-magnitudes_in_deed c =
    let p = err_from_is_err_and c.from_residual-in_err-magnitudes_in_deed.result c.from_residual-in_err-magnitudes_in_deed.ensures.1 in
    rw (p.1, p.2)
    (act_wide c.args.setup.now c.defs-tables.result.now c.args.deed.now c.defs-tables.ensures _ c.in_ok-taken_in_deed.ensures c.in_ok-unknown_in_deed.ensures c.in_ok-limits_in_deed.ensures c.in_ok-mismatched_in_deed.ensures
    c.in_err-magnitudes_in_deed.ensures)

pub returns : goal.returns
returns c =
    act_grouped c.args.setup.now c.defs-tables.result.now c.args.deed.now c.defs-tables.ensures c.act_not_grouped.result c.in_ok-taken_in_deed.ensures c.in_ok-unknown_in_deed.ensures c.in_ok-limits_in_deed.ensures c.in_ok-mismatched_in_deed.ensures
    c.in_ok-magnitudes_in_deed.ensures c.act_not_grouped.ensures
