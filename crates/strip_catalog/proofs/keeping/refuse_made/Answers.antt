use Rattle.std.proofs.Common.{sym, ◌∙◌}
use Rattle.std.proofs.lemmas.Result.{err_from_is_err_and}
use Rattle.strip_catalog.proofs.Kept.{below, kept_bound, kept_count, kept_ended, kept_limit, kept_taken, query_there}
use Rattle.strip_catalog.proofs.keeping.refuse_made.Goals as goal

pub returns-then-is_ready : goal.returns-then-is_ready
returns-then-is_ready c = kept_ended c.args.setup.now c.args.made.now c.requires.numbers c.requires.made (sym c.is_ready.ensures ∙ c.if-is_ready.true)

pub table_at-table-requires : goal.table_at-table-requires
table_at-table-requires c = below c.args.setup.now c.args.made.now c.requires.numbers c.requires.made

pub returns-in_err-check_taken : goal.returns-in_err-check_taken
returns-in_err-check_taken c =
    let p = err_from_is_err_and c.from_residual.result c.from_residual.ensures.1 in
    rw (p.1, p.2) (kept_taken c.args.setup.now c.args.made.now c.requires.numbers c.requires.made c.table_at-table.result.now _ c.table_at-table.ensures (sym c.is_ready.ensures ∙ c.if-is_ready.false) c.in_err-check_taken.ensures)

pub returns-in_err-check_limits : goal.returns-in_err-check_limits
returns-in_err-check_limits c =
    let p = err_from_is_err_and c.from_residual-in_err-check_limits.result c.from_residual-in_err-check_limits.ensures.1 in
    rw (p.1, p.2) (kept_limit c.args.setup.now c.args.made.now c.requires.numbers c.requires.made c.table_at-table.result.now _ c.table_at-table.ensures (sym c.is_ready.ensures ∙ c.if-is_ready.false) c.in_ok-check_taken.ensures c.in_err-check_limits.ensures)

pub check_count-requires : goal.check_count-requires
check_count-requires c = query_there c.args.setup.now c.args.made.now c.requires.numbers c.requires.made c.table_at-table.result.now c.table_at-table.ensures

pub returns-in_err-check_count : goal.returns-in_err-check_count
returns-in_err-check_count c =
    let p = err_from_is_err_and c.from_residual-in_err-check_count.result c.from_residual-in_err-check_count.ensures.1 in
    rw (p.1, p.2) (kept_count c.args.setup.now c.args.made.now c.requires.numbers c.requires.made c.table_at-table.result.now _ c.table_at-table.ensures (sym c.is_ready.ensures ∙ c.if-is_ready.false) c.in_ok-check_taken.ensures c.in_ok-check_limits.ensures c.in_err-check_count.ensures)

pub returns : goal.returns
returns c =
    kept_bound c.args.setup.now c.args.made.now c.requires.numbers c.requires.made c.table_at-table.result.now c.columns_bound.result.now c.unique_names.result.now c.check_columns.result
    c.table_at-table.ensures c.columns_bound.ensures c.unique_names.ensures (sym c.is_ready.ensures ∙ c.if-is_ready.false)
    c.in_ok-check_taken.ensures c.in_ok-check_limits.ensures c.in_ok-check_count.ensures c.check_columns.ensures
