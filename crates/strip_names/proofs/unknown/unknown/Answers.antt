use Rattle.std.proofs.Common.{refl}
use Rattle.std.proofs.lemmas.Result.{err_from_is_err_and}
use Rattle.strip_names.proofs.Absent.{derive_checked, is_rule, rule_refused, rule_passed, table_checked}
use Rattle.strip_names.proofs.unknown.unknown.Goals as goal

pub returns-in-Table : goal.returns-in-Table
returns-in-Table c =
    table_checked c.args.setup.now c.args.statement.now c.in-Table.name c.in-Table.columns c.in-Table.key c.in-Table.limit _ _ c.check_names.result c.in-Table.is c.as_slice.ensures c.as_slice-in-Table.ensures c.check_names.ensures

pub returns-in-Derive : goal.returns-in-Derive
returns-in-Derive c =
    derive_checked c.args.setup.now c.args.statement.now c.in-Derive.name c.in-Derive.query _ _ c.unknown_in_query.result c.in-Derive.is c.defs-tables.ensures c.outside_rules.ensures c.unknown_in_query.ensures

pub returns-in_err-check_rule-in-Rule : goal.returns-in_err-check_rule-in-Rule
returns-in_err-check_rule-in-Rule c =
    let r = c.in-Rule in
    let p = err_from_is_err_and c.from_residual.result c.from_residual.ensures.1 in
    let given = is_rule c.args.setup.now c.args.statement.now r.name r.table r.function r.manner r.events r.conditions r.evaluate _ _ _ _ c.args.setup.now.functions r.is c.defs-tables.ensures c.as_slice-events.ensures c.as_slice-conditions.ensures c.as_slice-in-Rule.ensures refl in
    rw (p.1, p.2) (rule_refused c.args.setup.now c.args.statement.now r.name r.table r.function _ _ _ _ c.args.setup.now.functions _ given c.in_err-check_rule-in-Rule.ensures)

pub returns-in_ok-check_rule-in-Rule : goal.returns-in_ok-check_rule-in-Rule
returns-in_ok-check_rule-in-Rule c =
    let r = c.in-Rule in
    let given = is_rule c.args.setup.now c.args.statement.now r.name r.table r.function r.manner r.events r.conditions r.evaluate _ _ _ _ _ r.is c.defs-tables.ensures c.as_slice-events.ensures c.as_slice-conditions.ensures c.as_slice-in-Rule.ensures c.functions.ensures in
    rule_passed c.args.setup.now c.args.statement.now r.name r.table r.function _ _ _ _ _ c.check_function.result given c.in_ok-check_rule-in-Rule.ensures c.check_function.ensures
