use Rattle.std.proofs.Common.{◌++◌}
use Rattle.strip_setup.proofs.Declared.{with_rule_is}
use Rattle.strip_setup.proofs.declares.functions_with_rule.Goals as goal

pub returns : goal.returns
returns c =
    with_rule_is c.args.tables.now c.args.functions.now c.args.function.now c.args.table.now (c.args.conditions.now ++ c.args.evaluate.now) c.function_number.result c.in-Some.number c.in_rule-scope.result _ _ _ _ c.rebound.result
    c.function_number.ensures c.in-Some.is c.in_rule-scope.ensures c.in_ok-bindings.ensures c.as_slice.ensures c.bound_of.ensures c.in_ok-bound.ensures c.rebound.ensures
