use Rattle.strip_names.proofs.Keys.{in_conditions, in_evaluate}
use Rattle.strip_names.proofs.grouped.is_misplaced_in_rule.Goals as goal

pub returns-then-in_conditions : goal.returns-then-in_conditions
returns-then-in_conditions c =
    in_conditions _ _ c.args.conditions.now c.args.evaluate.now c.in_rule-scope.ensures _ c.in_ok-in_evaluate.in_evaluate c.in_ok-in_conditions.ensures c.in_ok-in_evaluate.ensures c.if-in_conditions.true

pub returns-else-in_conditions : goal.returns-else-in_conditions
returns-else-in_conditions c =
    in_evaluate _ _ c.args.conditions.now c.args.evaluate.now c.in_rule-scope.ensures c.in_ok-in_conditions.in_conditions _ c.in_ok-in_conditions.ensures c.in_ok-in_evaluate.ensures c.if-in_conditions.false
