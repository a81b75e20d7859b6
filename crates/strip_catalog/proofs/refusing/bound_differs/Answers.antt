use Rattle.std.proofs.Common.{true, false, sym, ◌∙◌}
use Rattle.strip_setup.proofs.Firsts.{carried}
use Rattle.strip_catalog.proofs.Refused.{differs_is, rule_conditions_few, rule_evaluate_few, rule_small}
use Rattle.strip_catalog.proofs.refusing.bound_differs.Goals as goal

pub differs_in_rule-differs-requires-clause-small : goal.differs_in_rule-differs-requires-clause-small
differs_in_rule-differs-requires-clause-small c = rule_small c.args.setup.now c.in-Rule.table c.requires.small

pub differs_in_rule-differs-requires-clause-few_conditions :
    goal.differs_in_rule-differs-requires-clause-few_conditions
differs_in_rule-differs-requires-clause-few_conditions c =
    let r = c.in-Rule in
    rule_conditions_few c.args.setup.now c.args.statement.now r.name r.table r.events r.conditions r.evaluate r.function r.manner r.is c.requires.within c.as_slice.result.now c.as_slice.ensures

pub differs_in_rule-differs-requires-clause-few : goal.differs_in_rule-differs-requires-clause-few
differs_in_rule-differs-requires-clause-few c =
    let r = c.in-Rule in
    rule_evaluate_few c.args.setup.now c.args.statement.now r.name r.table r.events r.conditions r.evaluate r.function r.manner r.is c.requires.within c.as_slice-2.result.now c.as_slice-2.ensures

pub returns-in-Ok-true : goal.returns-in-Ok-true
returns-in-Ok-true c =
    let r = c.in-Rule in
    carried _ _ c.refuse_function.result
    (differs_is c.args.statement.now r.name r.table r.events r.conditions r.evaluate r.function r.manner c.as_slice.result.now c.as_slice-2.result.now r.is c.as_slice.ensures c.as_slice-2.ensures c.args.setup.now true (sym c.in-Ok-true.field-0-test ∙ c.in-Ok-true.ensures))
    c.refuse_function.ensures

pub returns-in-Ok-false : goal.returns-in-Ok-false
returns-in-Ok-false c =
    let r = c.in-Rule in
    differs_is c.args.statement.now r.name r.table r.events r.conditions r.evaluate r.function r.manner c.as_slice.result.now c.as_slice-2.result.now r.is c.as_slice.ensures c.as_slice-2.ensures c.args.setup.now false (sym c.in-Ok-false.field-0-test ∙ c.in-Ok-false.ensures)
