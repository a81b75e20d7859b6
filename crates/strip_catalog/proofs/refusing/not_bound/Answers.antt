use Rattle.std.proofs.Common.{sym, subst}
use Rattle.strip_setup.specs.Checks.{Checks}
use Rattle.strip_kinds.specs.Bound.{not_bound}
use Rattle.strip_catalog.proofs.Refused.{rule_conditions_few, rule_evaluate_few, rule_is, rule_small}
use Rattle.strip_catalog.proofs.refusing.not_bound.Goals as goal

pub unbound_in_rule-requires-clause-small : goal.unbound_in_rule-requires-clause-small
unbound_in_rule-requires-clause-small c = rule_small c.args.setup.now c.in-Rule.table c.requires.small

pub unbound_in_rule-requires-clause-few_conditions : goal.unbound_in_rule-requires-clause-few_conditions
unbound_in_rule-requires-clause-few_conditions c =
    let r = c.in-Rule in
    rule_conditions_few c.args.setup.now c.args.statement.now r.name r.table r.events r.conditions r.evaluate r.function r.manner r.is c.requires.within c.as_slice.result.now c.as_slice.ensures

pub unbound_in_rule-requires-clause-few : goal.unbound_in_rule-requires-clause-few
unbound_in_rule-requires-clause-few c =
    let r = c.in-Rule in
    rule_evaluate_few c.args.setup.now c.args.statement.now r.name r.table r.events r.conditions r.evaluate r.function r.manner r.is c.requires.within c.as_slice-in-Rule.result.now c.as_slice-in-Rule.ensures

pub returns-in-Rule : goal.returns-in-Rule
returns-in-Rule c =
    let r = c.in-Rule in
    subst (λ s. Checks (not_bound c.args.setup.now s) c.unbound_in_rule.result)
    (sym (rule_is c.args.statement.now r.name r.table r.events r.conditions r.evaluate r.function r.manner c.as_slice.result.now c.as_slice-in-Rule.result.now r.is c.as_slice.ensures c.as_slice-in-Rule.ensures))
    c.unbound_in_rule.ensures
