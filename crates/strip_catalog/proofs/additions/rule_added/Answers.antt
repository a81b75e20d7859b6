use Rattle.std.proofs.Common.{◌++◌}
use Rattle.strip_ast.specs.declared.statements.Statement.TheVariants as st
use Rattle.strip_catalog.proofs.Added.{all_conditions_few, all_evaluate_few, names_few, none_passed, rule_is, rule_small}
use Rattle.strip_catalog.proofs.Fitting.{delay_few, within}
use Rattle.strip_catalog.proofs.additions.rule_added.Goals as goal

pub rule_of-requires-clause-small : goal.rule_of-requires-clause-small
rule_of-requires-clause-small c = rule_small c.args.setup.now c.defs-tables.result.now c.args.table.now c.requires.small c.defs-tables.ensures

pub rule_of-requires-clause-few_conditions : goal.rule_of-requires-clause-few_conditions
rule_of-requires-clause-few_conditions c =
    all_conditions_few c.args.setup.now c.args.name.now c.args.table.now c.args.events.now c.args.conditions.now c.args.evaluate.now c.args.function.now c.args.manner.now c.requires.accepted

pub rule_of-requires-clause-few : goal.rule_of-requires-clause-few
rule_of-requires-clause-few c =
    all_evaluate_few c.args.setup.now c.args.name.now c.args.table.now c.args.events.now c.args.conditions.now c.args.evaluate.now c.args.function.now c.args.manner.now c.requires.accepted

pub rule_of-requires-clause-few_names : goal.rule_of-requires-clause-few_names
rule_of-requires-clause-few_names c =
    names_few c.args.setup.now c.defs-tables.result.now c.functions-functions.result.now c.args.table.now c.args.function.now (c.args.conditions.now ++ c.args.evaluate.now) c.requires.small c.defs-tables.ensures c.functions-functions.ensures
    (none_passed c.args.setup.now c.args.name.now c.args.table.now c.args.events.now c.args.conditions.now c.args.evaluate.now c.args.function.now c.args.manner.now c.requires.accepted)

pub rule_of-requires-clause-soon : goal.rule_of-requires-clause-soon
rule_of-requires-clause-soon c =
    delay_few c.args.setup.now c.args.name.now c.args.table.now c.args.events.now c.args.conditions.now c.args.evaluate.now c.args.function.now c.args.manner.now
    (within c.args.setup.now (st.Rule c.args.name.now c.args.table.now c.args.events.now c.args.conditions.now c.args.evaluate.now c.args.function.now c.args.manner.now) c.requires.accepted)

pub functions_with_rule-requires-clause-small : goal.functions_with_rule-requires-clause-small
functions_with_rule-requires-clause-small c = rule_small c.args.setup.now c.defs-tables.result.now c.args.table.now c.requires.small c.defs-tables.ensures

pub functions_with_rule-requires-clause-few_conditions : goal.functions_with_rule-requires-clause-few_conditions
functions_with_rule-requires-clause-few_conditions c =
    all_conditions_few c.args.setup.now c.args.name.now c.args.table.now c.args.events.now c.args.conditions.now c.args.evaluate.now c.args.function.now c.args.manner.now c.requires.accepted

pub functions_with_rule-requires-clause-few : goal.functions_with_rule-requires-clause-few
functions_with_rule-requires-clause-few c =
    all_evaluate_few c.args.setup.now c.args.name.now c.args.table.now c.args.events.now c.args.conditions.now c.args.evaluate.now c.args.function.now c.args.manner.now c.requires.accepted

pub returns : goal.returns
returns c =
    rule_is c.args.setup.now c.defs-tables.result.now c.functions-functions.result.now c.args.name.now c.args.table.now c.args.events.now c.args.conditions.now c.args.evaluate.now c.args.function.now c.args.manner.now c.in_ok-bound.bound c.in_ok-rule.rule
    c.defs-tables.ensures c.functions-functions.ensures c.in_ok-rule.ensures c.in_ok-bound.ensures
