use Rattle.std.proofs.Common.{◌≡◌, Bool, List, ◌++◌, IfOk, ap, sym, subst, ◌∙◌}
use Rattle.std.specs.List.{list_any}
use Rattle.strip_value.specs.declared.tables.TableDef.{TableDef}
use Rattle.strip_ast.specs.declared.rules.BoundTree.{BoundTree}
use Rattle.strip_setup.specs.Queries.{query_of}
use Rattle.strip_setup.specs.Resolve.{in_rule}
use Rattle.strip_names.specs.Grouped.{has_misplaced, is_ungrouped}
use Rattle.strip_catalog.proofs.Refused.{rule_conditions_few, rule_evaluate_few, rule_is, rule_small_of, scope_is, select_ungrouped}
use Rattle.strip_catalog.proofs.refusing.is_ungrouped.Goals as goal

pub is_misplaced_in_rule-requires-clause-small : goal.is_misplaced_in_rule-requires-clause-small
is_misplaced_in_rule-requires-clause-small c = rule_small_of c.args.setup.now c.defs-tables.result.now c.in-Rule.table c.defs-tables.ensures c.requires.small

pub is_misplaced_in_rule-requires-clause-few_conditions : goal.is_misplaced_in_rule-requires-clause-few_conditions
is_misplaced_in_rule-requires-clause-few_conditions c =
    let r = c.in-Rule in
    rule_conditions_few c.args.setup.now c.args.statement.now r.name r.table r.events r.conditions r.evaluate r.function r.manner r.is c.requires.within c.as_slice.result.now c.as_slice.ensures

pub is_misplaced_in_rule-requires-clause-few : goal.is_misplaced_in_rule-requires-clause-few
is_misplaced_in_rule-requires-clause-few c =
    let r = c.in-Rule in
    rule_evaluate_few c.args.setup.now c.args.statement.now r.name r.table r.events r.conditions r.evaluate r.function r.manner r.is c.requires.within c.as_slice-in-Rule.result.now c.as_slice-in-Rule.ensures

pub returns-in-Rule : goal.returns-in-Rule
returns-in-Rule c =
    let r = c.in-Rule in
    let is = rule_is c.args.statement.now r.name r.table r.events r.conditions r.evaluate r.function r.manner c.as_slice.result.now c.as_slice-in-Rule.result.now r.is c.as_slice.ensures c.as_slice-in-Rule.ensures in
    let misplaced : List TableDef → Bool = λ tables. list_any (λ (bound : BoundTree). has_misplaced (query_of (in_rule tables r.table) bound.query)) (c.as_slice.result.now ++ c.as_slice-in-Rule.result.now) in
    subst (λ (whole : Bool). IfOk c.is_misplaced_in_rule.result (λ made. made ≡ whole))
    (sym (ap (is_ungrouped c.args.setup.now) is ∙ ap misplaced (sym c.defs-tables.ensures)))
    c.is_misplaced_in_rule.ensures

pub returns-in-Select : goal.returns-in-Select
returns-in-Select c =
    let there = scope_is c.args.setup.now c.defs-tables.result.now c.outside_rules.result c.defs-tables.ensures c.outside_rules.ensures in
    subst (λ (whole : Bool). IfOk c.is_misplaced_in.result (λ made. made ≡ whole))
    (sym (select_ungrouped c.args.setup.now c.args.statement.now c.in-Deed.caller c.in-Deed.deed c.in-Select.query c.outside_rules.result c.in-Deed.is c.in-Select.is there))
    c.is_misplaced_in.ensures
