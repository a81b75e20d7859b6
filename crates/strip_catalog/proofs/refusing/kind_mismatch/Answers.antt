use Rattle.std.proofs.Common.{option_map, ap, sym, subst, ◌∙◌}
use Rattle.strip_setup.specs.declared.errors.SetupError.TheVariants.{KindMismatch}
use Rattle.strip_setup.specs.Catalog.{first}
use Rattle.strip_setup.specs.Checks.{Checks}
use Rattle.strip_setup.proofs.Firsts.{carried}
use Rattle.strip_kinds.specs.Mismatch.{kind_mismatch, mismatched_in_query}
use Rattle.strip_catalog.proofs.Refused.{derive_entries, rule_conditions_few, rule_evaluate_few, rule_is, rule_small, scope_is}
use Rattle.strip_catalog.proofs.refusing.kind_mismatch.Goals as goal

pub mismatched_in_query-requires : goal.mismatched_in_query-requires
mismatched_in_query-requires c =
    let there = scope_is c.args.setup.now c.defs-tables.result.now c.outside_rules.result c.defs-tables.ensures c.outside_rules.ensures in
    record { few = derive_entries c.args.setup.now c.args.statement.now c.in-Derive.name c.in-Derive.query c.outside_rules.result c.in-Derive.is there c.requires.small c.requires.within }

pub mismatched_in_rule-requires-clause-small : goal.mismatched_in_rule-requires-clause-small
mismatched_in_rule-requires-clause-small c = rule_small c.args.setup.now c.in-Rule.table c.requires.small

pub mismatched_in_rule-requires-clause-few_conditions : goal.mismatched_in_rule-requires-clause-few_conditions
mismatched_in_rule-requires-clause-few_conditions c =
    let r = c.in-Rule in
    rule_conditions_few c.args.setup.now c.args.statement.now r.name r.table r.events r.conditions r.evaluate r.function r.manner r.is c.requires.within c.as_slice.result.now c.as_slice.ensures

pub mismatched_in_rule-requires-clause-few : goal.mismatched_in_rule-requires-clause-few
mismatched_in_rule-requires-clause-few c =
    let r = c.in-Rule in
    rule_evaluate_few c.args.setup.now c.args.statement.now r.name r.table r.events r.conditions r.evaluate r.function r.manner r.is c.requires.within c.as_slice-in-Rule.result.now c.as_slice-in-Rule.ensures

pub returns-in-Derive : goal.returns-in-Derive
returns-in-Derive c =
    let there = scope_is c.args.setup.now c.defs-tables.result.now c.outside_rules.result c.defs-tables.ensures c.outside_rules.ensures in
    carried _ _ c.mismatched_in_query.result
    (ap (kind_mismatch c.args.setup.now) c.in-Derive.is ∙ ap (λ of. option_map KindMismatch (first (mismatched_in_query of c.in-Derive.query))) there)
    c.mismatched_in_query.ensures

pub returns-in-Rule : goal.returns-in-Rule
returns-in-Rule c =
    let r = c.in-Rule in
    subst (λ s. Checks (kind_mismatch c.args.setup.now s) c.mismatched_in_rule.result)
    (sym (rule_is c.args.statement.now r.name r.table r.events r.conditions r.evaluate r.function r.manner c.as_slice.result.now c.as_slice-in-Rule.result.now r.is c.as_slice.ensures c.as_slice-in-Rule.ensures))
    c.mismatched_in_rule.ensures
