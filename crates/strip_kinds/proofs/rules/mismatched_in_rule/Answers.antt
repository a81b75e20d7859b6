use Rattle.std.proofs.Common.{◌++◌, [], unwrap_or, List, Option, ℕ, ◌∙◌}
use Rattle.std.proofs.lemmas.Result.{err_from_is_err_and}
use Rattle.strip_ast.specs.declared.rules.BoundTree.{BoundTree}
use Rattle.strip_setup.specs.declared.answers.Binding.{Binding}
use Rattle.strip_setup.specs.declared.errors.SetupError.TheVariants.{KindMismatch}
use Rattle.strip_setup.specs.Catalog.{Catalog}
use Rattle.strip_setup.specs.Queries.{Scope}
use Rattle.strip_setup.specs.Resolve.{bindings_of, function_at, in_rule}
use Rattle.strip_kinds.specs.Mismatch.{mismatched_in_query, mismatched_in_steps, mismatched_in_unique}
use Rattle.strip_kinds.specs.Needs.{fits_of}
use Rattle.strip_kinds.proofs.Bodies.{bodies_passed, bodies_refused, place_is}
use Rattle.strip_kinds.proofs.rules.mismatched_in_rule.Goals as goal

-- what doesn't go together in a query
abbrev in_body : Scope → BoundTree → List (Option (List ℕ))
in_body scope bound = mismatched_in_query scope bound.query

-- what is bound and doesn't go with the steps and `unique on`
abbrev in_uses : Catalog → List ℕ → Option (List (List ℕ)) → List Binding → List (Option (List ℕ))
in_uses catalog function unique bindings =
    mismatched_in_steps (fits_of catalog.tables (function_at catalog function) bindings) ++ mismatched_in_unique bindings (unwrap_or unique [])

pub returns-in_err-check_body_kinds : goal.returns-in_err-check_body_kinds
returns-in_err-check_body_kinds c =
    let p = err_from_is_err_and c.from_residual.result c.from_residual.ensures.1 in
    let there = in_rule c.args.setup.now.tables c.args.table.now in
    let queries = c.args.conditions.now ++ c.args.evaluate.now in
    rw (p.1, p.2)
    (bodies_refused KindMismatch in_body c.in_rule-scope.result there queries
    (in_uses c.args.setup.now c.args.function.now c.args.unique.now (bindings_of there queries)) _
    (place_is c.in_rule-scope.result c.defs.result.now c.args.setup.now.tables c.args.table.now c.in_rule-scope.ensures c.defs.ensures)
    c.in_err-check_body_kinds.ensures)

pub returns : goal.returns
returns c =
    bodies_passed KindMismatch in_body (in_uses c.args.setup.now c.args.function.now c.args.unique.now) c.in_rule-scope.result
    (in_rule c.args.setup.now.tables c.args.table.now) (c.args.conditions.now ++ c.args.evaluate.now) c.as_slice.result.now c.check_use_kinds.result
    (place_is c.in_rule-scope.result c.defs.result.now c.args.setup.now.tables c.args.table.now c.in_rule-scope.ensures c.defs.ensures)
    (c.as_slice.ensures ∙ c.in-Ok.ensures) c.in_ok-check_body_kinds.ensures c.check_use_kinds.ensures
