use Rattle.std.proofs.Common.{Err, List, ap, filter, nat_le, option_map, ℕ, ◌++◌, ◌∙◌}
use Rattle.std.proofs.lemmas.Result.{err_from_is_err_and}
use Rattle.strip_ast.specs.declared.rules.BoundTree.{BoundTree}
use Rattle.strip_setup.specs.declared.answers.Binding.{Binding}
use Rattle.strip_setup.specs.declared.errors.SetupError.TheVariants.{TooWide}
use Rattle.strip_setup.specs.Catalog.{Catalog, first}
use Rattle.strip_setup.specs.Queries.{Scope}
use Rattle.strip_setup.specs.Resolve.{bindings_of, function_at, in_rule}
use Rattle.strip_setup.proofs.Firsts.{carried}
use Rattle.strip_kinds.specs.Needs.{fits_of}
use Rattle.strip_kinds.specs.Width.{least_wide, magnitudes_in_query, magnitudes_in_steps}
use Rattle.strip_kinds.proofs.Bodies.{bodies-filter, bodies_passed, bodies_refused, place_is}
use Rattle.strip_kinds.proofs.rules.magnitudes_in_rule.Goals as goal

-- what is too wide in a query
abbrev in_body : Scope → BoundTree → List ℕ
in_body scope bound = filter (nat_le least_wide) (magnitudes_in_query scope bound.query)

-- what is bound, added as a total and too wide
abbrev in_uses : Catalog → List ℕ → List Binding → List ℕ
in_uses catalog function bindings = filter (nat_le least_wide) (magnitudes_in_steps (fits_of catalog.tables (function_at catalog function) bindings))

pub returns-in_err-check_body_widths : goal.returns-in_err-check_body_widths
returns-in_err-check_body_widths c =
    let p = err_from_is_err_and c.from_residual.result c.from_residual.ensures.1 in
    let there = in_rule c.args.setup.now.tables c.args.table.now in
    let queries = c.args.conditions.now ++ c.args.evaluate.now in
    let added = magnitudes_in_steps (fits_of c.args.setup.now.tables (function_at c.args.setup.now c.args.function.now) (bindings_of there queries)) in
    rw (p.1, p.2)
    (carried _ _ (Err _) (ap (λ magnitudes. option_map TooWide (first magnitudes)) (bodies-filter (nat_le least_wide) (λ (bound : BoundTree). magnitudes_in_query there bound.query) queries added))
    (bodies_refused TooWide in_body c.in_rule-scope.result there queries
    (in_uses c.args.setup.now c.args.function.now (bindings_of there queries)) _
    (place_is c.in_rule-scope.result c.defs.result.now c.args.setup.now.tables c.args.table.now c.in_rule-scope.ensures c.defs.ensures)
    c.in_err-check_body_widths.ensures))

pub returns : goal.returns
returns c =
    let there = in_rule c.args.setup.now.tables c.args.table.now in
    let queries = c.args.conditions.now ++ c.args.evaluate.now in
    let added = magnitudes_in_steps (fits_of c.args.setup.now.tables (function_at c.args.setup.now c.args.function.now) (bindings_of there queries)) in
    carried _ _ c.check_step_widths.result
    (ap (λ magnitudes. option_map TooWide (first magnitudes)) (bodies-filter (nat_le least_wide) (λ (bound : BoundTree). magnitudes_in_query there bound.query) queries added))
    (bodies_passed TooWide in_body (in_uses c.args.setup.now c.args.function.now) c.in_rule-scope.result there queries c.as_slice.result.now c.check_step_widths.result
    (place_is c.in_rule-scope.result c.defs.result.now c.args.setup.now.tables c.args.table.now c.in_rule-scope.ensures c.defs.ensures)
    (c.as_slice.ensures ∙ c.in-Ok.ensures) c.in_ok-check_body_widths.ensures c.check_step_widths.ensures)
