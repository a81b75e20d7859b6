use Rattle.std.proofs.Common.{[], List, Option, flat_map, unwrap_or, ℕ, ◌++◌, ◌∙◌}
use Rattle.strip_setup.specs.declared.answers.Binding.{Binding}
use Rattle.strip_setup.specs.declared.errors.SetupError.TheVariants.{NotBound}
use Rattle.strip_setup.specs.Catalog.{Catalog}
use Rattle.strip_setup.specs.Resolve.{function_at, in_rule}
use Rattle.strip_kinds.specs.Bound.{unbound_in_step, unbound_in_unique}
use Rattle.strip_kinds.proofs.Bodies.{place_is, uses_checked}
use Rattle.strip_kinds.proofs.rules.unbound_in_rule.Goals as goal

-- what the steps and `unique on` need and isn't bound
abbrev in_uses : Catalog → List ℕ → Option (List (List ℕ)) → List Binding → List (List ℕ)
in_uses catalog function unique bindings =
    let f = function_at catalog function in
    flat_map (unbound_in_step catalog.tables f.bound bindings) f.steps ++ unbound_in_unique bindings (unwrap_or unique [])

pub returns : goal.returns
returns c =
    uses_checked NotBound (in_uses c.args.setup.now c.args.function.now c.args.unique.now) c.in_rule-scope.result
    (in_rule c.args.setup.now.tables c.args.table.now) (c.args.conditions.now ++ c.args.evaluate.now) c.as_slice.result.now c.check_uses_bound.result
    (place_is c.in_rule-scope.result c.defs.result.now c.args.setup.now.tables c.args.table.now c.in_rule-scope.ensures c.defs.ensures)
    (c.as_slice.ensures ∙ c.in-Ok.ensures) c.check_uses_bound.ensures
