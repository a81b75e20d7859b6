use Rattle.std.proofs.Common.{◌++◌, option_map, flat_map, ap, sym}
use Rattle.strip_ast.specs.declared.rules.BoundTree.{BoundTree}
use Rattle.strip_setup.specs.declared.errors.SetupError.TheVariants.{Unknown}
use Rattle.strip_setup.specs.Catalog.{first}
use Rattle.strip_names.specs.Unknown.{unknown_in_query}
use Rattle.strip_setup.proofs.Firsts.{carried}
use Rattle.strip_names.proofs.unknown.check_rule_queries.Goals as goal

pub returns : goal.returns
returns c =
    carried _ _ c.check_bodies.result
    (ap (λ scope. option_map Unknown (first (flat_map (λ (bound : BoundTree). unknown_in_query scope bound.query) (c.args.conditions.now ++ c.args.evaluate.now)))) (sym c.in_rule.ensures))
    c.check_bodies.ensures
