use Rattle.std.proofs.Common.{◌≡◌, ◌≤◌, length, map, sym, subst, arith}
use Rattle.strip_setup.specs.Catalog.{each_once}
use Rattle.strip_setup.specs.Resolve.{bound_name}
use Rattle.strip_setup.proofs.Once.{few_named}
use Rattle.strip_setup.proofs.functions.function_of.Goals as goal

pub steps_of-requires-clause-few_bound : goal.steps_of-requires-clause-few_bound
steps_of-requires-clause-few_bound c =
    let few = few_named c.args.steps.now in
    let same : c.as_slice-2.result.now ≡ each_once (map bound_name c.args.steps.now) = cc (c.in_ok-names.ensures, c.in_ok-mentioned.ensures) in
    subst (λ names. length names ≤ 4096) (sym same) (omega (arith, few))
