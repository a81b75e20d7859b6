use Rattle.std.proofs.Common.{ap, ◌∙◌}
use Rattle.strip_ast.specs.declared.expressions.Op.TheVariants as op
use Rattle.strip_query.proofs.Variants.{parts_of_add, parts_of_sub, parts_of_mul, size}
use Rattle.strip_acts.specs.Suiting.{is_kinded, kinds_in}
use Rattle.strip_acts.specs.Trees.{entries_of, expr_of}
use Rattle.strip_acts.proofs.Sizes.{falls}
use Rattle.strip_acts.proofs.VariantTrees.{kinded_of_add, kinded_of_sub, kinded_of_mul, left_kinded, right_kinded}
use Rattle.strip_acts.proofs.VariantTrees.{tree_made, tree_of_add, tree_of_sub, tree_of_mul}
use Rattle.strip_acts.proofs.trees.+expr_of.Goals as goal

pub expr_of-requires : goal.expr_of-requires
expr_of-requires t c =
    let kinds = kinds_in c.args.reads.now in
    let smaller = parts_of_add c.in-Add.left c.in-Add.right in
    let whole = ap (is_kinded kinds) c.in-Add.is ∙ kinded_of_add kinds c.in-Add.left c.in-Add.right in (
      falls size c.args.calc.now _ c.get.result.now _ t c.in-Add.is c.get.ensures smaller.0 c.decreases,
      left_kinded kinds c.args.calc.now c.in-Add.left c.in-Add.right c.get.result.now whole c.requires c.get.ensures,
    )

pub expr_of-requires-in-Add : goal.expr_of-requires-in-Add
expr_of-requires-in-Add t c =
    let kinds = kinds_in c.args.reads.now in
    let smaller = parts_of_add c.in-Add.left c.in-Add.right in
    let whole = ap (is_kinded kinds) c.in-Add.is ∙ kinded_of_add kinds c.in-Add.left c.in-Add.right in (
      falls size c.args.calc.now _ c.get-in-Add.result.now _ t c.in-Add.is c.get-in-Add.ensures smaller.1 c.decreases,
      right_kinded kinds c.args.calc.now c.in-Add.left c.in-Add.right c.get-in-Add.result.now whole c.requires c.get-in-Add.ensures,
    )

pub expr_of-requires-in-Sub : goal.expr_of-requires-in-Sub
expr_of-requires-in-Sub t c =
    let kinds = kinds_in c.args.reads.now in
    let smaller = parts_of_sub c.in-Sub.left c.in-Sub.right in
    let whole = ap (is_kinded kinds) c.in-Sub.is ∙ kinded_of_sub kinds c.in-Sub.left c.in-Sub.right in (
      falls size c.args.calc.now _ c.get-in-Sub.result.now _ t c.in-Sub.is c.get-in-Sub.ensures smaller.0 c.decreases,
      left_kinded kinds c.args.calc.now c.in-Sub.left c.in-Sub.right c.get-in-Sub.result.now whole c.requires c.get-in-Sub.ensures,
    )

pub expr_of-requires-in-Sub-2 : goal.expr_of-requires-in-Sub-2
expr_of-requires-in-Sub-2 t c =
    let kinds = kinds_in c.args.reads.now in
    let smaller = parts_of_sub c.in-Sub.left c.in-Sub.right in
    let whole = ap (is_kinded kinds) c.in-Sub.is ∙ kinded_of_sub kinds c.in-Sub.left c.in-Sub.right in (
      falls size c.args.calc.now _ c.get-in-Sub-2.result.now _ t c.in-Sub.is c.get-in-Sub-2.ensures smaller.1 c.decreases,
      right_kinded kinds c.args.calc.now c.in-Sub.left c.in-Sub.right c.get-in-Sub-2.result.now whole c.requires c.get-in-Sub-2.ensures,
    )

pub expr_of-requires-in-Mul : goal.expr_of-requires-in-Mul
expr_of-requires-in-Mul t c =
    let kinds = kinds_in c.args.reads.now in
    let smaller = parts_of_mul c.in-Mul.left c.in-Mul.right in
    let whole = ap (is_kinded kinds) c.in-Mul.is ∙ kinded_of_mul kinds c.in-Mul.left c.in-Mul.right in (
      falls size c.args.calc.now _ c.get-in-Mul.result.now _ t c.in-Mul.is c.get-in-Mul.ensures smaller.0 c.decreases,
      left_kinded kinds c.args.calc.now c.in-Mul.left c.in-Mul.right c.get-in-Mul.result.now whole c.requires c.get-in-Mul.ensures,
    )

pub expr_of-requires-in-Mul-2 : goal.expr_of-requires-in-Mul-2
expr_of-requires-in-Mul-2 t c =
    let kinds = kinds_in c.args.reads.now in
    let smaller = parts_of_mul c.in-Mul.left c.in-Mul.right in
    let whole = ap (is_kinded kinds) c.in-Mul.is ∙ kinded_of_mul kinds c.in-Mul.left c.in-Mul.right in (
      falls size c.args.calc.now _ c.get-in-Mul-2.result.now _ t c.in-Mul.is c.get-in-Mul-2.ensures smaller.1 c.decreases,
      right_kinded kinds c.args.calc.now c.in-Mul.left c.in-Mul.right c.get-in-Mul-2.result.now whole c.requires c.get-in-Mul-2.ensures,
    )

pub returns-in_ok-right-in-Add : goal.returns-in_ok-right-in-Add
returns-in_ok-right-in-Add t c =
    let tree = expr_of (entries_of c.args.named c.args.reads.now) in
    let whole = ap tree c.in-Add.is ∙ tree_of_add (entries_of c.args.named c.args.reads.now) c.in-Add.left c.in-Add.right in
    tree_made tree tree op.Add c.args.calc.now c.in-Add.left c.in-Add.right c.get.result.now c.get-in-Add.result.now _ _ _
    whole c.get.ensures c.get-in-Add.ensures c.in_ok-left-in-Add.ensures c.in_ok-right-in-Add.ensures c.two.ensures

pub returns-in_ok-right-in-Sub : goal.returns-in_ok-right-in-Sub
returns-in_ok-right-in-Sub t c =
    let tree = expr_of (entries_of c.args.named c.args.reads.now) in
    let whole = ap tree c.in-Sub.is ∙ tree_of_sub (entries_of c.args.named c.args.reads.now) c.in-Sub.left c.in-Sub.right in
    tree_made tree tree op.Sub c.args.calc.now c.in-Sub.left c.in-Sub.right c.get-in-Sub.result.now c.get-in-Sub-2.result.now _ _ _
    whole c.get-in-Sub.ensures c.get-in-Sub-2.ensures c.in_ok-left-in-Sub.ensures c.in_ok-right-in-Sub.ensures c.two-in-Sub.ensures

pub returns-in_ok-right-in-Mul : goal.returns-in_ok-right-in-Mul
returns-in_ok-right-in-Mul t c =
    let tree = expr_of (entries_of c.args.named c.args.reads.now) in
    let whole = ap tree c.in-Mul.is ∙ tree_of_mul (entries_of c.args.named c.args.reads.now) c.in-Mul.left c.in-Mul.right in
    tree_made tree tree op.Mul c.args.calc.now c.in-Mul.left c.in-Mul.right c.get-in-Mul.result.now c.get-in-Mul-2.result.now _ _ _
    whole c.get-in-Mul.ensures c.get-in-Mul-2.ensures c.in_ok-left-in-Mul.ensures c.in_ok-right-in-Mul.ensures c.two-in-Mul.ensures
