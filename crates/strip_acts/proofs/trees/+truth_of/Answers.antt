use Rattle.std.proofs.Common.{sym, ap, ◌∙◌}
use Rattle.strip_ast.specs.declared.expressions.Op.TheVariants as op
use Rattle.strip_acts.specs.Suiting.{kinds_in, suits_truth}
use Rattle.strip_acts.specs.Trees.{entries_of, truth_of}
use Rattle.strip_acts.proofs.Sizes.{falls, part_of_not, parts_of_and, parts_of_or, words}
use Rattle.strip_acts.proofs.Tests.{left_passes, right_passes}
use Rattle.strip_acts.proofs.Variants.{truth_of_and, truth_of_not, truth_of_or}
use Rattle.strip_acts.proofs.VariantTrees.{compared_kinded, not_made, same_made, tree_made}
use Rattle.strip_acts.proofs.VariantTrees.{tree_of_and, tree_of_compare, tree_of_not, tree_of_or}
use Rattle.strip_acts.proofs.trees.+truth_of.Goals as goal

pub compared-requires-clause-left : goal.compared-requires-clause-left
compared-requires-clause-left t c =
    (compared_kinded (kinds_in c.args.reads.now) c.args.test.now _ _ _ c.in-Compare.is c.requires).0

pub compared-requires-clause-right : goal.compared-requires-clause-right
compared-requires-clause-right t c =
    (compared_kinded (kinds_in c.args.reads.now) c.args.test.now _ _ _ c.in-Compare.is c.requires).1

pub truth_of-requires : goal.truth_of-requires
truth_of-requires t c =
    let passes = suits_truth (kinds_in c.args.reads.now) in
    let whole = ap passes c.in-Not.is ∙ truth_of_not (kinds_in c.args.reads.now) c.in-Not.inner in (
      falls words c.args.test.now _ c.get.result.now _ t c.in-Not.is c.get.ensures (part_of_not c.in-Not.inner) c.decreases,
      ap passes c.get.ensures ∙ sym whole ∙ c.requires,
    )

pub truth_of-requires-in-And : goal.truth_of-requires-in-And
truth_of-requires-in-And t c =
    let passes = suits_truth (kinds_in c.args.reads.now) in
    let smaller = parts_of_and c.in-And.left c.in-And.right in
    let whole = ap passes c.in-And.is ∙ truth_of_and (kinds_in c.args.reads.now) c.in-And.left c.in-And.right in (
      falls words c.args.test.now _ c.get-in-And.result.now _ t c.in-And.is c.get-in-And.ensures smaller.0 c.decreases,
      left_passes passes passes c.args.test.now c.in-And.left c.in-And.right c.get-in-And.result.now whole c.requires c.get-in-And.ensures,
    )

pub truth_of-requires-in-And-2 : goal.truth_of-requires-in-And-2
truth_of-requires-in-And-2 t c =
    let passes = suits_truth (kinds_in c.args.reads.now) in
    let smaller = parts_of_and c.in-And.left c.in-And.right in
    let whole = ap passes c.in-And.is ∙ truth_of_and (kinds_in c.args.reads.now) c.in-And.left c.in-And.right in (
      falls words c.args.test.now _ c.get-in-And-2.result.now _ t c.in-And.is c.get-in-And-2.ensures smaller.1 c.decreases,
      right_passes passes passes c.args.test.now c.in-And.left c.in-And.right c.get-in-And-2.result.now whole c.requires c.get-in-And-2.ensures,
    )

pub truth_of-requires-in-Or : goal.truth_of-requires-in-Or
truth_of-requires-in-Or t c =
    let passes = suits_truth (kinds_in c.args.reads.now) in
    let smaller = parts_of_or c.in-Or.left c.in-Or.right in
    let whole = ap passes c.in-Or.is ∙ truth_of_or (kinds_in c.args.reads.now) c.in-Or.left c.in-Or.right in (
      falls words c.args.test.now _ c.get-in-Or.result.now _ t c.in-Or.is c.get-in-Or.ensures smaller.0 c.decreases,
      left_passes passes passes c.args.test.now c.in-Or.left c.in-Or.right c.get-in-Or.result.now whole c.requires c.get-in-Or.ensures,
    )

pub truth_of-requires-in-Or-2 : goal.truth_of-requires-in-Or-2
truth_of-requires-in-Or-2 t c =
    let passes = suits_truth (kinds_in c.args.reads.now) in
    let smaller = parts_of_or c.in-Or.left c.in-Or.right in
    let whole = ap passes c.in-Or.is ∙ truth_of_or (kinds_in c.args.reads.now) c.in-Or.left c.in-Or.right in (
      falls words c.args.test.now _ c.get-in-Or-2.result.now _ t c.in-Or.is c.get-in-Or-2.ensures smaller.1 c.decreases,
      right_passes passes passes c.args.test.now c.in-Or.left c.in-Or.right c.get-in-Or-2.result.now whole c.requires c.get-in-Or-2.ensures,
    )

pub returns-in-Compare : goal.returns-in-Compare
returns-in-Compare t c =
    let entries = entries_of c.args.named c.args.reads.now in
    let whole = ap (truth_of entries) c.in-Compare.is ∙ tree_of_compare entries c.in-Compare.how c.in-Compare.left c.in-Compare.right in
    same_made _ _ c.compared.result (sym whole) c.compared.ensures

pub returns-in_ok-truth_of-in-Not : goal.returns-in_ok-truth_of-in-Not
returns-in_ok-truth_of-in-Not t c =
    let tree = truth_of (entries_of c.args.named c.args.reads.now) in
    let whole = ap tree c.in-Not.is ∙ tree_of_not (entries_of c.args.named c.args.reads.now) c.in-Not.inner in
    not_made tree tree c.args.test.now c.in-Not.inner c.get.result.now _ c.not.result whole c.get.ensures
    c.in_ok-truth_of-in-Not.ensures c.not.ensures

pub returns-in_ok-right-in-And : goal.returns-in_ok-right-in-And
returns-in_ok-right-in-And t c =
    let entries = entries_of c.args.named c.args.reads.now in
    let tree = truth_of entries in
    let whole = ap tree c.in-And.is ∙ tree_of_and entries c.in-And.left c.in-And.right in
    tree_made tree tree op.And c.args.test.now c.in-And.left c.in-And.right c.get-in-And.result.now c.get-in-And-2.result.now _ _ _
    whole c.get-in-And.ensures c.get-in-And-2.ensures c.in_ok-left-in-And.ensures c.in_ok-right-in-And.ensures c.two.ensures

pub returns-in_ok-right-in-Or : goal.returns-in_ok-right-in-Or
returns-in_ok-right-in-Or t c =
    let entries = entries_of c.args.named c.args.reads.now in
    let tree = truth_of entries in
    let whole = ap tree c.in-Or.is ∙ tree_of_or entries c.in-Or.left c.in-Or.right in
    tree_made tree tree op.Or c.args.test.now c.in-Or.left c.in-Or.right c.get-in-Or.result.now c.get-in-Or-2.result.now _ _ _
    whole c.get-in-Or.ensures c.get-in-Or-2.ensures c.in_ok-left-in-Or.ensures c.in_ok-right-in-Or.ensures c.two-in-Or.ensures
