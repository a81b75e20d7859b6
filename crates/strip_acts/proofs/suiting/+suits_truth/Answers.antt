use Rattle.std.proofs.Common.{sym, ap, ◌∙◌}
use Rattle.strip_acts.specs.Suiting.{kinds_in, suits_truth}
use Rattle.strip_acts.proofs.Counts.{first_decides, second_decides}
use Rattle.strip_acts.proofs.Variants.{truth_of_and, truth_of_not, truth_of_or}
use Rattle.strip_acts.proofs.suiting.+suits_truth.Goals as goal

pub returns-then-suits_truth : goal.returns-then-suits_truth
returns-then-suits_truth t c =
    second_decides (suits_truth (kinds_in c.args.reads.now)) c.args.test.now c.in-And.left c.in-And.right _ _ _ _
    (ap (suits_truth (kinds_in c.args.reads.now)) c.in-And.is
    ∙ truth_of_and (kinds_in c.args.reads.now) c.in-And.left c.in-And.right) c.get-in-And.ensures c.get-then-suits_truth.ensures
    c.suits_truth-in-And.ensures c.if-suits_truth.true c.suits_truth-then-suits_truth.ensures

pub returns-then-suits_truth-2 : goal.returns-then-suits_truth-2
returns-then-suits_truth-2 t c =
    second_decides (suits_truth (kinds_in c.args.reads.now)) c.args.test.now c.in-Or.left c.in-Or.right _ _ _ _
    (ap (suits_truth (kinds_in c.args.reads.now)) c.in-Or.is
    ∙ truth_of_or (kinds_in c.args.reads.now) c.in-Or.left c.in-Or.right) c.get-in-Or.ensures c.get-then-suits_truth-2.ensures
    c.suits_truth-in-Or.ensures c.if-suits_truth-2.true c.suits_truth-then-suits_truth-2.ensures

pub returns-else-suits_truth : goal.returns-else-suits_truth
returns-else-suits_truth t c =
    first_decides (suits_truth (kinds_in c.args.reads.now)) c.args.test.now c.in-And.left c.in-And.right _ _
    (ap (suits_truth (kinds_in c.args.reads.now)) c.in-And.is
    ∙ truth_of_and (kinds_in c.args.reads.now) c.in-And.left c.in-And.right) c.get-in-And.ensures c.suits_truth-in-And.ensures
    c.if-suits_truth.false

pub returns-else-suits_truth-2 : goal.returns-else-suits_truth-2
returns-else-suits_truth-2 t c =
    first_decides (suits_truth (kinds_in c.args.reads.now)) c.args.test.now c.in-Or.left c.in-Or.right _ _
    (ap (suits_truth (kinds_in c.args.reads.now)) c.in-Or.is
    ∙ truth_of_or (kinds_in c.args.reads.now) c.in-Or.left c.in-Or.right) c.get-in-Or.ensures c.suits_truth-in-Or.ensures
    c.if-suits_truth-2.false

pub returns-in-Not : goal.returns-in-Not
returns-in-Not t c =
    c.suits_truth.ensures ∙ ap (suits_truth (kinds_in c.args.reads.now)) c.get.ensures
    ∙ sym (ap (suits_truth (kinds_in c.args.reads.now)) c.in-Not.is ∙ truth_of_not (kinds_in c.args.reads.now) c.in-Not.inner)
