use Rattle.std.proofs.Common.{◌≡◌, ◌+◌, ◌++◌, ◌∷◌, [], suc, drop, map, arith, rules, sym, ap, subst, ◌∙◌}
use Rattle.std.specs.List.{AllByRecursion}
use Rattle.std.specs.Prelude.{◌^◌, FitsSigned, ◌+ℤ◌}
use Rattle.std.proofs.lemmas.Int.{ints}
use Rattle.std.proofs.Math.Seq.{drop-cons}
use mir.Syntax.{w128}
use Rattle.strip_value.specs.declared.values.Value.TheVariants.{Int}
use Rattle.strip_meaning.specs.Sums.{plus, number_of, IsUnder}
use Rattle.strip_add.specs.Parts.{numbers, first_number}
use Rattle.strip_add.proofs.SumLaws.{Appends, append_first, appends_as, first_sum}
use Rattle.strip_add.proofs.sums.push_sums.Goals as goal

pub loop-value-preserved : goal.loop-value-preserved
loop-value-preserved c =
    let i = c.loop-value.value-index in
    let more = c.args.more.now in
    let v = c.value-item.result in
    let before = c.loop-value.into.items in
    let left = c.loop-value.left.now in
    let whole = c.args.into.now.items ++ map Int (plus (numbers c.args.old.now) (numbers more)) in
    let next : drop i more ≡ v ∷ drop (suc i) more = drop-cons more i v (omega arith) ∙ ap (λ x. x ∷ drop (suc i) more) (sym c.value-item.is) in
    let here = subst (λ r. Appends before left r whole) next c.loop-value.invariant in
    let one = append_first before left v (drop (suc i) more) whole here in
    let first : FitsSigned w128 c.first_and_others-first.result.0 = search rules in
    let second : FitsSigned w128 c.number.result = search rules in
    let first_is = c.first_and_others-first.ensures.first in
    let second_is = c.number.ensures in
    let head = (subst (AllByRecursion (IsUnder (2 ^ 126))) (first_sum left v (drop (suc i) more)) here.under).0 in
    let place : i + 1 ≡ suc i = omega arith in
    let pushed : c.push.new.self.items ≡ before ++ Int (first_number left +ℤ number_of v) ∷ [] =
    c.in_ok-push.ensures.items ∙ ap (λ n. before ++ Int n ∷ []) (omega (arith, ints)) in
    appends_as _ _ _ whole _ _ _ one pushed c.first_and_others-first.ensures.others (ap (λ n. drop n more) place)
