use Rattle.std.proofs.Common.{◌≡◌, ◌∙◌, List, ◌+◌, ◌<◌, suc, rules, arith, get_or, length, take, set, ap, sym, subst, to_z, of_z}
use Rattle.std.specs.Prelude.{ℤ, pos, ◌+ℤ◌, FitsSigned}
use mir.Syntax.{w128}
use Rattle.strip_value.proofs.Lists.{all_at}
use Rattle.strip_eval.specs.Groups.{IsBig, with_parts}
use Rattle.strip_eval.proofs.Parts.{made_fits, made_is}
use Rattle.strip_eval.proofs.Totals.{big_fits, comes_to, kept_long, one_added, untouched}
use Rattle.strip_eval.proofs.groups.add_parts.Goals as goal

-- the number of the item, what is added to it, and their sum
abbrev stood : (c : goal.After-totals-1) → get_or c.loop-at.totals c.loop-at.at (pos 0) ≡ get_or c.args.totals.now c.loop-at.at (pos 0)
stood c = ap (λ ns. get_or ns c.loop-at.at (pos 0)) c.loop-at.invariant ∙ untouched c.args.items.now c.args.rows.now c.args.totals.now c.loop-at.at

pub overflow_add-totals : goal.overflow_add-totals
overflow_add-totals c =
    let items = c.args.items.now in
    let at = c.loop-at.at in
    let one : FitsSigned w128 (get_or c.loop-at.totals at (pos 0)) = search rules in
    let two : FitsSigned w128 c.part.result = search rules in
    let long = kept_long items c.args.rows.now c.args.totals.now in
    let lengths = c.requires.lengths in
    let lt : at < length (with_parts items c.args.rows.now c.args.totals.now) = omega arith in
    let sum = comes_to items c.args.rows.now c.args.totals.now at c.index-items-at.result c.loop-at-test.true lengths in
    let big = subst IsBig sum (all_at IsBig _ at (pos 0) c.requires.big lt) in
    made_fits (λ (x y : ℤ). x +ℤ y) _ c.part.result _ _ one two (stood c) c.part.ensures (big_fits _ big)

pub loop-at-preserved : goal.loop-at-preserved
loop-at-preserved c =
    let items = c.args.items.now in
    let at = c.loop-at.at in
    let one : FitsSigned w128 (get_or c.loop-at.totals at (pos 0)) = search rules in
    let two : FitsSigned w128 c.part.result = search rules in
    let long = kept_long items c.args.rows.now c.args.totals.now in
    let lengths = c.requires.lengths in
    let lt : at < length (with_parts items c.args.rows.now c.args.totals.now) = omega arith in
    let sum = comes_to items c.args.rows.now c.args.totals.now at c.index-items-at.result c.loop-at-test.true lengths in
    let big = subst IsBig sum (all_at IsBig _ at (pos 0) c.requires.big lt) in
    let made = made_is (λ (x y : ℤ). x +ℤ y) _ c.part.result _ _ one two (stood c) c.part.ensures (big_fits _ big) in
    let next : at + 1 ≡ suc at = omega arith in
    let added = one_added items c.args.rows.now c.args.totals.now at c.index-items-at.result (to_z w128 (of_z w128 (to_z w128 (of_z w128 (get_or c.loop-at.totals at (pos 0))) +ℤ to_z w128 (of_z w128 c.part.result)))) c.loop-at-test.true lengths made in
    let sum_is = to_z w128 (of_z w128 (to_z w128 (of_z w128 (get_or c.loop-at.totals at (pos 0))) +ℤ to_z w128 (of_z w128 c.part.result))) in
    ap (λ (ns : List ℤ). set ns at sum_is) c.loop-at.invariant ∙ added ∙ ap (λ n. with_parts (take n items) c.args.rows.now c.args.totals.now) (sym next)
