use Rattle.std.proofs.Common.{◌≡◌, ◌<◌, ◌≤◌, ◌^◌, List, length, map, take, get_or, arith, sym, subst, ap, ◌∙◌}
use Rattle.std.specs.List.{AllByRecursion}
use Rattle.strip_value.specs.declared.values.Value.{Value}
use Rattle.strip_value.specs.Kinds.{FitsColumns}
use Rattle.strip_value.proofs.Lists.{all_at}
use Rattle.strip_meaning.specs.Sums.{as_derived, totals_of, folded, IsUnder}
use Rattle.strip_add.proofs.SumLaws.{FoldedSoFar, fold_needs, fold_step, folded_all, folded_whole, all_seen, seen_more, seen_few, ok_weaker}
use Rattle.strip_add.proofs.folding.fold.Goals as goal

pub fold_row-requires-clause-sums : goal.fold_row-requires-clause-sums
fold_row-requires-clause-sums c =
    let into = c.args.into.now in
    let rows = c.args.rows.now in
    let f = as_derived c.args.from.now in
    let i = c.loop-row.row-index in
    let row = c.row-item.result in
    let items = c.as_slice-row-items.ensures in
    let long = ap length items in
    let is : row ≡ get_or rows i row = c.row-item.is ∙ ap (λ rs. get_or rs i row) items in
    let lt : i < length rows = omega arith in
    let few : length (map f (take i rows)) < 2 ^ 62 = omega (arith, seen_few f rows i, c.requires.few) in
    let under = all_seen f (λ row. AllByRecursion (IsUnder (2 ^ 63)) (totals_of into row)) rows i c.requires.small in
    let here = subst (λ (r : List Value). AllByRecursion (IsUnder (2 ^ 63)) (totals_of into (f r))) (sym is) (all_at (λ row. AllByRecursion (IsUnder (2 ^ 63)) (totals_of into (f row))) rows i row c.requires.small lt) in
    fold_needs into c.loop-row.sums.def c.loop-row.sums.rows (map f (take i rows)) (f row) c.loop-row.invariant few under here

pub loop-row-preserved : goal.loop-row-preserved
loop-row-preserved c =
    let into = c.args.into.now in
    let rows = c.args.rows.now in
    let f = as_derived c.args.from.now in
    let i = c.loop-row.row-index in
    let row = c.row-item.result in
    let items = c.as_slice-row-items.ensures in
    let long = ap length items in
    let is : row ≡ get_or rows i row = c.row-item.is ∙ ap (λ rs. get_or rs i row) items in
    let lt : i < length rows = omega arith in
    let few : length (map f (take i rows)) < 2 ^ 62 = omega (arith, seen_few f rows i, c.requires.few) in
    let under = all_seen f (λ row. AllByRecursion (IsUnder (2 ^ 63)) (totals_of into row)) rows i c.requires.small in
    let here = subst (λ (r : List Value). AllByRecursion (IsUnder (2 ^ 63)) (totals_of into (f r))) (sym is) (all_at (λ row. AllByRecursion (IsUnder (2 ^ 63)) (totals_of into (f row))) rows i row c.requires.small lt) in
    let fits = subst (λ (r : List Value). FitsColumns into.columns (f r)) (sym is) (all_at (λ row. FitsColumns into.columns (f row)) rows i row c.requires.kinds lt) in
    subst (FoldedSoFar into c.fold_row.new.sums.def c.fold_row.new.sums.rows) (sym (seen_more f rows i row lt is))
    (fold_step into c.loop-row.sums.def c.loop-row.sums.rows (map f (take i rows)) (f row) c.fold_row.new.sums c.requires.derived c.loop-row.invariant few under fits here c.in_ok-fold_row.ensures)

pub returns : goal.returns
returns c =
    let rows = c.args.rows.now in
    let f = as_derived c.args.from.now in
    let i = c.loop-row.row-index in
    let long = ap length c.as_slice-row-items.ensures in
    let done : length rows ≤ i = omega arith in
    let all = folded_all c.args.into.now c.loop-row.sums.def c.loop-row.sums.rows (map f (take i rows)) c.requires.derived c.loop-row.invariant in
    ok_weaker c.rows_of.result (λ r. r ≡ c.loop-row.sums.rows) (λ r. r ≡ folded c.args.into.now (map f rows)) c.rows_of.ensures
    (λ r e. e ∙ all ∙ ap (folded c.args.into.now) (folded_whole f rows i done))
