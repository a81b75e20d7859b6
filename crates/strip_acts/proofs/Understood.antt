-- What checked expressions stand for suits: its columns are there, its kinds go together, and nothing in it is too wide.
use Rattle.std.proofs.Common.{◌≡◌, ℕ, Bool, true, false, not, ◌&&◌, cond, List, [], ◌∷◌, nat_le, nat_lt, Option, Some, None, refl, arith, true≢false}
use Rattle.std.specs.List.{AllByRecursion}
use Rattle.std.proofs.lemmas.Bool.Decides.{nat_tests}
use Rattle.strip_value.specs.declared.expressions.Test.{Test}
use Rattle.strip_value.specs.declared.expressions.Test.TheVariants as test
use Rattle.strip_value.specs.declared.kinds.Kind.{Kind}
use Rattle.strip_value.specs.Bounds.{magnitude_of}
use Rattle.strip_value.specs.Trees as tree
use Rattle.strip_ast.specs.declared.expressions.Expr.{Expr, Number, Text, Column}
use Rattle.strip_ast.specs.declared.expressions.Op.{Op}
use Rattle.strip_ast.specs.declared.expressions.Op.TheVariants as op
use Rattle.strip_ast.specs.declared.queries.ColTree.{ColTree}
use Rattle.strip_setup.specs.declared.scope.Entry.{Entry}
use Rattle.strip_setup.specs.Parts.{sum, filter_wholes}
use Rattle.strip_setup.specs.Queries.{calc_of, filter_of, kinds_of, place_of, test_of}
use Rattle.strip_setup.specs.Trees.{Two, Not}
use Rattle.strip_names.specs.Unknown.{unknown_column}
use Rattle.strip_kinds.specs.Mismatch.{differ, is_text}
use Rattle.strip_kinds.specs.Width.{least_wide}
use Rattle.strip_acts.specs.Suiting.{has_column, is_bounded, is_kinded, is_narrow, is_numeric, suits_filter, suits_sum, suits_truth, suits_value}
use Rattle.strip_acts.proofs.Naming.{are_both, is_so, neither}
use Rattle.strip_acts.proofs.Checking.{checked_not, checked_two, IsChecked, IsCheckedWhole, is_vast}

-- columns that aren't unknown are there
pub record IsUnderstood (entries : List Entry) : Type 0 where
  pub there : (column : ColTree) → unknown_column entries column ≡ [] → has_column (kinds_of entries) (place_of entries column.of column.name).entry (place_of entries column.of column.name).column ≡ true

-- not at a bound or above, so below it
is_narrower : (n bound : ℕ) → nat_le bound n ≡ false → nat_lt n bound ≡ true
is_narrower n bound e = grind (arith, nat_tests)

not_kept : {A : Type 0} (b : Bool) (x : A) → cond b (x ∷ []) [] ≡ [] → b ≡ false
not_kept true x e = cc
not_kept false x e = refl

module _ (entries : List Entry) (understood : IsUnderstood entries) where
  abbrev kinds : List (List Kind)
  kinds = kinds_of entries

  -- ---- values

  column_there : (of : Option (List ℕ)) (name : List ℕ) → IsChecked entries false (Column of name) → is_kinded kinds (calc_of entries (Column of name)) ≡ true
  column_there of name checked = understood.there (record { of = of; name = name }) checked.known.0

  numeric : (e : Expr) → IsChecked entries false e → is_text entries e ≡ false → is_numeric kinds (calc_of entries e) ≡ true
  numeric (Number n) checked no_text = refl
  numeric (Text t) checked no_text = cc
  numeric (Column of name) checked no_text =
      are_both (is_kinded kinds (calc_of entries (Column of name))) (not (is_text entries (Column of name))) (column_there of name checked) (is_so (is_text entries (Column of name)) no_text)
  numeric (Two op.Add a b) checked no_text =
      let two = checked_two entries false op.Add a b checked in
      let texts = neither (is_text entries a) (is_text entries b) two.same in
      are_both (is_numeric kinds (calc_of entries a)) (is_numeric kinds (calc_of entries b)) (numeric a two.left texts.0) (numeric b two.right texts.1)
  numeric (Two op.Sub a b) checked no_text =
      let two = checked_two entries false op.Sub a b checked in
      let texts = neither (is_text entries a) (is_text entries b) two.same in
      are_both (is_numeric kinds (calc_of entries a)) (is_numeric kinds (calc_of entries b)) (numeric a two.left texts.0) (numeric b two.right texts.1)
  numeric (Two op.Mul a b) checked no_text =
      let two = checked_two entries false op.Mul a b checked in
      let texts = neither (is_text entries a) (is_text entries b) two.same in
      are_both (is_numeric kinds (calc_of entries a)) (is_numeric kinds (calc_of entries b)) (numeric a two.left texts.0) (numeric b two.right texts.1)
  numeric (Two o a b) checked no_text = refl
  numeric (Not a) checked no_text = refl

  kinded : (e : Expr) → IsChecked entries false e → is_kinded kinds (calc_of entries e) ≡ true
  kinded (Number n) checked = refl
  kinded (Text t) checked = refl
  kinded (Column of name) checked = column_there of name checked
  kinded (Two op.Add a b) checked = numeric (Two op.Add a b) checked refl
  kinded (Two op.Sub a b) checked = numeric (Two op.Sub a b) checked refl
  kinded (Two op.Mul a b) checked = numeric (Two op.Mul a b) checked refl
  kinded (Two o a b) checked = refl
  kinded (Not a) checked = refl

  narrower : (e : Expr) → is_vast entries e ≡ false → is_narrow kinds (calc_of entries e) ≡ true
  narrower e vast = is_narrower (magnitude_of kinds (calc_of entries e)) least_wide vast

  bounded : (e : Expr) → IsChecked entries false e → is_bounded kinds (calc_of entries e) ≡ true
  bounded (Number n) checked = narrower (Number n) checked.narrow.0
  bounded (Text t) checked = refl
  bounded (Column of name) checked = refl
  bounded (Two op.Add a b) checked =
      let two = checked_two entries false op.Add a b checked in
      are_both (is_bounded kinds (calc_of entries a)) (is_bounded kinds (calc_of entries b) && is_narrow kinds (calc_of entries (Two op.Add a b))) (bounded a two.left)
      (are_both (is_bounded kinds (calc_of entries b)) (is_narrow kinds (calc_of entries (Two op.Add a b))) (bounded b two.right) (narrower (Two op.Add a b) two.narrow))
  bounded (Two op.Sub a b) checked =
      let two = checked_two entries false op.Sub a b checked in
      are_both (is_bounded kinds (calc_of entries a)) (is_bounded kinds (calc_of entries b) && is_narrow kinds (calc_of entries (Two op.Sub a b))) (bounded a two.left)
      (are_both (is_bounded kinds (calc_of entries b)) (is_narrow kinds (calc_of entries (Two op.Sub a b))) (bounded b two.right) (narrower (Two op.Sub a b) two.narrow))
  bounded (Two op.Mul a b) checked =
      let two = checked_two entries false op.Mul a b checked in
      are_both (is_bounded kinds (calc_of entries a)) (is_bounded kinds (calc_of entries b) && is_narrow kinds (calc_of entries (Two op.Mul a b))) (bounded a two.left)
      (are_both (is_bounded kinds (calc_of entries b)) (is_narrow kinds (calc_of entries (Two op.Mul a b))) (bounded b two.right) (narrower (Two op.Mul a b) two.narrow))
  bounded (Two o a b) checked = refl
  bounded (Not a) checked = refl

  pub value_suits : (e : Expr) → IsChecked entries false e → suits_value kinds (calc_of entries e) ≡ true
  value_suits e checked = are_both (is_kinded kinds (calc_of entries e)) (is_bounded kinds (calc_of entries e)) (kinded e checked) (bounded e checked)

  -- ---- sums

  summed_narrow : (e : Expr) → IsCheckedWhole entries (record { expr = e; purpose = sum }) → is_text entries e ≡ false → is_narrow kinds (calc_of entries e) ≡ true
  summed_narrow (Number n) whole no_text = narrower (Number n) whole.checked.narrow.0
  summed_narrow (Text t) whole no_text = cc
  summed_narrow (Column of name) whole no_text = narrower (Column of name) whole.narrow.0
  summed_narrow (Two op.Add a b) whole no_text = narrower (Two op.Add a b) (checked_two entries false op.Add a b whole.checked).narrow
  summed_narrow (Two op.Sub a b) whole no_text = narrower (Two op.Sub a b) (checked_two entries false op.Sub a b whole.checked).narrow
  summed_narrow (Two op.Mul a b) whole no_text = narrower (Two op.Mul a b) (checked_two entries false op.Mul a b whole.checked).narrow
  summed_narrow (Two o a b) whole no_text = refl
  summed_narrow (Not a) whole no_text = refl

  pub sum_suits : (e : Expr) → IsCheckedWhole entries (record { expr = e; purpose = sum }) → suits_sum kinds (calc_of entries e) ≡ true
  sum_suits e whole =
      let no_text = not_kept (is_text entries e) e whole.summed in
      are_both (is_numeric kinds (calc_of entries e)) (is_bounded kinds (calc_of entries e) && is_narrow kinds (calc_of entries e)) (numeric e whole.checked no_text)
      (are_both (is_bounded kinds (calc_of entries e)) (is_narrow kinds (calc_of entries e)) (bounded e whole.checked) (summed_narrow e whole no_text))

  -- ---- truth values

  compared_suits : (o : Op) (a b : Expr) → IsChecked entries false a → IsChecked entries false b → differ (is_text entries a) (is_text entries b) ≡ false
      → (suits_value kinds (calc_of entries a) && (suits_value kinds (calc_of entries b) && not (differ (is_text entries a) (is_text entries b)))) ≡ true
  compared_suits o a b left right same =
      are_both (suits_value kinds (calc_of entries a)) (suits_value kinds (calc_of entries b) && not (differ (is_text entries a) (is_text entries b))) (value_suits a left)
      (are_both (suits_value kinds (calc_of entries b)) (not (differ (is_text entries a) (is_text entries b))) (value_suits b right) (is_so (differ (is_text entries a) (is_text entries b)) same))

  pub truth_suits : (e : Expr) → IsChecked entries true e → suits_truth kinds (test_of entries e) ≡ true
  truth_suits (Number n) checked = absurd (true≢false checked.kinds.0)
  truth_suits (Text t) checked = absurd (true≢false checked.kinds.0)
  truth_suits (Column of name) checked = absurd (true≢false checked.kinds.0)
  truth_suits (Two op.And a b) checked =
      let two = checked_two entries true op.And a b checked in
      are_both (suits_truth kinds (test_of entries a)) (suits_truth kinds (test_of entries b)) (truth_suits a two.left) (truth_suits b two.right)
  truth_suits (Two op.Or a b) checked =
      let two = checked_two entries true op.Or a b checked in
      are_both (suits_truth kinds (test_of entries a)) (suits_truth kinds (test_of entries b)) (truth_suits a two.left) (truth_suits b two.right)
  truth_suits (Two op.Eq a b) checked = let two = checked_two entries true op.Eq a b checked in compared_suits op.Eq a b two.left two.right two.same
  truth_suits (Two op.Ne a b) checked = let two = checked_two entries true op.Ne a b checked in compared_suits op.Ne a b two.left two.right two.same
  truth_suits (Two op.Lt a b) checked = let two = checked_two entries true op.Lt a b checked in compared_suits op.Lt a b two.left two.right two.same
  truth_suits (Two op.Le a b) checked = let two = checked_two entries true op.Le a b checked in compared_suits op.Le a b two.left two.right two.same
  truth_suits (Two op.Gt a b) checked = let two = checked_two entries true op.Gt a b checked in compared_suits op.Gt a b two.left two.right two.same
  truth_suits (Two op.Ge a b) checked = let two = checked_two entries true op.Ge a b checked in compared_suits op.Ge a b two.left two.right two.same
  truth_suits (Two op.Add a b) checked = absurd (true≢false (checked_two entries true op.Add a b checked).same)
  truth_suits (Two op.Sub a b) checked = absurd (true≢false (checked_two entries true op.Sub a b checked).same)
  truth_suits (Two op.Mul a b) checked = absurd (true≢false (checked_two entries true op.Mul a b checked).same)
  truth_suits (Not a) checked = truth_suits a (checked_not entries true a checked)

  -- ---- filters

  as_filter : (t : Test) → suits_truth kinds t ≡ true → suits_filter kinds t ≡ true
  as_filter test.True suits = refl
  as_filter (test.Compare how a b) suits = suits
  as_filter (tree.Not t) suits = suits
  as_filter (tree.And s t) suits = suits
  as_filter (tree.Or s t) suits = suits

  pub filter_suits : (filter : Option Expr) → AllByRecursion (IsCheckedWhole entries) (filter_wholes filter) → suits_filter kinds (filter_of entries filter) ≡ true
  filter_suits None checked = refl
  filter_suits (Some e) checked = as_filter (test_of entries e) (truth_suits e checked.0.checked)
