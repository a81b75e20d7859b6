-- Expressions that are written and read again: they stand for the same, and nothing is wrong with them.
use Rattle.std.proofs.Common.{◌≡◌, ℕ, ◌==◌, true, false, not, ◌&&◌, cond, List, [], ◌∷◌, length, get_or, nat_le, nat_lt, Option, Some, unwrap_or, refl, ap, ap₂, ◌∙◌, arith}
use Rattle.std.specs.List.{AllByRecursion}
use Rattle.std.proofs.lemmas.Bool.Decides.{nat_tests}
use Rattle.strip_value.specs.declared.expressions.Calc.{Calc}
use Rattle.strip_value.specs.declared.expressions.Calc.TheVariants as calc
use Rattle.strip_value.specs.declared.expressions.Cmp.{Cmp}
use Rattle.strip_value.specs.declared.expressions.Cmp.TheVariants as cmp
use Rattle.strip_value.specs.declared.expressions.Test.{Test}
use Rattle.strip_value.specs.declared.expressions.Test.TheVariants as test
use Rattle.strip_value.specs.declared.kinds.Kind.{Kind}
use Rattle.strip_value.specs.declared.queries.Place.{Place}
use Rattle.strip_value.specs.Bounds.{column_kind, magnitude_of}
use Rattle.strip_value.specs.Trees as tree
use Rattle.strip_ast.specs.declared.expressions.Expr.{Expr}
use Rattle.strip_ast.specs.declared.expressions.Op.TheVariants as op
use Rattle.strip_setup.specs.declared.scope.Entry.{Entry}
use Rattle.strip_setup.specs.Catalog.{first, name_if}
use Rattle.strip_setup.specs.Parts.{comparison, class_of, sum, value, filter_wholes}
use Rattle.strip_setup.specs.Queries.{calc_of, filter_of, kinds_of, places_of, test_of}
use Rattle.strip_setup.specs.Trees.{Two}
use Rattle.strip_names.specs.Unknown.{unknown_alias}
use Rattle.strip_kinds.specs.Mismatch.{differ, is_text, is_text_kind}
use Rattle.strip_kinds.specs.Width.{least_wide, summed_column}
use Rattle.strip_acts.specs.Suiting.{gives_text, has_column, is_bounded, is_kinded, is_narrow, is_numeric, suits_filter, suits_sum, suits_truth, suits_value}
use Rattle.strip_acts.specs.Trees.{column_name, expr_of, filter_tree, no_entry, op_of, truth_of}
use Rattle.strip_acts.proofs.Naming.{both_true, is_not}
use Rattle.strip_acts.proofs.Lists.{empty_both}
use Rattle.strip_acts.proofs.Checking.{comparison_checked, connective_checked, IsChecked, IsCheckedWhole, is_vast, not_checked, sum_checked}

-- the name that is written before the columns of an entry
abbrev pub alias_in : List Entry → ℕ → Option (List ℕ)
alias_in entries entry = (get_or entries entry no_entry).alias

-- each column that is written by the second entries is that one of the first
pub record IsReadBack (read written : List Entry) : Type 0 where
  pub place : (entry column : ℕ) → has_column (kinds_of read) entry column ≡ true → places_of read (alias_in written entry) (column_name written entry column) ≡ record { entry = entry; column = column } ∷ []
  pub alias : (entry column : ℕ) → has_column (kinds_of read) entry column ≡ true → unknown_alias read (alias_in written entry) ≡ []

-- below a bound, so not at it or above
pub narrow_is : (n bound : ℕ) → nat_lt n bound ≡ true → nat_le bound n ≡ false
narrow_is n bound e = grind (arith, nat_tests)

numeric_is : (kinds : List (List Kind)) (e : Calc) → is_numeric kinds e ≡ true → gives_text kinds e ≡ false
numeric_is kinds (calc.Number n) is = refl
numeric_is kinds (calc.Text t) is = cc
numeric_is kinds (calc.Column entry column) is = is_not (is_text_kind (column_kind kinds entry column)) (both_true (has_column kinds entry column) (not (is_text_kind (column_kind kinds entry column))) is).1
numeric_is kinds (tree.Add a b) is = refl
numeric_is kinds (tree.Sub a b) is = refl
numeric_is kinds (tree.Mul a b) is = refl

module _ (read written : List Entry) (back : IsReadBack read written) where
  abbrev kinds : List (List Kind)
  kinds = kinds_of read

  -- the text of a value, as a tree
  abbrev shown : Calc → Expr
  shown e = expr_of written e

  -- ---- values

  column_again : (entry column : ℕ) → has_column kinds entry column ≡ true → calc_of read (shown (calc.Column entry column)) ≡ calc.Column entry column
  column_again entry column there =
      let none : Place = record { entry = 0; column = 0 } in
      ap (λ (places : List Place). calc.Column (unwrap_or (first places) none).entry (unwrap_or (first places) none).column) (back.place entry column there)

  numeric_again : (e : Calc) → is_numeric kinds e ≡ true → calc_of read (shown e) ≡ e
  numeric_again (calc.Number n) is = refl
  numeric_again (calc.Text t) is = refl
  numeric_again (calc.Column entry column) is = column_again entry column (both_true (has_column kinds entry column) (not (is_text_kind (column_kind kinds entry column))) is).0
  numeric_again (tree.Add a b) is = let both = both_true (is_numeric kinds a) (is_numeric kinds b) is in ap₂ (λ x y. tree.Add x y) (numeric_again a both.0) (numeric_again b both.1)
  numeric_again (tree.Sub a b) is = let both = both_true (is_numeric kinds a) (is_numeric kinds b) is in ap₂ (λ x y. tree.Sub x y) (numeric_again a both.0) (numeric_again b both.1)
  numeric_again (tree.Mul a b) is = let both = both_true (is_numeric kinds a) (is_numeric kinds b) is in ap₂ (λ x y. tree.Mul x y) (numeric_again a both.0) (numeric_again b both.1)

  kinded_again : (e : Calc) → is_kinded kinds e ≡ true → calc_of read (shown e) ≡ e
  kinded_again (calc.Number n) is = refl
  kinded_again (calc.Text t) is = refl
  kinded_again (calc.Column entry column) is = column_again entry column is
  kinded_again (tree.Add a b) is = numeric_again (tree.Add a b) is
  kinded_again (tree.Sub a b) is = numeric_again (tree.Sub a b) is
  kinded_again (tree.Mul a b) is = numeric_again (tree.Mul a b) is

  pub value_again : (e : Calc) → suits_value kinds e ≡ true → calc_of read (shown e) ≡ e
  value_again e suits = kinded_again e (both_true (is_kinded kinds e) (is_bounded kinds e) suits).0

  number_no_text : (e : Calc) → is_numeric kinds e ≡ true → is_text read (shown e) ≡ false
  number_no_text e is = ap (gives_text kinds) (numeric_again e is) ∙ numeric_is kinds e is

  -- ---- checks of values

  number_not_vast : (e : Calc) → calc_of read (shown e) ≡ e → is_narrow kinds e ≡ true → is_vast read (shown e) ≡ false
  number_not_vast e again narrow = ap (λ x. nat_le least_wide (magnitude_of kinds x)) again ∙ narrow_is (magnitude_of kinds e) least_wide narrow

  column_checked : (entry column : ℕ) → has_column kinds entry column ≡ true → IsChecked read false (shown (calc.Column entry column))
  column_checked entry column there =
      let name = column_name written entry column in
      record {
        known = (
          empty_both (unknown_alias read (alias_in written entry)) (name_if (not (length (places_of read (alias_in written entry) name) == 1)) name)
              (back.alias entry column there)
              (ap (λ (places : List Place). name_if (not (length places == 1)) name) (back.place entry column there)),
          tt,
        );
        kinds = (refl, tt);
        narrow = (refl, tt);
      }

  numeric_checked : (e : Calc) → is_numeric kinds e ≡ true → is_bounded kinds e ≡ true → IsChecked read false (shown e)
  numeric_checked (calc.Number n) is narrow = record { known = tt; kinds = (refl, tt); narrow = (number_not_vast (calc.Number n) refl narrow, tt) }
  numeric_checked (calc.Text t) is narrow = cc
  numeric_checked (calc.Column entry column) is narrow = column_checked entry column (both_true (has_column kinds entry column) (not (is_text_kind (column_kind kinds entry column))) is).0
  numeric_checked (tree.Add a b) is narrow =
      let both = both_true (is_numeric kinds a) (is_numeric kinds b) is in
      let left = both_true (is_bounded kinds a) (is_bounded kinds b && is_narrow kinds (tree.Add a b)) narrow in
      let right = both_true (is_bounded kinds b) (is_narrow kinds (tree.Add a b)) left.1 in
      sum_checked read op.Add (shown a) (shown b) refl (numeric_checked a both.0 left.0) (numeric_checked b both.1 right.0) (number_no_text a both.0) (number_no_text b both.1)
      (number_not_vast (tree.Add a b) (numeric_again (tree.Add a b) is) right.1)
  numeric_checked (tree.Sub a b) is narrow =
      let both = both_true (is_numeric kinds a) (is_numeric kinds b) is in
      let left = both_true (is_bounded kinds a) (is_bounded kinds b && is_narrow kinds (tree.Sub a b)) narrow in
      let right = both_true (is_bounded kinds b) (is_narrow kinds (tree.Sub a b)) left.1 in
      sum_checked read op.Sub (shown a) (shown b) refl (numeric_checked a both.0 left.0) (numeric_checked b both.1 right.0) (number_no_text a both.0) (number_no_text b both.1)
      (number_not_vast (tree.Sub a b) (numeric_again (tree.Sub a b) is) right.1)
  numeric_checked (tree.Mul a b) is narrow =
      let both = both_true (is_numeric kinds a) (is_numeric kinds b) is in
      let left = both_true (is_bounded kinds a) (is_bounded kinds b && is_narrow kinds (tree.Mul a b)) narrow in
      let right = both_true (is_bounded kinds b) (is_narrow kinds (tree.Mul a b)) left.1 in
      sum_checked read op.Mul (shown a) (shown b) refl (numeric_checked a both.0 left.0) (numeric_checked b both.1 right.0) (number_no_text a both.0) (number_no_text b both.1)
      (number_not_vast (tree.Mul a b) (numeric_again (tree.Mul a b) is) right.1)

  kinded_checked : (e : Calc) → is_kinded kinds e ≡ true → is_bounded kinds e ≡ true → IsChecked read false (shown e)
  kinded_checked (calc.Number n) is narrow = numeric_checked (calc.Number n) refl narrow
  kinded_checked (calc.Text t) is narrow = record { known = tt; kinds = (refl, tt); narrow = (refl, tt) }
  kinded_checked (calc.Column entry column) is narrow = column_checked entry column is
  kinded_checked (tree.Add a b) is narrow = numeric_checked (tree.Add a b) is narrow
  kinded_checked (tree.Sub a b) is narrow = numeric_checked (tree.Sub a b) is narrow
  kinded_checked (tree.Mul a b) is narrow = numeric_checked (tree.Mul a b) is narrow

  pub value_checked : (e : Calc) → suits_value kinds e ≡ true → IsChecked read false (shown e)
  value_checked e suits = let both = both_true (is_kinded kinds e) (is_bounded kinds e) suits in kinded_checked e both.0 both.1

  pub value_whole : (e : Calc) → suits_value kinds e ≡ true → IsCheckedWhole read (record { expr = shown e; purpose = value })
  value_whole e suits = record { checked = value_checked e suits; summed = refl; narrow = tt }

  -- ---- sums

  summed_narrow : (e : Calc) → is_vast read (shown e) ≡ false → AllByRecursion (λ x. is_vast read x ≡ false) (summed_column sum (shown e))
  summed_narrow (calc.Number n) is = tt
  summed_narrow (calc.Text t) is = tt
  summed_narrow (calc.Column entry column) is = (is, tt)
  summed_narrow (tree.Add a b) is = tt
  summed_narrow (tree.Sub a b) is = tt
  summed_narrow (tree.Mul a b) is = tt

  pub sum_again : (e : Calc) → suits_sum kinds e ≡ true → calc_of read (shown e) ≡ e
  sum_again e suits = numeric_again e (both_true (is_numeric kinds e) (is_bounded kinds e && is_narrow kinds e) suits).0

  pub sum_whole : (e : Calc) → suits_sum kinds e ≡ true → IsCheckedWhole read (record { expr = shown e; purpose = sum })
  sum_whole e suits =
      let number = both_true (is_numeric kinds e) (is_bounded kinds e && is_narrow kinds e) suits in
      let bounds = both_true (is_bounded kinds e) (is_narrow kinds e) number.1 in
      record {
        checked = numeric_checked e number.0 bounds.0;
        summed = ap (λ b. cond b (shown e ∷ []) []) (number_no_text e number.0);
        narrow = summed_narrow e (number_not_vast e (numeric_again e number.0) bounds.1);
      }

  -- ---- truth values

  compared_again : (how : Cmp) (a b : Expr) → test_of read (Two (op_of how) a b) ≡ test.Compare how (calc_of read a) (calc_of read b)
  compared_again cmp.Eq a b = refl
  compared_again cmp.Ne a b = refl
  compared_again cmp.Lt a b = refl
  compared_again cmp.Le a b = refl
  compared_again cmp.Gt a b = refl
  compared_again cmp.Ge a b = refl

  compares : (how : Cmp) → class_of (op_of how) ≡ comparison
  compares cmp.Eq = refl
  compares cmp.Ne = refl
  compares cmp.Lt = refl
  compares cmp.Le = refl
  compares cmp.Gt = refl
  compares cmp.Ge = refl

  pub truth_again : (t : Test) → suits_truth kinds t ≡ true → test_of read (truth_of written t) ≡ t
  truth_again test.True suits = cc
  truth_again (test.Compare how a b) suits =
      let left = both_true (suits_value kinds a) (suits_value kinds b && not (differ (gives_text kinds a) (gives_text kinds b))) suits in
      let right = both_true (suits_value kinds b) (not (differ (gives_text kinds a) (gives_text kinds b))) left.1 in
      compared_again how (shown a) (shown b) ∙ ap₂ (test.Compare how) (value_again a left.0) (value_again b right.0)
  truth_again (tree.Not t) suits = ap (λ x. tree.Not x) (truth_again t suits)
  truth_again (tree.And s t) suits = let both = both_true (suits_truth kinds s) (suits_truth kinds t) suits in ap₂ (λ x y. tree.And x y) (truth_again s both.0) (truth_again t both.1)
  truth_again (tree.Or s t) suits = let both = both_true (suits_truth kinds s) (suits_truth kinds t) suits in ap₂ (λ x y. tree.Or x y) (truth_again s both.0) (truth_again t both.1)

  pub truth_checked : (t : Test) → suits_truth kinds t ≡ true → IsChecked read true (truth_of written t)
  truth_checked test.True suits = cc
  truth_checked (test.Compare how a b) suits =
      let left = both_true (suits_value kinds a) (suits_value kinds b && not (differ (gives_text kinds a) (gives_text kinds b))) suits in
      let right = both_true (suits_value kinds b) (not (differ (gives_text kinds a) (gives_text kinds b))) left.1 in
      comparison_checked read (op_of how) (shown a) (shown b) (compares how) (value_checked a left.0) (value_checked b right.0)
      (ap₂ (λ x y. differ (gives_text kinds x) (gives_text kinds y)) (value_again a left.0) (value_again b right.0) ∙ is_not (differ (gives_text kinds a) (gives_text kinds b)) right.1)
  truth_checked (tree.Not t) suits = not_checked read (truth_of written t) (truth_checked t suits)
  truth_checked (tree.And s t) suits =
      let both = both_true (suits_truth kinds s) (suits_truth kinds t) suits in
      connective_checked read op.And (truth_of written s) (truth_of written t) refl (truth_checked s both.0) (truth_checked t both.1)
  truth_checked (tree.Or s t) suits =
      let both = both_true (suits_truth kinds s) (suits_truth kinds t) suits in
      connective_checked read op.Or (truth_of written s) (truth_of written t) refl (truth_checked s both.0) (truth_checked t both.1)

  -- ---- filters

  pub filter_again : (t : Test) → suits_filter kinds t ≡ true → filter_of read (filter_tree written t) ≡ t
  filter_again test.True suits = refl
  filter_again (test.Compare how a b) suits = truth_again (test.Compare how a b) suits
  filter_again (tree.Not t) suits = truth_again (tree.Not t) suits
  filter_again (tree.And s t) suits = truth_again (tree.And s t) suits
  filter_again (tree.Or s t) suits = truth_again (tree.Or s t) suits

  truth_whole : (t : Test) → suits_truth kinds t ≡ true → AllByRecursion (IsCheckedWhole read) (filter_wholes (Some (truth_of written t)))
  truth_whole t suits = (record { checked = truth_checked t suits; summed = refl; narrow = tt }, tt)

  pub filter_checked : (t : Test) → suits_filter kinds t ≡ true → AllByRecursion (IsCheckedWhole read) (filter_wholes (filter_tree written t))
  filter_checked test.True suits = tt
  filter_checked (test.Compare how a b) suits = truth_whole (test.Compare how a b) suits
  filter_checked (tree.Not t) suits = truth_whole (tree.Not t) suits
  filter_checked (tree.And s t) suits = truth_whole (tree.And s t) suits
  filter_checked (tree.Or s t) suits = truth_whole (tree.Or s t) suits
