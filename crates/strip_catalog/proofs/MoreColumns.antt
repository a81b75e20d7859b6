-- What suits some columns suits them with more behind.
use Rattle.std.proofs.Common.{◌≡◌, ℕ, zero, suc, ◌+◌, ◌*◌, true, not, ◌&&◌, nat_lt, List, [], ◌∷◌, ◌++◌, length, refl, ap, ap₂, ◌∙◌, arith, length-append}
use Rattle.std.proofs.Math.ListN.{get_or-append}
use Rattle.strip_value.specs.declared.expressions.Calc.{Calc}
use Rattle.strip_value.specs.declared.expressions.Calc.TheVariants as calc
use Rattle.strip_value.specs.declared.expressions.Test.{Test}
use Rattle.strip_value.specs.declared.expressions.Test.TheVariants as test
use Rattle.strip_value.specs.declared.kinds.Kind.{Kind}
use Rattle.strip_value.specs.declared.kinds.Kind.TheVariants as kind
use Rattle.strip_value.specs.Bounds.{capped, column_kind, kind_magnitude, magnitude_of}
use Rattle.strip_value.specs.Trees as tree
use Rattle.strip_kinds.specs.Mismatch.{differ, is_text_kind}
use Rattle.strip_kinds.specs.Width.{least_wide}
use Rattle.strip_acts.specs.Suiting.{gives_text, has_column, is_bounded, is_narrow, is_numeric, suits_filter, suits_sum, suits_truth, suits_value}
use Rattle.strip_acts.proofs.Naming.{are_both, below, both_true, is_below}

module _ (own more : List Kind) where
  -- the columns of one entry, and the same with more behind
  abbrev ones : List (List Kind)
  ones = own ∷ []

  abbrev others : List (List Kind)
  others = (own ++ more) ∷ []

  -- ---- columns

  column_there : (entry column : ℕ) → has_column ones entry column ≡ true → has_column others entry column ≡ true
  column_there zero column e =
      let lt = below column (length own) e in
      let long = length-append own more in
      is_below column (length (own ++ more)) (omega (arith, lt, long))
  column_there (suc entry) column e = e

  column_same : (entry column : ℕ) → has_column ones entry column ≡ true → column_kind others entry column ≡ column_kind ones entry column
  column_same zero column e = get_or-append own more kind.Text column (below column (length own) e)
  column_same (suc entry) column e = refl

  -- ---- values

  numeric_there : (e : Calc) → is_numeric ones e ≡ true → is_numeric others e ≡ true
  numeric_there (calc.Number n) is = refl
  numeric_there (calc.Text t) is = cc
  numeric_there (calc.Column entry column) is =
      let both = both_true (has_column ones entry column) (not (is_text_kind (column_kind ones entry column))) is in
      are_both (has_column others entry column) (not (is_text_kind (column_kind others entry column)))
      (column_there entry column both.0) (ap (λ k. not (is_text_kind k)) (column_same entry column both.0) ∙ both.1)
  numeric_there (tree.Add a b) is =
      let both = both_true (is_numeric ones a) (is_numeric ones b) is in
      are_both (is_numeric others a) (is_numeric others b) (numeric_there a both.0) (numeric_there b both.1)
  numeric_there (tree.Sub a b) is =
      let both = both_true (is_numeric ones a) (is_numeric ones b) is in
      are_both (is_numeric others a) (is_numeric others b) (numeric_there a both.0) (numeric_there b both.1)
  numeric_there (tree.Mul a b) is =
      let both = both_true (is_numeric ones a) (is_numeric ones b) is in
      are_both (is_numeric others a) (is_numeric others b) (numeric_there a both.0) (numeric_there b both.1)

  magnitude_same : (e : Calc) → is_numeric ones e ≡ true → magnitude_of others e ≡ magnitude_of ones e
  magnitude_same (calc.Number n) is = refl
  magnitude_same (calc.Text t) is = refl
  magnitude_same (calc.Column entry column) is =
      ap kind_magnitude (column_same entry column (both_true (has_column ones entry column) (not (is_text_kind (column_kind ones entry column))) is).0)
  magnitude_same (tree.Add a b) is =
      let both = both_true (is_numeric ones a) (is_numeric ones b) is in
      ap₂ (λ m n. capped (m + n)) (magnitude_same a both.0) (magnitude_same b both.1)
  magnitude_same (tree.Sub a b) is =
      let both = both_true (is_numeric ones a) (is_numeric ones b) is in
      ap₂ (λ m n. capped (m + n)) (magnitude_same a both.0) (magnitude_same b both.1)
  magnitude_same (tree.Mul a b) is =
      let both = both_true (is_numeric ones a) (is_numeric ones b) is in
      ap₂ (λ m n. capped (m * n)) (magnitude_same a both.0) (magnitude_same b both.1)

  narrow_same : (e : Calc) → is_numeric ones e ≡ true → is_narrow others e ≡ is_narrow ones e
  narrow_same e is = ap (λ m. nat_lt m least_wide) (magnitude_same e is)

  bounded_same : (e : Calc) → is_numeric ones e ≡ true → is_bounded others e ≡ is_bounded ones e
  bounded_same (calc.Number n) is = refl
  bounded_same (calc.Text t) is = refl
  bounded_same (calc.Column entry column) is = refl
  bounded_same (tree.Add a b) is =
      let both = both_true (is_numeric ones a) (is_numeric ones b) is in
      ap₂ (λ x y. x && y) (bounded_same a both.0) (ap₂ (λ x y. x && y) (bounded_same b both.1) (narrow_same (tree.Add a b) is))
  bounded_same (tree.Sub a b) is =
      let both = both_true (is_numeric ones a) (is_numeric ones b) is in
      ap₂ (λ x y. x && y) (bounded_same a both.0) (ap₂ (λ x y. x && y) (bounded_same b both.1) (narrow_same (tree.Sub a b) is))
  bounded_same (tree.Mul a b) is =
      let both = both_true (is_numeric ones a) (is_numeric ones b) is in
      ap₂ (λ x y. x && y) (bounded_same a both.0) (ap₂ (λ x y. x && y) (bounded_same b both.1) (narrow_same (tree.Mul a b) is))

  pub sum_still : (e : Calc) → suits_sum ones e ≡ true → suits_sum others e ≡ true
  sum_still e is =
      let both = both_true (is_numeric ones e) (is_bounded ones e && is_narrow ones e) is in
      are_both (is_numeric others e) (is_bounded others e && is_narrow others e) (numeric_there e both.0)
      (ap₂ (λ x y. x && y) (bounded_same e both.0) (narrow_same e both.0) ∙ both.1)

  abbrev StillSuits : Calc → Type 0
  StillSuits e = (suits_value others e ≡ true) × (gives_text others e ≡ gives_text ones e)

  -- a number that suits
  number_still : (e : Calc) → (is_numeric ones e && is_bounded ones e) ≡ true → (is_numeric others e && is_bounded others e) ≡ true
  number_still e is =
      let both = both_true (is_numeric ones e) (is_bounded ones e) is in
      are_both (is_numeric others e) (is_bounded others e) (numeric_there e both.0) (bounded_same e both.0 ∙ both.1)

  still_suits : (e : Calc) → suits_value ones e ≡ true → StillSuits e
  still_suits (calc.Number n) is = (is, refl)
  still_suits (calc.Text t) is = (refl, refl)
  still_suits (calc.Column entry column) is =
      let there = (both_true (has_column ones entry column) true is).0 in
      (are_both (has_column others entry column) true (column_there entry column there) refl, ap is_text_kind (column_same entry column there))
  still_suits (tree.Add a b) is = (number_still (tree.Add a b) is, refl)
  still_suits (tree.Sub a b) is = (number_still (tree.Sub a b) is, refl)
  still_suits (tree.Mul a b) is = (number_still (tree.Mul a b) is, refl)

  pub value_still : (e : Calc) → suits_value ones e ≡ true → suits_value others e ≡ true
  value_still e is = (still_suits e is).0

  -- ---- truth values

  truth_still : (t : Test) → suits_truth ones t ≡ true → suits_truth others t ≡ true
  truth_still test.True is = cc
  truth_still (test.Compare how a b) is =
      let left = both_true (suits_value ones a) (suits_value ones b && not (differ (gives_text ones a) (gives_text ones b))) is in
      let right = both_true (suits_value ones b) (not (differ (gives_text ones a) (gives_text ones b))) left.1 in
      let a_still = still_suits a left.0 in
      let b_still = still_suits b right.0 in
      are_both (suits_value others a) (suits_value others b && not (differ (gives_text others a) (gives_text others b))) a_still.0
      (are_both (suits_value others b) (not (differ (gives_text others a) (gives_text others b))) b_still.0
      (ap₂ (λ x y. not (differ x y)) a_still.1 b_still.1 ∙ right.1))
  truth_still (tree.Not t) is = truth_still t is
  truth_still (tree.And s t) is =
      let both = both_true (suits_truth ones s) (suits_truth ones t) is in
      are_both (suits_truth others s) (suits_truth others t) (truth_still s both.0) (truth_still t both.1)
  truth_still (tree.Or s t) is =
      let both = both_true (suits_truth ones s) (suits_truth ones t) is in
      are_both (suits_truth others s) (suits_truth others t) (truth_still s both.0) (truth_still t both.1)

  pub filter_still : (t : Test) → suits_filter ones t ≡ true → suits_filter others t ≡ true
  filter_still test.True is = refl
  filter_still (test.Compare how a b) is = truth_still (test.Compare how a b) is
  filter_still (tree.Not t) is = truth_still (tree.Not t) is
  filter_still (tree.And s t) is = truth_still (tree.And s t) is
  filter_still (tree.Or s t) is = truth_still (tree.Or s t) is
