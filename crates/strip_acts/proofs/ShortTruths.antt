-- How long the shortest text of a truth value is, told from the truth value itself.
use Rattle.std.proofs.Common.{◌≡◌, ℕ, ◌+◌, true, false, not, ◌&&◌, List, nat_lt, max, refl, ap, ap₂, ◌∙◌}
use Rattle.strip_value.specs.declared.expressions.Calc.{Calc}
use Rattle.strip_value.specs.declared.expressions.Cmp.{Cmp}
use Rattle.strip_value.specs.declared.expressions.Cmp.TheVariants as cmp
use Rattle.strip_value.specs.declared.expressions.Test.{Test}
use Rattle.strip_value.specs.declared.expressions.Test.TheVariants as test
use Rattle.strip_value.specs.declared.kinds.Kind.{Kind}
use Rattle.strip_value.specs.Trees as tree
use Rattle.strip_ast.specs.Written.{left_level, level, right_level}
use Rattle.strip_kinds.specs.Mismatch.{differ}
use Rattle.strip_setup.specs.declared.scope.Entry.{Entry}
use Rattle.strip_acts.specs.Shapes.{calc_level, calc_parentheses, is_short_test, test_level, test_lines, test_operators, test_parentheses}
use Rattle.strip_acts.specs.Suiting.{gives_text, suits_filter, suits_truth, suits_value}
use Rattle.strip_acts.specs.Trees.{expr_of, filter_tree, op_of, truth_of}
use Rattle.strip_acts.specs.Writable.{has_words, is_expression, is_filter, opened, operators, parentheses}
use Rattle.strip_acts.proofs.Tests.{both}
use Rattle.strip_acts.proofs.Readable.{AreReadable}
use Rattle.strip_acts.proofs.ShortValues.{level_is, never_low, operand_is, operators_are, parentheses_are, short_is, value_words}

-- ---- operators, levels and parentheses

pub truth_operators : (entries : List Entry) (t : Test) → operators (truth_of entries t) ≡ test_operators t
truth_operators entries test.True = refl
truth_operators entries (test.Compare how a b) = ap₂ (λ x y. x + (1 + y)) (operators_are entries a) (operators_are entries b)
truth_operators entries (tree.Not t) = ap (λ x. 1 + x) (truth_operators entries t)
truth_operators entries (tree.And s t) = ap₂ (λ x y. x + (1 + y)) (truth_operators entries s) (truth_operators entries t)
truth_operators entries (tree.Or s t) = ap₂ (λ x y. x + (1 + y)) (truth_operators entries s) (truth_operators entries t)

compared_level : (entries : List Entry) (how : Cmp) (a b : Calc) → level (truth_of entries (test.Compare how a b)) ≡ 3
compared_level entries cmp.Eq a b = refl
compared_level entries cmp.Ne a b = refl
compared_level entries cmp.Lt a b = refl
compared_level entries cmp.Le a b = refl
compared_level entries cmp.Gt a b = refl
compared_level entries cmp.Ge a b = refl

pub truth_level : (entries : List Entry) (t : Test) → level (truth_of entries t) ≡ test_level t
truth_level entries test.True = refl
truth_level entries (test.Compare how a b) = compared_level entries how a b
truth_level entries (tree.Not t) = refl
truth_level entries (tree.And s t) = refl
truth_level entries (tree.Or s t) = refl

-- what is compared stands in no parentheses
compared_left : (how : Cmp) → left_level (op_of how) ≡ 4
compared_left cmp.Eq = refl
compared_left cmp.Ne = refl
compared_left cmp.Lt = refl
compared_left cmp.Le = refl
compared_left cmp.Gt = refl
compared_left cmp.Ge = refl

compared_right : (how : Cmp) → right_level (op_of how) ≡ 4
compared_right cmp.Eq = refl
compared_right cmp.Ne = refl
compared_right cmp.Lt = refl
compared_right cmp.Le = refl
compared_right cmp.Gt = refl
compared_right cmp.Ge = refl

bare : (entries : List Entry) (lowest : ℕ) (e : Calc) → lowest ≡ 4
    → opened (nat_lt (level (expr_of entries e)) lowest) (parentheses (expr_of entries e)) ≡ calc_parentheses e
bare entries lowest e is =
    ap (λ n. opened (nat_lt (level (expr_of entries e)) n) (parentheses (expr_of entries e))) is
    ∙ operand_is 4 (level (expr_of entries e)) (calc_level e) (parentheses (expr_of entries e)) (calc_parentheses e)
    (level_is entries e) (parentheses_are entries e)
    ∙ ap (λ b. opened b (calc_parentheses e)) (never_low e)

-- nothing is lower than the lowest level
never_lowest : (t : Test) → nat_lt (test_level t) 0 ≡ false
never_lowest test.True = refl
never_lowest (test.Compare how a b) = refl
never_lowest (tree.Not t) = refl
never_lowest (tree.And s t) = refl
never_lowest (tree.Or s t) = refl

pub truth_parentheses : (entries : List Entry) (t : Test) → parentheses (truth_of entries t) ≡ test_parentheses t
truth_parentheses entries test.True = refl
truth_parentheses entries (test.Compare how a b) =
    ap₂ max (bare entries (left_level (op_of how)) a (compared_left how))
    (bare entries (right_level (op_of how)) b (compared_right how))
truth_parentheses entries (tree.Not t) =
    operand_is 3 (level (truth_of entries t)) (test_level t) (parentheses (truth_of entries t)) (test_parentheses t)
    (truth_level entries t) (truth_parentheses entries t)
truth_parentheses entries (tree.And s t) =
    ap₂ max
    (operand_is 1 (level (truth_of entries s)) (test_level s) (parentheses (truth_of entries s)) (test_parentheses s)
    (truth_level entries s) (truth_parentheses entries s))
    (operand_is 2 (level (truth_of entries t)) (test_level t) (parentheses (truth_of entries t)) (test_parentheses t)
    (truth_level entries t) (truth_parentheses entries t))
truth_parentheses entries (tree.Or s t) =
    ap₂ max
    (operand_is 0 (level (truth_of entries s)) (test_level s) (parentheses (truth_of entries s)) (test_parentheses s)
    (truth_level entries s) (truth_parentheses entries s) ∙ ap (λ b. opened b (test_parentheses s)) (never_lowest s))
    (operand_is 1 (level (truth_of entries t)) (test_level t) (parentheses (truth_of entries t)) (test_parentheses t)
    (truth_level entries t) (truth_parentheses entries t))

-- ---- names, numbers and texts

module _ (entries : List Entry) (kinds : List (List Kind)) (readable : AreReadable entries kinds) where
  truth_words : (t : Test) → suits_truth kinds t ≡ true → has_words (truth_of entries t) ≡ test_lines t
  truth_words test.True suits = cc
  truth_words (test.Compare how a b) suits =
      let first = both (suits_value kinds a) (suits_value kinds b && not (differ (gives_text kinds a) (gives_text kinds b)))
      suits in
      let second = both (suits_value kinds b) (not (differ (gives_text kinds a) (gives_text kinds b))) first.1 in
      ap₂ (λ x y. x && y) (value_words entries kinds readable a first.0) (value_words entries kinds readable b second.0)
  truth_words (tree.Not t) suits = truth_words t suits
  truth_words (tree.And s t) suits =
      let parts = both (suits_truth kinds s) (suits_truth kinds t) suits in
      ap₂ (λ x y. x && y) (truth_words s parts.0) (truth_words t parts.1)
  truth_words (tree.Or s t) suits =
      let parts = both (suits_truth kinds s) (suits_truth kinds t) suits in
      ap₂ (λ x y. x && y) (truth_words s parts.0) (truth_words t parts.1)

  truth_short : (t : Test) → suits_truth kinds t ≡ true → is_expression 0 (truth_of entries t) ≡ is_short_test t
  truth_short t suits =
      short_is 0 (truth_of entries t) (test_lines t) (test_operators t) (test_level t) (test_parentheses t) (truth_words t suits)
      (truth_operators entries t) (truth_level entries t) (truth_parentheses entries t) (never_lowest t)

  -- a filter can be written where its truth value is short
  pub filter_short : (t : Test) → suits_filter kinds t ≡ true → is_filter (filter_tree entries t) ≡ is_short_test t
  filter_short test.True suits = refl
  filter_short (test.Compare how a b) suits = truth_short (test.Compare how a b) suits
  filter_short (tree.Not t) suits = truth_short (tree.Not t) suits
  filter_short (tree.And s t) suits = truth_short (tree.And s t) suits
  filter_short (tree.Or s t) suits = truth_short (tree.Or s t) suits
