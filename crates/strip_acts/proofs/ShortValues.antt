-- How long the shortest text of a value is, told from the value itself.
use Rattle.std.proofs.Common.{◌≡◌, ℕ, ℤ, ◌+◌, ◌^◌, ◌<◌, Bool, true, false, not, ◌&&◌, List, nat_le, nat_lt, max, refl, ap, ap₂, ◌∙◌, arith}
use Rattle.std.specs.Prelude.{nat_abs}
use Rattle.strip_value.specs.declared.expressions.Calc.{Calc}
use Rattle.strip_value.specs.declared.expressions.Calc.TheVariants as calc
use Rattle.strip_value.specs.declared.kinds.Kind.{Kind}
use Rattle.strip_value.specs.Bounds.{column_kind}
use Rattle.strip_value.specs.Trees as tree
use Rattle.strip_ast.specs.declared.expressions.Expr.{Expr}
use Rattle.strip_ast.specs.Written.{level}
use Rattle.strip_kinds.specs.Mismatch.{is_text_kind}
use Rattle.strip_setup.specs.declared.scope.Entry.{Entry}
use Rattle.strip_acts.specs.Shapes.{calc_level, calc_lines, calc_operators, calc_parentheses, is_short_calc}
use Rattle.strip_acts.specs.Suiting.{has_column, is_bounded, is_kinded, is_narrow, is_numeric, suits_sum, suits_value}
use Rattle.strip_acts.specs.Trees.{expr_of}
use Rattle.strip_acts.specs.Writable.{has_digits, has_words, is_expression, opened, operators, parentheses}
use Rattle.strip_acts.proofs.Tests.{below, both, is_below, joined}
use Rattle.strip_acts.proofs.Readable.{AreReadable}

-- ---- operators, levels and parentheses

pub operators_are : (entries : List Entry) (e : Calc) → operators (expr_of entries e) ≡ calc_operators e
operators_are entries (calc.Number n) = refl
operators_are entries (calc.Text t) = refl
operators_are entries (calc.Column entry column) = refl
operators_are entries (tree.Add a b) = ap₂ (λ x y. x + (1 + y)) (operators_are entries a) (operators_are entries b)
operators_are entries (tree.Sub a b) = ap₂ (λ x y. x + (1 + y)) (operators_are entries a) (operators_are entries b)
operators_are entries (tree.Mul a b) = ap₂ (λ x y. x + (1 + y)) (operators_are entries a) (operators_are entries b)

pub level_is : (entries : List Entry) (e : Calc) → level (expr_of entries e) ≡ calc_level e
level_is entries (calc.Number n) = refl
level_is entries (calc.Text t) = refl
level_is entries (calc.Column entry column) = refl
level_is entries (tree.Add a b) = refl
level_is entries (tree.Sub a b) = refl
level_is entries (tree.Mul a b) = refl

-- an operand, of whose level and parentheses is known what they are
pub operand_is : (lowest : ℕ) (l m p q : ℕ) → l ≡ m → p ≡ q → opened (nat_lt l lowest) p ≡ opened (nat_lt m lowest) q
operand_is lowest l m p q l_is p_is = ap₂ (λ x y. opened (nat_lt x lowest) y) l_is p_is

pub parentheses_are : (entries : List Entry) (e : Calc) → parentheses (expr_of entries e) ≡ calc_parentheses e
parentheses_are entries (calc.Number n) = refl
parentheses_are entries (calc.Text t) = refl
parentheses_are entries (calc.Column entry column) = refl
parentheses_are entries (tree.Add a b) =
    ap₂ max
    (operand_is 4 (level (expr_of entries a)) (calc_level a) (parentheses (expr_of entries a)) (calc_parentheses a)
    (level_is entries a) (parentheses_are entries a))
    (operand_is 5 (level (expr_of entries b)) (calc_level b) (parentheses (expr_of entries b)) (calc_parentheses b)
    (level_is entries b) (parentheses_are entries b))
parentheses_are entries (tree.Sub a b) =
    ap₂ max
    (operand_is 4 (level (expr_of entries a)) (calc_level a) (parentheses (expr_of entries a)) (calc_parentheses a)
    (level_is entries a) (parentheses_are entries a))
    (operand_is 5 (level (expr_of entries b)) (calc_level b) (parentheses (expr_of entries b)) (calc_parentheses b)
    (level_is entries b) (parentheses_are entries b))
parentheses_are entries (tree.Mul a b) =
    ap₂ max
    (operand_is 5 (level (expr_of entries a)) (calc_level a) (parentheses (expr_of entries a)) (calc_parentheses a)
    (level_is entries a) (parentheses_are entries a))
    (operand_is 6 (level (expr_of entries b)) (calc_level b) (parentheses (expr_of entries b)) (calc_parentheses b)
    (level_is entries b) (parentheses_are entries b))

-- ---- names, numbers and texts

fits_digits : (n : ℕ) → n < 2 ^ 63 → n < 10 ^ 38
fits_digits n lt = omega arith

-- what is less than 2^63 from 0 has at most 38 digits
narrow_number : (n : ℤ) → nat_lt (nat_abs n) (2 ^ 63) ≡ true → has_digits n ≡ true
narrow_number n narrow = is_below (nat_abs n) (10 ^ 38) (fits_digits (nat_abs n) (below (nat_abs n) (2 ^ 63) narrow))

-- a number's kinds go together
pub numeric_kinded : (kinds : List (List Kind)) (e : Calc) → is_numeric kinds e ≡ true → is_kinded kinds e ≡ true
numeric_kinded kinds (calc.Number n) numeric = numeric
numeric_kinded kinds (calc.Text t) numeric = refl
numeric_kinded kinds (calc.Column entry column) numeric =
    (both (has_column kinds entry column) (not (is_text_kind (column_kind kinds entry column))) numeric).0
numeric_kinded kinds (tree.Add a b) numeric = numeric
numeric_kinded kinds (tree.Sub a b) numeric = numeric
numeric_kinded kinds (tree.Mul a b) numeric = numeric

module _ (entries : List Entry) (kinds : List (List Kind)) (readable : AreReadable entries kinds) where
  -- the words of both parts, where both are numbers that are bounded
  of_both : (a b : Calc) (narrow : Bool) → (is_numeric kinds a && is_numeric kinds b) ≡ true
      → (is_bounded kinds a && (is_bounded kinds b && narrow)) ≡ true
      → (is_kinded kinds a ≡ true → is_bounded kinds a ≡ true → has_words (expr_of entries a) ≡ calc_lines a)
      → (is_kinded kinds b ≡ true → is_bounded kinds b ≡ true → has_words (expr_of entries b) ≡ calc_lines b)
      → (has_words (expr_of entries a) && has_words (expr_of entries b)) ≡ (calc_lines a && calc_lines b)
  of_both a b narrow numeric bounded of_a of_b =
      let numbers = both (is_numeric kinds a) (is_numeric kinds b) numeric in
      let bounds = both (is_bounded kinds a) (is_bounded kinds b && narrow) bounded in
      let last = both (is_bounded kinds b) narrow bounds.1 in
      ap₂ (λ x y. x && y) (of_a (numeric_kinded kinds a numbers.0) bounds.0) (of_b (numeric_kinded kinds b numbers.1) last.0)

  words_are : (e : Calc) → is_kinded kinds e ≡ true → is_bounded kinds e ≡ true → has_words (expr_of entries e) ≡ calc_lines e
  words_are (calc.Number n) kinded bounded = narrow_number n bounded
  words_are (calc.Text t) kinded bounded = refl
  words_are (calc.Column entry column) kinded bounded =
      let here = readable.each entry column kinded in
      joined _ _ here.alias here.name
  words_are (tree.Add a b) kinded bounded =
      of_both a b (is_narrow kinds (tree.Add a b)) kinded bounded (words_are a) (words_are b)
  words_are (tree.Sub a b) kinded bounded =
      of_both a b (is_narrow kinds (tree.Sub a b)) kinded bounded (words_are a) (words_are b)
  words_are (tree.Mul a b) kinded bounded =
      of_both a b (is_narrow kinds (tree.Mul a b)) kinded bounded (words_are a) (words_are b)

  pub value_words : (e : Calc) → suits_value kinds e ≡ true → has_words (expr_of entries e) ≡ calc_lines e
  value_words e suits =
      let parts = both (is_kinded kinds e) (is_bounded kinds e) suits in
      words_are e parts.0 parts.1

-- ---- values that stand alone

-- no value needs parentheses where a sum may stand
pub never_low : (e : Calc) → nat_lt (calc_level e) 4 ≡ false
never_low (calc.Number n) = refl
never_low (calc.Text t) = refl
never_low (calc.Column entry column) = refl
never_low (tree.Add a b) = refl
never_low (tree.Sub a b) = refl
never_low (tree.Mul a b) = refl

never_lowest : (e : Calc) → nat_lt (calc_level e) 0 ≡ false
never_lowest (calc.Number n) = refl
never_lowest (calc.Text t) = refl
never_lowest (calc.Column entry column) = refl
never_lowest (tree.Add a b) = refl
never_lowest (tree.Sub a b) = refl
never_lowest (tree.Mul a b) = refl

-- where the first three are known, the expression is as short as they say
pub short_is : (lowest : ℕ) (e : Expr) (words : Bool) (marks l p : ℕ) → has_words e ≡ words → operators e ≡ marks → level e ≡ l
    → parentheses e ≡ p → nat_lt l lowest ≡ false → is_expression lowest e ≡ (words && (nat_le marks 256 && nat_le p 64))
short_is lowest e words marks l p words_is marks_are l_is p_is high =
    ap₂ (λ (w : Bool) (m : ℕ). w && (nat_le m 256 && nat_le (opened (nat_lt (level e) lowest) (parentheses e)) 64))
    words_is marks_are
    ∙ ap (λ (n : ℕ). words && (nat_le marks 256 && nat_le n 64))
    (operand_is lowest (level e) l (parentheses e) p l_is p_is ∙ ap (λ (b : Bool). opened b p) high)

-- a value is an expression where it is short, as an item and as what is set
module _ (entries : List Entry) (kinds : List (List Kind)) (readable : AreReadable entries kinds) where
  value_at_level : (lowest : ℕ) (e : Calc) → nat_lt (calc_level e) lowest ≡ false → suits_value kinds e ≡ true
      → is_expression lowest (expr_of entries e) ≡ is_short_calc e
  value_at_level lowest e high suits =
      short_is lowest (expr_of entries e) (calc_lines e) (calc_operators e) (calc_level e) (calc_parentheses e)
      (value_words entries kinds readable e suits) (operators_are entries e) (level_is entries e)
      (parentheses_are entries e) high

  pub value_short : (e : Calc) → suits_value kinds e ≡ true → is_expression 0 (expr_of entries e) ≡ is_short_calc e
  value_short e suits = value_at_level 0 e (never_lowest e) suits

  pub set_short : (e : Calc) → suits_value kinds e ≡ true → is_expression 4 (expr_of entries e) ≡ is_short_calc e
  set_short e suits = value_at_level 4 e (never_low e) suits

  pub sum_short : (e : Calc) → suits_sum kinds e ≡ true → is_expression 0 (expr_of entries e) ≡ is_short_calc e
  sum_short e suits =
      let numeric = both (is_numeric kinds e) (is_bounded kinds e && is_narrow kinds e) suits in
      let bounded = both (is_bounded kinds e) (is_narrow kinds e) numeric.1 in
      value_short e (joined _ _ (numeric_kinded kinds e numeric.0) bounded.0)
