-- The parts of expressions and filters: they are smaller, their numbers stay small, and what is made of them.
use Rattle.std.proofs.Common.{◌≡◌, ℕ, ◌+◌, ◌^◌, ◌<◌, List, sym, ap, ◌∙◌, subst, arith, to_z, of_z, Bool, true, false, not}
use Rattle.std.specs.Prelude.{◌&&◌, ◌||◌, ℤ, ◌+ℤ◌, ◌-ℤ◌, ◌*ℤ◌, nat_abs, FitsSigned}
use Rattle.std.proofs.lemmas.Int.{ints, to_z-of_z}
use mir.Syntax.{w128}
use Rattle.strip_value.specs.declared.values.Value.{Value}
use Rattle.strip_value.specs.declared.values.Value.TheVariants.{Int}
use Rattle.strip_value.specs.declared.expressions.Calc.{Calc}
use Rattle.strip_value.specs.declared.expressions.Calc.TheVariants as calc
use Rattle.strip_value.specs.declared.expressions.Test.{Test}
use Rattle.strip_value.specs.declared.expressions.Test.TheVariants as test
use Rattle.strip_value.specs.Query.{number_of, satisfies, value_at}
use Rattle.strip_value.specs.Trees as tree
use Rattle.strip_value.specs.Trees.{Add-is, Sub-is, Mul-is, Not-is, And-is, Or-is}
use Rattle.strip_query.specs.Laws.{IsNear, distance}
use Rattle.strip_query.proofs.Variants.{size}
use Rattle.strip_eval.specs.Near.{IsNearTest}

-- ---- expressions

-- what a call on a part asks
pub part_asks : (rows : List (List Value)) (e whole p part : Calc) (n : ℕ) → e ≡ whole → p ≡ part → size part < size whole → IsNear rows part → size e ≡ n → (size p < n) × IsNear rows p
part_asks rows e whole p part n e_is p_is smaller near size_is = rw (p_is, ← size_is, e_is) (smaller, near)

-- the numbers of the parts and of the whole stay small

pub near_add : (rows : List (List Value)) (e a b : Calc) → e ≡ calc.Add a b → IsNear rows e → IsNear rows a × IsNear rows b × (distance rows (tree.Add a b) < 2 ^ 63)
near_add rows e a b e_is near = subst (IsNear rows) (e_is ∙ Add-is a b) near

pub near_sub : (rows : List (List Value)) (e a b : Calc) → e ≡ calc.Sub a b → IsNear rows e → IsNear rows a × IsNear rows b × (distance rows (tree.Sub a b) < 2 ^ 63)
near_sub rows e a b e_is near = subst (IsNear rows) (e_is ∙ Sub-is a b) near

pub near_mul : (rows : List (List Value)) (e a b : Calc) → e ≡ calc.Mul a b → IsNear rows e → IsNear rows a × IsNear rows b × (distance rows (tree.Mul a b) < 2 ^ 63)
near_mul rows e a b e_is near = subst (IsNear rows) (e_is ∙ Mul-is a b) near

-- the number of a part
pub number_is : (rows : List (List Value)) (p part : Calc) (v : Value) (n : ℤ) → p ≡ part → v ≡ value_at rows p → n ≡ number_of v → n ≡ number_of (value_at rows part)
number_is rows p part v n p_is v_is n_is = n_is ∙ ap number_of v_is ∙ ap (λ e. number_of (value_at rows e)) p_is

pub small_fits : (z : ℤ) → nat_abs z < 2 ^ 63 → FitsSigned w128 z
small_fits z small = omega (arith, ints)

-- what is made of two numbers, if it fits
module _ (op : ℤ → ℤ → ℤ) (x y m n : ℤ) (x_fits : FitsSigned w128 x) (y_fits : FitsSigned w128 y) (x_is : x ≡ m) (y_is : y ≡ n) (fits : FitsSigned w128 (op m n)) where
  kept : op (to_z w128 (of_z w128 x)) (to_z w128 (of_z w128 y)) ≡ op m n
  kept = ap (λ z. op z (to_z w128 (of_z w128 y))) (to_z-of_z w128 x x_fits ∙ x_is) ∙ ap (op m) (to_z-of_z w128 y y_fits ∙ y_is)

  pub made_fits : FitsSigned w128 (op (to_z w128 (of_z w128 x)) (to_z w128 (of_z w128 y)))
  made_fits = subst (FitsSigned w128) (sym kept) fits

  pub made_is : to_z w128 (of_z w128 (op (to_z w128 (of_z w128 x)) (to_z w128 (of_z w128 y)))) ≡ op m n
  made_is = to_z-of_z w128 _ made_fits ∙ kept

pub value_of_add : (rows : List (List Value)) (e a b : Calc) (n : ℤ) → e ≡ calc.Add a b → n ≡ number_of (value_at rows a) +ℤ number_of (value_at rows b) → Int n ≡ value_at rows e
value_of_add rows e a b n e_is n_is = ap Int n_is ∙ sym (ap (value_at rows) (e_is ∙ Add-is a b))

pub value_of_sub : (rows : List (List Value)) (e a b : Calc) (n : ℤ) → e ≡ calc.Sub a b → n ≡ number_of (value_at rows a) -ℤ number_of (value_at rows b) → Int n ≡ value_at rows e
value_of_sub rows e a b n e_is n_is = ap Int n_is ∙ sym (ap (value_at rows) (e_is ∙ Sub-is a b))

pub value_of_mul : (rows : List (List Value)) (e a b : Calc) (n : ℤ) → e ≡ calc.Mul a b → n ≡ number_of (value_at rows a) *ℤ number_of (value_at rows b) → Int n ≡ value_at rows e
value_of_mul rows e a b n e_is n_is = ap Int n_is ∙ sym (ap (value_at rows) (e_is ∙ Mul-is a b))

-- ---- filters

-- how many connectives a filter has
abbrev pub connectives : Test → ℕ
connectives (tree.Not t) = connectives t + 1
connectives (tree.And s t) = connectives s + connectives t + 1
connectives (tree.Or s t) = connectives s + connectives t + 1
connectives _ = 0

-- what a call on a part asks
module _ (rows : List (List Value)) (t p : Test) (n : ℕ) (count : connectives t ≡ n) (near : IsNearTest rows t) where
  asks : (whole part : Test) → t ≡ whole → p ≡ part → connectives part < connectives whole → IsNearTest rows part → (connectives p < n) × IsNearTest rows p
  asks whole part t_is p_is smaller small = (subst (λ q. connectives q < n) (sym p_is) (subst (λ m. connectives part < m) (sym (ap connectives t_is) ∙ count) smaller), subst (IsNearTest rows) (sym p_is) small)

  pub asks_not : (inner : Test) → t ≡ test.Not inner → p ≡ inner → (connectives p < n) × IsNearTest rows p
  asks_not inner t_is p_is = asks (tree.Not inner) inner (t_is ∙ Not-is inner) p_is (omega arith) (subst (IsNearTest rows) (t_is ∙ Not-is inner) near)

  pub asks_and_left : (left right : Test) → t ≡ test.And left right → p ≡ left → (connectives p < n) × IsNearTest rows p
  asks_and_left left right t_is p_is = asks (tree.And left right) left (t_is ∙ And-is left right) p_is (omega arith) (subst (IsNearTest rows) (t_is ∙ And-is left right) near).0

  pub asks_and_right : (left right : Test) → t ≡ test.And left right → p ≡ right → (connectives p < n) × IsNearTest rows p
  asks_and_right left right t_is p_is = asks (tree.And left right) right (t_is ∙ And-is left right) p_is (omega arith) (subst (IsNearTest rows) (t_is ∙ And-is left right) near).1

  pub asks_or_left : (left right : Test) → t ≡ test.Or left right → p ≡ left → (connectives p < n) × IsNearTest rows p
  asks_or_left left right t_is p_is = asks (tree.Or left right) left (t_is ∙ Or-is left right) p_is (omega arith) (subst (IsNearTest rows) (t_is ∙ Or-is left right) near).0

  pub asks_or_right : (left right : Test) → t ≡ test.Or left right → p ≡ right → (connectives p < n) × IsNearTest rows p
  asks_or_right left right t_is p_is = asks (tree.Or left right) right (t_is ∙ Or-is left right) p_is (omega arith) (subst (IsNearTest rows) (t_is ∙ Or-is left right) near).1

-- whether a combination satisfies a part, and the whole
module _ (rows : List (List Value)) (t : Test) where
  pub of_not : (p inner : Test) (b : Bool) → t ≡ test.Not inner → p ≡ inner → b ≡ satisfies p rows → not b ≡ satisfies t rows
  of_not p inner b t_is p_is b_is = ap not (b_is ∙ ap (λ q. satisfies q rows) p_is) ∙ sym (ap (λ q. satisfies q rows) (t_is ∙ Not-is inner))

  pub of_and : (p q left right : Test) (b c : Bool) → t ≡ test.And left right → p ≡ left → q ≡ right → b ≡ satisfies p rows → b ≡ true → c ≡ satisfies q rows → c ≡ satisfies t rows
  of_and p q left right b c t_is p_is q_is b_is holds c_is =
      let first : true ≡ satisfies left rows = sym holds ∙ b_is ∙ ap (λ r. satisfies r rows) p_is in
      c_is ∙ ap (λ r. satisfies r rows) q_is ∙ ap (λ d. d && satisfies right rows) first ∙ sym (ap (λ r. satisfies r rows) (t_is ∙ And-is left right))

  pub of_and_no : (p left right : Test) (b : Bool) → t ≡ test.And left right → p ≡ left → b ≡ satisfies p rows → b ≡ false → b ≡ satisfies t rows
  of_and_no p left right b t_is p_is b_is fails =
      let first : false ≡ satisfies left rows = sym fails ∙ b_is ∙ ap (λ r. satisfies r rows) p_is in
      fails ∙ ap (λ d. d && satisfies right rows) first ∙ sym (ap (λ r. satisfies r rows) (t_is ∙ And-is left right))

  pub of_or : (p q left right : Test) (b c : Bool) → t ≡ test.Or left right → p ≡ left → q ≡ right → b ≡ satisfies p rows → b ≡ false → c ≡ satisfies q rows → c ≡ satisfies t rows
  of_or p q left right b c t_is p_is q_is b_is fails c_is =
      let first : false ≡ satisfies left rows = sym fails ∙ b_is ∙ ap (λ r. satisfies r rows) p_is in
      c_is ∙ ap (λ r. satisfies r rows) q_is ∙ ap (λ d. d || satisfies right rows) first ∙ sym (ap (λ r. satisfies r rows) (t_is ∙ Or-is left right))

  pub of_or_yes : (p left right : Test) (b : Bool) → t ≡ test.Or left right → p ≡ left → b ≡ satisfies p rows → b ≡ true → b ≡ satisfies t rows
  of_or_yes p left right b t_is p_is b_is holds =
      let first : true ≡ satisfies left rows = sym holds ∙ b_is ∙ ap (λ r. satisfies r rows) p_is in
      holds ∙ ap (λ d. d || satisfies right rows) first ∙ sym (ap (λ r. satisfies r rows) (t_is ∙ Or-is left right))
