-- Numbers added up over all passes, and how often a caller number is given out.
use Rattle.std.proofs.Common.{◌≡◌, ◌≢◌, ℕ, zero, suc, ◌+◌, ◌<◌, ◌≤◌, List, [], ◌∷◌, ◌++◌, set, sym, refl, ap, ◌∙◌, arith}
use mathlib.Core.Option.{some, some-injective, some-ne-none}
use lib.ListN.{get_elem?}
use Rattle.std.proofs.lemmas.Bool.Decides.{nat_tests}
use Rattle.strip_gate.specs.Rule.{total, same, below}

module _ {A : Type 0} where
  pub put_here : (l : List A) (i : ℕ) (v w : A) → get_elem? l i ≡ some v → get_elem? (set l i w) i ≡ some w
  put_here [] i v w e = absurd (some-ne-none v (sym e))
  put_here (x ∷ xs) zero v w e = refl
  put_here (x ∷ xs) (suc i) v w e = put_here xs i v w e

  pub one_value : (l : List A) (i j : ℕ) (v w : A) → get_elem? l i ≡ some v → get_elem? l j ≡ some w → i ≡ j → v ≡ w
  one_value l i j v w a b e = some-injective v w (sym a ∙ (ap (get_elem? l) e ∙ b))

module _ {A : Type 0} (f : A → ℕ) where
  pub sum_set : (l : List A) (i : ℕ) (v w : A) → get_elem? l i ≡ some v → total f (set l i w) + f v ≡ total f l + f w
  sum_set [] i v w e = absurd (some-ne-none v (sym e))
  sum_set (x ∷ xs) zero v w e = let is : f x ≡ f v = ap f (some-injective x v e) in omega arith
  sum_set (x ∷ xs) (suc i) v w e = let r = sum_set xs i v w e in omega arith

  pub sum_push : (l : List A) (v : A) → total f (l ++ v ∷ []) ≡ total f l + f v
  sum_push [] v = omega arith
  sum_push (x ∷ xs) v = let r = sum_push xs v in omega arith

  pub sum_at : (l : List A) (i : ℕ) (v : A) → get_elem? l i ≡ some v → f v ≤ total f l
  sum_at [] i v e = absurd (some-ne-none v (sym e))
  sum_at (x ∷ xs) zero v e = let is : f x ≡ f v = ap f (some-injective x v e) in omega arith
  sum_at (x ∷ xs) (suc i) v e = let r = sum_at xs i v e in omega arith

  pub sum_two : (l : List A) (i j : ℕ) (v w : A) → i ≢ j → get_elem? l i ≡ some v → get_elem? l j ≡ some w → f v + f w ≤ total f l
  sum_two [] i j v w ne a b = absurd (some-ne-none v (sym a))
  sum_two (x ∷ xs) zero zero v w ne a b = absurd (ne refl)
  sum_two (x ∷ xs) zero (suc j) v w ne a b = let is : f x ≡ f v = ap f (some-injective x v a) in let r = sum_at xs j w b in omega arith
  sum_two (x ∷ xs) (suc i) zero v w ne a b = let is : f x ≡ f w = ap f (some-injective x w b) in let r = sum_at xs i v a in omega arith
  sum_two (x ∷ xs) (suc i) (suc j) v w ne a b = let r = sum_two xs i j v w (λ e. ne (ap suc e)) a b in omega arith

  pub sum_zero : (l : List A) → ((i : ℕ) (v : A) → get_elem? l i ≡ some v → f v ≡ 0) → total f l ≡ 0
  sum_zero [] h = refl
  sum_zero (x ∷ xs) h = let here : f x ≡ 0 = h 0 x refl in let r = sum_zero xs (λ i v e. h (suc i) v e) in omega arith

  -- where all others count nothing
  pub sum_only : (l : List A) (i : ℕ) (v : A) → get_elem? l i ≡ some v → ((j : ℕ) (w : A) → j ≢ i → get_elem? l j ≡ some w → f w ≡ 0) → total f l ≡ f v
  sum_only [] i v e h = absurd (some-ne-none v (sym e))
  sum_only (x ∷ xs) zero v e h =
      let is : f x ≡ f v = ap f (some-injective x v e) in
      let r = sum_zero xs (λ j w a. h (suc j) w (λ z. absurd (omega arith)) a) in
      omega arith
  sum_only (x ∷ xs) (suc i) v e h =
      let here : f x ≡ 0 = h 0 x (λ z. absurd (omega arith)) refl in
      let r = sum_only xs i v e (λ j w ne a. h (suc j) w (λ z. ne (omega arith)) a) in
      omega arith

  pub sum_le : (g : A → ℕ) (l : List A) → ((i : ℕ) (v : A) → get_elem? l i ≡ some v → f v ≤ g v) → total f l ≤ total g l
  sum_le g [] h = omega arith
  sum_le g (x ∷ xs) h = let here : f x ≤ g x = h 0 x refl in let r = sum_le g xs (λ i v e. h (suc i) v e) in omega arith

pub zero_or : (n : ℕ) → (0 < n → ⊥) → n ≡ 0
zero_or zero h = refl
zero_or (suc n) h = absurd (h (omega arith))

pub same_is : (c d : ℕ) → d ≡ c → same c d ≡ 1
same_is c d e = grind (arith, nat_tests)

pub same_not : (c d : ℕ) → d ≢ c → same c d ≡ 0
same_not c d ne = grind (arith, nat_tests)

pub below_is : (c n : ℕ) → c < n → below c n ≡ 1
below_is c n h = grind (arith, nat_tests)

pub below_not : (c n : ℕ) → n ≤ c → below c n ≡ 0
below_not c n h = grind (arith, nat_tests)
