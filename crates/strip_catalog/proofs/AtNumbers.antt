-- What stands at a number of a list: behind which one more item stands, in which one item is another, and what a search finds.
use Rattle.std.proofs.Common.{◌≡◌, ℕ, zero, suc, ◌+◌, ◌⊎◌, inl, inr, Bool, true, false, ◌||◌, cond, List, [], ◌∷◌, ◌++◌, length, set, slice_get, Some, find, position, is_some, refl, ap, ◌∙◌, arith}
use Rattle.std.specs.List.{list_any, position_from}
use Rattle.std.proofs.lemmas.Iterator.Adapters.{position_from-zero}

module _ {A : Type 0} where
  -- ---- one more item

  -- what stands before others keeps its number
  pub get_before : (xs ys : List A) (n : ℕ) (x : A) → slice_get xs n ≡ Some x → slice_get (xs ++ ys) n ≡ Some x
  get_before [] ys n x e = cc
  get_before (y ∷ xs) ys zero x e = e
  get_before (y ∷ xs) ys (suc n) x e = get_before xs ys n x e

  -- the last item has the number of all before it
  pub get_last : (xs : List A) (y : A) → slice_get (xs ++ y ∷ []) (length xs) ≡ Some y
  get_last [] y = refl
  get_last (x ∷ xs) y = get_last xs y

  -- an item is one of those before, or the last one
  pub get_one_more : (xs : List A) (y : A) (n : ℕ) (x : A) → slice_get (xs ++ y ∷ []) n ≡ Some x → (slice_get xs n ≡ Some x) ⊎ ((n ≡ length xs) × (x ≡ y))
  get_one_more [] y zero x e = let same : x ≡ y = cc in inr (refl, same)
  get_one_more [] y (suc n) x e = cc
  get_one_more (z ∷ xs) y zero x e = inl e
  get_one_more (z ∷ xs) y (suc n) x e = behind (get_one_more xs y n x e)
    where
      behind : (slice_get xs n ≡ Some x) ⊎ ((n ≡ length xs) × (x ≡ y)) → (slice_get xs n ≡ Some x) ⊎ ((suc n ≡ suc (length xs)) × (x ≡ y))
      behind (inl before) = inl before
      behind (inr last) = inr (ap suc last.0, last.1)

  -- ---- one item is another

  pub get_set_other : (xs : List A) (k : ℕ) (y : A) (n : ℕ) (x : A) → slice_get xs n ≡ Some x → (n ≡ k → ⊥) → slice_get (set xs k y) n ≡ Some x
  get_set_other [] k y n x e other = cc
  get_set_other (z ∷ xs) zero y zero x e other = absurd (other refl)
  get_set_other (z ∷ xs) zero y (suc n) x e other = e
  get_set_other (z ∷ xs) (suc k) y zero x e other = e
  get_set_other (z ∷ xs) (suc k) y (suc n) x e other = get_set_other xs k y n x e (λ same. other (ap suc same))

  -- an item is as before, or the other one
  pub get_set : (xs : List A) (k : ℕ) (y : A) (n : ℕ) (x : A) → slice_get (set xs k y) n ≡ Some x → (slice_get xs n ≡ Some x) ⊎ ((n ≡ k) × (x ≡ y))
  get_set [] k y n x e = cc
  get_set (z ∷ xs) zero y zero x e = let same : x ≡ y = cc in inr (refl, same)
  get_set (z ∷ xs) zero y (suc n) x e = inl e
  get_set (z ∷ xs) (suc k) y zero x e = inl e
  get_set (z ∷ xs) (suc k) y (suc n) x e = behind (get_set xs k y n x e)
    where
      behind : (slice_get xs n ≡ Some x) ⊎ ((n ≡ k) × (x ≡ y)) → (slice_get xs n ≡ Some x) ⊎ ((suc n ≡ suc k) × (x ≡ y))
      behind (inl as_before) = inl as_before
      behind (inr is) = inr (ap suc is.0, is.1)

-- ---- what a search finds

module _ {A : Type 0} (p : A → Bool) where
  found_from : (xs : List A) (i : ℕ) (x : A) → find p xs ≡ Some x → (n : ℕ) × (position_from p i xs ≡ Some (i + n)) × (slice_get xs n ≡ Some x)
  found_from [] i x e = cc
  found_from (y ∷ ys) i x e = by_test (p y) e (found_from ys (i + 1) x)
    where
      by_test : (b : Bool) → cond b (Some y) (find p ys) ≡ Some x → (find p ys ≡ Some x → (n : ℕ) × (position_from p (i + 1) ys ≡ Some (i + 1 + n)) × (slice_get ys n ≡ Some x))
          → (n : ℕ) × (cond b (Some i) (position_from p (i + 1) ys) ≡ Some (i + n)) × (slice_get (y ∷ ys) n ≡ Some x)
      by_test true here rest = let none : i ≡ i + 0 = omega arith in (0, ap Some none, here)
      by_test false here rest =
          let at = rest here in
          let moved : i + 1 + at.0 ≡ i + suc at.0 = omega arith in
          (suc at.0, at.1 ∙ ap Some moved, at.2)

  -- it stands at the number that is found
  pub found_at : (xs : List A) (x : A) → find p xs ≡ Some x → (n : ℕ) × (position p xs ≡ Some n) × (slice_get xs n ≡ Some x)
  found_at xs x e =
      let at = found_from xs 0 x e in
      let from_none : 0 + at.0 ≡ at.0 = omega arith in
      (at.0, position_from-zero p xs ∙ at.1 ∙ ap Some from_none, at.2)

  -- what some item passes finds one
  pub some_found : (xs : List A) → list_any p xs ≡ true → is_some (find p xs) ≡ true
  some_found [] e = cc
  some_found (x ∷ xs) e = by_test (p x) e (some_found xs)
    where
      by_test : (b : Bool) → (b || list_any p xs) ≡ true → (list_any p xs ≡ true → is_some (find p xs) ≡ true) → is_some (cond b (Some x) (find p xs)) ≡ true
      by_test true found rest = refl
      by_test false found rest = rest found
