-- Rows have one order: what `in_order` gives is sorted, has each row as often as it occurs, and is the only such list.
use Rattle.std.proofs.Common.{◌≡◌, ℕ, zero, suc, ◌+◌, ◌<◌, Bool, true, false, true≢false, cond, List, [], ◌∷◌, ◌++◌, refl, sym, ap, ap₂, ◌∙◌, subst, arith, sum_by}
use Rattle.std.specs.List.{AllByRecursion}
use Rattle.std.specs.List.Sorted.{IsSorted, IsPermutation}
use Rattle.std.specs.declared.cmp.Ordering.{Ordering}
use Rattle.std.specs.declared.cmp.Ordering.TheVariants.{Less, Equal, Greater}
use Rattle.std.specs.Ordering.{is_eq, is_lt, is_gt, ordering_reverse}
use Rattle.std.specs.Cmp.{IsTotalOrder, tied_itself, upto}
use Rattle.std.proofs.lemmas.List.Sums.{sum_by-cons}
use Rattle.std.proofs.lemmas.List.Sorted.{IsPermutation-refl, IsPermutation-sym, IsPermutation-cons, IsPermutation-trans, IsPermutation-middle, sum_by-IsPermutation}
use Rattle.strip_value.specs.declared.values.Value.{Value}
use Rattle.strip_value.specs.Order.{row_cmp, row_cmp_total}
use Rattle.strip_value.specs.Table.{put_between}
use Rattle.strip_value.specs.Query.{put_in_order, in_order}
use Rattle.strip_value.proofs.Orders.{row_cmp_equal}

-- what holds of each element still holds where it is weakened
all_weaker : {X : Type 0} (P Q : X → Type 0) → ((x : X) → P x → Q x) → (xs : List X) → AllByRecursion P xs → AllByRecursion Q xs
all_weaker P Q weaker [] all = tt
all_weaker P Q weaker (x ∷ xs) all = (weaker x all.0, all_weaker P Q weaker xs all.1)

-- not less one way is not greater the other way
turned : (o : Ordering) → is_lt o ≡ false → is_gt (ordering_reverse o) ≡ false
turned Less no_less = no_less
turned Equal no_less = refl
turned Greater no_less = refl

turned_back : (o : Ordering) → is_gt o ≡ false → is_lt (ordering_reverse o) ≡ false
turned_back Less no_greater = refl
turned_back Equal no_greater = refl
turned_back Greater no_greater = no_greater

level : (a b : Ordering) → a ≡ ordering_reverse b → is_gt a ≡ false → is_gt b ≡ false → a ≡ Equal
level Less Less same p q = cc
level Less Equal same p q = cc
level Less Greater same p q = absurd (true≢false q)
level Equal b same p q = refl
level Greater b same p q = absurd (true≢false p)

module _ {X : Type 0} (cmp : X → X → Ordering) (total : IsTotalOrder cmp) where
  abbrev pub AtMost : X → X → Type 0
  AtMost a b = is_gt (cmp a b) ≡ false

  abbrev pub Ascends : List X → Type 0
  Ascends [] = Unit {0}
  Ascends (x ∷ xs) = AllByRecursion (AtMost x) xs × Ascends xs

  below_all : (x : X) (ys : List X) → IsSorted cmp (x ∷ ys) → Ascends ys → AllByRecursion (AtMost x) ys
  below_all x [] sorted up = tt
  below_all x (y ∷ ys) sorted up =
      let first : AtMost x y = ap is_gt (total.antisymm x y) ∙ turned _ (sorted 0 x (omega arith) (omega arith)) in
      (first, all_weaker (AtMost y) (AtMost x) (λ z. upto total x y z first) ys up.0)

  ascends_from_sorted : (xs : List X) → IsSorted cmp xs → Ascends xs
  ascends_from_sorted [] sorted = tt
  ascends_from_sorted (x ∷ xs) sorted =
      let tail : IsSorted cmp xs = λ k d p q. rw Rattle.std.proofs.Common.add-one (rw Rattle.std.proofs.Common.add-one at (sorted (suc k) d (omega arith) (omega arith))) in
      let up = ascends_from_sorted xs tail in
      (below_all x xs sorted up, up)

  sorted_from_ascends : (xs : List X) → Ascends xs → IsSorted cmp xs
  sorted_from_ascends [] up k d a b = absurd (omega (arith, b))
  sorted_from_ascends (x ∷ []) up k d a b = absurd (omega (arith, b))
  sorted_from_ascends (x ∷ y ∷ ys) up zero d a b = ap is_lt (total.antisymm y x) ∙ turned_back (cmp x y) up.0.0
  sorted_from_ascends (x ∷ y ∷ ys) up (suc k) d a b =
      let e : suc k + 1 ≡ suc (k + 1) = omega arith in
      rw e (sorted_from_ascends (y ∷ ys) up.1 k d (omega arith) (omega (arith, b)))

module _ {X : Type 0} (cmp : X → X → Ordering) (total : IsTotalOrder cmp) (exact : (x y : X) → cmp x y ≡ Equal → x ≡ y) where
  -- 1 where the two are one
  abbrev ties : X → X → ℕ
  ties x z = cond (is_eq (cmp x z)) 1 0

  itself : (x : X) → AtMost cmp total x x
  itself x = ap is_gt (tied_itself total x)

  own : (x : X) (xs : List X) → 0 < sum_by (ties x) (x ∷ xs)
  own x xs =
      let one : ties x x ≡ 1 = ap (λ o. cond (is_eq o) 1 0) (tied_itself total x) in
      omega (arith, one, sum_by-cons (ties x) x xs)

  low_case : (y x z : X) (others : ℕ) (o : Ordering) → cmp x z ≡ o → AtMost cmp total y z → (0 < others → AtMost cmp total y x) → 0 < cond (is_eq o) 1 0 + others → AtMost cmp total y x
  low_case y x z others Less e here more some = more (omega (arith, some))
  low_case y x z others Equal e here more some = subst (λ v. AtMost cmp total y v) (sym (exact x z e)) here
  low_case y x z others Greater e here more some = more (omega (arith, some))

  -- what is at most each element of a list is at most x, if x is in the list
  low : (y x : X) (ys : List X) → AllByRecursion (AtMost cmp total y) ys → 0 < sum_by (ties x) ys → AtMost cmp total y x
  low y x [] all some = absurd (omega (arith, some))
  low y x (z ∷ zs) all some =
      low_case y x z (sum_by (ties x) zs) (cmp x z) refl all.0 (λ more. low y x zs all.1 more) (subst (λ n. 0 < n) (sum_by-cons (ties x) z zs) some)

  -- two ascending lists in which everything is found equally often are one
  one_order : (xs ys : List X) → Ascends cmp total xs → Ascends cmp total ys → ((f : X → ℕ) → sum_by f xs ≡ sum_by f ys) → xs ≡ ys
  one_order [] [] up vp same = refl
  one_order [] (y ∷ ys) up vp same = absurd (omega (arith, same (λ v. 1), sum_by-cons (λ (v : X). 1) y ys))
  one_order (x ∷ xs) [] up vp same = absurd (omega (arith, same (λ v. 1), sum_by-cons (λ (v : X). 1) x xs))
  one_order (x ∷ xs) (y ∷ ys) up vp same =
      let x_there : 0 < sum_by (ties x) (y ∷ ys) = subst (λ n. 0 < n) (same (ties x)) (own x xs) in
      let y_there : 0 < sum_by (ties y) (x ∷ xs) = subst (λ n. 0 < n) (sym (same (ties y))) (own y ys) in
      let x_first : AtMost cmp total x y = low x y (x ∷ xs) (itself x, up.0) y_there in
      let y_first : AtMost cmp total y x = low y x (y ∷ ys) (itself y, vp.0) x_there in
      let first : x ≡ y = exact x y (level (cmp x y) (cmp y x) (total.antisymm x y) x_first y_first) in
      let others : (f : X → ℕ) → sum_by f xs ≡ sum_by f ys = λ f. omega (arith, same f, sum_by-cons f x xs, sum_by-cons f y ys, ap f first) in
      ap₂ (λ a b. a ∷ b) first (one_order xs ys up.1 vp.1 others)

-- ---- rows

abbrev Row : Type 0
Row = List Value

put_all : (low row : Row) (rows : List Row) → AtMost row_cmp row_cmp_total low row → AllByRecursion (AtMost row_cmp row_cmp_total low) rows → AllByRecursion (AtMost row_cmp row_cmp_total low) (put_in_order row rows)
put_all low row [] p all = (p, tt)
put_all low row (z ∷ zs) p all = go (row_cmp row z) (put_all low row zs p all.1)
  where
    go : (o : Ordering) → AllByRecursion (AtMost row_cmp row_cmp_total low) (put_in_order row zs) → AllByRecursion (AtMost row_cmp row_cmp_total low) (put_between o row z zs (put_in_order row zs))
    go Less more = (p, all)
    go Equal more = (p, all)
    go Greater more = (all.0, more)

put_ascends : (row : Row) (rows : List Row) → Ascends row_cmp row_cmp_total rows → Ascends row_cmp row_cmp_total (put_in_order row rows)
put_ascends row [] up = (tt, tt)
put_ascends row (z ∷ zs) up = go (row_cmp row z) refl (put_ascends row zs up.1)
  where
    before : AtMost row_cmp row_cmp_total row z → Ascends row_cmp row_cmp_total (row ∷ z ∷ zs)
    before p = ((p, all_weaker (AtMost row_cmp row_cmp_total z) (AtMost row_cmp row_cmp_total row) (λ v. upto row_cmp_total row z v p) zs up.0), up)

    go : (o : Ordering) → row_cmp row z ≡ o → Ascends row_cmp row_cmp_total (put_in_order row zs) → Ascends row_cmp row_cmp_total (put_between o row z zs (put_in_order row zs))
    go Less e more = before (ap is_gt e)
    go Equal e more = before (ap is_gt e)
    go Greater e more = (put_all z row zs (ap is_gt (row_cmp_total.antisymm z row ∙ ap ordering_reverse e)) up.0, more)

in_order_ascends : (rows : List Row) → Ascends row_cmp row_cmp_total (in_order rows)
in_order_ascends [] = tt
in_order_ascends (row ∷ rows) = put_ascends row (in_order rows) (in_order_ascends rows)

put_permutes : (row : Row) (rows : List Row) → IsPermutation (row ∷ rows) (put_in_order row rows)
put_permutes row [] = IsPermutation-refl (row ∷ [])
put_permutes row (z ∷ zs) = go (row_cmp row z) (put_permutes row zs)
  where
    go : (o : Ordering) → IsPermutation (row ∷ zs) (put_in_order row zs) → IsPermutation (row ∷ z ∷ zs) (put_between o row z zs (put_in_order row zs))
    go Less more = IsPermutation-refl (row ∷ z ∷ zs)
    go Equal more = IsPermutation-refl (row ∷ z ∷ zs)
    go Greater more =
        IsPermutation-trans (row ∷ z ∷ zs) (z ∷ row ∷ zs) (z ∷ put_in_order row zs)
        (IsPermutation-sym (z ∷ row ∷ zs) (row ∷ z ∷ zs) (IsPermutation-middle (z ∷ []) row zs))
        (IsPermutation-cons z (row ∷ zs) (put_in_order row zs) more)

-- the rows are those that were given
pub in_order_permutes : (rows : List Row) → IsPermutation rows (in_order rows)
in_order_permutes [] = IsPermutation-refl []
in_order_permutes (row ∷ rows) =
    IsPermutation-trans (row ∷ rows) (row ∷ in_order rows) (put_in_order row (in_order rows))
    (IsPermutation-cons row rows (in_order rows) (in_order_permutes rows)) (put_permutes row (in_order rows))

-- they are sorted
pub in_order_sorted : (rows : List Row) → IsSorted row_cmp (in_order rows)
in_order_sorted rows = sorted_from_ascends row_cmp row_cmp_total (in_order rows) (in_order_ascends rows)

-- and nothing else is both
pub in_order_only : (rows other : List Row) → IsPermutation rows other → IsSorted row_cmp other → other ≡ in_order rows
in_order_only rows other same sorted =
    one_order row_cmp row_cmp_total row_cmp_equal other (in_order rows)
    (ascends_from_sorted row_cmp row_cmp_total other sorted) (in_order_ascends rows)
    (λ f. sum_by-IsPermutation f rows other same ∙ sym (sum_by-IsPermutation f rows (in_order rows) (in_order_permutes rows)))
