-- Rows each once, with one more at the end.
use Rattle.std.proofs.Common.{◌≡◌, ℕ, ◌+◌, ◌<◌, Bool, true, false, not, cond, nat_eq, List, [], ◌∷◌, ◌++◌, map, filter, sum_by, refl, sym, ap, ◌∙◌, arith}
use Rattle.std.specs.declared.cmp.Ordering.{Ordering}
use Rattle.std.specs.declared.cmp.Ordering.TheVariants.{Less, Equal, Greater}
use Rattle.std.specs.Ordering.{is_eq}
use Rattle.std.proofs.lemmas.Bool.Decides.{nat_tests}
use Rattle.std.proofs.lemmas.List.Elements.{filter-append}
use Rattle.std.proofs.lemmas.List.Sums.{sum_by-cons}
use Rattle.strip_value.specs.declared.values.Value.{Value}
use Rattle.strip_value.specs.declared.queries.Place.{Place}
use Rattle.strip_value.specs.Order.{row_cmp}
use Rattle.strip_value.specs.Query.{distinct, group_key, group_of}
use Rattle.strip_value.proofs.Orders.{row_cmp_equal}
use Rattle.strip_value.proofs.KeyedLaws.{flipped, row_cmp_itself}

-- 1 where the two are one
abbrev pub ties : List Value → List Value → ℕ
ties row other = cond (is_eq (row_cmp row other)) 1 0

-- how often a list has the row
abbrev pub times : List Value → List (List Value) → ℕ
times row rows = sum_by (ties row) rows

-- it's another row
abbrev other : List Value → List Value → Bool
other row one = not (is_eq (row_cmp row one))

pub ties_itself : (row : List Value) → ties row row ≡ 1
ties_itself row = ap (λ o. cond (is_eq o) 1 0) (row_cmp_itself row)

-- being one goes both ways
pub either_way : (a b : List Value) → is_eq (row_cmp a b) ≡ is_eq (row_cmp b a)
either_way a b = by_order (row_cmp a b) refl
  where
    by_order : (o : Ordering) → row_cmp a b ≡ o → is_eq (row_cmp a b) ≡ is_eq (row_cmp b a)
    by_order Less e = ap is_eq e ∙ sym (ap is_eq (flipped a b Less e))
    by_order Equal e = ap is_eq e ∙ sym (ap is_eq (flipped a b Equal e))
    by_order Greater e = ap is_eq e ∙ sym (ap is_eq (flipped a b Greater e))

-- taking another row out leaves the row as often
times_without : (row one : List Value) (rows : List (List Value)) → ties row one ≡ 0 → times row (filter (other one) rows) ≡ times row rows
times_without row one [] apart = refl
times_without row one (r ∷ rows) apart = by_order (row_cmp one r) refl (times_without row one rows apart)
  where
    by_order : (o : Ordering) → row_cmp one r ≡ o → times row (filter (other one) rows) ≡ times row rows → times row (cond (not (is_eq o)) (r ∷ filter (other one) rows) (filter (other one) rows)) ≡ times row (r ∷ rows)
    by_order Less e rest = omega (arith, sum_by-cons (ties row) r (filter (other one) rows), sum_by-cons (ties row) r rows)
    by_order Greater e rest = omega (arith, sum_by-cons (ties row) r (filter (other one) rows), sum_by-cons (ties row) r rows)
    by_order Equal e rest =
        let none : ties row r ≡ 0 = sym (ap (ties row) (row_cmp_equal one r e)) ∙ apart in
        omega (arith, sum_by-cons (ties row) r rows)

-- the row, if the list hasn't got it
abbrev pub if_new : List Value → List (List Value) → List (List Value)
if_new row rows = cond (nat_eq (times row rows) 0) (row ∷ []) []

not_none : (n : ℕ) → 0 < n → nat_eq n 0 ≡ false
not_none n some = grind (arith, nat_tests)

pub is_old : (row : List Value) (rows : List (List Value)) → 0 < times row rows → if_new row rows ≡ []
is_old row rows some = ap (λ b. cond b (row ∷ []) []) (not_none (times row rows) some)

pub is_new : (row : List Value) (rows : List (List Value)) → times row rows ≡ 0 → if_new row rows ≡ row ∷ []
is_new row rows none = ap (λ n. cond (nat_eq n 0) (row ∷ []) []) none

pub distinct_more : (rows : List (List Value)) (row : List Value) → distinct (rows ++ row ∷ []) ≡ distinct rows ++ if_new row (distinct rows)
distinct_more [] row = refl
distinct_more (r ∷ rows) row =
    ap (λ ds. r ∷ filter (other r) ds) (distinct_more rows row) ∙ ap (λ ds. r ∷ ds)
    (filter-append (other r) (distinct rows) (if_new row (distinct rows)) ∙ ap (λ ds. filter (other r) (distinct rows) ++ ds) (by_order (row_cmp r row) refl))
  where
    kept : (b : Bool) → other r row ≡ true → filter (other r) (cond b (row ∷ []) []) ≡ cond b (row ∷ []) []
    kept true apart = ap (λ t. cond t (row ∷ []) []) apart
    kept false apart = refl

    gone : (b : Bool) → other r row ≡ false → filter (other r) (cond b (row ∷ []) []) ≡ []
    gone true same = ap (λ t. cond t (row ∷ []) []) same
    gone false same = refl

    as_often : ties row r ≡ 0 → times row (distinct rows) ≡ times row (r ∷ filter (other r) (distinct rows))
    as_often apart = omega (arith, times_without row r (distinct rows) apart, sum_by-cons (ties row) r (filter (other r) (distinct rows)))

    once_more : ties row r ≡ 1 → 0 < times row (r ∷ filter (other r) (distinct rows))
    once_more same = omega (arith, sum_by-cons (ties row) r (filter (other r) (distinct rows)))

    by_order : (o : Ordering) → row_cmp r row ≡ o → filter (other r) (if_new row (distinct rows)) ≡ if_new row (r ∷ filter (other r) (distinct rows))
    by_order Less e = kept (nat_eq (times row (distinct rows)) 0) (ap (λ o. not (is_eq o)) e) ∙ ap (λ n. cond (nat_eq n 0) (row ∷ []) []) (as_often (ap (λ o. cond (is_eq o) 1 0) (flipped r row Less e)))
    by_order Greater e = kept (nat_eq (times row (distinct rows)) 0) (ap (λ o. not (is_eq o)) e) ∙ ap (λ n. cond (nat_eq n 0) (row ∷ []) []) (as_often (ap (λ o. cond (is_eq o) 1 0) (flipped r row Greater e)))
    by_order Equal e = gone (nat_eq (times row (distinct rows)) 0) (ap (λ o. not (is_eq o)) e) ∙ sym (is_old row (r ∷ filter (other r) (distinct rows)) (once_more (ap (λ o. cond (is_eq o) 1 0) (flipped r row Equal e))))

-- where no key is the row, no combination is of its group
pub none_of : (places : List Place) (all : List (List (List Value))) (key : List Value) → times key (distinct (map (group_key places) all)) ≡ 0 → group_of places all key ≡ []
none_of places [] key none = refl
none_of places (rows ∷ all) key none =
    by_order (row_cmp key (group_key places rows)) refl
    (λ apart. none_of places all key (omega (arith, count, times_without key (group_key places rows) (distinct (map (group_key places) all)) apart)))
  where
    count : ties key (group_key places rows) + times key (filter (other (group_key places rows)) (distinct (map (group_key places) all))) ≡ 0
    count = omega (arith, none, sum_by-cons (ties key) (group_key places rows) (filter (other (group_key places rows)) (distinct (map (group_key places) all))))

    by_order : (o : Ordering) → row_cmp key (group_key places rows) ≡ o → (ties key (group_key places rows) ≡ 0 → group_of places all key ≡ []) → group_of places (rows ∷ all) key ≡ []
    by_order Less e rest = ap (λ b. cond b (rows ∷ group_of places all key) (group_of places all key)) (ap is_eq (flipped key (group_key places rows) Less e)) ∙ rest (ap (λ o. cond (is_eq o) 1 0) e)
    by_order Greater e rest = ap (λ b. cond b (rows ∷ group_of places all key) (group_of places all key)) (ap is_eq (flipped key (group_key places rows) Greater e)) ∙ rest (ap (λ o. cond (is_eq o) 1 0) e)
    by_order Equal e rest = let one : ties key (group_key places rows) ≡ 1 = ap (λ o. cond (is_eq o) 1 0) e in absurd (omega (arith, count))
