-- What a binary search among a bag's entries finds, and what an edit at that place makes of the bag.
use Rattle.std.proofs.Common.{◌≡◌, ◌≢◌, ℕ, suc, zero, ◌+◌, ◌<◌, ◌≤◌, cond, List, [], ◌∷◌, ◌++◌, length, get_or, set, take, drop, Result, Ok, Err, IfOk, IfErr, refl, sym, ap, ◌∙◌, subst, arith, length-take}
use Rattle.std.specs.Prelude.{ℤ, pos, ◌+ℤ◌}
use Rattle.std.specs.List.{AllByRecursion, AllWithin, insert, remove}
use Rattle.std.specs.List.Sorted.{IsSearchInRange, IsBinarySearchResult, IsNonDecreasingBy}
use Rattle.std.specs.declared.cmp.Ordering.{Ordering}
use Rattle.std.specs.declared.cmp.Ordering.TheVariants.{Less, Equal, Greater}
use Rattle.std.specs.Ordering.{ordering_index, int_eq}
use Rattle.std.proofs.Math.Seq.{split_at, take-append_seam, drop-append_seam}
use Rattle.std.proofs.lemmas.List.{get_or-take, get_or-drop, take-append-drop, length-drop, map-append}
use Rattle.std.proofs.lemmas.List.Elements.{recursion_from_All}
use Rattle.strip_value.specs.declared.values.Value.{Value}
use Rattle.strip_value.specs.Order.{row_cmp, row_cmp_total}
use Rattle.strip_value.specs.Bag.{Counted, IsLower, IsBag, count_in, counted_row, added}
use Rattle.strip_value.proofs.Orders.{row_cmp_equal}
use Rattle.strip_value.proofs.Lists.{all_at}
use Rattle.strip_value.proofs.KeyedLaws.{flipped}
use Rattle.strip_bag.specs.declared.bag.Entry.{Entry}
use Rattle.strip_bag.specs.Entries.{as_counted, counted, IsEntryAt, IsEntryGap}
use Rattle.strip_bag.proofs.BagLaws.{not_zero_test, below_row, added_at, added_between, count_behind, count_above, count_at}

at_most_two : (o : Ordering) → ordering_index o ≤ 2
at_most_two Less = omega arith
at_most_two Equal = omega arith
at_most_two Greater = omega arith

-- a lower row compares no higher
index_of_lower : (low high row : List Value) (o : Ordering) → row_cmp high row ≡ o → row_cmp low high ≡ Less → ordering_index (row_cmp low row) ≤ ordering_index (row_cmp high row)
index_of_lower low high row Less e below =
    let low_less = ap ordering_index (row_cmp_total.trans low high row below e) in
    let high_less = ap ordering_index e in
    omega arith
index_of_lower low high row Equal e below =
    let low_less = ap ordering_index (sym (ap (row_cmp low) (row_cmp_equal high row e)) ∙ below) in
    let high_equal = ap ordering_index e in
    omega arith
index_of_lower low high row Greater e below =
    let most = at_most_two (row_cmp low row) in
    let high_greater = ap ordering_index e in
    omega arith

abbrev none : Entry
none = record { row = []; count = pos 0 }

module _ (row : List Value) where
  abbrev order : Entry → Ordering
  order e = row_cmp e.row row

  lower_of : (e : Entry) (es : List Entry) → AllByRecursion (IsLower (as_counted e)) (counted es) → AllByRecursion (λ d. row_cmp e.row d.row ≡ Less) es
  lower_of e [] all = tt
  lower_of e (d ∷ ds) all = (all.0, lower_of e ds all.1)

  comparisons_rise : (es : List Entry) → IsBag (counted es) → IsNonDecreasingBy (λ e. ordering_index (order e)) es
  comparisons_rise [] bag i j d le lt = absurd (omega arith)
  comparisons_rise (e ∷ es) bag zero zero d le lt = omega arith
  comparisons_rise (e ∷ es) bag zero (suc j) d le lt =
      let below = all_at (λ d. row_cmp e.row d.row ≡ Less) es j d (lower_of e es bag.1) (omega arith) in
      index_of_lower e.row (get_or es j d).row row (order (get_or es j d)) refl below
  comparisons_rise (e ∷ es) bag (suc i) zero d le lt = absurd (omega arith)
  comparisons_rise (e ∷ es) bag (suc i) (suc j) d le lt = comparisons_rise es bag.2 i j d (omega arith) (omega arith)

  pub searched_found : (es : List Entry) (r : Result ℕ ℕ) → IsSearchInRange r (length es) → IsBinarySearchResult order es r → IfOk r (IsEntryAt es row)
  searched_found es (Ok at) in_range answer = record {
    front = take at es;
    entry = get_or es at none;
    back = drop (suc at) es;
    split = split_at es at none in_range;
    place = let lt : at < length es = in_range in omega (arith, length-take at es);
    has_row = row_cmp_equal (get_or es at none).row row (answer none);
  }
  searched_found es (Err at) in_range answer = tt

  gap : (es : List Entry) (at : ℕ) → at ≤ length es → AllWithin (λ e. order e ≡ Less) es 0 at → AllWithin (λ e. order e ≡ Greater) es at (length es) → IsEntryGap es row at
  gap es at le below above = record {
    front = take at es;
    back = drop at es;
    split = sym (take-append-drop at es);
    place = omega (arith, length-take at es);
    below = recursion_from_All (λ e. order e ≡ Less) (take at es) (λ k d lt.
        let within : k < at = omega (arith, length-take at es) in
        subst (λ e. order e ≡ Less) (sym (get_or-take at es k d within)) (below k d (omega arith) within));
    above = recursion_from_All (λ e. order e ≡ Greater) (drop at es) (λ k d lt.
        let within : at + k < length es = omega (arith, length-drop at es) in
        subst (λ e. order e ≡ Greater) (sym (get_or-drop at es k d)) (above (at + k) d (omega arith) within));
  }

  pub searched_gap : (es : List Entry) (r : Result ℕ ℕ) → IsBag (counted es) → IsSearchInRange r (length es) → IsBinarySearchResult order es r → IfErr r (IsEntryGap es row)
  searched_gap es (Ok at) bag in_range answer = tt
  searched_gap es (Err at) bag in_range answer =
      let parts = answer (comparisons_rise es bag) in
      gap es at in_range parts.0 parts.1

-- edits of a list that is split at a place
get_middle : {A : Type 0} (front : List A) (x : A) (back : List A) (at : ℕ) (d : A) → length front ≡ at → get_or (front ++ x ∷ back) at d ≡ x
get_middle [] x back zero d e = refl
get_middle [] x back (suc at) d e = absurd (omega arith)
get_middle (f ∷ front) x back zero d e = absurd (omega arith)
get_middle (f ∷ front) x back (suc at) d e = get_middle front x back at d (omega arith)

set_middle : {A : Type 0} (front : List A) (x : A) (back : List A) (at : ℕ) (y : A) → length front ≡ at → set (front ++ x ∷ back) at y ≡ front ++ y ∷ back
set_middle [] x back zero y e = refl
set_middle [] x back (suc at) y e = absurd (omega arith)
set_middle (f ∷ front) x back zero y e = absurd (omega arith)
set_middle (f ∷ front) x back (suc at) y e = ap (λ xs. f ∷ xs) (set_middle front x back at y (omega arith))

take_front : {A : Type 0} (front back : List A) (at : ℕ) → length front ≡ at → take at (front ++ back) ≡ front
take_front front back at e = subst (λ n. take n (front ++ back) ≡ front) e (take-append_seam front back)

drop_front : {A : Type 0} (front back : List A) (at : ℕ) → length front ≡ at → drop at (front ++ back) ≡ back
drop_front front back at e = subst (λ n. drop n (front ++ back) ≡ back) e (drop-append_seam front back)

drop_middle : {A : Type 0} (front : List A) (x : A) (back : List A) (at : ℕ) → length front ≡ at → drop (suc at) (front ++ x ∷ back) ≡ back
drop_middle [] x back zero e = refl
drop_middle [] x back (suc at) e = absurd (omega arith)
drop_middle (f ∷ front) x back zero e = absurd (omega arith)
drop_middle (f ∷ front) x back (suc at) e = drop_middle front x back at (omega arith)

-- the row with its count, where the count isn't zero and where it is
row_of : (row : List Value) (n : ℤ) (cs : List Counted) → n ≢ pos 0 → counted_row row n ++ cs ≡ record { row = row; count = n } ∷ cs
row_of row n cs ne = ap (λ b. cond b [] (record { row = row; count = n } ∷ []) ++ cs) (not_zero_test n ne)

no_row : (row : List Value) (n : ℤ) (cs : List Counted) → n ≡ pos 0 → counted_row row n ++ cs ≡ cs
no_row row n cs none = ap (λ m. cond (int_eq m (pos 0)) [] (record { row = row; count = m } ∷ []) ++ cs) none

below_of : (row : List Value) (es : List Entry) → AllByRecursion (λ e. row_cmp e.row row ≡ Less) es → AllByRecursion (λ c. row_cmp c.row row ≡ Less) (counted es)
below_of row [] all = tt
below_of row (e ∷ es) all = (all.0, below_of row es all.1)

above_of : (row : List Value) (es : List Entry) → AllByRecursion (λ e. row_cmp e.row row ≡ Greater) es → AllByRecursion (λ c. row_cmp row c.row ≡ Less) (counted es)
above_of row [] all = tt
above_of row (e ∷ es) all = (flipped e.row row Greater all.0, above_of row es all.1)

-- an entry that was found: its count, and the bag with the count raised, the entry kept or removed
pub record EntryFound (entries : List Entry) (row : List Value) (at : ℕ) : Type 0 where
  pub count : (d : Entry) → count_in (counted entries) row ≡ (get_or entries at d).count
  pub kept : (n : ℤ) (d new : Entry) → new.row ≡ (get_or entries at d).row → new.count ≡ (get_or entries at d).count +ℤ n → new.count ≢ pos 0 → counted (set entries at new) ≡ added (counted entries) row n
  pub gone : (n : ℤ) (d : Entry) → (get_or entries at d).count +ℤ n ≡ pos 0 → counted (remove entries at) ≡ added (counted entries) row n

pub entry_found : (entries : List Entry) (row : List Value) (at : ℕ) → IsBag (counted entries) → IsEntryAt entries row at → EntryFound entries row at
entry_found entries row at bag f = subst (λ es. EntryFound es row at) (sym f.split) (subst (λ r. EntryFound (f.front ++ f.entry ∷ f.back) r at) f.has_row at_split)
  where
    split : counted (f.front ++ f.entry ∷ f.back) ≡ counted f.front ++ as_counted f.entry ∷ counted f.back
    split = map-append as_counted f.front (f.entry ∷ f.back)

    risen : IsBag (counted f.front ++ as_counted f.entry ∷ counted f.back)
    risen = subst IsBag (ap counted f.split ∙ split) bag

    raised : (n : ℤ) → added (counted (f.front ++ f.entry ∷ f.back)) f.entry.row n ≡ counted f.front ++ (counted_row f.entry.row (f.entry.count +ℤ n) ++ counted f.back)
    raised n = ap (λ cs. added cs f.entry.row n) split ∙ added_at (counted f.front) (as_counted f.entry) (counted f.back) n (below_row (counted f.front) (as_counted f.entry) (counted f.back) risen)

    at_split : EntryFound (f.front ++ f.entry ∷ f.back) f.entry.row at
    at_split = record {
      count = λ d.
          ap (λ cs. count_in cs f.entry.row) split ∙ count_at (counted f.front) (as_counted f.entry) (counted f.back) risen ∙ sym (ap (λ (e : Entry). e.count) (get_middle f.front f.entry f.back at d f.place));
      kept = λ n d new rows counts ne.
          let here = get_middle f.front f.entry f.back at d f.place in
          let row_is : new.row ≡ f.entry.row = rows ∙ ap (λ (e : Entry). e.row) here in
          let count_is : new.count ≡ f.entry.count +ℤ n = counts ∙ ap (λ (e : Entry). e.count +ℤ n) here in
          let now : counted (set (f.front ++ f.entry ∷ f.back) at new) ≡ counted f.front ++ as_counted new ∷ counted f.back = ap counted (set_middle f.front f.entry f.back at new f.place) ∙ map-append as_counted f.front (new ∷ f.back) in
          let one = row_of f.entry.row (f.entry.count +ℤ n) (counted f.back) (λ z. ne (count_is ∙ z)) in
          let same : as_counted new ≡ record { row = f.entry.row; count = f.entry.count +ℤ n } =
          ap (λ (r : List Value). record { row = r; count = new.count }) row_is ∙ ap (λ (m : ℤ). record { row = f.entry.row; count = m }) count_is in
          now ∙ ap (λ c. counted f.front ++ c ∷ counted f.back) same ∙ ap (λ cs. counted f.front ++ cs) (sym one) ∙ sym (raised n);
      gone = λ n d e.
          let here = get_middle f.front f.entry f.back at d f.place in
          let none_left : f.entry.count +ℤ n ≡ pos 0 = sym (ap (λ (e : Entry). e.count +ℤ n) here) ∙ e in
          let out : remove (f.front ++ f.entry ∷ f.back) at ≡ f.front ++ f.back =
          ap (λ xs. xs ++ drop (suc at) (f.front ++ f.entry ∷ f.back)) (take_front f.front (f.entry ∷ f.back) at f.place) ∙ ap (λ xs. f.front ++ xs) (drop_middle f.front f.entry f.back at f.place) in
          ap counted out ∙ map-append as_counted f.front f.back ∙ ap (λ cs. counted f.front ++ cs) (sym (no_row f.entry.row (f.entry.count +ℤ n) (counted f.back) none_left)) ∙ sym (raised n);
    }

-- a row that isn't there
pub record EntryNone (entries : List Entry) (row : List Value) (at : ℕ) : Type 0 where
  pub count : count_in (counted entries) row ≡ pos 0
  pub put : (n : ℤ) (new : Entry) → new.row ≡ row → new.count ≡ n → n ≢ pos 0 → counted (insert entries at new) ≡ added (counted entries) row n
  pub same : (n : ℤ) → n ≡ pos 0 → counted entries ≡ added (counted entries) row n

pub entry_none : (entries : List Entry) (row : List Value) (at : ℕ) → IsEntryGap entries row at → EntryNone entries row at
entry_none entries row at g = subst (λ es. EntryNone es row at) (sym g.split) at_split
  where
    split : counted (g.front ++ g.back) ≡ counted g.front ++ counted g.back
    split = map-append as_counted g.front g.back

    raised : (n : ℤ) → added (counted (g.front ++ g.back)) row n ≡ counted g.front ++ (counted_row row n ++ counted g.back)
    raised n = ap (λ cs. added cs row n) split ∙ added_between (counted g.front) (counted g.back) row n (below_of row g.front g.below) (above_of row g.back g.above)

    at_split : EntryNone (g.front ++ g.back) row at
    at_split = record {
      count = ap (λ cs. count_in cs row) split ∙ count_behind (counted g.front) (counted g.back) row (below_of row g.front g.below) ∙ count_above (counted g.back) row (above_of row g.back g.above);
      put = λ n new rows counts ne.
          let inside : insert (g.front ++ g.back) at new ≡ g.front ++ new ∷ g.back =
          ap (λ xs. xs ++ new ∷ drop at (g.front ++ g.back)) (take_front g.front g.back at g.place) ∙ ap (λ xs. g.front ++ new ∷ xs) (drop_front g.front g.back at g.place) in
          let same : as_counted new ≡ record { row = row; count = n } =
          ap (λ (r : List Value). record { row = r; count = new.count }) rows ∙ ap (λ (m : ℤ). record { row = row; count = m }) counts in
          ap counted inside ∙ map-append as_counted g.front (new ∷ g.back) ∙ ap (λ c. counted g.front ++ c ∷ counted g.back) same ∙ ap (λ cs. counted g.front ++ cs) (sym (row_of row n (counted g.back) ne)) ∙ sym (raised n);
      same = λ n e. split ∙ ap (λ cs. counted g.front ++ cs) (sym (no_row row n (counted g.back) e)) ∙ sym (raised n);
    }
