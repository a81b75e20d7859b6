-- What a binary search by key finds among rising rows, and what an edit at that place makes of them.
use Rattle.std.proofs.Common.{◌≡◌, ℕ, suc, zero, ◌+◌, ◌<◌, ◌≤◌, List, [], ◌∷◌, ◌++◌, length, get_or, set, take, drop, Option, Some, None, Result, Ok, Err, IfOk, IfErr, refl, sym, ap, ◌∙◌, subst, arith, length-take}
use Rattle.std.specs.List.{AllByRecursion, AllWithin, insert, remove}
use Rattle.std.specs.List.Sorted.{IsSearchInRange, IsBinarySearchResult, IsNonDecreasingBy}
use Rattle.std.specs.declared.cmp.Ordering.{Ordering}
use Rattle.std.specs.declared.cmp.Ordering.TheVariants.{Less, Equal, Greater}
use Rattle.std.specs.Ordering.{ordering_index}
use Rattle.std.proofs.Math.Seq.{drop-cons, split_at, take-append_seam, drop-append_seam, drop-append-add}
use Rattle.std.proofs.lemmas.List.{get_or-take, get_or-drop, take-append-drop, length-drop}
use Rattle.std.proofs.lemmas.List.Elements.{recursion_from_All}
use Rattle.strip_value.specs.declared.values.Value.{Value}
use Rattle.strip_value.specs.Order.{row_cmp, row_cmp_total}
use Rattle.strip_value.specs.declared.tables.TableDef.{TableDef}
use Rattle.strip_value.specs.Kinds.{FitsColumns}
use Rattle.strip_value.specs.Table.{key_of, IsBelow, Rises, row_at, without, with_row, put_if, put_back, IsTable, passed_limit}
use Rattle.strip_table.specs.declared.table.PutError.{PutError}
use Rattle.strip_table.specs.declared.table.PutError.TheVariants.{Full, Memory}
use Rattle.strip_table.specs.Keys.{compared_key}
use Rattle.strip_table.specs.Puts.{PutsRow, reached}
use Rattle.strip_value.specs.Places.{IsFoundAt, IsGapAt}
use Rattle.strip_value.proofs.Orders.{row_cmp_equal}
use Rattle.strip_value.proofs.Lists.{all_at}
use Rattle.strip_value.proofs.KeyedLaws.{against, below_found, above_back, without_gap, without_found, row_at_found, row_at_gap, with_row_found, with_row_gap, table_with_row}

at_most_two : (o : Ordering) → ordering_index o ≤ 2
at_most_two Less = omega arith
at_most_two Equal = omega arith
at_most_two Greater = omega arith

-- a lower row compares with a key no higher than a higher one does
index_of_lower : (low high key : List Value) (o : Ordering) → row_cmp high key ≡ o → row_cmp low high ≡ Less → ordering_index (row_cmp low key) ≤ ordering_index (row_cmp high key)
index_of_lower low high key Less e below =
    let low_less = ap ordering_index (row_cmp_total.trans low high key below e) in
    let high_less = ap ordering_index e in
    omega arith
index_of_lower low high key Equal e below =
    let low_less = ap ordering_index (sym (ap (row_cmp low) (row_cmp_equal high key e)) ∙ below) in
    let high_equal = ap ordering_index e in
    omega arith
index_of_lower low high key Greater e below =
    let most = at_most_two (row_cmp low key) in
    let high_greater = ap ordering_index e in
    omega arith

module _ (columns : List ℕ) (key : List Value) where
  abbrev order : List Value → Ordering
  order row = row_cmp (key_of columns row) key

  -- along rising rows the comparisons with a key rise, as a binary search asks
  pub comparisons_rise : (rows : List (List Value)) → Rises columns rows → IsNonDecreasingBy (λ row. ordering_index (order row)) rows
  comparisons_rise [] rises i j d le lt = absurd (omega arith)
  comparisons_rise (row ∷ rows) rises zero zero d le lt = omega arith
  comparisons_rise (row ∷ rows) rises zero (suc j) d le lt =
      let below = all_at (IsBelow columns row) rows j d rises.0 (omega arith) in
      index_of_lower (key_of columns row) (key_of columns (get_or rows j d)) key (order (get_or rows j d)) refl below
  comparisons_rise (row ∷ rows) rises (suc i) zero d le lt = absurd (omega arith)
  comparisons_rise (row ∷ rows) rises (suc i) (suc j) d le lt = comparisons_rise rows rises.1 i j d (omega arith) (omega arith)

  found : (rows : List (List Value)) (at : ℕ) → at < length rows → ((d : List Value) → order (get_or rows at d) ≡ Equal) → IsFoundAt columns rows key at
  found rows at lt equal = record {
    front = take at rows;
    row = get_or rows at [];
    back = drop (suc at) rows;
    split = split_at rows at [] lt;
    place = omega (arith, length-take at rows);
    has_key = row_cmp_equal (key_of columns (get_or rows at [])) key (equal []);
  }

  gap : (rows : List (List Value)) (at : ℕ) → at ≤ length rows → AllWithin (λ row. order row ≡ Less) rows 0 at → AllWithin (λ row. order row ≡ Greater) rows at (length rows) → IsGapAt columns rows key at
  gap rows at le below above = record {
    front = take at rows;
    back = drop at rows;
    split = sym (take-append-drop at rows);
    place = omega (arith, length-take at rows);
    below = recursion_from_All (λ row. order row ≡ Less) (take at rows) (λ k d lt.
        let within : k < at = omega (arith, length-take at rows) in
        subst (λ row. order row ≡ Less) (sym (get_or-take at rows k d within)) (below k d (omega arith) within));
    above = recursion_from_All (λ row. order row ≡ Greater) (drop at rows) (λ k d lt.
        let within : at + k < length rows = omega (arith, length-drop at rows) in
        subst (λ row. order row ≡ Greater) (sym (get_or-drop at rows k d)) (above (at + k) d (omega arith) within));
  }

  -- a binary search among rising rows ends at the row of the key, or at the gap for it
  pub searched_found : (rows : List (List Value)) (r : Result ℕ ℕ) → IsSearchInRange r (length rows) → IsBinarySearchResult order rows r → IfOk r (IsFoundAt columns rows key)
  searched_found rows (Ok at) in_range answer = found rows at in_range answer
  searched_found rows (Err at) in_range answer = tt

  pub searched_gap : (rows : List (List Value)) (r : Result ℕ ℕ) → Rises columns rows → IsSearchInRange r (length rows) → IsBinarySearchResult order rows r → IfErr r (IsGapAt columns rows key)
  searched_gap rows (Ok at) rises in_range answer = tt
  searched_gap rows (Err at) rises in_range answer =
      let parts = answer (comparisons_rise rows rises) in
      gap rows at in_range parts.0 parts.1

-- edits of a list that is split at a place
get_middle : {A : Type 0} (front : List A) (x : A) (back : List A) (at : ℕ) (d : A) → length front ≡ at → get_or (front ++ x ∷ back) at d ≡ x
get_middle [] x back zero d e = refl
get_middle [] x back (suc at) d e = absurd (omega arith)
get_middle (f ∷ front) x back zero d e = absurd (omega arith)
get_middle (f ∷ front) x back (suc at) d e = get_middle front x back at d (omega arith)

set_middle : {A : Type 0} (front : List A) (x : A) (back : List A) (at : ℕ) (y : A) → length front ≡ at → set (front ++ x ∷ back) at y ≡ front ++ y ∷ back
set_middle [] x back zero y e = refl
set_middle [] x back (suc at) y e = absurd (omega arith)
set_middle (f ∷ front) x back zero y e = absurd (omega arith)
set_middle (f ∷ front) x back (suc at) y e = ap (λ xs. f ∷ xs) (set_middle front x back at y (omega arith))

take_front : {A : Type 0} (front back : List A) (at : ℕ) → length front ≡ at → take at (front ++ back) ≡ front
take_front front back at e = subst (λ n. take n (front ++ back) ≡ front) e (take-append_seam front back)

drop_front : {A : Type 0} (front back : List A) (at : ℕ) → length front ≡ at → drop at (front ++ back) ≡ back
drop_front front back at e = subst (λ n. drop n (front ++ back) ≡ back) e (drop-append_seam front back)

drop_middle : {A : Type 0} (front : List A) (x : A) (back : List A) (at : ℕ) → length front ≡ at → drop (suc at) (front ++ x ∷ back) ≡ back
drop_middle [] x back zero e = refl
drop_middle [] x back (suc at) e = absurd (omega arith)
drop_middle (f ∷ front) x back zero e = absurd (omega arith)
drop_middle (f ∷ front) x back (suc at) e = drop_middle front x back at (omega arith)

-- a row put over the one of its key
pub record Overwrites (columns : List ℕ) (rows : List (List Value)) (key : List Value) (at : ℕ) : Type 0 where
  pub row : (d : List Value) → row_at columns rows key ≡ Some (get_or rows at d)
  pub with : (new : List Value) → key_of columns new ≡ key → with_row columns rows new ≡ set rows at new
  pub out : without columns rows key ≡ remove rows at

pub overwrites : (columns : List ℕ) (rows : List (List Value)) (key : List Value) (at : ℕ) → Rises columns rows → IsFoundAt columns rows key at → Overwrites columns rows key at
overwrites columns rows key at rises f = subst (λ rs. Overwrites columns rs key at) (sym f.split) at_split
  where
    risen : Rises columns (f.front ++ f.row ∷ f.back)
    risen = subst (Rises columns) f.split rises

    at_split : Overwrites columns (f.front ++ f.row ∷ f.back) key at
    at_split =
        let below = below_found columns key f.front f.row f.back f.has_key risen in
        let above = above_back columns key f.front f.row f.back f.has_key risen in
        record {
          row = λ d. row_at_found columns key f.front f.row f.back below f.has_key ∙ ap Some (sym (get_middle f.front f.row f.back at d f.place));
          with = λ new same. with_row_found columns new f.front f.row f.back (f.has_key ∙ sym same) risen ∙ sym (set_middle f.front f.row f.back at new f.place);
          out = without_found columns key f.front f.row f.back below f.has_key above
              ∙ sym (ap (λ xs. xs ++ drop (suc at) (f.front ++ f.row ∷ f.back)) (take_front f.front (f.row ∷ f.back) at f.place) ∙ ap (λ xs. f.front ++ xs) (drop_middle f.front f.row f.back at f.place));
        }

-- a row put into the gap of its key
pub record Inserts (columns : List ℕ) (rows : List (List Value)) (key : List Value) (at : ℕ) : Type 0 where
  pub row : row_at columns rows key ≡ None
  pub with : (new : List Value) → key_of columns new ≡ key → with_row columns rows new ≡ insert rows at new
  pub out : without columns rows key ≡ rows

pub inserts : (columns : List ℕ) (rows : List (List Value)) (key : List Value) (at : ℕ) → IsGapAt columns rows key at → Inserts columns rows key at
inserts columns rows key at g = subst (λ rs. Inserts columns rs key at) (sym g.split) at_split
  where
    at_split : Inserts columns (g.front ++ g.back) key at
    at_split = record {
      row = row_at_gap columns key g.front g.back g.below g.above;
      with = λ new same.
          with_row_gap columns new g.front g.back (subst (λ k. AllByRecursion (λ row. row_cmp (key_of columns row) k ≡ Less) g.front) (sym same) g.below) (subst (λ k. AllByRecursion (λ row. row_cmp (key_of columns row) k ≡ Greater) g.back) (sym same) g.above)
          ∙ sym (ap (λ xs. xs ++ new ∷ drop at (g.front ++ g.back)) (take_front g.front g.back at g.place) ∙ ap (λ xs. g.front ++ new ∷ xs) (drop_front g.front g.back at g.place));
      out = without_gap columns key g.front g.back g.below g.above;
    }

empty_list : {A : Type 0} (xs : List A) → length xs ≡ 0 → xs ≡ []
empty_list [] e = refl
empty_list (x ∷ xs) e = absurd (omega arith)

-- a key of fewer values than columns is below
pub longer_key : (columns : List ℕ) (row key : List Value) (i : ℕ) → i < length columns → length key ≡ 0 → compared_key (drop i columns) row key ≡ Greater
longer_key columns row key i lt none =
    let ended = empty_list key none in
    let next = drop-cons columns i 0 lt in
    ap (compared_key (drop i columns) row) ended ∙ ap (λ cs. compared_key cs row []) next

-- what a put answers keeps the table one
pub put_keeps : (def : TableDef) (old : List (List Value)) (row : List Value) (new : List (List Value)) (r : Result (Option (List Value)) PutError) → IsTable def old → FitsColumns def.columns row → PutsRow def.key def.limit old row new r → IsTable def new
put_keeps def old row new (Ok replaced) table fits put = subst (IsTable def) (sym put.2) (table_with_row def old row table fits put.0)
put_keeps def old row new (Err (Full most)) table fits put = subst (IsTable def) (sym put.1) table
put_keeps def old row new (Err Memory) table fits put = subst (IsTable def) (sym put.1) table

-- the three answers of a put, from what the search found
pub put_full : (columns : List ℕ) (limit : Option ℕ) (rows : List (List Value)) (row : List Value) (at most count : ℕ) → IsGapAt columns rows (key_of columns row) at → count ≡ length rows → Some most ≡ reached limit count → PutsRow columns limit rows row rows (Err (Full most))
put_full columns limit rows row at most count gap counted full =
    (ap (λ o. passed_limit o limit (length rows)) (inserts columns rows (key_of columns row) at gap).row ∙ ap (reached limit) (sym counted) ∙ sym full, refl)

pub put_over : (columns : List ℕ) (limit : Option ℕ) (rows : List (List Value)) (row old : List Value) (at : ℕ) → Rises columns rows → IsFoundAt columns rows (key_of columns row) at → old ≡ get_or rows at old → PutsRow columns limit rows row (set rows at row) (Ok (Some old))
put_over columns limit rows row old at rises found here =
    let there = overwrites columns rows (key_of columns row) at rises found in
    let stands = there.row old ∙ ap Some (sym here) in
    (ap (λ o. passed_limit o limit (length rows)) stands, sym stands, sym (there.with row refl))

pub put_in : (columns : List ℕ) (limit : Option ℕ) (rows : List (List Value)) (row : List Value) (at count : ℕ) → IsGapAt columns rows (key_of columns row) at → count ≡ length rows → None ≡ reached limit count → PutsRow columns limit rows row (insert rows at row) (Ok None)
put_in columns limit rows row at count gap counted room =
    let there = inserts columns rows (key_of columns row) at gap in
    (ap (λ o. passed_limit o limit (length rows)) there.row ∙ ap (reached limit) (sym counted) ∙ sym room, sym there.row, sym (there.with row refl))

-- a row put back over the one of its key, and one whose key isn't there
pub back_over : (columns : List ℕ) (rows : List (List Value)) (row : List Value) (at : ℕ) → Rises columns rows → IsFoundAt columns rows (key_of columns row) at → set rows at row ≡ put_back columns rows row
back_over columns rows row at rises found =
    let there = overwrites columns rows (key_of columns row) at rises found in
    sym (there.with row refl) ∙ sym (ap (λ o. put_if o rows (with_row columns rows row)) (there.row []))

pub back_none : (columns : List ℕ) (rows : List (List Value)) (row : List Value) (at : ℕ) → IsGapAt columns rows (key_of columns row) at → rows ≡ put_back columns rows row
back_none columns rows row at gap =
    sym (ap (λ o. put_if o rows (with_row columns rows row)) (inserts columns rows (key_of columns row) at gap).row)
