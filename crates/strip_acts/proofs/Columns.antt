-- Columns by their names: those that entries have, and those that are meant where one alone is.
use Rattle.std.proofs.Common.{◌≡◌, ℕ, zero, suc, ◌+◌, ◌<◌, ◌==◌, Bool, true, false, not, ◌||◌, cond, List, [], ◌∷◌, length, map, get_or, Option, Some, None, find, position, unwrap_or, bytes_eq, refl, ap, ◌∙◌, arith, flat_map, option_map, option_to_list}
use Rattle.std.specs.List.{AllByRecursion, enumerate_from}
use Rattle.std.proofs.lemmas.List.{length-map}
use Rattle.std.proofs.lemmas.List.Quantifiers.{position-Some}
use Rattle.std.proofs.lemmas.Slice.Eq.{bytes_eq-Decides}
use Rattle.strip_value.specs.declared.kinds.Kind.{Kind}
use Rattle.strip_value.specs.declared.queries.Place.{Place}
use Rattle.strip_value.specs.declared.tables.ColumnDef.{ColumnDef}
use Rattle.strip_setup.specs.declared.scope.Entry.{Entry}
use Rattle.strip_setup.specs.Catalog.{column_number, first, has_name, name_if}
use Rattle.strip_setup.specs.Places.{is_clear}
use Rattle.strip_setup.specs.Queries.{is_meant, kinds_of, place_in, places_of}
use Rattle.strip_setup.specs.Resolve.{number_in}
use Rattle.strip_setup.proofs.Numbers.{column_below}
use Rattle.strip_names.specs.Unknown.{missing, names_of, unknown_alias}
use Rattle.strip_acts.specs.Suiting.{has_column}
use Rattle.strip_acts.specs.Trees.{no_column}
use Rattle.strip_acts.proofs.Lists.{all-append, all_of, both_empty}
use Rattle.strip_acts.proofs.Naming.{eq_itself, is_below, none_or_number}
use Rattle.strip_acts.proofs.Understood.{IsUnderstood}

-- ---- columns of a table

pub kinds_long : (columns : List ColumnDef) → length (map (λ (column : ColumnDef). column.kind) columns) ≡ length columns
kinds_long columns = length-map columns (λ (column : ColumnDef). column.kind)

-- a column's own name is there
pub has_own : (columns : List ColumnDef) (c : ℕ) → c < length columns → has_name (names_of columns) (get_or columns c no_column).name ≡ true
has_own [] c lt = absurd (omega (arith, lt))
has_own (column ∷ columns) zero lt = ap (λ b. b || has_name (names_of columns) column.name) (eq_itself column.name)
has_own (column ∷ columns) (suc c) lt = either (bytes_eq column.name (get_or columns c no_column).name) (has_name (names_of columns) (get_or columns c no_column).name) (has_own columns c (omega (arith, lt)))
  where
    either : (a b : Bool) → b ≡ true → (a || b) ≡ true
    either true b e = refl
    either false b e = e

-- a name that is there is that of a column
pub record IsColumn (columns : List ColumnDef) (name : List ℕ) : Type 0 where
  pub there : number_in columns name < length columns
  pub named : (get_or columns (number_in columns name) no_column).name ≡ name

pub column_named : (columns : List ColumnDef) (name : List ℕ) → has_name (names_of columns) name ≡ true → IsColumn columns name
column_named columns name has = of_number (none_or_number test columns (finds columns has))
  where
    test : ColumnDef → Bool
    test column = bytes_eq column.name name

    finds : (some : List ColumnDef) → has_name (names_of some) name ≡ true → find test some ≡ None → ⊥
    finds [] is none = cc
    finds (column ∷ some) is none = by_test (test column) is none (finds some)
      where
        by_test : (b : Bool) → (b || has_name (names_of some) name) ≡ true → cond b (Some column) (find test some) ≡ None → (has_name (names_of some) name ≡ true → find test some ≡ None → ⊥) → ⊥
        by_test true here gone rest = cc
        by_test false here gone rest = rest here gone

    of_number : (c : ℕ) × (position test columns ≡ Some c) → IsColumn columns name
    of_number number =
        let is : number_in columns name ≡ number.0 = ap (λ (o : Option ℕ). unwrap_or o 0) number.1 in
        let at = position-Some test columns number.0 no_column number.1 in
        let named : (get_or columns number.0 no_column).name ≡ name = (bytes_eq-Decides (get_or columns number.0 no_column).name name).0 at.1 in
        record { there = rw is at.0; named = ap (λ k. (get_or columns k no_column).name) is ∙ named }

-- a name isn't missing where it is there
pub missing_one : (there : List (List ℕ)) (name : List ℕ) → has_name there name ≡ true → missing there (name ∷ []) ≡ []
missing_one there name has = ap (λ b. cond (not b) (name ∷ []) []) has

pub one_missing : (there : List (List ℕ)) (name : List ℕ) → missing there (name ∷ []) ≡ [] → has_name there name ≡ true
one_missing there name e = by_test (has_name there name) e
  where
    by_test : (b : Bool) → cond (not b) (name ∷ []) [] ≡ [] → b ≡ true
    by_test true none = refl
    by_test false none = cc

-- ---- columns of entries

-- the place in the entry of a number, if the column has one
abbrev pub found_at : ℕ → Option ℕ → List Place
found_at n number = option_to_list (option_map (λ column. record { entry = n; column = column }) number)

-- the place is a column that is there, the entries being counted from a number
abbrev IsPlace : ℕ → List (List Kind) → Place → Type 0
IsPlace n kinds place = (k : ℕ) × (place.entry ≡ n + k) × (has_column kinds k place.column ≡ true)

module _ (of : Option (List ℕ)) (name : List ℕ) where
  here : (n : ℕ) (entry : Entry) (entries : List Entry) (meant : Bool) (number : Option ℕ) → column_number entry.columns name ≡ number → AllByRecursion (IsPlace n (kinds_of (entry ∷ entries))) (cond meant (found_at n number) [])
  here n entry entries false number is = tt
  here n entry entries true None is = tt
  here n entry entries true (Some c) is =
      let from_none : n ≡ n + 0 = omega arith in
      let same = kinds_long entry.columns in
      let there = column_below entry.columns name c is in
      let within : c < length (map (λ (column : ColumnDef). column.kind) entry.columns) = omega (arith, same, there) in
      ((0, from_none, is_below c (length (map (λ (column : ColumnDef). column.kind) entry.columns)) within), tt)

  later : (n : ℕ) (kinds : List Kind) (others : List (List Kind)) (place : Place) → IsPlace (n + 1) others place → IsPlace n (kinds ∷ others) place
  later n kinds others place at =
      let is = at.1 in
      let moved : place.entry ≡ n + suc at.0 = omega (arith, is) in
      (suc at.0, moved, at.2)

  places_there : (n : ℕ) (entries : List Entry) → AllByRecursion (IsPlace n (kinds_of entries)) (flat_map (place_in of name) (enumerate_from n entries))
  places_there n [] = tt
  places_there n (entry ∷ entries) =
      let kinds = map (λ (column : ColumnDef). column.kind) entry.columns in
      all-append (IsPlace n (kinds_of (entry ∷ entries))) (place_in of name (n, entry)) (flat_map (place_in of name) (enumerate_from (n + 1) entries))
      (here n entry entries (is_meant of entry.alias) (column_number entry.columns name) refl)
      (all_of (IsPlace (n + 1) (kinds_of entries)) (IsPlace n (kinds_of (entry ∷ entries))) (flat_map (place_in of name) (enumerate_from (n + 1) entries))
      (later n kinds (kinds_of entries)) (places_there (n + 1) entries))

first_there : (kinds : List (List Kind)) (places : List Place) (none : Place) → (length places == 1) ≡ true → AllByRecursion (IsPlace 0 kinds) places → has_column kinds (unwrap_or (first places) none).entry (unwrap_or (first places) none).column ≡ true
first_there kinds [] none one all = cc
first_there kinds (place ∷ places) none one all =
    let at = all.0 in
    let is = at.1 in
    let same : place.entry ≡ at.0 = omega (arith, is) in
    ap (λ entry. has_column kinds entry place.column) same ∙ at.2

not_unclear : (b : Bool) (name : List ℕ) → name_if (not b) name ≡ [] → b ≡ true
not_unclear true name e = refl
not_unclear false name e = cc

-- a column that isn't unknown is there
pub understood : (entries : List Entry) → IsUnderstood entries
understood entries = record {
  there = λ column known.
      first_there (kinds_of entries) (places_of entries column.of column.name) (record { entry = 0; column = 0 })
      (not_unclear (is_clear entries column) column.name (both_empty (unknown_alias entries column.of) (name_if (not (is_clear entries column)) column.name) known).1)
      (places_there column.of column.name 0 entries);
}
