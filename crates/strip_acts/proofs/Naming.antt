-- Tables and columns by their names: where no name stands twice, the name of a number stands for that number.
use Rattle.std.proofs.Common.{◌≡◌, ℕ, zero, suc, ◌+◌, ◌<◌, ◌≤◌, Bool, true, false, not, ◌&&◌, ◌||◌, cond, List, [], ◌∷◌, length, map, get_or, Option, Some, None, find, position, is_none, slice_get, unwrap_or, bytes_eq, nat_le, nat_lt, refl, sym, ap, ◌∙◌, arith}
use Rattle.std.specs.List.{position_from, position_or_len}
use Rattle.std.proofs.lemmas.Bool.Decides.{nat_tests}
use Rattle.std.proofs.lemmas.Iterator.Adapters.{position_from-zero}
use Rattle.std.proofs.lemmas.List.Folds.{find_at}
use Rattle.std.proofs.lemmas.List.Quantifiers.{position-Some}
use Rattle.std.proofs.lemmas.Option.{slice_get-get_or, slice_get_past}
use Rattle.std.proofs.lemmas.Slice.Eq.{bytes_eq-Decides}
use Rattle.strip_value.specs.declared.tables.ColumnDef.{ColumnDef}
use Rattle.strip_value.specs.declared.tables.TableDef.{TableDef}
use Rattle.strip_meaning.specs.Contents.{def_at}
use Rattle.strip_meaning.specs.Effect.{no_table}
use Rattle.strip_setup.specs.Catalog.{column_number, has_name, name_if, table_id, table_named, table_number}
use Rattle.strip_names.specs.Unknown.{unknown_table}
use Rattle.strip_acts.specs.Laws.{AreApart}
use Rattle.strip_acts.specs.Trees.{no_column}

-- ---- truth values

pub both_true : (a b : Bool) → (a && b) ≡ true → (a ≡ true) × (b ≡ true)
both_true true b e = (refl, e)
both_true false b e = cc

pub are_both : (a b : Bool) → a ≡ true → b ≡ true → (a && b) ≡ true
are_both a b ea eb = cc

pub neither : (a b : Bool) → (a || b) ≡ false → (a ≡ false) × (b ≡ false)
neither false b e = (refl, e)
neither true b e = cc

pub is_not : (b : Bool) → not b ≡ true → b ≡ false
is_not true e = cc
is_not false e = refl

pub not_so : (b : Bool) → not b ≡ false → b ≡ true
not_so true e = refl
not_so false e = cc

pub is_so : (b : Bool) → b ≡ false → not b ≡ true
is_so b e = ap not e

pub at_most : (a b : ℕ) → nat_le a b ≡ true → a ≤ b
at_most a b e = grind (arith, nat_tests)

pub below : (a b : ℕ) → nat_lt a b ≡ true → a < b
below a b e = grind (arith, nat_tests)

pub is_below : (a b : ℕ) → a < b → nat_lt a b ≡ true
is_below a b lt = grind (arith, nat_tests)

-- ---- names

pub eq_itself : (name : List ℕ) → bytes_eq name name ≡ true
eq_itself name = (bytes_eq-Decides name name).1 refl

pub eq_turned : (one two : List ℕ) → bytes_eq one two ≡ false → bytes_eq two one ≡ false
eq_turned one two ne = by_test (bytes_eq two one) refl
  where
    by_test : (b : Bool) → bytes_eq two one ≡ b → bytes_eq two one ≡ false
    by_test false e = e
    by_test true e = let met = (bytes_eq-Decides one two).1 (sym ((bytes_eq-Decides two one).0 e)) in cc

-- ---- numbers that names stand for

module _ {A : Type 0} (name_of : A → List ℕ) (default : A) where
  -- an item has another name than one that none has
  another : (xs : List A) (name : List ℕ) (k : ℕ) → has_name (map name_of xs) name ≡ false → k < length xs → bytes_eq (name_of (get_or xs k default)) name ≡ false
  another [] name k none lt = absurd (omega (arith, lt))
  another (x ∷ xs) name zero none lt = (neither (bytes_eq (name_of x) name) (has_name (map name_of xs) name) none).0
  another (x ∷ xs) name (suc k) none lt = another xs name k (neither (bytes_eq (name_of x) name) (has_name (map name_of xs) name) none).1 (omega (arith, lt))

  -- the search ends at the item whose name it looks for, not before
  found_from : (xs : List A) (i k : ℕ) → AreApart (map name_of xs) → k < length xs → position_from (λ x. bytes_eq (name_of x) (name_of (get_or xs k default))) i xs ≡ Some (i + k)
  found_from [] i k apart lt = absurd (omega (arith, lt))
  found_from (x ∷ xs) i zero apart lt =
      ap (λ b. cond b (Some i) (position_from (λ y. bytes_eq (name_of y) (name_of x)) (i + 1) xs)) (eq_itself (name_of x)) ∙ ap Some here
    where
      here : i ≡ i + 0
      here = omega arith
  found_from (x ∷ xs) i (suc k) apart lt =
      ap (λ b. cond b (Some i) (position_from (λ y. bytes_eq (name_of y) (name_of (get_or xs k default))) (i + 1) xs)) not_here ∙ found_from xs (i + 1) k apart.1 within ∙ ap Some moved
    where
      within : k < length xs
      within = omega (arith, lt)

      not_here : bytes_eq (name_of x) (name_of (get_or xs k default)) ≡ false
      not_here = eq_turned (name_of (get_or xs k default)) (name_of x) (another xs (name_of x) k apart.0 within)

      moved : (i + 1) + k ≡ i + suc k
      moved = omega arith

  pub found : (xs : List A) (id : ℕ) → AreApart (map name_of xs) → id < length xs → position (λ x. bytes_eq (name_of x) (name_of (get_or xs id default))) xs ≡ Some id
  found xs id apart lt = position_from-zero (λ x. bytes_eq (name_of x) (name_of (get_or xs id default))) xs ∙ found_from xs 0 id apart lt ∙ ap Some from_none
    where
      from_none : 0 + id ≡ id
      from_none = omega arith

module _ {A : Type 0} (test : A → Bool) (xs : List A) where
  -- what is found stands at the number that is found
  at_number : (id : ℕ) → position test xs ≡ Some id → find test xs ≡ slice_get xs id
  at_number id e = by_test (nat_lt (position_or_len test xs) (length xs)) e
    where
      by_test : (b : Bool) → cond b (Some (position_or_len test xs)) None ≡ Some id → find test xs ≡ slice_get xs id
      by_test true is = find_at test xs ∙ ap (slice_get xs) (some_is is)
        where
          some_is : Some (position_or_len test xs) ≡ Some id → position_or_len test xs ≡ id
          some_is same = cc
      by_test false is = cc

  -- nothing is found, or a number is
  pub none_or_number : (find test xs ≡ None → ⊥) → (id : ℕ) × (position test xs ≡ Some id)
  none_or_number there = by_test (nat_lt (position_or_len test xs) (length xs)) refl
    where
      by_test : (b : Bool) → nat_lt (position_or_len test xs) (length xs) ≡ b → (id : ℕ) × (cond b (Some (position_or_len test xs)) None ≡ Some id)
      by_test true is = (position_or_len test xs, refl)
      by_test false is =
          let past : length xs ≤ position_or_len test xs = grind (arith, nat_tests) in
          absurd (there (find_at test xs ∙ slice_get_past xs (position_or_len test xs) past))

-- ---- tables

abbrev table_names : List TableDef → List (List ℕ)
table_names tables = map (λ (table : TableDef). table.name) tables

table_found : (tables : List TableDef) (id : ℕ) → AreApart (table_names tables) → id < length tables → table_number tables (def_at tables id).name ≡ Some id
table_found tables id own lt = found (λ (table : TableDef). table.name) no_table.def tables id own lt

pub id_named : (tables : List TableDef) (id : ℕ) → AreApart (table_names tables) → id < length tables → table_id tables (def_at tables id).name ≡ id
id_named tables id own lt = ap (λ number. unwrap_or number 0) (table_found tables id own lt)

at_id : (tables : List TableDef) (id : ℕ) → id < length tables → slice_get tables id ≡ Some (def_at tables id)
at_id tables id lt = slice_get-get_or tables id no_table.def lt

pub def_named : (tables : List TableDef) (id : ℕ) → AreApart (table_names tables) → id < length tables → table_named tables (def_at tables id).name ≡ Some (def_at tables id)
def_named tables id own lt = at_number (λ (table : TableDef). bytes_eq table.name (def_at tables id).name) tables id (table_found tables id own lt) ∙ at_id tables id lt

-- the name of a table that is there isn't unknown
pub named_known : (tables : List TableDef) (id : ℕ) → AreApart (table_names tables) → id < length tables → unknown_table tables (def_at tables id).name ≡ []
named_known tables id own lt = ap (λ (o : Option TableDef). name_if (is_none o) (def_at tables id).name) (def_named tables id own lt)

-- what a name stands for that isn't unknown
pub record IsKnown (tables : List TableDef) (name : List ℕ) : Type 0 where
  pub there : table_id tables name < length tables
  pub named : (def_at tables (table_id tables name)).name ≡ name
  pub is : table_named tables name ≡ Some (def_at tables (table_id tables name))

pub known : (tables : List TableDef) (name : List ℕ) → unknown_table tables name ≡ [] → IsKnown tables name
known tables name e = of_number (none_or_number test tables (λ none. not_none (table_named tables name) e none))
  where
    test : TableDef → Bool
    test table = bytes_eq table.name name

    not_none : (o : Option TableDef) → name_if (is_none o) name ≡ [] → o ≡ None → ⊥
    not_none None is e = cc
    not_none (Some table) is e = cc

    of_number : (id : ℕ) × (position test tables ≡ Some id) → IsKnown tables name
    of_number number =
        let id : table_id tables name ≡ number.0 = ap (λ (o : Option ℕ). unwrap_or o 0) number.1 in
        let at = position-Some test tables number.0 no_table.def number.1 in
        let is : table_named tables name ≡ Some (def_at tables number.0) = at_number test tables number.0 number.1 ∙ at_id tables number.0 at.0 in
        let named : (def_at tables number.0).name ≡ name = (bytes_eq-Decides (def_at tables number.0).name name).0 at.1 in
        record {
          there = rw id at.0;
          named = ap (λ k. (def_at tables k).name) id ∙ named;
          is = is ∙ ap (λ k. Some (def_at tables k)) (sym id);
        }

-- ---- columns

pub column_found : (columns : List ColumnDef) (c : ℕ) → AreApart (map (λ (column : ColumnDef). column.name) columns) → c < length columns → column_number columns (get_or columns c no_column).name ≡ Some c
column_found columns c apart lt = found (λ (column : ColumnDef). column.name) no_column columns c apart lt
