-- The query of a derived table that isn't refused suits the tables. It has groups, over one entry.
use Rattle.std.proofs.Common.{◌≡◌, ℕ, ◌≤◌, Bool, true, false, not, ◌&&◌, ◌||◌, List, [], ◌∷◌, map, filter, length, nat_le, Option, Some, None, is_some, option_map, refl, arith}
use Rattle.std.specs.List.{list_all, list_any}
use Rattle.strip_value.specs.declared.queries.Item.{Item}
use Rattle.strip_value.specs.declared.queries.Place.{Place}
use Rattle.strip_value.specs.declared.queries.Query.{Query}
use Rattle.strip_value.specs.declared.queries.What.{What}
use Rattle.strip_ast.specs.declared.queries.ColTree.{ColTree}
use Rattle.strip_ast.specs.declared.queries.EntryTree.{EntryTree}
use Rattle.strip_ast.specs.declared.queries.QueryTree.{QueryTree}
use Rattle.strip_ast.specs.declared.statements.Statement.TheVariants as st
use Rattle.strip_setup.specs.declared.errors.LimitKind.TheVariants as limit_kind
use Rattle.strip_setup.specs.declared.errors.SetupError.TheVariants.{KindMismatch, TooWide, Unknown}
use Rattle.strip_setup.specs.Catalog.{Catalog, is_empty, name_if, table_named}
use Rattle.strip_setup.specs.Queries.{Scope, entries_of, input_of, place_of, query_of}
use Rattle.strip_setup.specs.Resolve.{outside_rules}
use Rattle.strip_setup.proofs.Firsts.{no_cause as listed_none}
use Rattle.strip_names.specs.Exists.{taken_in_query}
use Rattle.strip_names.specs.Grouped.{are_keys_and_totals, has_keys_and_totals, has_misplaced, is_derivable, is_group_column, is_misplaced, is_total}
use Rattle.strip_names.specs.Limits.{limits_in_query, more_than, most_columns, most_entries, most_tables, one_more_than}
use Rattle.strip_names.specs.Unknown.{unknown_in_query}
use Rattle.strip_kinds.specs.Mismatch.{mismatched_in_query}
use Rattle.strip_kinds.specs.Width.{least_wide, magnitudes_in_query}
use Rattle.strip_acts.proofs.Asked.{IsAsked, query_suits}
use Rattle.strip_acts.proofs.Lists.{long_map, none_of}
use Rattle.strip_acts.proofs.Naming.{both_true, neither}
use Rattle.strip_catalog.specs.Accepted.{HasText}
use Rattle.strip_catalog.specs.Laws.{AsksRightly}
use Rattle.strip_catalog.specs.Refusals.{refusal}
use Rattle.strip_catalog.proofs.Causes.{at_most, both_empty, no_cause, no_exists, no_limit}
use Rattle.strip_catalog.proofs.Grouping.{not_refused}
use Rattle.strip_catalog.proofs.WrittenNames.{text_derive}

-- ---- items and groups

-- a total may stand in a query with groups
total_placed : (is_total : Bool) → is_total ≡ true → (not is_total && not false) ≡ false
total_placed true e = refl
total_placed false e = cc

-- and so may a group column
column_placed : (is_total here before : Bool) → here ≡ true → (not is_total && not (here || before)) ≡ false
column_placed true here before e = refl
column_placed false true before e = refl
column_placed false false before e = cc

-- what may stand there may do so with one group column more
still_placed : (is_total here before : Bool) → (not is_total && not before) ≡ false → (not is_total && not (here || before)) ≡ false
still_placed true here before e = refl
still_placed false true before e = refl
still_placed false false before e = e

-- some item may not stand in a query with these groups
abbrev any_misplaced : Option (List Place) → List Item → Bool
any_misplaced group items = list_any (λ (item : Item). is_misplaced group item.what) items

abbrev whats : List Item → List What
whats items = map (λ (item : Item). item.what) items

totals_placed : (items : List Item) → list_all is_total (whats items) ≡ true → any_misplaced (Some []) items ≡ false
totals_placed [] e = refl
totals_placed (item ∷ items) e =
    let both = both_true (is_total item.what) (list_all is_total (whats items)) e in
    none_of (is_misplaced (Some []) item.what) (any_misplaced (Some []) items) (total_placed (is_total item.what) both.0) (totals_placed items both.1)

with_column : (place : Place) (places : List Place) (items : List Item) → any_misplaced (Some places) items ≡ false → any_misplaced (Some (place ∷ places)) items ≡ false
with_column place places [] e = refl
with_column place places (item ∷ items) e =
    let both = neither (is_misplaced (Some places) item.what) (any_misplaced (Some places) items) e in
    none_of (is_misplaced (Some (place ∷ places)) item.what) (any_misplaced (Some (place ∷ places)) items)
    (still_placed (is_total item.what) (is_group_column item.what place) (list_any (is_group_column item.what) places) both.0)
    (with_column place places items both.1)

items_placed : (places : List Place) (items : List Item) → are_keys_and_totals places (whats items) ≡ true → any_misplaced (Some places) items ≡ false
items_placed [] items e = totals_placed items (both_true (not (is_empty (whats items))) (list_all is_total (whats items)) e).1
items_placed (place ∷ places) [] e = cc
items_placed (place ∷ places) (item ∷ items) e =
    let both = both_true (is_group_column item.what place) (are_keys_and_totals places (whats items)) e in
    none_of (is_misplaced (Some (place ∷ places)) item.what) (any_misplaced (Some (place ∷ places)) items)
    (column_placed (is_total item.what) (is_group_column item.what place) (list_any (is_group_column item.what) places) both.0)
    (with_column place places items (items_placed places items both.1))

group_placed : (group : Option (List Place)) (items : List Item) → has_keys_and_totals group (whats items) ≡ true → any_misplaced group items ≡ false
group_placed None items e = cc
group_placed (Some places) items e = items_placed places items e

-- no item of a query that can be derived is misplaced
derivable_placed : (query : Query) → is_derivable query ≡ true → has_misplaced query ≡ false
derivable_placed query e = group_placed query.group query.items e

-- what can be derived has groups
has_groups : (group : Option (List Place)) (whats : List What) → has_keys_and_totals group whats ≡ true → is_some group ≡ true
has_groups None whats e = cc
has_groups (Some places) whats e = refl

-- a query with groups has one entry at most
one_at_most : (placed : ColTree → Place) (group : Option (List ColTree)) (number : ℕ) → is_some (option_map (map placed) group) ≡ true → number ≤ most_entries group → number ≤ 1
one_at_most placed None number grouped few = cc
one_at_most placed (Some columns) number grouped few = few

-- ---- a statement that isn't refused

module _ (catalog : Catalog) (name : List ℕ) (tree : QueryTree) (e : refusal catalog (st.Derive name tree) ≡ None) where
  abbrev scope : Scope
  scope = outside_rules catalog.tables

  derive_asked : IsAsked scope tree
  derive_asked =
      let none = no_cause catalog (st.Derive name tree) e in
      record {
        once = (both_empty (name_if (is_some (table_named catalog.tables name)) name) (taken_in_query tree) (no_exists catalog (st.Derive name tree) e)).1;
        known = listed_none Unknown (unknown_in_query scope tree) none.1.1.0;
        within = (both_empty (one_more_than most_tables limit_kind.Tables (length catalog.tables)) (limits_in_query tree) (no_limit catalog (st.Derive name tree) e)).1;
        kinds = listed_none KindMismatch (mismatched_in_query scope tree) none.1.1.1.1.0;
        narrow = listed_none TooWide (filter (nat_le least_wide) (magnitudes_in_query scope tree)) none.1.1.1.1.1.0;
        placed = derivable_placed (query_of scope tree) (not_refused (is_derivable (query_of scope tree)) none.1.1.1.1.1.1.1.1.1.1.0);
      }

  abbrev query : Query
  query = query_of scope tree

  pub derive_asks : HasText (st.Derive name tree) → AsksRightly catalog.tables query
  derive_asks has =
      let suits = query_suits catalog.tables tree derive_asked in
      let grouped = has_groups query.group (map (λ (item : Item). item.what) query.items) (not_refused (is_derivable query) (no_cause catalog (st.Derive name tree) e).1.1.1.1.1.1.1.1.1.1.0) in
      let within = both_empty (more_than most_columns limit_kind.Columns (length tree.items)) (more_than (most_entries tree.group) limit_kind.Entries (length tree.entries)) derive_asked.within in
      let few = one_at_most (λ column. place_of (entries_of scope tree) column.of column.name) tree.group (length tree.entries) grouped (at_most (most_entries tree.group) (length tree.entries) limit_kind.Entries within.1) in
      let some = (text_derive name tree has).reads in
      let same = long_map (λ (entry : EntryTree). input_of catalog.tables entry.origin) tree.entries in
      record { one = omega (arith, few, some, same); grouped = grouped; suits = suits }
