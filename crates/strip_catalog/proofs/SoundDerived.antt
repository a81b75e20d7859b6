-- A derived table that isn't refused has few columns, its key columns among them, and is what its query's form says.
use Rattle.std.proofs.Common.{◌≡◌, ℕ, zero, suc, ◌+◌, ◌<◌, ◌≤◌, Bool, true, false, not, List, [], ◌∷◌, map, filter, length, Option, Some, None, option_map, is_some, refl, sym, ◌∙◌, subst, arith}
use Rattle.std.specs.List.{AllByRecursion, enumerate_from, range_with_len}
use Rattle.std.proofs.lemmas.List.{length-map}
use Rattle.std.proofs.lemmas.List.FromFn.{length-enumerate_from, length-range_with_len}
use Rattle.strip_value.specs.declared.queries.Item.{Item}
use Rattle.strip_value.specs.declared.queries.Place.{Place}
use Rattle.strip_value.specs.declared.queries.What.{What}
use Rattle.strip_value.specs.declared.tables.TableDef.{TableDef}
use Rattle.strip_ast.specs.declared.queries.ColTree.{ColTree}
use Rattle.strip_ast.specs.declared.queries.ItemTree.{ItemTree}
use Rattle.strip_ast.specs.declared.queries.QueryTree.{QueryTree}
use Rattle.strip_ast.specs.declared.statements.Statement.TheVariants as st
use Rattle.strip_setup.specs.declared.errors.LimitKind.TheVariants as limit_kind
use Rattle.strip_setup.specs.declared.errors.SetupError.TheVariants.{Exists, KindMismatch, NotGrouped, ReadsDerived, Unknown}
use Rattle.strip_setup.specs.declared.scope.Entry.{Entry}
use Rattle.strip_setup.specs.Catalog.{Catalog, is_derived, name_if, refused_if, table_named}
use Rattle.strip_setup.specs.Parts.{names_read}
use Rattle.strip_setup.specs.Queries.{answer_of, answers_of, entries_of, item_name, place_of, query_of, what_of}
use Rattle.strip_setup.specs.Resolve.{derived_of, group_numbers, outside_rules}
use Rattle.strip_setup.proofs.Firsts.{no_cause as listed_none}
use Rattle.strip_names.specs.Exists.{taken, taken_in_query}
use Rattle.strip_names.specs.Grouped.{are_keys_and_totals, has_keys_and_totals, is_derivable, is_group_column}
use Rattle.strip_names.specs.Limits.{limits, limits_in_query, more_than, most_entries, one_more_than}
use Rattle.strip_names.specs.Unknown.{unknown_in_query}
use Rattle.strip_kinds.specs.Mismatch.{mismatched_in_query}
use Rattle.strip_catalog.specs.Laws.{IsDerivedTable, IsTableOf}
use Rattle.strip_catalog.specs.Refusals.{refusal}
use Rattle.strip_catalog.proofs.Causes.{at_most, both_empty, no_cause, none_there}
use Rattle.strip_catalog.proofs.SoundFirst.{IsPassed, derived_first}
use Rattle.strip_catalog.proofs.SoundFound.{both_true}

-- ---- columns and key columns

width : (tables : List TableDef) (name : List ℕ) (query : QueryTree) → length (derived_of tables name query).columns ≡ length query.items
width tables name query =
    let answers = answers_of (outside_rules tables) query in
    length-map answers (λ answer. record { name = answer.name; kind = answer.kind })
    ∙ length-map (enumerate_from 1 query.items) (answer_of (entries_of (outside_rules tables) query))
    ∙ length-enumerate_from 1 query.items

-- the group columns are no more than the items, which begin with them
groups_few : (places : List Place) (whats : List What) → are_keys_and_totals places whats ≡ true → length places ≤ length whats
groups_few [] whats e = omega arith
groups_few (place ∷ places) [] e = cc
groups_few (place ∷ places) (w ∷ whats) e =
    let rest = groups_few places whats (both_true (is_group_column w place) (are_keys_and_totals places whats) e).1 in
    omega (arith, rest)

key_few : (entries : List Entry) (group : Option (List ColTree)) (whats : List What) → has_keys_and_totals (option_map (map (λ (column : ColTree). place_of entries column.of column.name)) group) whats ≡ true → length (group_numbers group) ≤ length whats
key_few entries None whats e = omega arith
key_few entries (Some columns) whats e =
    let places : ColTree → Place = λ column. place_of entries column.of column.name in
    let few = groups_few (map places columns) whats e in
    let same = length-map columns places in
    let numbers = length-range_with_len 0 (length columns) in
    omega (arith, few, same, numbers)

range_below : (a n most : ℕ) → a + n ≤ most → AllByRecursion (λ column. column < most) (range_with_len a n)
range_below a zero most le = tt
range_below a (suc n) most le = (omega (arith, le), range_below (a + 1) n most (omega (arith, le)))

key_below : (group : Option (List ColTree)) (most : ℕ) → length (group_numbers group) ≤ most → AllByRecursion (λ column. column < most) (group_numbers group)
key_below None most le = tt
key_below (Some columns) most le = let numbers = length-range_with_len 0 (length columns) in range_below 0 (length columns) most (omega (arith, le, numbers))

not_refused : (b : Bool) → refused_if (not b) NotGrouped ≡ None → b ≡ true
not_refused true e = refl
not_refused false e = cc

-- ---- a statement that isn't refused

module _ (catalog : Catalog) (name : List ℕ) (query : QueryTree) (e : refusal catalog (st.Derive name query) ≡ None) where
  pub few : (length query.items ≤ 16) × (length query.entries ≤ most_entries query.group)
  few =
      let items = more_than 16 limit_kind.Columns (length query.items) in
      let entries = more_than (most_entries query.group) limit_kind.Entries (length query.entries) in
      let passed = none_there (limits catalog (st.Derive name query)) (no_cause catalog (st.Derive name query) e).1.1.1.0 in
      let both = both_empty items entries (both_empty (one_more_than 64 limit_kind.Tables (length catalog.tables)) (limits_in_query query) passed).1 in
      (at_most 16 (length query.items) limit_kind.Columns both.0, at_most (most_entries query.group) (length query.entries) limit_kind.Entries both.1)

  query_passed : IsPassed catalog.tables query
  query_passed =
      let scope = outside_rules catalog.tables in
      let none = no_cause catalog (st.Derive name query) e in
      let derived = filter (λ name. is_derived (table_named catalog.tables name)) (names_read query) in
      let apart = listed_none Exists (taken catalog (st.Derive name query)) none.1.0 in
      record {
        known = listed_none Unknown (unknown_in_query scope query) none.1.1.0;
        fit = listed_none KindMismatch (mismatched_in_query scope query) none.1.1.1.1.0;
        apart = (both_empty (name_if (is_some (table_named catalog.tables name)) name) (taken_in_query query) apart).1;
        stored = listed_none ReadsDerived derived none.1.1.1.1.1.1.1.0;
        few = few.1;
      }

  groups : length (group_numbers query.group) ≤ length query.items
  groups =
      let entries = entries_of (outside_rules catalog.tables) query in
      let made = query_of (outside_rules catalog.tables) query in
      let derivable = not_refused (is_derivable made) (no_cause catalog (st.Derive name query) e).1.1.1.1.1.1.1.1.1.1.0 in
      let fewer = key_few entries query.group (map (λ (item : Item). item.what) made.items) derivable in
      let whats = length-map made.items (λ (item : Item). item.what) in
      let item_of : ℕ × ItemTree → Item = λ item. record { name = item_name item; what = what_of entries (item.1).what } in
      let items = length-map (enumerate_from 1 query.items) item_of in
      let numbered = length-enumerate_from 1 query.items in
      omega (arith, fewer, whats, items, numbered)

  pub derive_sound : AllByRecursion (IsTableOf catalog.tables) catalog.tables → IsDerivedTable catalog.tables (derived_of catalog.tables name query)
  derive_sound sound =
      let columns = width catalog.tables name query in
      record {
        derived = refl;
        narrow = subst (λ n. n ≤ 16) (sym columns) few.0;
        key = subst (λ n. AllByRecursion (λ column. column < n) (group_numbers query.group)) (sym columns) (key_below query.group (length query.items) groups);
        unlimited = refl;
        first = derived_first catalog.tables name sound query query_passed;
      }
