-- What an accepted query stands for suits the entries of the scope that it stands in, outside rules or in a rule.
use Rattle.std.proofs.Common.{◌≡◌, ℕ, ◌+◌, Bool, true, false, List, [], ◌∷◌, ◌++◌, filter, filter_map, flat_map, length, map, nat_le, nat_lt, Option, Some, None, option_map, unwrap_or, refl, sym, ap, ap₂, ◌∙◌, arith}
use Rattle.std.specs.List.{AllByRecursion, enumerate_from, list_all}
use Rattle.std.proofs.lemmas.Bool.Decides.{nat_tests}
use Rattle.strip_value.specs.declared.kinds.Kind.{Kind}
use Rattle.strip_value.specs.declared.queries.Input.{Input}
use Rattle.strip_value.specs.declared.queries.Item.{Item}
use Rattle.strip_value.specs.declared.queries.Place.{Place}
use Rattle.strip_value.specs.declared.queries.Query.{Query}
use Rattle.strip_value.specs.declared.tables.ColumnDef.{ColumnDef}
use Rattle.strip_value.specs.declared.tables.TableDef.{TableDef}
use Rattle.strip_ast.specs.declared.queries.ColTree.{ColTree}
use Rattle.strip_ast.specs.declared.queries.EntryTree.{EntryTree}
use Rattle.strip_ast.specs.declared.queries.ItemTree.{ItemTree}
use Rattle.strip_ast.specs.declared.queries.Origin.{Origin}
use Rattle.strip_ast.specs.declared.queries.Origin.TheVariants as origin
use Rattle.strip_ast.specs.declared.queries.QueryTree.{QueryTree}
use Rattle.strip_ast.specs.declared.queries.Total.{Total}
use Rattle.strip_ast.specs.declared.queries.Total.TheVariants as total
use Rattle.strip_setup.specs.declared.errors.LimitKind.{LimitKind}
use Rattle.strip_setup.specs.declared.errors.LimitKind.TheVariants as limit_kind
use Rattle.strip_setup.specs.declared.scope.Entry.{Entry}
use Rattle.strip_setup.specs.Catalog.{columns_of, is_empty, repeated, table_id}
use Rattle.strip_setup.specs.Parts.{filter_wholes, item_wholes, query_wholes, total_wholes}
use Rattle.strip_setup.specs.Queries.{alias_of, entries_of, entry_of, input_of, item_name, item_names, kinds_of, origin_columns, place_of, query_of, Scope, what_of}
use Rattle.strip_setup.specs.Resolve.{outside_rules}
use Rattle.strip_names.specs.Exists.{taken_in_query}
use Rattle.strip_names.specs.Grouped.{has_misplaced}
use Rattle.strip_names.specs.Limits.{limit_if, limits_in_query, more_than, most_columns, most_entries}
use Rattle.strip_names.specs.Unknown.{unknown_column, unknown_in_all, unknown_in_query, unknown_origin}
use Rattle.strip_kinds.specs.Mismatch.{mismatched_in_query}
use Rattle.strip_kinds.specs.Width.{least_wide, magnitudes_in_query}
use Rattle.strip_acts.specs.Suiting.{has_column, kinds_in, most_inputs, suits_filter, suits_group, suits_input, suits_item, suits_over, suits_query}
use Rattle.strip_acts.specs.Trees.{input_columns}
use Rattle.strip_acts.proofs.Checking.{each_checked, IsCheckedWhole, IsKnownWhole, known_all, matched_all, narrow_all}
use Rattle.strip_acts.proofs.Columns.{understood}
use Rattle.strip_acts.proofs.Lists.{all-append, all_left, all_mapped, all_of, all_pass, all_right, both_empty, empty_flat, flat_all, long_map, long_numbered, map_twice}
use Rattle.strip_acts.proofs.Naming.{are_both, is_below, is_so, known}
use Rattle.strip_acts.proofs.QueryParts.{of_parts}
use Rattle.strip_acts.proofs.Understood.{filter_suits, IsUnderstood, sum_suits, value_suits}

-- ---- limits

not_passed : (at number : ℕ) (kind : LimitKind) → more_than at kind number ≡ [] → nat_le number at ≡ true
not_passed at number kind none = by_test (nat_lt at number) refl none
  where
    over : nat_lt at number ≡ false → nat_le number at ≡ true
    over e = grind (arith, nat_tests)

    by_test : (b : Bool) → nat_lt at number ≡ b → limit_if b kind at ≡ [] → nat_le number at ≡ true
    by_test true is e = cc
    by_test false is e = over is

-- ---- items and groups, over any entries

abbrev pub item_of : List Entry → ℕ × ItemTree → Item
item_of read item = record { name = item_name item; what = what_of read (item.1).what }

abbrev pub placed : List Entry → ColTree → Place
placed read column = place_of read column.of column.name

-- the expressions of the item are checked
abbrev pub IsCheckedItem : List Entry → ItemTree → Type 0
IsCheckedItem read item = AllByRecursion (IsCheckedWhole read) (total_wholes item.what)

module _ (read : List Entry) (plain : IsUnderstood read) where
  abbrev kinds : List (List Kind)
  kinds = kinds_of read

  what_suits : (t : Total) → AllByRecursion (IsCheckedWhole read) (total_wholes t) → suits_item kinds (what_of read t) ≡ true
  what_suits (total.Plain e) checked = value_suits read plain e checked.0.checked
  what_suits (total.Sum e) checked = sum_suits read plain e checked.0
  what_suits total.Count checked = refl

  items_suit : (n : ℕ) (items : List ItemTree) → AllByRecursion (IsCheckedItem read) items → list_all (λ (item : Item). suits_item kinds item.what) (map (item_of read) (enumerate_from n items)) ≡ true
  items_suit n [] checked = refl
  items_suit n (item ∷ items) checked =
      are_both (suits_item kinds (what_of read item.what)) (list_all (λ (item : Item). suits_item kinds item.what) (map (item_of read) (enumerate_from (n + 1) items)))
      (what_suits item.what checked.0) (items_suit (n + 1) items checked.1)

  abbrev IsTherePlace : Place → Type 0
  IsTherePlace place = has_column kinds place.entry place.column ≡ true

  abbrev is_there_place : Place → Bool
  is_there_place place = has_column kinds place.entry place.column

  group_suits : (group : Option (List ColTree)) → flat_map (unknown_column read) (unwrap_or group []) ≡ [] → suits_group kinds (option_map (map (placed read)) group) ≡ true
  group_suits None e = refl
  group_suits (Some columns) e =
      all_pass is_there_place (map (placed read) columns)
      (all_mapped (placed read) IsTherePlace columns (all_of (λ column. unknown_column read column ≡ []) (λ column. IsTherePlace (placed read column)) columns plain.there (empty_flat (unknown_column read) columns e)))

-- ---- a query that isn't refused

-- in the scope nothing is taken, unknown, too much, of the wrong kind, too wide or misplaced
pub record IsAsked (scope : Scope) (tree : QueryTree) : Type 0 where
  pub once : taken_in_query tree ≡ []
  pub known : unknown_in_query scope tree ≡ []
  pub within : limits_in_query tree ≡ []
  pub kinds : mismatched_in_query scope tree ≡ []
  pub narrow : filter (nat_le least_wide) (magnitudes_in_query scope tree) ≡ []
  pub placed : has_misplaced (query_of scope tree) ≡ false

-- what the entry takes its rows from is there
abbrev pub IsKnownEntry : Scope → EntryTree → Type 0
IsKnownEntry scope entry = unknown_origin scope entry.origin ≡ []

-- the names that are there, part by part
pub record Known (scope : Scope) (tree : QueryTree) : Type 0 where
  pub items : unknown_in_all (entries_of scope tree) (item_wholes tree.items) ≡ []
  pub origins : AllByRecursion (IsKnownEntry scope) tree.entries
  pub only : unknown_in_all (entries_of scope tree) (filter_wholes tree.filter) ≡ []
  pub group : flat_map (unknown_column (entries_of scope tree)) (unwrap_or tree.group []) ≡ []

module _ (scope : Scope) (tree : QueryTree) (asked : IsAsked scope tree) where
  abbrev read : List Entry
  read = entries_of scope tree

  pub all_known : Known scope tree
  all_known =
      let items = unknown_in_all read (item_wholes tree.items) in
      let origins = flat_map (λ (entry : EntryTree). unknown_origin scope entry.origin) tree.entries in
      let only = unknown_in_all read (filter_wholes tree.filter) in
      let group = flat_map (unknown_column read) (unwrap_or tree.group []) in
      let one = both_empty items (origins ++ (only ++ group)) asked.known in
      let two = both_empty origins (only ++ group) one.1 in
      let three = both_empty only group two.1 in
      record { items = one.0; origins = empty_flat (λ (entry : EntryTree). unknown_origin scope entry.origin) tree.entries two.0; only = three.0; group = three.1 }

  -- the limits that aren't passed
  pub limits : (nat_le (length tree.items) most_columns ≡ true) × (nat_le (length tree.entries) (most_entries tree.group) ≡ true)
  limits =
      let both = both_empty (more_than most_columns limit_kind.Columns (length tree.items)) (more_than (most_entries tree.group) limit_kind.Entries (length tree.entries)) asked.within in
      (not_passed most_columns (length tree.items) limit_kind.Columns both.0, not_passed (most_entries tree.group) (length tree.entries) limit_kind.Entries both.1)

  checked : AllByRecursion (IsCheckedWhole read) (query_wholes tree)
  checked =
      each_checked read (query_wholes tree)
      (all-append (IsKnownWhole read) (item_wholes tree.items) (filter_wholes tree.filter) (known_all read (item_wholes tree.items) all_known.items) (known_all read (filter_wholes tree.filter) all_known.only))
      (matched_all read (query_wholes tree) asked.kinds)
      (narrow_all read (query_wholes tree) asked.narrow)

  pub items_checked : AllByRecursion (IsCheckedItem read) tree.items
  items_checked =
      flat_all (λ (item : ItemTree). total_wholes item.what) (IsCheckedWhole read) tree.items (all_left (IsCheckedWhole read) (item_wholes tree.items) (filter_wholes tree.filter) checked)

  pub only_checked : AllByRecursion (IsCheckedWhole read) (filter_wholes tree.filter)
  only_checked = all_right (IsCheckedWhole read) (item_wholes tree.items) (filter_wholes tree.filter) checked

-- ---- over entries that may stand

-- what is known in the scope may stand, and has these columns
pub record HasInputs (scope : Scope) (may_stand : Input → Bool) (columns : Input → List ColumnDef) : Type 0 where
  pub stands : (from : Origin) → unknown_origin scope from ≡ [] → may_stand (input_of scope.tables from) ≡ true
  pub same : (from : Origin) → unknown_origin scope from ≡ [] → origin_columns scope from ≡ columns (input_of scope.tables from)

module _ (scope : Scope) (may_stand : Input → Bool) (columns : Input → List ColumnDef) (has : HasInputs scope may_stand columns) where
  abbrev input_at : EntryTree → Input
  input_at entry = input_of scope.tables entry.origin

  inputs_stand : (entries : List EntryTree) → AllByRecursion (IsKnownEntry scope) entries → list_all may_stand (map input_at entries) ≡ true
  inputs_stand [] e = refl
  inputs_stand (entry ∷ entries) e = are_both (may_stand (input_at entry)) (list_all may_stand (map input_at entries)) (has.stands entry.origin e.0) (inputs_stand entries e.1)

  kinds_same : (entries : List EntryTree) → AllByRecursion (IsKnownEntry scope) entries → kinds_of (map (entry_of scope) entries) ≡ kinds_in (map columns (map input_at entries))
  kinds_same [] e = refl
  kinds_same (entry ∷ entries) e = ap₂ (λ one kinds. map (λ (column : ColumnDef). column.kind) one ∷ kinds) (has.same entry.origin e.0) (kinds_same entries e.1)

  limits_kept : (placed : ColTree → Place) (group : Option (List ColTree)) (entries : List EntryTree) → nat_le (length entries) (most_entries group) ≡ true → nat_le (length (map input_at entries)) (most_inputs (option_map (map placed) group)) ≡ true
  limits_kept placed None entries e = ap (λ n. nat_le n 3) (long_map input_at entries) ∙ e
  limits_kept placed (Some columns) entries e = ap (λ n. nat_le n 1) (long_map input_at entries) ∙ e

  -- ---- a query

  module _ (tree : QueryTree) (asked : IsAsked scope tree) where
    abbrev query : Query
    query = query_of scope tree

    abbrev entries : List Entry
    entries = entries_of scope tree

    there : Known scope tree
    there = all_known scope tree asked

    within : (nat_le (length tree.items) most_columns ≡ true) × (nat_le (length tree.entries) (most_entries tree.group) ≡ true)
    within = limits scope tree asked

    plain : IsUnderstood entries
    plain = understood entries

    pub same_kinds : kinds_of entries ≡ kinds_in (map columns query.entries)
    same_kinds = kinds_same tree.entries there.origins

    names : (repeated (item_names tree.items) ≡ []) × (repeated (filter_map alias_of tree.entries) ≡ [])
    names = both_empty (repeated (item_names tree.items)) (repeated (filter_map alias_of tree.entries)) asked.once

    pub asked_suits : suits_over may_stand columns query ≡ true
    asked_suits = of_parts may_stand columns query (record {
      inputs = inputs_stand tree.entries there.origins;
      few = limits_kept (placed entries) tree.group tree.entries within.1;
      narrow = ap (λ n. nat_le n most_columns) (long_numbered (item_of entries) 1 tree.items) ∙ within.0;
      once = ap (λ those. is_empty (repeated those)) (map_twice (λ (item : Item). item.name) (item_of entries) (enumerate_from 1 tree.items)) ∙ ap is_empty names.0;
      items = sym (ap (λ ks. list_all (λ (item : Item). suits_item ks item.what) query.items) same_kinds) ∙ items_suit entries plain 1 tree.items (items_checked scope tree asked);
      filter = sym (ap (λ ks. suits_filter ks query.filter) same_kinds) ∙ filter_suits entries plain tree.filter (only_checked scope tree asked);
      group = sym (ap (λ ks. suits_group ks query.group) same_kinds) ∙ group_suits entries plain tree.group there.group;
      placed = is_so (has_misplaced query) asked.placed;
    })

-- ---- outside rules

module _ (tables : List TableDef) where
  abbrev outside : Scope
  outside = outside_rules tables

  table_stands : (from : Origin) → unknown_origin outside from ≡ [] → suits_input tables (input_of tables from) ≡ true
  table_stands (origin.Table name) e = is_below (table_id tables name) (length tables) (known tables name e).there
  table_stands (origin.Before name) e = cc
  table_stands origin.Inserted e = cc
  table_stands origin.Deleted e = cc
  table_stands origin.Old e = cc
  table_stands origin.New e = cc

  same_columns : (from : Origin) → unknown_origin outside from ≡ [] → origin_columns outside from ≡ input_columns tables (input_of tables from)
  same_columns (origin.Table name) e = ap columns_of (known tables name e).is
  same_columns (origin.Before name) e = cc
  same_columns origin.Inserted e = cc
  same_columns origin.Deleted e = cc
  same_columns origin.Old e = cc
  same_columns origin.New e = cc

  pub plain_inputs : HasInputs outside (suits_input tables) (input_columns tables)
  plain_inputs = record { stands = table_stands; same = same_columns }

  pub query_suits : (tree : QueryTree) → IsAsked outside tree → suits_query tables (query_of outside tree) ≡ true
  query_suits tree asked = asked_suits outside (suits_input tables) (input_columns tables) plain_inputs tree asked
