-- Where an accepted query has a text, so does the act that it stands for, which suits.
use Rattle.std.proofs.Common.{◌≡◌, ℕ, ◌+◌, ◌<◌, ◌≤◌, ◌^◌, true, ◌&&◌, List, [], ◌∷◌, length, map, Option, Some, None, unwrap_or, option_map, flat_map, nat_le, refl, sym, ap, ◌∙◌, subst, arith}
use Rattle.std.specs.List.{AllByRecursion, enumerate_from, list_all}
use Rattle.strip_value.specs.declared.acts.Act.TheVariants as act
use Rattle.strip_value.specs.declared.queries.Input.{Input}
use Rattle.strip_value.specs.declared.queries.Query.{Query}
use Rattle.strip_value.specs.declared.tables.ColumnDef.{ColumnDef}
use Rattle.strip_value.specs.declared.tables.TableDef.{TableDef}
use Rattle.strip_value.proofs.Lists.{all_at}
use Rattle.strip_ast.specs.declared.deeds.Deed.TheVariants as deed
use Rattle.strip_ast.specs.declared.queries.ColTree.{ColTree}
use Rattle.strip_ast.specs.declared.queries.EntryTree.{EntryTree}
use Rattle.strip_ast.specs.declared.queries.ItemTree.{ItemTree}
use Rattle.strip_ast.specs.declared.queries.Origin.{Origin}
use Rattle.strip_ast.specs.declared.queries.Origin.TheVariants as origin
use Rattle.strip_ast.specs.declared.queries.QueryTree.{QueryTree}
use Rattle.strip_ast.specs.declared.queries.Total.{Total}
use Rattle.strip_ast.specs.declared.queries.Total.TheVariants as total
use Rattle.strip_ast.specs.Tokens.{is_grammar_name}
use Rattle.strip_meaning.specs.Contents.{def_at}
use Rattle.strip_meaning.specs.Effect.{no_table}
use Rattle.strip_setup.specs.declared.scope.Entry.{Entry}
use Rattle.strip_setup.specs.Catalog.{table_id}
use Rattle.strip_setup.specs.Parts.{total_wholes}
use Rattle.strip_setup.specs.Queries.{input_of, item_name, kinds_of, query_of, Scope, what_of}
use Rattle.strip_setup.specs.Queries.{entries_of as read_entries}
use Rattle.strip_setup.specs.Resolve.{act_of, outside_rules}
use Rattle.strip_names.specs.Limits.{most_columns, most_entries}
use Rattle.strip_names.specs.Unknown.{unknown_column, unknown_origin}
use Rattle.strip_acts.specs.Laws.{AreNamed, AreNames, column_names, IsAccepted}
use Rattle.strip_acts.specs.Suiting.{has_column, kinds_in, suits, suits_input, suits_query}
use Rattle.strip_acts.specs.Trees.{alias_at, col_tree, entry_trees, input_columns, item_tree, named_entries, origin_of, query_tree, total_of}
use Rattle.strip_acts.specs.Writable.{are_listed, is_col, is_entry, is_filter, is_group, is_item, is_optional_name, is_query, is_total, is_written}
use Rattle.strip_acts.proofs.Alike.{filter_written, IsNamed, value_written}
use Rattle.strip_acts.proofs.Aliases.{alias_named, AreAllNames, columns_named}
use Rattle.strip_acts.proofs.Asked.{IsAsked, IsCheckedItem, IsKnownEntry, Known, all_known, item_of, items_checked, limits, only_checked, placed, plain_inputs, query_suits, same_kinds}
use Rattle.strip_acts.proofs.Checking.{IsCheckedWhole}
use Rattle.strip_acts.proofs.Columns.{understood}
use Rattle.strip_acts.proofs.ItemNames.{item_named}
use Rattle.strip_acts.proofs.Lists.{all_of, empty_flat, long_map, map_twice, mapped_all}
use Rattle.strip_acts.proofs.Naming.{are_both, at_most, both_true, known}
use Rattle.strip_acts.proofs.Standing.{listed_again}
use Rattle.strip_acts.proofs.Understood.{IsUnderstood}

-- ---- items and groups, over any entries

module _ (read written : List Entry) (plain : IsUnderstood read) (in_names : IsNamed read written) where
  total_written : (t : Total) → AllByRecursion (IsCheckedWhole read) (total_wholes t) → is_total t ≡ true → is_total (total_of written (what_of read t)) ≡ true
  total_written (total.Plain e) checked is = value_written read written plain in_names 0 e checked.0.checked is
  total_written (total.Sum e) checked is = value_written read written plain in_names 0 e checked.0.checked is
  total_written total.Count checked is = refl

  item_written : (n : ℕ) (item : ItemTree) → n < 2 ^ 64 → IsCheckedItem read item → is_item item ≡ true → is_item (item_tree written (item_of read (n, item))) ≡ true
  item_written n item small checked is =
      are_both (is_total (total_of written (what_of read item.what))) (is_grammar_name (item_name (n, item)))
      (total_written item.what checked (both_true (is_total item.what) (is_optional_name item.name) is).0) (item_named n item small is)

  items_written : (n : ℕ) (items : List ItemTree) → n + length items < 2 ^ 64 → AllByRecursion (IsCheckedItem read) items → list_all is_item items ≡ true → list_all is_item (map (item_tree written) (map (item_of read) (enumerate_from n items))) ≡ true
  items_written n [] few checked is = refl
  items_written n (item ∷ items) few checked is =
      let both = both_true (is_item item) (list_all is_item items) is in
      are_both (is_item (item_tree written (item_of read (n, item)))) (list_all is_item (map (item_tree written) (map (item_of read) (enumerate_from (n + 1) items))))
      (item_written n item (omega (arith, few)) checked.0 both.0)
      (items_written (n + 1) items (omega (arith, few)) checked.1 both.1)

  items_listed : (items : List ItemTree) → length items ≤ 16 → AllByRecursion (IsCheckedItem read) items → are_listed is_item items ≡ true → are_listed is_item (map (item_tree written) (map (item_of read) (enumerate_from 1 items))) ≡ true
  items_listed [] few checked is = cc
  items_listed (item ∷ items) few checked is = items_written 1 (item ∷ items) (omega (arith, few)) checked is

  -- ---- groups

  col_written : (column : ColTree) → unknown_column read column ≡ [] → is_col column ≡ true → is_col (col_tree written (placed read column)) ≡ true
  col_written column e is = in_names.named (placed read column).entry (placed read column).column (plain.there column e)

  group_written : (group : Option (List ColTree)) → flat_map (unknown_column read) (unwrap_or group []) ≡ [] → is_group group ≡ true → is_group (option_map (map (col_tree written)) (option_map (map (placed read)) group)) ≡ true
  group_written None e is = refl
  group_written (Some columns) e is =
      ap (are_listed is_col) (map_twice (col_tree written) (placed read) columns)
      ∙ listed_again (λ column. col_tree written (placed read column)) is_col is_col columns
      (all_of (λ column. unknown_column read column ≡ []) (λ column. is_col column ≡ true → is_col (col_tree written (placed read column)) ≡ true) columns col_written (empty_flat (unknown_column read) columns e)) is

-- ---- entries

module _ (tables : List TableDef) (named : AreNamed tables) where
  abbrev scope : Scope
  scope = outside_rules tables

  abbrev IsKnownOrigin : Origin → Type 0
  IsKnownOrigin from = unknown_origin scope from ≡ []

  abbrev input_at : EntryTree → Input
  input_at entry = input_of tables entry.origin

  names_at : (from : Origin) → IsKnownOrigin from → AreNames (map (λ (column : ColumnDef). column.name) (input_columns tables (input_of tables from)))
  names_at (origin.Table name) e = all_at (λ (t : TableDef). AreNames (column_names t)) tables (table_id tables name) no_table.def named.columns (known tables name e).there
  names_at (origin.Before name) e = cc
  names_at origin.Inserted e = cc
  names_at origin.Deleted e = cc
  names_at origin.Old e = cc
  names_at origin.New e = cc

  all_names : (entries : List EntryTree) → AllByRecursion (IsKnownEntry scope) entries → AreAllNames (map (input_columns tables) (map input_at entries))
  all_names [] e = tt
  all_names (entry ∷ entries) e = (names_at entry.origin e.0, all_names entries e.1)

  abbrev tree_at : ℕ × Input → EntryTree
  tree_at numbered = record { origin = origin_of tables numbered.1; alias = Some (alias_at numbered.0) }

  entry_written : (n : ℕ) (from : Origin) → n < 3 → IsKnownOrigin from → is_entry (tree_at (n, input_of tables from)) ≡ true
  entry_written n (origin.Table name) lt e =
      let table = def_at tables (table_id tables name) in
      are_both (is_grammar_name table.name) (is_grammar_name (alias_at n))
      (all_at (λ (t : TableDef). is_grammar_name t.name ≡ true) tables (table_id tables name) no_table.def
      (mapped_all (λ (t : TableDef). t.name) (λ one. is_grammar_name one ≡ true) tables named.names) (known tables name e).there)
      (alias_named n lt)
  entry_written n (origin.Before name) lt e = cc
  entry_written n origin.Inserted lt e = cc
  entry_written n origin.Deleted lt e = cc
  entry_written n origin.Old lt e = cc
  entry_written n origin.New lt e = cc

  entries_written : (n : ℕ) (entries : List EntryTree) → n + length entries ≤ 3 → AllByRecursion (IsKnownEntry scope) entries → list_all is_entry (map tree_at (enumerate_from n (map input_at entries))) ≡ true
  entries_written n [] few e = refl
  entries_written n (entry ∷ entries) few e =
      are_both (is_entry (tree_at (n, input_at entry))) (list_all is_entry (map tree_at (enumerate_from (n + 1) (map input_at entries))))
      (entry_written n entry.origin (omega (arith, few)) e.0) (entries_written (n + 1) entries (omega (arith, few)) e.1)

  entries_listed : (entries : List EntryTree) → length entries ≤ 3 → AllByRecursion (IsKnownEntry scope) entries → are_listed is_entry entries ≡ true → are_listed is_entry (entry_trees tables (map input_at entries)) ≡ true
  entries_listed [] few e is = cc
  entries_listed (entry ∷ entries) few e is = entries_written 0 (entry ∷ entries) (omega (arith, few)) e

  -- at most three in any query
  few_entries : (group : Option (List ColTree)) (entries : List EntryTree) → nat_le (length entries) (most_entries group) ≡ true → length entries ≤ 3
  few_entries None entries e = at_most (length entries) 3 e
  few_entries (Some columns) entries e = let one = at_most (length entries) 1 e in omega (arith, one)

  -- ---- a query

  module _ (tree : QueryTree) (accepted : IsAccepted tables (deed.Select tree)) where
    asked : IsAsked scope tree
    asked = record {
      once = accepted.once;
      known = accepted.known;
      within = accepted.within;
      kinds = accepted.kinds;
      narrow = accepted.narrow;
      placed = accepted.placed;
    }

    abbrev query : Query
    query = query_of scope tree

    abbrev read : List Entry
    read = read_entries scope tree

    abbrev inputs : List Input
    inputs = map input_at tree.entries

    abbrev columns : List (List ColumnDef)
    columns = map (input_columns tables) inputs

    abbrev written : List Entry
    written = named_entries tables inputs

    there : Known scope tree
    there = all_known scope tree asked

    within : (nat_le (length tree.items) most_columns ≡ true) × (nat_le (length tree.entries) (most_entries tree.group) ≡ true)
    within = limits scope tree asked

    few : length tree.entries ≤ 3
    few = few_entries tree.group tree.entries within.1

    same : kinds_of read ≡ kinds_in columns
    same = same_kinds scope (suits_input tables) (input_columns tables) (plain_inputs tables) tree asked

    plain : IsUnderstood read
    plain = understood read

    in_names : IsNamed read written
    in_names =
        let short : length columns ≤ 3 = subst (λ n. n ≤ 3) (sym (long_map (input_columns tables) inputs ∙ long_map input_at tree.entries)) few in
        record {
          named = λ entry column is.
              columns_named columns entry column short (all_names tree.entries there.origins) (sym (ap (λ ks. has_column ks entry column) same) ∙ is);
        }

    query_written : is_written (deed.Select tree) ≡ true → is_query (query_tree tables query) ≡ true
    query_written is =
        let new = query_tree tables query in
        let items = are_listed is_item new.items in
        let entries = are_listed is_entry new.entries in
        let p0 = both_true (are_listed is_item tree.items) (are_listed is_entry tree.entries && (is_filter tree.filter && is_group tree.group)) is in
        let p1 = both_true (are_listed is_entry tree.entries) (is_filter tree.filter && is_group tree.group) p0.1 in
        let p2 = both_true (is_filter tree.filter) (is_group tree.group) p1.1 in
        are_both items (entries && (is_filter new.filter && is_group new.group)) (items_listed read written plain in_names tree.items (at_most (length tree.items) 16 within.0) (items_checked scope tree asked) p0.0)
        (are_both entries (is_filter new.filter && is_group new.group) (entries_listed tree.entries few there.origins p1.0)
        (are_both (is_filter new.filter) (is_group new.group) (filter_written read written plain in_names tree.filter (only_checked scope tree asked) p2.0) (group_written read written plain in_names tree.group there.group p2.1)))

    select_suits : is_written (deed.Select tree) ≡ true → suits tables (act.Select query) ≡ true
    select_suits is = are_both (suits_query tables query) (is_query (query_tree tables query)) (query_suits tables tree asked) (query_written is)

  pub select_law : (tree : QueryTree) → is_written (deed.Select tree) ≡ true → IsAccepted tables (deed.Select tree) → suits tables (act_of tables (deed.Select tree)) ≡ true
  select_law tree is accepted = select_suits tree accepted is
