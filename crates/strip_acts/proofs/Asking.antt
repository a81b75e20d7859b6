-- A query that suits is written, accepted and read again.
use Rattle.std.proofs.Common.{◌≡◌, ℕ, ◌+◌, ◌≤◌, true, false, List, [], ◌∷◌, ◌++◌, length, map, Option, Some, None, unwrap_or, option_map, filter_map, flat_map, nat_le, nat_lt, refl, sym, ap, ap₂, ◌∙◌, subst, arith}
use Rattle.std.specs.List.{AllByRecursion, enumerate_from, list_all}
use Rattle.std.proofs.lemmas.Bool.Decides.{nat_tests}
use Rattle.strip_value.specs.declared.acts.Act.TheVariants as act
use Rattle.strip_value.specs.declared.expressions.Calc.TheVariants as calc
use Rattle.strip_value.specs.declared.expressions.Test.{Test}
use Rattle.strip_value.specs.declared.kinds.Kind.{Kind}
use Rattle.strip_value.specs.declared.queries.Input.{Input}
use Rattle.strip_value.specs.declared.queries.Input.TheVariants as input
use Rattle.strip_value.specs.declared.queries.Item.{Item}
use Rattle.strip_value.specs.declared.queries.Place.{Place}
use Rattle.strip_value.specs.declared.queries.Query.{Query}
use Rattle.strip_value.specs.declared.queries.What.{What}
use Rattle.strip_value.specs.declared.queries.What.TheVariants as what
use Rattle.strip_value.specs.declared.tables.ColumnDef.{ColumnDef}
use Rattle.strip_value.specs.declared.tables.TableDef.{TableDef}
use Rattle.strip_value.proofs.Lists.{all_at}
use Rattle.strip_ast.specs.declared.queries.ColTree.{ColTree}
use Rattle.strip_ast.specs.declared.queries.EntryTree.{EntryTree}
use Rattle.strip_ast.specs.declared.queries.ItemTree.{ItemTree}
use Rattle.strip_ast.specs.declared.queries.QueryTree.{QueryTree}
use Rattle.strip_meaning.specs.Effect.{no_table}
use Rattle.strip_setup.specs.declared.errors.LimitKind.{LimitKind}
use Rattle.strip_setup.specs.declared.errors.LimitKind.TheVariants as limit_kind
use Rattle.strip_setup.specs.declared.scope.Entry.{Entry}
use Rattle.strip_setup.specs.Catalog.{columns_of, first, repeated}
use Rattle.strip_setup.specs.Parts.{filter_wholes, item_wholes, query_wholes, total_wholes}
use Rattle.strip_setup.specs.Queries.{alias_of, entry_of, filter_of, input_of, item_name, item_names, kinds_of, place_of, query_of, Scope, what_of}
use Rattle.strip_setup.specs.Queries.{entries_of as read_entries}
use Rattle.strip_setup.specs.Resolve.{outside_rules}
use Rattle.strip_names.specs.Grouped.{has_misplaced}
use Rattle.strip_names.specs.Limits.{limit_if, more_than, most_columns, most_entries}
use Rattle.strip_names.specs.Unknown.{unknown_column, unknown_in_all, unknown_origin}
use Rattle.strip_acts.specs.Laws.{AreApart, AreNamed, column_names, IsAccepted, IsReadAgain}
use Rattle.strip_acts.specs.Suiting.{has_column, kinds_in, most_inputs, suits, suits_filter, suits_group, suits_input, suits_item, suits_query}
use Rattle.strip_acts.specs.Trees.{alias_at, col_tree, entry_trees, input_columns, item_tree, named_entries, origin_of, query_tree, total_of, tree_of}
use Rattle.strip_acts.specs.Writable.{is_written}
use Rattle.strip_acts.proofs.Aliases.{aliases_once, AreAllApart, entries_from, kinds_named, named_back}
use Rattle.strip_acts.proofs.Checking.{IsCheckedWhole}
use Rattle.strip_acts.proofs.Lists.{all-append, each_passes, empty_both, flat_empty, long_map, long_numbered, none_empty}
use Rattle.strip_acts.proofs.Naming.{are_both, at_most, below, both_true, def_named, id_named, is_not, named_known}
use Rattle.strip_acts.proofs.QueryParts.{SuitsOver, in_parts}
use Rattle.strip_acts.proofs.Reading.{filter_again, filter_checked, IsReadBack, sum_again, sum_whole, value_again, value_checked, value_whole}
use Rattle.strip_acts.proofs.Setting.{wholes_known, wholes_matched, wholes_narrow}

-- ---- limits

none_passed : (at number : ℕ) (kind : LimitKind) → nat_le number at ≡ true → more_than at kind number ≡ []
none_passed at number kind le = ap (λ b. limit_if b kind at) over
  where
    over : nat_lt at number ≡ false
    over = grind (arith, nat_tests)

-- ---- items, filters and groups, over any entries

module _ (read written : List Entry) (back : IsReadBack read written) where
  abbrev kinds : List (List Kind)
  kinds = kinds_of read

  what_again : (w : What) → suits_item kinds w ≡ true → what_of read (total_of written w) ≡ w
  what_again (what.Plain e) fits = ap what.Plain (value_again read written back e fits)
  what_again (what.Sum e) fits = ap what.Sum (sum_again read written back e fits)
  what_again what.Count fits = refl

  what_checked : (w : What) → suits_item kinds w ≡ true → AllByRecursion (IsCheckedWhole read) (total_wholes (total_of written w))
  what_checked (what.Plain e) fits = (value_whole read written back e fits, tt)
  what_checked (what.Sum e) fits = (sum_whole read written back e fits, tt)
  what_checked what.Count fits = tt

  abbrev Suits : Item → Type 0
  Suits item = suits_item kinds item.what ≡ true

  abbrev item_with : List ℕ → What → Item
  item_with name w = record { name = name; what = w }

  abbrev item_of : ℕ × ItemTree → Item
  item_of item = record { name = item_name item; what = what_of read (item.1).what }

  items_again : (n : ℕ) (items : List Item) → AllByRecursion Suits items → map item_of (enumerate_from n (map (item_tree written) items)) ≡ items
  items_again n [] fits = refl
  items_again n (item ∷ items) fits = ap₂ (λ x xs. x ∷ xs) (ap (item_with item.name) (what_again item.what fits.0)) (items_again (n + 1) items fits.1)

  items_checked : (items : List Item) → AllByRecursion Suits items → AllByRecursion (IsCheckedWhole read) (item_wholes (map (item_tree written) items))
  items_checked [] fits = tt
  items_checked (item ∷ items) fits =
      all-append (IsCheckedWhole read) (total_wholes (total_of written item.what)) (item_wholes (map (item_tree written) items)) (what_checked item.what fits.0) (items_checked items fits.1)

  abbrev IsTherePlace : Place → Type 0
  IsTherePlace place = has_column kinds place.entry place.column ≡ true

  place_again : (place : Place) → IsTherePlace place → place_of read (col_tree written place).of (col_tree written place).name ≡ place
  place_again place there =
      let none : Place = record { entry = 0; column = 0 } in
      ap (λ (places : List Place). unwrap_or (first places) none) (back.place place.entry place.column there)

  places_again : (places : List Place) → AllByRecursion IsTherePlace places → map (λ (column : ColTree). place_of read column.of column.name) (map (col_tree written) places) ≡ places
  places_again [] there = refl
  places_again (place ∷ places) there = ap₂ (λ x xs. x ∷ xs) (place_again place there.0) (places_again places there.1)

  places_known : (places : List Place) → AllByRecursion IsTherePlace places → AllByRecursion (λ column. unknown_column read column ≡ []) (map (col_tree written) places)
  places_known [] there = tt
  places_known (place ∷ places) there =
      ((value_checked read written back (calc.Column place.entry place.column) (are_both (has_column kinds place.entry place.column) true there.0 refl)).known.0, places_known places there.1)

  group_again : (group : Option (List Place)) → suits_group kinds group ≡ true → option_map (map (λ (column : ColTree). place_of read column.of column.name)) (option_map (map (col_tree written)) group) ≡ group
  group_again None fits = refl
  group_again (Some places) fits = ap Some (places_again places (each_passes (λ (place : Place). has_column kinds place.entry place.column) places fits))

  group_known : (group : Option (List Place)) → suits_group kinds group ≡ true → flat_map (unknown_column read) (unwrap_or (option_map (map (col_tree written)) group) []) ≡ []
  group_known None fits = refl
  group_known (Some places) fits =
      flat_empty (unknown_column read) (map (col_tree written) places) (places_known places (each_passes (λ (place : Place). has_column kinds place.entry place.column) places fits))

-- the names of the items
names_again : (written : List Entry) (n : ℕ) (items : List Item) → map item_name (enumerate_from n (map (item_tree written) items)) ≡ map (λ (item : Item). item.name) items
names_again written n [] = refl
names_again written n (item ∷ items) = ap (λ names. item.name ∷ names) (names_again written (n + 1) items)

-- ---- entries

module _ (tables : List TableDef) (named : AreNamed tables) where
  abbrev scope : Scope
  scope = outside_rules tables

  abbrev IsTable : Input → Type 0
  IsTable one = suits_input tables one ≡ true

  abbrev tree_at : ℕ × Input → EntryTree
  tree_at numbered = record { origin = origin_of tables numbered.1; alias = Some (alias_at numbered.0) }

  abbrev entry_with : ℕ → List ColumnDef → Entry
  entry_with n columns = record { alias = Some (alias_at n); columns = columns }

  columns_again : (one : Input) → IsTable one → (n : ℕ) → entry_of scope (tree_at (n, one)) ≡ entry_with n (input_columns tables one)
  columns_again (input.Table id) is n = ap (λ (o : Option TableDef). entry_with n (columns_of o)) (def_named tables id named.own (below id (length tables) is))
  columns_again (input.Before id) is n = cc
  columns_again input.Inserted is n = cc
  columns_again input.Deleted is n = cc
  columns_again input.Old is n = cc
  columns_again input.New is n = cc

  entries_again : (n : ℕ) (inputs : List Input) → AllByRecursion IsTable inputs → map (entry_of scope) (map tree_at (enumerate_from n inputs)) ≡ entries_from n (map (input_columns tables) inputs)
  entries_again n [] are = refl
  entries_again n (one ∷ inputs) are = ap₂ (λ x xs. x ∷ xs) (columns_again one are.0 n) (entries_again (n + 1) inputs are.1)

  input_again : (one : Input) → IsTable one → input_of tables (origin_of tables one) ≡ one
  input_again (input.Table id) is = ap input.Table (id_named tables id named.own (below id (length tables) is))
  input_again (input.Before id) is = cc
  input_again input.Inserted is = cc
  input_again input.Deleted is = cc
  input_again input.Old is = cc
  input_again input.New is = cc

  inputs_again : (n : ℕ) (inputs : List Input) → AllByRecursion IsTable inputs → map (λ (entry : EntryTree). input_of tables entry.origin) (map tree_at (enumerate_from n inputs)) ≡ inputs
  inputs_again n [] are = refl
  inputs_again n (one ∷ inputs) are = ap₂ (λ x xs. x ∷ xs) (input_again one are.0) (inputs_again (n + 1) inputs are.1)

  origin_known : (one : Input) → IsTable one → unknown_origin scope (origin_of tables one) ≡ []
  origin_known (input.Table id) is = named_known tables id named.own (below id (length tables) is)
  origin_known (input.Before id) is = cc
  origin_known input.Inserted is = cc
  origin_known input.Deleted is = cc
  origin_known input.Old is = cc
  origin_known input.New is = cc

  origins_known : (n : ℕ) (inputs : List Input) → AllByRecursion IsTable inputs → AllByRecursion (λ (entry : EntryTree). unknown_origin scope entry.origin ≡ []) (map tree_at (enumerate_from n inputs))
  origins_known n [] are = tt
  origins_known n (one ∷ inputs) are = (origin_known one are.0, origins_known (n + 1) inputs are.1)

  -- the columns of each entry have names of their own
  apart_at : (one : Input) → IsTable one → AreApart (map (λ (column : ColumnDef). column.name) (input_columns tables one))
  apart_at (input.Table id) is = all_at (λ (t : TableDef). AreApart (column_names t)) tables id no_table.def named.apart (below id (length tables) is)
  apart_at (input.Before id) is = tt
  apart_at input.Inserted is = tt
  apart_at input.Deleted is = tt
  apart_at input.Old is = tt
  apart_at input.New is = tt

  all_apart : (inputs : List Input) → AllByRecursion IsTable inputs → AreAllApart (map (input_columns tables) inputs)
  all_apart [] are = tt
  all_apart (one ∷ inputs) are = (apart_at one are.0, all_apart inputs are.1)

  -- at most three in any query
  few_inputs : (group : Option (List Place)) (inputs : List Input) → nat_le (length inputs) (most_inputs group) ≡ true → length inputs ≤ 3
  few_inputs None inputs e = at_most (length inputs) 3 e
  few_inputs (Some places) inputs e = let one = at_most (length inputs) 1 e in omega (arith, one)

  limits_kept : (written : List Entry) (group : Option (List Place)) (inputs : List Input) → nat_le (length inputs) (most_inputs group) ≡ true
      → more_than (most_entries (option_map (map (col_tree written)) group)) limit_kind.Entries (length (entry_trees tables inputs)) ≡ []
  limits_kept written None inputs e = none_passed 3 (length (entry_trees tables inputs)) limit_kind.Entries (ap (λ n. nat_le n 3) (long_numbered tree_at 0 inputs) ∙ e)
  limits_kept written (Some places) inputs e = none_passed 1 (length (entry_trees tables inputs)) limit_kind.Entries (ap (λ n. nat_le n 1) (long_numbered tree_at 0 inputs) ∙ e)

  -- ---- a query

  module _ (query : Query) (fits : suits_query tables query ≡ true) (is : is_written (tree_of tables (act.Select query)) ≡ true) where
    abbrev columns : List (List ColumnDef)
    columns = map (input_columns tables) query.entries

    abbrev written : List Entry
    written = named_entries tables query.entries

    abbrev tree : QueryTree
    tree = query_tree tables query

    abbrev read : List Entry
    read = read_entries scope tree

    suiting : SuitsOver (suits_input tables) (input_columns tables) query
    suiting = in_parts (suits_input tables) (input_columns tables) query fits

    are_tables : AllByRecursion IsTable query.entries
    are_tables = each_passes (suits_input tables) query.entries suiting.inputs

    few : length query.entries ≤ 3
    few = few_inputs query.group query.entries suiting.few

    same : read ≡ written
    same = entries_again 0 query.entries are_tables

    back : IsReadBack read written
    back =
        let short : length columns ≤ 3 = subst (λ n. n ≤ 3) (sym (long_map (input_columns tables) query.entries)) few in
        subst (λ entries. IsReadBack entries written) (sym same) (named_back columns short (all_apart query.entries are_tables))

    kinds_are : kinds_in columns ≡ kinds_of read
    kinds_are = sym (kinds_named columns) ∙ sym (ap kinds_of same)

    items_fit : AllByRecursion (λ (item : Item). suits_item (kinds_of read) item.what ≡ true) query.items
    items_fit =
        each_passes (λ (item : Item). suits_item (kinds_of read) item.what) query.items
        (sym (ap (λ ks. list_all (λ (item : Item). suits_item ks item.what) query.items) kinds_are) ∙ suiting.items)

    only_fits : suits_filter (kinds_of read) query.filter ≡ true
    only_fits = sym (ap (λ ks. suits_filter ks query.filter) kinds_are) ∙ suiting.filter

    group_fits : suits_group (kinds_of read) query.group ≡ true
    group_fits = sym (ap (λ ks. suits_group ks query.group) kinds_are) ∙ suiting.group

    abbrev query_with : List Item → List Input → Test → Option (List Place) → Query
    query_with items entries only group = record { items = items; entries = entries; filter = only; group = group }

    query_again : query_of scope tree ≡ query
    query_again =
        let items = map (item_of read written back) (enumerate_from 1 tree.items) in
        let entries = map (λ (entry : EntryTree). input_of tables entry.origin) tree.entries in
        let places = option_map (map (λ (column : ColTree). place_of read column.of column.name)) tree.group in
        ap₂ (λ a b. query_with a b (filter_of read tree.filter) places) (items_again read written back 1 query.items items_fit) (inputs_again 0 query.entries are_tables)
        ∙ ap₂ (λ a b. query_with query.items query.entries a b) (filter_again read written back query.filter only_fits) (group_again read written back query.group group_fits)

    checked : AllByRecursion (IsCheckedWhole read) (query_wholes tree)
    checked = all-append (IsCheckedWhole read) (item_wholes tree.items) (filter_wholes tree.filter) (items_checked read written back query.items items_fit) (filter_checked read written back query.filter only_fits)

    accepted : IsAccepted tables (tree_of tables (act.Select query))
    accepted = record {
      once = empty_both (repeated (item_names tree.items)) (repeated (filter_map alias_of tree.entries))
          (ap repeated (names_again written 1 query.items) ∙ none_empty (repeated (map (λ (item : Item). item.name) query.items)) suiting.once)
          (aliases_once tables query.entries few);
      known =
          let items = unknown_in_all read (item_wholes tree.items) in
          let origins = flat_map (λ (entry : EntryTree). unknown_origin scope entry.origin) tree.entries in
          let only = unknown_in_all read (filter_wholes tree.filter) in
          let group = flat_map (unknown_column read) (unwrap_or tree.group []) in
          empty_both items (origins ++ (only ++ group)) (wholes_known read (item_wholes tree.items) (items_checked read written back query.items items_fit))
          (empty_both origins (only ++ group) (flat_empty (λ (entry : EntryTree). unknown_origin scope entry.origin) tree.entries (origins_known 0 query.entries are_tables))
          (empty_both only group (wholes_known read (filter_wholes tree.filter) (filter_checked read written back query.filter only_fits)) (group_known read written back query.group group_fits)));
      within = empty_both (more_than most_columns limit_kind.Columns (length tree.items)) (more_than (most_entries tree.group) limit_kind.Entries (length tree.entries))
          (none_passed most_columns (length tree.items) limit_kind.Columns (ap (λ n. nat_le n most_columns) (long_map (item_tree written) query.items) ∙ suiting.narrow))
          (limits_kept written query.group query.entries suiting.few);
      kinds = wholes_matched read (query_wholes tree) checked;
      narrow = wholes_narrow read (query_wholes tree) checked;
      placed = ap has_misplaced query_again ∙ is_not (has_misplaced query) suiting.placed;
    }

    select_again : IsReadAgain tables (act.Select query)
    select_again = record { written = is; accepted = accepted; again = ap act.Select query_again }

  pub select_law : (query : Query) → suits tables (act.Select query) ≡ true → IsReadAgain tables (act.Select query)
  select_law query suits_it =
      let both = both_true (suits_query tables query) (is_written (tree_of tables (act.Select query))) suits_it in
      select_again query both.0 both.1
