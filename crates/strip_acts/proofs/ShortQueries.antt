-- Which queries that suit can be written, told from the queries themselves.
use Rattle.std.proofs.Common.{◌≡◌, ℕ, ◌+◌, ◌≤◌, true, not, ◌&&◌, List, [], ◌∷◌, map, length, Option, Some, None, refl, sym, ap, ap₂, subst, arith}
use Rattle.std.specs.List.{AllByRecursion, enumerate_from, list_all}
use Rattle.std.specs.Option.{option_map, option_map_or}
use Rattle.std.proofs.lemmas.List.{length-map}
use Rattle.strip_value.specs.declared.kinds.Kind.{Kind}
use Rattle.strip_value.specs.declared.queries.Input.{Input}
use Rattle.strip_value.specs.declared.queries.Input.TheVariants as input
use Rattle.strip_value.specs.declared.queries.Item.{Item}
use Rattle.strip_value.specs.declared.queries.Place.{Place}
use Rattle.strip_value.specs.declared.queries.Query.{Query}
use Rattle.strip_value.specs.declared.queries.What.{What}
use Rattle.strip_value.specs.declared.queries.What.TheVariants as what
use Rattle.strip_value.specs.declared.tables.TableDef.{TableDef}
use Rattle.strip_ast.specs.Tokens.{is_grammar_name}
use Rattle.strip_ast.specs.declared.queries.EntryTree.{EntryTree}
use Rattle.strip_setup.specs.declared.scope.Entry.{Entry}
use Rattle.strip_setup.specs.Catalog.{is_empty}
use Rattle.strip_acts.specs.Laws.{AreNamed, AreNames}
use Rattle.strip_acts.specs.Shapes.{is_short_item, is_short_query, is_short_what}
use Rattle.strip_acts.specs.Suiting.{has_column, kinds_in, suits_group, suits_input, suits_item, suits_query}
use Rattle.strip_acts.specs.Trees.{alias_at, col_tree, entry_trees, input_columns, item_tree, named_entries, origin_of, query_tree, total_of}
use Rattle.strip_acts.specs.Writable.{are_listed, is_col, is_entry, is_group, is_item, is_query, is_total}
use Rattle.strip_acts.proofs.Tests.{both, joined, listed_same}
use Rattle.strip_acts.proofs.Parts.{query_kinds, query_suits}
use Rattle.strip_acts.proofs.Readable.{AreReadable, alias_named, columns_named, entries_readable, table_named}
use Rattle.strip_acts.proofs.ShortTruths.{filter_short}
use Rattle.strip_acts.proofs.ShortValues.{sum_short, value_short}

-- ---- items and groups

module _ (entries : List Entry) (kinds : List (List Kind)) (readable : AreReadable entries kinds) where
  total_short : (w : What) → suits_item kinds w ≡ true → is_total (total_of entries w) ≡ is_short_what w
  total_short (what.Plain e) suits = value_short entries kinds readable e suits
  total_short (what.Sum e) suits = sum_short entries kinds readable e suits
  total_short what.Count suits = refl

  item_short : (item : Item) → suits_item kinds item.what ≡ true → is_item (item_tree entries item) ≡ is_short_item item
  item_short item suits = ap (λ b. b && is_grammar_name item.name) (total_short item.what suits)

  pub items_short : (items : List Item) → list_all (λ item. suits_item kinds item.what) items ≡ true
      → are_listed is_item (map (item_tree entries) items) ≡ are_listed is_short_item items
  items_short items suit =
      listed_same (λ (item : Item). suits_item kinds item.what) is_short_item is_item (item_tree entries) items item_short suit

  column_there : (place : Place) → has_column kinds place.entry place.column ≡ true → is_col (col_tree entries place) ≡ true
  column_there place there =
      let here = readable.each place.entry place.column there in
      joined _ _ here.alias here.name

  -- columns that are there can be written
  all_there : (places : List Place) → list_all (λ (place : Place). has_column kinds place.entry place.column) places ≡ true
      → list_all is_col (map (col_tree entries) places) ≡ true
  all_there [] there = refl
  all_there (place ∷ places) there =
      let parts = both (has_column kinds place.entry place.column)
      (list_all (λ (place : Place). has_column kinds place.entry place.column) places) there in
      joined _ _ (column_there place parts.0) (all_there places parts.1)

  listed_there : (places : List Place) → list_all (λ (place : Place). has_column kinds place.entry place.column) places ≡ true
      → are_listed is_col (map (col_tree entries) places) ≡ not (is_empty places)
  listed_there [] there = refl
  listed_there (place ∷ places) there = all_there (place ∷ places) there

  pub group_short : (group : Option (List Place)) → suits_group kinds group ≡ true
      → is_group (option_map (map (col_tree entries)) group) ≡ option_map_or (λ places. not (is_empty places)) group true
  group_short None suits = refl
  group_short (Some places) suits = listed_there places suits

-- ---- entries

one_entry : (tables : List TableDef) (n : ℕ) (from : Input) → AreNamed tables → n ≤ 2 → suits_input tables from ≡ true
    → is_entry (record { origin = origin_of tables from; alias = Some (alias_at n) }) ≡ true
one_entry tables n (input.Table id) named few there =
    joined _ _ (table_named tables id named there) (alias_named true n (omega arith))
one_entry tables n (input.Before id) named few there = cc
one_entry tables n input.Inserted named few there = cc
one_entry tables n input.Deleted named few there = cc
one_entry tables n input.Old named few there = cc
one_entry tables n input.New named few there = cc

-- the entries from a number on
abbrev trees_from : List TableDef → ℕ → List Input → List EntryTree
trees_from tables n inputs =
    map (λ (numbered : ℕ × Input). record { origin = origin_of tables numbered.1; alias = Some (alias_at numbered.0) })
    (enumerate_from n inputs)

entries_from : (tables : List TableDef) (n : ℕ) (inputs : List Input) → AreNamed tables → n + length inputs ≤ 3
    → list_all (suits_input tables) inputs ≡ true → list_all is_entry (trees_from tables n inputs) ≡ true
entries_from tables n [] named few suit = refl
entries_from tables n (from ∷ inputs) named few suit =
    let parts = both (suits_input tables from) (list_all (suits_input tables) inputs) suit in
    joined _ _ (one_entry tables n from named (omega arith) parts.0)
    (entries_from tables (n + 1) inputs named (omega arith) parts.1)

pub entries_short : (tables : List TableDef) (inputs : List Input) → AreNamed tables → length inputs ≤ 3
    → list_all (suits_input tables) inputs ≡ true → are_listed is_entry (entry_trees tables inputs) ≡ not (is_empty inputs)
entries_short tables [] named few suit = refl
entries_short tables (from ∷ inputs) named few suit = entries_from tables 0 (from ∷ inputs) named (omega arith) suit

columns_read : (tables : List TableDef) (inputs : List Input) → AreNamed tables → list_all (suits_input tables) inputs ≡ true
    → AllByRecursion (λ here. AreNames (map (λ column. column.name) here)) (map (input_columns tables) inputs)
columns_read tables [] named suit = tt
columns_read tables (from ∷ inputs) named suit =
    let parts = both (suits_input tables from) (list_all (suits_input tables) inputs) suit in
    (of_one from parts.0, columns_read tables inputs named parts.1)
  where
    of_one : (from : Input) → suits_input tables from ≡ true → AreNames (map (λ column. column.name) (input_columns tables from))
    of_one (input.Table id) there = columns_named tables id named there
    of_one (input.Before id) there = cc
    of_one input.Inserted there = cc
    of_one input.Deleted there = cc
    of_one input.Old there = cc
    of_one input.New there = cc

pub query_readable : (tables : List TableDef) (inputs : List Input) → AreNamed tables → length inputs ≤ 3
    → list_all (suits_input tables) inputs ≡ true
    → AreReadable (named_entries tables inputs) (kinds_in (map (input_columns tables) inputs))
query_readable tables inputs named few suit =
    entries_readable true (map (input_columns tables) inputs) (columns_read tables inputs named suit)
    (subst (λ n. n ≤ 3) (sym (length-map inputs (input_columns tables))) few)

-- ---- whole queries

pub query_short : (tables : List TableDef) (query : Query) → AreNamed tables → suits_query tables query ≡ true
    → is_query (query_tree tables query) ≡ is_short_query query
query_short tables query named suits =
    let parts = query_suits tables query suits in
    let entries = named_entries tables query.entries in
    let kinds = query_kinds tables query in
    let readable = query_readable tables query.entries named parts.few parts.inputs in
    ap₂ (λ a b. a && b) (items_short entries kinds readable query.items parts.items)
    (ap₂ (λ a b. a && b) (entries_short tables query.entries named parts.few parts.inputs)
    (ap₂ (λ a b. a && b) (filter_short entries kinds readable query.filter parts.filter)
    (group_short entries kinds readable query.group parts.group)))
