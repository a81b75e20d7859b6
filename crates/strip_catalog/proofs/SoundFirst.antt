-- A derived table whose query has the first form, and isn't refused, is a group column of a base table, a sum and a count.
use Rattle.std.proofs.Common.{◌≡◌, ℕ, ◌<◌, ◌≤◌, Bool, true, false, not, ◌&&◌, ◌||◌, cond, List, [], ◌∷◌, ◌++◌, length, map, filter, filter_map, get_or, flat_map, Option, Some, None, option_map, is_none, is_some, bytes_eq, unwrap_or, refl, sym, ap, ◌∙◌, subst, arith}
use Rattle.std.specs.List.{AllByRecursion, enumerate_from}
use Rattle.strip_value.specs.declared.expressions.Calc.{Calc}
use Rattle.strip_value.specs.declared.expressions.Calc.TheVariants as calc
use Rattle.strip_value.specs.declared.expressions.Test.{Test}
use Rattle.strip_value.specs.declared.expressions.Test.TheVariants as test
use Rattle.strip_value.specs.declared.kinds.Kind.{Kind}
use Rattle.strip_value.specs.declared.kinds.Kind.TheVariants as kind
use Rattle.strip_value.specs.declared.queries.Input.TheVariants as input
use Rattle.strip_value.specs.declared.queries.Item.{Item}
use Rattle.strip_value.specs.declared.queries.Place.{Place}
use Rattle.strip_value.specs.declared.queries.What.TheVariants as what
use Rattle.strip_value.specs.declared.tables.TableDef.{TableDef}
use Rattle.strip_value.specs.Bounds.{kind_of}
use Rattle.strip_value.specs.Query.{is_column}
use Rattle.strip_value.specs.Trees as calc_tree
use Rattle.strip_ast.specs.declared.expressions.Expr.{Expr, Number, Text, Column}
use Rattle.strip_ast.specs.declared.expressions.Op.{Op}
use Rattle.strip_ast.specs.declared.expressions.Op.TheVariants as op
use Rattle.strip_ast.specs.declared.queries.ColTree.{ColTree}
use Rattle.strip_ast.specs.declared.queries.EntryTree.{EntryTree}
use Rattle.strip_ast.specs.declared.queries.ItemTree.{ItemTree}
use Rattle.strip_ast.specs.declared.queries.Origin.{Origin}
use Rattle.strip_ast.specs.declared.queries.Origin.TheVariants as origin
use Rattle.strip_ast.specs.declared.queries.QueryTree.{QueryTree}
use Rattle.strip_ast.specs.declared.queries.Total.{Total}
use Rattle.strip_ast.specs.declared.queries.Total.TheVariants as total
use Rattle.strip_setup.specs.declared.scope.Entry.{Entry}
use Rattle.strip_setup.specs.Catalog.{columns_of, is_derived, name_if, repeated, table_id, table_named}
use Rattle.strip_setup.specs.Parts.{Part, filter_wholes, item_wholes, names_read, parts_of, sum, value}
use Rattle.strip_setup.specs.Places.{is_clear}
use Rattle.strip_setup.specs.Queries.{alias_of, calc_of, entries_of, filter_of, item_name, item_names, entry_of, kinds_of, place_of, query_of, what_of}
use Rattle.strip_setup.specs.Resolve.{derived_of, outside_rules}
use Rattle.strip_meaning.specs.First.{IsBase}
use Rattle.strip_setup.specs.Trees.{Two, Not}
use Rattle.strip_names.specs.Exists.{taken_in_query}
use Rattle.strip_names.specs.Grouped.{is_group_column}
use Rattle.strip_names.specs.Limits.{most_entries}
use Rattle.strip_names.specs.Unknown.{unknown_alias, unknown_column, unknown_in, unknown_in_all, unknown_in_query, unknown_origin}
use Rattle.strip_kinds.specs.Mismatch.{first_column, is_mismatched, is_text, is_text_kind, mismatched_in, mismatched_in_all, mismatched_in_query, summed_text}
use Rattle.strip_meaning.specs.First.{Form, IsFirst, NamesDiffer, Suits, first_def, no_column}
use Rattle.strip_catalog.specs.First.{are_first_items, is_first, sums_column, takes_all}
use Rattle.strip_catalog.specs.Laws.{IsTableOf}
use Rattle.strip_catalog.specs.Refusals.{is_count}
use Rattle.strip_catalog.proofs.Causes.{both_empty}
use Rattle.strip_catalog.proofs.OwnNames.{neither}
use Rattle.strip_catalog.proofs.SoundFound.{IsAt, IsColumnOf, base_int, base_named, both_true, clear_column, column_is, kind_at, named_at}

-- a query outside rules that names what is there, has kinds that go together and names of its own, and reads base tables alone,
-- no more than it may
pub record IsPassed (tables : List TableDef) (query : QueryTree) : Type 0 where
  pub known : unknown_in_query (outside_rules tables) query ≡ []
  pub fit : mismatched_in_query (outside_rules tables) query ≡ []
  pub apart : taken_in_query query ≡ []
  pub stored : filter (λ name. is_derived (table_named tables name)) (names_read query) ≡ []
  pub few : length query.entries ≤ most_entries query.group

-- ---- parts of what is refused

not_if : (b : Bool) (name : List ℕ) → name_if (not b) name ≡ [] → b ≡ true
not_if true name e = refl
not_if false name e = cc

column_clear : (entries : List Entry) (column : ColTree) → unknown_column entries column ++ [] ≡ [] → is_clear entries column ≡ true
column_clear entries column e =
    let known = (both_empty (unknown_column entries column) [] e).0 in
    not_if (is_clear entries column) column.name (both_empty (unknown_alias entries column.of) (name_if (not (is_clear entries column)) column.name) known).1

-- what is summed up is no text
no_text : (entries : List Entry) (e : Expr) → map first_column (summed_text entries sum e) ≡ [] → is_text entries e ≡ false
no_text entries e none = by_test (is_text entries e) none
  where
    by_test : (b : Bool) → map first_column (cond b (e ∷ []) []) ≡ [] → b ≡ false
    by_test true is = cc
    by_test false is = refl

-- a filter that takes all rows
all_taken : (t : Test) → takes_all t ≡ true → t ≡ test.True
all_taken test.True e = refl
all_taken (test.Compare how a b) e = cc
all_taken (calc_tree.Not t) e = cc
all_taken (calc_tree.And s t) e = cc
all_taken (calc_tree.Or s t) e = cc

-- three names that stand once
three_apart : (x y z : List ℕ) → repeated (x ∷ y ∷ z ∷ []) ≡ [] → (bytes_eq x y ≡ false) × (bytes_eq x z ≡ false) × (bytes_eq y z ≡ false)
three_apart x y z once =
    let tests = by_tests (bytes_eq x y || false) (bytes_eq y z || (bytes_eq x z || false)) once in
    let second = neither (bytes_eq y z) (bytes_eq x z || false) tests.1 in
    ((neither (bytes_eq x y) false tests.0).0, (neither (bytes_eq x z) false second.1).0, second.0)
  where
    by_tests : (p q : Bool) → map (λ (name : List ℕ × List (List ℕ)). name.0) (cond p ((y, x ∷ []) ∷ cond q ((z, y ∷ x ∷ []) ∷ []) []) (cond q ((z, y ∷ x ∷ []) ∷ []) [])) ≡ [] → (p ≡ false) × (q ≡ false)
    by_tests false false e = (refl, refl)
    by_tests false true e = cc
    by_tests true q e = cc

-- ---- a query of the form

-- a query of that shape: a plain item, the sum of a column and a count, over one entry, with one group column
abbrev shaped : Expr → Option (List ℕ) → List ℕ → Option (List ℕ) → Option (List ℕ) → Option (List ℕ) → Origin → Option (List ℕ) → Option Expr → ColTree → QueryTree
shaped e of summed a b c from alias kept group = record {
  items = record { what = total.Plain e; name = a } ∷ record { what = total.Sum (Column of summed); name = b } ∷ record { what = total.Count; name = c } ∷ [];
  entries = record { origin = from; alias = alias } ∷ [];
  filter = kept;
  group = Some (group ∷ []);
}

module _ (tables : List TableDef) (name : List ℕ) (e : Expr) (of : Option (List ℕ)) (summed : List ℕ) (a b c : Option (List ℕ)) (source : List ℕ) (alias : Option (List ℕ)) (kept : Option Expr) (group : ColTree) where
  abbrev tree : QueryTree
  tree = shaped e of summed a b c (origin.Table source) alias kept group

  -- its one entry, its group column and the column that it sums
  abbrev entry : Entry
  entry = entry_of (outside_rules tables) (record { origin = origin.Table source; alias = alias })

  abbrev group_place : Place
  group_place = place_of (entry ∷ []) group.of group.name

  abbrev value_place : Place
  value_place = place_of (entry ∷ []) of summed

  abbrev form : Form
  form = record {
    source = table_id tables source;
    group = group_place.column;
    value = value_place.column;
    group_name = item_name (1, record { what = total.Plain e; name = a });
    sum_name = item_name (2, record { what = total.Sum (Column of summed); name = b });
    count_name = item_name (3, record { what = total.Count; name = c });
  }

  abbrev form_kind : Kind
  form_kind = (get_or entry.columns group_place.column no_column).kind

  -- what such a query declares, by its parts
  abbrev made : Kind → Calc → Place → Place → Test → TableDef
  made k grouped p q chosen = record {
    name = name;
    columns = record { name = form.group_name; kind = k } ∷ record { name = form.sum_name; kind = kind.Big } ∷ record { name = form.count_name; kind = kind.Big } ∷ [];
    key = 0 ∷ [];
    limit = None;
    query = Some (record {
      items = record { name = form.group_name; what = what.Plain grouped } ∷ record { name = form.sum_name; what = what.Sum (calc.Column q.entry q.column) } ∷ record { name = form.count_name; what = what.Count } ∷ [];
      entries = input.Table form.source ∷ [];
      filter = chosen;
      group = Some (p ∷ []);
    });
    kept = None;
    declared = false;
  }

  abbrev kinds : List (List Kind)
  kinds = kinds_of (entry ∷ [])

  abbrev chosen : Test
  chosen = filter_of (entry ∷ []) kept

  abbrev group_there : Place
  group_there = record { entry = 0; column = group_place.column }

  abbrev value_there : Place
  value_there = record { entry = 0; column = value_place.column }

  abbrev grouped_there : Calc
  grouped_there = calc.Column 0 group_place.column

  abbrev kind_there : Kind
  kind_there = kind_of kinds grouped_there

  form_is : takes_all (filter_of (entry ∷ []) kept) ≡ true → is_column group_place (calc_of (entry ∷ []) e) ≡ true → IsColumnOf entry group_place → IsColumnOf entry value_place → derived_of tables name tree ≡ first_def name form form_kind None false
  form_is all plain grouped valued = start ∙ ap (λ g. made (kind_of kinds g) g group_place value_place chosen) calc_is ∙ placed ∙ ap (λ q. made kind_there grouped_there group_there q chosen) valued.is ∙ chosen_all ∙ kinded
    where
      start : derived_of tables name tree ≡ made (kind_of kinds (calc_of (entry ∷ []) e)) (calc_of (entry ∷ []) e) group_place value_place chosen
      start = refl

      calc_is : calc_of (entry ∷ []) e ≡ calc.Column group_place.entry group_place.column
      calc_is = column_is group_place (calc_of (entry ∷ []) e) plain

      placed : made (kind_of kinds (calc.Column group_place.entry group_place.column)) (calc.Column group_place.entry group_place.column) group_place value_place chosen ≡ made kind_there grouped_there group_there value_place chosen
      placed = ap (λ (p : Place). made (kind_of kinds (calc.Column p.entry p.column)) (calc.Column p.entry p.column) p value_place chosen) grouped.is

      chosen_all : made kind_there grouped_there group_there value_there chosen ≡ made kind_there grouped_there group_there value_there test.True
      chosen_all = ap (made kind_there grouped_there group_there value_there) (all_taken chosen all)

      kinded : made kind_there grouped_there group_there value_there test.True ≡ first_def name form form_kind None false
      kinded = ap (λ k. made k grouped_there group_there value_there test.True) (kind_at entry group_place.column)

  -- what it asks for and isn't there, by its parts
  abbrev asked_items : List (List ℕ)
  asked_items = unknown_in_all (entry ∷ []) (item_wholes tree.items)

  abbrev asked_sum : List (List ℕ)
  asked_sum = unknown_in (entry ∷ []) (Column of summed)

  abbrev asked_origins : List (List ℕ)
  asked_origins = flat_map (λ (entry : EntryTree). unknown_origin (outside_rules tables) entry.origin) tree.entries

  abbrev asked_filter : List (List ℕ)
  asked_filter = unknown_in_all (entry ∷ []) (filter_wholes kept)

  abbrev asked_groups : List (List ℕ)
  asked_groups = flat_map (unknown_column (entry ∷ [])) (group ∷ [])

  abbrev asked_others : List (List ℕ)
  asked_others = asked_origins ++ (asked_filter ++ asked_groups)

  -- kinds in it that don't go together, by its parts
  abbrev fit_group : List (Option (List ℕ))
  fit_group = mismatched_in (entry ∷ []) (record { expr = e; purpose = value })

  abbrev fit_sum : List (Option (List ℕ))
  fit_sum = mismatched_in (entry ∷ []) (record { expr = Column of summed; purpose = sum })

  abbrev fit_parts : List (Option (List ℕ))
  fit_parts = map (λ (part : Part). first_column part.expr) (filter (is_mismatched (entry ∷ [])) (parts_of (record { expr = Column of summed; purpose = sum })))

  abbrev fit_text : List (Option (List ℕ))
  fit_text = map first_column (summed_text (entry ∷ []) sum (Column of summed))

  abbrev fit_filter : List (Option (List ℕ))
  fit_filter = mismatched_in_all (entry ∷ []) (filter_wholes kept)

  -- the base table that it reads
  first_of_table : (table : TableDef) → AllByRecursion (IsTableOf tables) tables → table_named tables source ≡ Some table → is_some table.query ≡ false
      → IsPassed tables tree → takes_all chosen ≡ true → is_column group_place (calc_of (entry ∷ []) e) ≡ true → IsFirst tables (derived_of tables name tree)
  first_of_table table sound named stored passed all plain =
      record {
        form = form;
        kind = form_kind;
        there = at.there;
        base = subst IsBase (sym at.is) base;
        suits = subst (λ cs. Suits cs form form_kind) (columns_are ∙ ap (λ (t : TableDef). t.columns) (sym at.is)) suits;
        differ = differ;
        is = form_is all plain grouped valued;
      }
    where
      at : IsAt tables source table
      at = named_at tables source table named

      base : IsBase table
      base = base_named tables source table sound named stored

      columns_are : entry.columns ≡ table.columns
      columns_are = ap columns_of named

      known : (asked_items ≡ []) × (asked_others ≡ [])
      known = both_empty asked_items asked_others passed.known

      grouped : IsColumnOf entry group_place
      grouped =
          let behind = (both_empty asked_origins (asked_filter ++ asked_groups) known.1).1 in
          clear_column entry group (column_clear (entry ∷ []) group (both_empty asked_filter asked_groups behind).1)

      valued : IsColumnOf entry value_place
      valued =
          let behind = (both_empty (unknown_in (entry ∷ []) e) (asked_sum ++ []) known.0).1 in
          clear_column entry (record { of = of; name = summed }) (column_clear (entry ∷ []) (record { of = of; name = summed }) (both_empty asked_sum [] behind).0)

      -- what it sums is a number
      number : is_text_kind (get_or entry.columns value_place.column no_column).kind ≡ false
      number =
          let summed_fits = (both_empty fit_sum fit_filter (both_empty fit_group (fit_sum ++ fit_filter) passed.fit).1).0 in
          let none = (both_empty fit_parts fit_text summed_fits).1 in
          let place_is : kind_of kinds (calc.Column value_place.entry value_place.column) ≡ kind_of kinds (calc.Column 0 value_place.column) = ap (λ (q : Place). kind_of kinds (calc.Column q.entry q.column)) valued.is in
          ap is_text_kind (sym (place_is ∙ kind_at entry value_place.column)) ∙ no_text (entry ∷ []) (Column of summed) none

      summed_int : (get_or entry.columns value_place.column no_column).kind ≡ kind.Int
      summed_int =
          subst (λ cs. value_place.column < length cs → is_text_kind (get_or cs value_place.column no_column).kind ≡ false → (get_or cs value_place.column no_column).kind ≡ kind.Int) (sym columns_are) (base_int table value_place.column base) valued.there number

      suits : Suits entry.columns form form_kind
      suits = record { group_there = grouped.there; value_there = valued.there; group_kind = refl; value_kind = summed_int }

      differ : NamesDiffer form
      differ =
          let names = three_apart form.group_name form.sum_name form.count_name (both_empty (repeated (item_names tree.items)) (repeated (filter_map alias_of tree.entries)) passed.apart).0 in
          record { sum = names.0; count = names.1; totals = names.2 }

-- ---- queries whose resolved query has the form

module _ (tables : List TableDef) (name : List ℕ) (sound : AllByRecursion (IsTableOf tables) tables) where
  -- a query of that shape over what an entry takes its rows from
  module _ (e : Expr) (of : Option (List ℕ)) (summed : List ℕ) (a b c : Option (List ℕ)) (alias : Option (List ℕ)) (kept : Option Expr) (group : ColTree) where
    abbrev tree_from : Origin → QueryTree
    tree_from from = shaped e of summed a b c from alias kept group

    abbrev entries_from : Origin → List Entry
    entries_from from = entries_of (outside_rules tables) (tree_from from)

    origin_there : (from : Origin) → IsPassed tables (tree_from from) → unknown_origin (outside_rules tables) from ≡ []
    origin_there from passed =
        let origins = flat_map (λ (entry : EntryTree). unknown_origin (outside_rules tables) entry.origin) (tree_from from).entries in
        let others = unknown_in_all (entries_from from) (filter_wholes kept) ++ flat_map (unknown_column (entries_from from)) (group ∷ []) in
        let known = both_empty (unknown_in_all (entries_from from) (item_wholes (tree_from from).items)) (origins ++ others) passed.known in
        (both_empty (unknown_origin (outside_rules tables) from) [] (both_empty origins others known.1).0).0

    first_of_origin : (from : Origin) → unknown_origin (outside_rules tables) from ≡ [] → IsPassed tables (tree_from from) → takes_all (filter_of (entries_from from) kept) ≡ true
        → is_column (place_of (entries_from from) group.of group.name) (calc_of (entries_from from) e) ≡ true → IsFirst tables (derived_of tables name (tree_from from))
    first_of_origin (origin.Table source) there passed all plain = by_table (table_named tables source) refl there
      where
        not_derived : (d : Bool) → cond d (source ∷ []) [] ≡ [] → d ≡ false
        not_derived true is = cc
        not_derived false is = refl

        by_table : (o : Option TableDef) → table_named tables source ≡ o → name_if (is_none o) source ≡ [] → IsFirst tables (derived_of tables name (tree_from (origin.Table source)))
        by_table None named is = cc
        by_table (Some table) named is =
            let stored = sym (ap is_derived named) ∙ not_derived (is_derived (table_named tables source)) passed.stored in
            first_of_table tables name e of summed a b c source alias kept group table sound named stored passed all plain
    first_of_origin (origin.Before source) there passed all plain = cc
    first_of_origin origin.Inserted there passed all plain = cc
    first_of_origin origin.Deleted there passed all plain = cc
    first_of_origin origin.Old there passed all plain = cc
    first_of_origin origin.New there passed all plain = cc

  two_no_column : (entries : List Entry) (o : Op) (a b : Expr) → sums_column (what.Sum (calc_of entries (Two o a b))) ≡ false
  two_no_column entries op.Add a b = refl
  two_no_column entries op.Sub a b = refl
  two_no_column entries op.Mul a b = refl
  two_no_column entries op.Eq a b = refl
  two_no_column entries op.Ne a b = refl
  two_no_column entries op.Lt a b = refl
  two_no_column entries op.Le a b = refl
  two_no_column entries op.Gt a b = refl
  two_no_column entries op.Ge a b = refl
  two_no_column entries op.And a b = refl
  two_no_column entries op.Or a b = refl

  -- a query of three items over one entry, with one group column
  module _ (a b c : Option (List ℕ)) (entry : EntryTree) (kept : Option Expr) (group : ColTree) where
    abbrev tree_of : Total → Total → Total → QueryTree
    tree_of v w x = record { items = record { what = v; name = a } ∷ record { what = w; name = b } ∷ record { what = x; name = c } ∷ []; entries = entry ∷ []; filter = kept; group = Some (group ∷ []) }

    abbrev one_entry : List Entry
    one_entry = entry_of (outside_rules tables) entry ∷ []

    first_of_items : (v w x : Total) → IsPassed tables (tree_of v w x) → takes_all (filter_of one_entry kept) ≡ true → is_group_column (what_of one_entry v) (place_of one_entry group.of group.name) ≡ true
        → sums_column (what_of one_entry w) ≡ true → is_count (what_of one_entry x) ≡ true → IsFirst tables (derived_of tables name (tree_of v w x))
    first_of_items (total.Plain e) (total.Sum (Column of summed)) total.Count passed all plain sums counts =
        first_of_origin e of summed a b c entry.alias kept group entry.origin (origin_there e of summed a b c entry.alias kept group entry.origin passed) passed all plain
    first_of_items (total.Plain e) (total.Sum (Column of summed)) (total.Plain x) passed all plain sums counts = cc
    first_of_items (total.Plain e) (total.Sum (Column of summed)) (total.Sum x) passed all plain sums counts = cc
    first_of_items (total.Plain e) (total.Sum (Number n)) x passed all plain sums counts = cc
    first_of_items (total.Plain e) (total.Sum (Text t)) x passed all plain sums counts = cc
    first_of_items (total.Plain e) (total.Sum (Two o l r)) x passed all plain sums counts = let none = two_no_column one_entry o l r in cc
    first_of_items (total.Plain e) (total.Sum (Not l)) x passed all plain sums counts = cc
    first_of_items (total.Plain e) (total.Plain w) x passed all plain sums counts = cc
    first_of_items (total.Plain e) total.Count x passed all plain sums counts = cc
    first_of_items (total.Sum v) w x passed all plain sums counts = cc
    first_of_items total.Count w x passed all plain sums counts = cc

  abbrev query_with : Option Expr → List ItemTree → List EntryTree → Option (List ColTree) → QueryTree
  query_with kept items entries group = record { items = items; entries = entries; filter = kept; group = group }

  abbrev items_of : List Entry → List ItemTree → List Item
  items_of entries items = map (λ item. record { name = item_name item; what = what_of entries (item.1).what }) (enumerate_from 1 items)

  -- by how many items, entries and groups it has
  module _ (kept : Option Expr) where
    first_of_three : (i j k : ItemTree) (es : List EntryTree) (group : ColTree) → IsPassed tables (query_with kept (i ∷ j ∷ k ∷ []) es (Some (group ∷ []))) → is_first (query_of (outside_rules tables) (query_with kept (i ∷ j ∷ k ∷ []) es (Some (group ∷ [])))) ≡ true
        → IsFirst tables (derived_of tables name (query_with kept (i ∷ j ∷ k ∷ []) es (Some (group ∷ []))))
    first_of_three i j k [] group passed is =
        let rest = flat_map (λ (entry : EntryTree). unknown_origin (outside_rules tables) entry.origin) [] ++ (unknown_in_all [] (filter_wholes kept) ++ flat_map (unknown_column []) (group ∷ [])) in
        let known = both_empty (unknown_in_all [] (item_wholes (i ∷ j ∷ k ∷ []))) rest passed.known in
        let clear = column_clear [] group (both_empty (unknown_in_all [] (filter_wholes kept)) (flat_map (unknown_column []) (group ∷ [])) known.1).1 in
        cc
    first_of_three i j k (entry ∷ []) group passed is =
        let entries = entry_of (outside_rules tables) entry ∷ [] in
        let place = place_of entries group.of group.name in
        let parts = both_true (takes_all (filter_of entries kept)) (is_group_column (what_of entries i.what) place && (sums_column (what_of entries j.what) && is_count (what_of entries k.what))) is in
        let items = both_true (is_group_column (what_of entries i.what) place) (sums_column (what_of entries j.what) && is_count (what_of entries k.what)) parts.1 in
        let totals = both_true (sums_column (what_of entries j.what)) (is_count (what_of entries k.what)) items.1 in
        first_of_items i.name j.name k.name entry kept group i.what j.what k.what passed parts.0 items.0 totals.0 totals.1
    first_of_three i j k (entry ∷ other ∷ es) group passed is = let few = passed.few in absurd (omega (arith, few))

    first_of_lists : (items : List ItemTree) (es : List EntryTree) (group : Option (List ColTree)) → are_first_items (unwrap_or (option_map (map (λ (column : ColTree). place_of (entries_of (outside_rules tables) (query_with kept items es group)) column.of column.name)) group) []) (items_of (entries_of (outside_rules tables) (query_with kept items es group)) items) ≡ true
        → IsPassed tables (query_with kept items es group) → is_first (query_of (outside_rules tables) (query_with kept items es group)) ≡ true → IsFirst tables (derived_of tables name (query_with kept items es group))
    first_of_lists items es None shape passed is = cc
    first_of_lists items es (Some []) shape passed is = cc
    first_of_lists [] es (Some (group ∷ [])) shape passed is = cc
    first_of_lists (i ∷ []) es (Some (group ∷ [])) shape passed is = cc
    first_of_lists (i ∷ j ∷ []) es (Some (group ∷ [])) shape passed is = cc
    first_of_lists (i ∷ j ∷ k ∷ []) es (Some (group ∷ [])) shape passed is = first_of_three i j k es group passed is
    first_of_lists (i ∷ j ∷ k ∷ l ∷ items) es (Some (group ∷ [])) shape passed is = cc
    first_of_lists items es (Some (group ∷ other ∷ groups)) shape passed is = cc

  pub derived_first : (query : QueryTree) → IsPassed tables query → is_first (query_of (outside_rules tables) query) ≡ true → IsFirst tables (derived_of tables name query)
  derived_first query passed is =
      let made = query_of (outside_rules tables) query in
      let shape = (both_true (takes_all made.filter) (are_first_items (unwrap_or made.group []) made.items) is).1 in
      first_of_lists query.filter query.items query.entries query.group shape passed is
