-- Acts on one table that suit are written, accepted and read again.
use Rattle.std.proofs.Common.{◌≡◌, ℕ, ◌<◌, Bool, true, ◌&&◌, List, [], ◌∷◌, ◌++◌, length, map, Option, Some, unwrap_or, filter, flat_map, nat_le, refl, sym, ap, ap₂, ◌∙◌, subst}
use Rattle.std.specs.List.{AllByRecursion, list_all}
use Rattle.strip_value.specs.declared.acts.Act.{Act}
use Rattle.strip_value.specs.declared.acts.Act.TheVariants as act
use Rattle.strip_value.specs.declared.expressions.Calc.{Calc}
use Rattle.strip_value.specs.declared.expressions.Test.{Test}
use Rattle.strip_value.specs.declared.kinds.Kind.{Kind}
use Rattle.strip_value.specs.declared.queries.Set.{Set}
use Rattle.strip_value.specs.declared.tables.TableDef.{TableDef}
use Rattle.strip_value.specs.declared.values.Value.{Value}
use Rattle.strip_value.proofs.Lists.{all_at}
use Rattle.strip_ast.specs.declared.deeds.SetTree.{SetTree}
use Rattle.strip_ast.specs.declared.expressions.Expr.{Expr}
use Rattle.strip_meaning.specs.Contents.{def_at}
use Rattle.strip_meaning.specs.Effect.{no_table}
use Rattle.strip_setup.specs.declared.scope.Entry.{Entry}
use Rattle.strip_setup.specs.Catalog.{columns_of, table_id, table_named}
use Rattle.strip_setup.specs.Parts.{filter_wholes, update_wholes, value, Whole}
use Rattle.strip_setup.specs.Queries.{filter_of, kinds_of}
use Rattle.strip_setup.specs.Resolve.{act_of, number_in, sets_of}
use Rattle.strip_names.specs.Unknown.{missing, names_of, unknown_in, unknown_in_all, unknown_in_set, unknown_table}
use Rattle.strip_kinds.specs.Mismatch.{mismatched_in_all}
use Rattle.strip_kinds.specs.Width.{least_wide, magnitudes_in_all}
use Rattle.strip_acts.specs.Laws.{AreApart, AreNamed, column_names, IsAccepted, IsReadAgain}
use Rattle.strip_acts.specs.Suiting.{all_differ, has_column, is_sound, is_there, suits, suits_filter, suits_value}
use Rattle.strip_acts.specs.Trees.{bare_entry, column_name, filter_tree, set_tree, tree_of}
use Rattle.strip_acts.specs.Writable.{is_written}
use Rattle.strip_acts.proofs.Bare.{bare_read, entry_with, within}
use Rattle.strip_acts.proofs.Checking.{all_known, all_matched, all_narrow, IsCheckedWhole, IsKnownWhole, IsMatchedWhole, IsNarrowWhole, whole_known, whole_matched, whole_narrow}
use Rattle.strip_acts.proofs.Columns.{has_own, missing_one}
use Rattle.strip_acts.proofs.Lists.{all-append, all_of, each_passes, empty_both, flat_empty, map_twice, names_differ, not_repeated}
use Rattle.strip_acts.proofs.Naming.{below, both_true, column_found, def_named, id_named, named_known}
use Rattle.strip_acts.proofs.Reading.{filter_again, filter_checked, IsReadBack, value_again, value_whole}

-- ---- several expressions

pub wholes_known : (entries : List Entry) (wholes : List Whole) → AllByRecursion (IsCheckedWhole entries) wholes → unknown_in_all entries wholes ≡ []
wholes_known entries wholes all = all_known entries wholes (all_of (IsCheckedWhole entries) (IsKnownWhole entries) wholes (whole_known entries) all)

pub wholes_matched : (entries : List Entry) (wholes : List Whole) → AllByRecursion (IsCheckedWhole entries) wholes → mismatched_in_all entries wholes ≡ []
wholes_matched entries wholes all = all_matched entries wholes (all_of (IsCheckedWhole entries) (IsMatchedWhole entries) wholes (whole_matched entries) all)

pub wholes_narrow : (entries : List Entry) (wholes : List Whole) → AllByRecursion (IsCheckedWhole entries) wholes → filter (nat_le least_wide) (magnitudes_in_all entries wholes) ≡ []
wholes_narrow entries wholes all = all_narrow entries wholes (all_of (IsCheckedWhole entries) (IsNarrowWhole entries) wholes (whole_narrow entries) all)

-- what is set
abbrev set_with : ℕ → Calc → Set
set_with column e = record { column = column; value = e }

abbrev pub set_whole : SetTree → Whole
set_whole s = record { expr = s.value; purpose = value }

module _ (tables : List TableDef) (id : ℕ) (named : AreNamed tables) (there : id < length tables) where
  abbrev table : TableDef
  table = def_at tables id

  abbrev read : List Entry
  read = entry_with table.name (Some table)

  abbrev written : List Entry
  written = bare_entry table

  abbrev kinds : List (List Kind)
  kinds = kinds_of read

  is : table_named tables table.name ≡ Some table
  is = def_named tables id named.own there

  number : table_id tables table.name ≡ id
  number = id_named tables id named.own there

  known : unknown_table tables table.name ≡ []
  known = named_known tables id named.own there

  apart : AreApart (column_names table)
  apart = all_at (λ (t : TableDef). AreApart (column_names t)) tables id no_table.def named.apart there

  back : IsReadBack read written
  back = bare_read table.name table apart

  -- ---- what is set

  abbrev Suits : Set → Type 0
  Suits s = (has_column kinds 0 s.column && suits_value kinds s.value) ≡ true

  column_there : (s : Set) → Suits s → s.column < length table.columns
  column_there s suits_it = within table.columns s.column (both_true (has_column kinds 0 s.column) (suits_value kinds s.value) suits_it).0

  value_there : (s : Set) → Suits s → suits_value kinds s.value ≡ true
  value_there s suits_it = (both_true (has_column kinds 0 s.column) (suits_value kinds s.value) suits_it).1

  column_again : (s : Set) → Suits s → number_in table.columns (column_name written 0 s.column) ≡ s.column
  column_again s suits_it = ap (λ (o : Option ℕ). unwrap_or o 0) (column_found table.columns s.column apart (column_there s suits_it))

  sets_again : (sets : List Set) → AllByRecursion Suits sets → sets_of read table.columns (map (set_tree written) sets) ≡ sets
  sets_again [] all = refl
  sets_again (s ∷ sets) all =
      ap₂ (λ x xs. x ∷ xs) (ap₂ set_with (column_again s all.0) (value_again read written back s.value (value_there s all.0))) (sets_again sets all.1)

  sets_checked : (sets : List Set) → AllByRecursion Suits sets → AllByRecursion (IsCheckedWhole read) (map set_whole (map (set_tree written) sets))
  sets_checked [] all = tt
  sets_checked (s ∷ sets) all = (value_whole read written back s.value (value_there s all.0), sets_checked sets all.1)

  sets_known : (sets : List Set) → AllByRecursion Suits sets → AllByRecursion (λ (s : SetTree). unknown_in_set read table.columns s ≡ []) (map (set_tree written) sets)
  sets_known [] all = tt
  sets_known (s ∷ sets) all =
      let tree = set_tree written s in (
        empty_both (missing (names_of table.columns) (tree.column ∷ [])) (unknown_in read tree.value)
            (missing_one (names_of table.columns) tree.column (has_own table.columns s.column (column_there s all.0)))
            (whole_known read (set_whole tree) (value_whole read written back s.value (value_there s all.0))),
        sets_known sets all.1,
      )

  sets_apart : (sets : List Set) → all_differ (map (λ (s : Set). s.column) sets) ≡ true → AllByRecursion Suits sets → AreApart (map (λ (s : SetTree). s.column) (map (set_tree written) sets))
  sets_apart sets differ all =
      subst AreApart (sym (map_twice (λ (s : SetTree). s.column) (set_tree written) sets))
      (names_differ (λ (s : Set). column_name written 0 s.column) (λ (s : Set). s.column) (number_in table.columns) sets differ
      (all_of Suits (λ (s : Set). number_in table.columns (column_name written 0 s.column) ≡ s.column) sets column_again all))

  -- ---- updates

  module _ (sets : List Set) (t : Test) (differ : all_differ (map (λ (s : Set). s.column) sets) ≡ true) (all : AllByRecursion Suits sets) (fits : suits_filter kinds t ≡ true) where
    abbrev trees : List SetTree
    trees = map (set_tree written) sets

    abbrev taken : Option Expr
    taken = filter_tree written t

    abbrev wholes : List Whole
    wholes = update_wholes trees taken

    checked : AllByRecursion (IsCheckedWhole read) wholes
    checked = all-append (IsCheckedWhole read) (map set_whole trees) (filter_wholes taken) (sets_checked sets all) (filter_checked read written back t fits)

    abbrev unknown_of : Option TableDef → List (List ℕ)
    unknown_of o = flat_map (unknown_in_set (entry_with table.name o) (columns_of o)) trees ++ unknown_in_all (entry_with table.name o) (filter_wholes taken)

    abbrev update_of : ℕ → Option TableDef → Act
    update_of n o = act.Update n (sets_of (entry_with table.name o) (columns_of o) trees) (filter_of (entry_with table.name o) taken)

    update_accepted : IsAccepted tables (tree_of tables (act.Update id sets t))
    update_accepted = record {
      once = not_repeated (map (λ (s : SetTree). s.column) trees) (sets_apart sets differ all);
      known = empty_both (unknown_table tables table.name) (unknown_of (table_named tables table.name)) known
          (ap unknown_of is
          ∙ empty_both (flat_map (unknown_in_set read table.columns) trees) (unknown_in_all read (filter_wholes taken))
          (flat_empty (unknown_in_set read table.columns) trees (sets_known sets all))
          (wholes_known read (filter_wholes taken) (filter_checked read written back t fits)));
      within = refl;
      kinds = ap (λ (o : Option TableDef). mismatched_in_all (entry_with table.name o) wholes) is ∙ wholes_matched read wholes checked;
      narrow = ap (λ (o : Option TableDef). filter (nat_le least_wide) (magnitudes_in_all (entry_with table.name o) wholes)) is ∙ wholes_narrow read wholes checked;
      placed = refl;
    }

    update_again : act_of tables (tree_of tables (act.Update id sets t)) ≡ act.Update id sets t
    update_again = ap₂ update_of number is ∙ ap₂ (λ x y. act.Update id x y) (sets_again sets all) (filter_again read written back t fits)

  -- ---- deletes

  module _ (t : Test) (fits : suits_filter kinds t ≡ true) where
    abbrev only : Option Expr
    only = filter_tree written t

    deletes : AllByRecursion (IsCheckedWhole read) (filter_wholes only)
    deletes = filter_checked read written back t fits

    delete_accepted : IsAccepted tables (tree_of tables (act.Delete id t))
    delete_accepted = record {
      once = refl;
      known = empty_both (unknown_table tables table.name) (unknown_in_all (entry_with table.name (table_named tables table.name)) (filter_wholes only)) known
          (ap (λ (o : Option TableDef). unknown_in_all (entry_with table.name o) (filter_wholes only)) is ∙ wholes_known read (filter_wholes only) deletes);
      within = refl;
      kinds = ap (λ (o : Option TableDef). mismatched_in_all (entry_with table.name o) (filter_wholes only)) is ∙ wholes_matched read (filter_wholes only) deletes;
      narrow = ap (λ (o : Option TableDef). filter (nat_le least_wide) (magnitudes_in_all (entry_with table.name o) (filter_wholes only))) is ∙ wholes_narrow read (filter_wholes only) deletes;
      placed = refl;
    }

    delete_again : act_of tables (tree_of tables (act.Delete id t)) ≡ act.Delete id t
    delete_again =
        ap₂ (λ (n : ℕ) (o : Option TableDef). act.Delete n (filter_of (entry_with table.name o) only)) number is
        ∙ ap (λ those. act.Delete id those) (filter_again read written back t fits)

-- ---- laws

module _ (tables : List TableDef) (named : AreNamed tables) where
  abbrev Law : Act → Type 0
  Law one = suits tables one ≡ true → IsReadAgain tables one

  pub insert_again : (id : ℕ) (rows : List (List Value)) → Law (act.Insert id rows)
  insert_again id rows suits_it =
      let both = both_true (is_there tables id) (is_written (tree_of tables (act.Insert id rows))) suits_it in
      let there = below id (length tables) both.0 in
      record {
        written = both.1;
        accepted = record { once = refl; known = named_known tables id named.own there; within = refl; kinds = refl; narrow = refl; placed = refl };
        again = ap (λ n. act.Insert n rows) (id_named tables id named.own there);
      }

  pub put_again : (id : ℕ) (row : List Value) → Law (act.Put id row)
  put_again id row suits_it =
      let both = both_true (is_there tables id) (is_written (tree_of tables (act.Put id row))) suits_it in
      let there = below id (length tables) both.0 in
      record {
        written = both.1;
        accepted = record { once = refl; known = named_known tables id named.own there; within = refl; kinds = refl; narrow = refl; placed = refl };
        again = ap (λ n. act.Put n row) (id_named tables id named.own there);
      }

  pub show_again : (id : ℕ) → Law (act.Show id)
  show_again id suits_it =
      let both = both_true (is_there tables id) (is_written (tree_of tables (act.Show id))) suits_it in
      let there = below id (length tables) both.0 in
      record {
        written = both.1;
        accepted = record { once = refl; known = named_known tables id named.own there; within = refl; kinds = refl; narrow = refl; placed = refl };
        again = ap (λ n. act.Show n) (id_named tables id named.own there);
      }

  pub update_law : (id : ℕ) (sets : List Set) (t : Test) → Law (act.Update id sets t)
  update_law id sets t suits_it =
      let entries = entry_with (def_at tables id).name (Some (def_at tables id)) in
      let each : Set → Bool = λ s. has_column (kinds_of entries) 0 s.column && suits_value (kinds_of entries) s.value in
      let differing = all_differ (map (λ (s : Set). s.column) sets) in
      let both = both_true (is_sound tables (act.Update id sets t)) (is_written (tree_of tables (act.Update id sets t))) suits_it in
      let one = both_true (is_there tables id) (differing && (list_all each sets && suits_filter (kinds_of entries) t)) both.0 in
      let two = both_true differing (list_all each sets && suits_filter (kinds_of entries) t) one.1 in
      let three = both_true (list_all each sets) (suits_filter (kinds_of entries) t) two.1 in
      let there = below id (length tables) one.0 in
      record {
        written = both.1;
        accepted = update_accepted tables id named there sets t two.0 (each_passes each sets three.0) three.1;
        again = update_again tables id named there sets t two.0 (each_passes each sets three.0) three.1;
      }

  pub delete_law : (id : ℕ) (t : Test) → Law (act.Delete id t)
  delete_law id t suits_it =
      let entries = entry_with (def_at tables id).name (Some (def_at tables id)) in
      let both = both_true (is_sound tables (act.Delete id t)) (is_written (tree_of tables (act.Delete id t))) suits_it in
      let one = both_true (is_there tables id) (suits_filter (kinds_of entries) t) both.0 in
      let there = below id (length tables) one.0 in
      record {
        written = both.1;
        accepted = delete_accepted tables id named there t one.1;
        again = delete_again tables id named there t one.1;
      }
