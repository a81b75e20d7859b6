-- What accepted deeds on one table that have a text stand for suits.
use Rattle.std.proofs.Common.{◌≡◌, ℕ, ◌<◌, Bool, true, ◌&&◌, List, [], ◌∷◌, ◌++◌, length, map, get_or, Option, Some, filter, flat_map, nat_le, refl, sym, ap, ◌∙◌, arith}
use Rattle.std.specs.List.{AllByRecursion, list_all}
use Rattle.strip_value.specs.declared.acts.Act.{Act}
use Rattle.strip_value.specs.declared.acts.Act.TheVariants as act
use Rattle.strip_value.specs.declared.kinds.Kind.{Kind}
use Rattle.strip_value.specs.declared.queries.Set.{Set}
use Rattle.strip_value.specs.declared.tables.ColumnDef.{ColumnDef}
use Rattle.strip_value.specs.declared.tables.TableDef.{TableDef}
use Rattle.strip_value.specs.declared.values.Value.{Value}
use Rattle.strip_value.proofs.Lists.{all_at}
use Rattle.strip_ast.specs.declared.deeds.Deed.{Deed}
use Rattle.strip_ast.specs.declared.deeds.Deed.TheVariants as deed
use Rattle.strip_ast.specs.declared.deeds.SetTree.{SetTree}
use Rattle.strip_ast.specs.declared.expressions.Expr.{Expr}
use Rattle.strip_ast.specs.Tokens.{is_grammar_name}
use Rattle.strip_meaning.specs.Contents.{def_at}
use Rattle.strip_meaning.specs.Effect.{no_table}
use Rattle.strip_setup.specs.declared.scope.Entry.{Entry}
use Rattle.strip_setup.specs.Catalog.{columns_of, repeated, table_id, table_named}
use Rattle.strip_setup.specs.Parts.{filter_wholes, update_wholes, Whole}
use Rattle.strip_setup.specs.Queries.{calc_of, filter_of, kinds_of, own_entry}
use Rattle.strip_setup.specs.Resolve.{act_of, number_in, sets_of}
use Rattle.strip_names.specs.Unknown.{missing, names_of, unknown_in, unknown_in_all, unknown_in_set, unknown_table}
use Rattle.strip_kinds.specs.Mismatch.{mismatched_in_all}
use Rattle.strip_kinds.specs.Width.{least_wide, magnitudes_in_all}
use Rattle.strip_acts.specs.Laws.{AreNamed, AreNames, column_names, IsAccepted}
use Rattle.strip_acts.specs.Suiting.{all_differ, has_column, is_sound, is_there, suits, suits_filter, suits_value}
use Rattle.strip_acts.specs.Trees.{bare_entry, column_name, filter_tree, no_column, set_tree, tree_of}
use Rattle.strip_acts.specs.Writable.{are_listed, is_expression, is_filter, is_row, is_set, is_written}
use Rattle.strip_acts.proofs.Alike.{filter_written, IsNamed, value_written}
use Rattle.strip_acts.proofs.Bare.{bare_named, entry_with}
use Rattle.strip_acts.proofs.Checking.{each_checked, IsCheckedWhole, IsKnownWhole, IsMatchedWhole, IsNarrowWhole, known_all, matched_all, narrow_all}
use Rattle.strip_acts.proofs.Columns.{column_named, IsColumn, kinds_long, one_missing, understood}
use Rattle.strip_acts.proofs.Lists.{all_left, all_mapped, all_of, all_pass, all_right, both_empty, empty_flat, map_twice, none_repeated, numbers_differ}
use Rattle.strip_acts.proofs.Naming.{are_both, both_true, IsKnown, is_below, known}
use Rattle.strip_acts.proofs.Setting.{set_whole}
use Rattle.strip_acts.proofs.Understood.{filter_suits, value_suits}

-- ---- lists that aren't empty

module _ {A B : Type 0} (f : A → B) (p : A → Bool) (q : B → Bool) where
  all_again : (xs : List A) → AllByRecursion (λ x. p x ≡ true → q (f x) ≡ true) xs → list_all p xs ≡ true → list_all q (map f xs) ≡ true
  all_again [] again is = refl
  all_again (x ∷ xs) again is =
      let both = both_true (p x) (list_all p xs) is in
      are_both (q (f x)) (list_all q (map f xs)) (again.0 both.0) (all_again xs again.1 both.1)

  pub listed_again : (xs : List A) → AllByRecursion (λ x. p x ≡ true → q (f x) ≡ true) xs → are_listed p xs ≡ true → are_listed q (map f xs) ≡ true
  listed_again [] again is = cc
  listed_again (x ∷ xs) again is =
      let both = both_true (p x) (list_all p xs) is in
      are_both (q (f x)) (list_all q (map f xs)) (again.0 both.0) (all_again xs again.1 both.1)

-- ---- one table

module _ (tables : List TableDef) (named : AreNamed tables) (name : List ℕ) (found : IsKnown tables name) where
  abbrev id : ℕ
  id = table_id tables name

  abbrev table : TableDef
  table = def_at tables id

  abbrev read : List Entry
  read = entry_with name (Some table)

  abbrev written : List Entry
  written = bare_entry table

  abbrev kinds : List (List Kind)
  kinds = kinds_of read

  in_names : IsNamed read written
  in_names = bare_named name table (all_at (λ (t : TableDef). AreNames (column_names t)) tables id no_table.def named.columns found.there)

  is_id : is_there tables id ≡ true
  is_id = is_below id (length tables) found.there

  named_so : is_grammar_name name ≡ true → is_grammar_name table.name ≡ true
  named_so is = ap is_grammar_name found.named ∙ is

  -- ---- what is set

  abbrev set_of : SetTree → Set
  set_of s = record { column = number_in table.columns s.column; value = calc_of read s.value }

  abbrev each : Set → Bool
  each s = has_column kinds 0 s.column && suits_value kinds s.value

  -- the column is there, and the value is checked
  record IsSet (s : SetTree) : Type 0 where
    pub column : IsColumn table.columns s.column
    pub checked : IsCheckedWhole read (set_whole s)

  set_is : (s : SetTree) → unknown_in_set read table.columns s ≡ [] → IsCheckedWhole read (set_whole s) → IsSet s
  set_is s unknown checked =
      let none = both_empty (missing (names_of table.columns) (s.column ∷ [])) (unknown_in read s.value) unknown in
      record { column = column_named table.columns s.column (one_missing (names_of table.columns) s.column none.0); checked = checked }

  sets_are : (trees : List SetTree) → AllByRecursion (λ s. unknown_in_set read table.columns s ≡ []) trees → AllByRecursion (IsCheckedWhole read) (map set_whole trees) → AllByRecursion IsSet trees
  sets_are [] unknown checked = tt
  sets_are (s ∷ trees) unknown checked = (set_is s unknown.0 checked.0, sets_are trees unknown.1 checked.1)

  column_has : (c : ℕ) → c < length table.columns → has_column kinds 0 c ≡ true
  column_has c lt =
      let same = kinds_long table.columns in
      let within : c < length (map (λ (column : ColumnDef). column.kind) table.columns) = omega (arith, lt, same) in
      is_below c (length (map (λ (column : ColumnDef). column.kind) table.columns)) within

  set_suits : (s : SetTree) → IsSet s → each (set_of s) ≡ true
  set_suits s is =
      are_both (has_column kinds 0 (number_in table.columns s.column)) (suits_value kinds (calc_of read s.value)) (column_has (number_in table.columns s.column) is.column.there)
      (value_suits read (understood read) s.value is.checked.checked)

  sets_suit : (trees : List SetTree) → AllByRecursion IsSet trees → list_all each (map set_of trees) ≡ true
  sets_suit trees all = all_pass each (map set_of trees) (all_mapped set_of (λ s. each s ≡ true) trees (all_of IsSet (λ s. each (set_of s) ≡ true) trees set_suits all))

  abbrev IsOnce : List SetTree → Type 0
  IsOnce trees = repeated (map (λ (s : SetTree). s.column) trees) ≡ []

  numbers_apart : (trees : List SetTree) → AllByRecursion IsSet trees → IsOnce trees → all_differ (map (λ (s : Set). s.column) (map set_of trees)) ≡ true
  numbers_apart trees all once =
      ap all_differ (map_twice (λ (s : Set). s.column) set_of trees)
      ∙ numbers_differ (λ (s : SetTree). s.column) (λ (s : SetTree). number_in table.columns s.column) (λ c. (get_or table.columns c no_column).name) trees
      (none_repeated (map (λ (s : SetTree). s.column) trees) once)
      (all_of IsSet (λ (s : SetTree). (get_or table.columns (number_in table.columns s.column) no_column).name ≡ s.column) trees (λ s is. is.column.named) all)

  set_written : (s : SetTree) → IsSet s → is_set s ≡ true → is_set (set_tree written (set_of s)) ≡ true
  set_written s is old =
      let both = both_true (is_grammar_name s.column) (is_expression 4 s.value) old in
      are_both (is_grammar_name (column_name written 0 (number_in table.columns s.column))) (is_expression 4 (set_tree written (set_of s)).value)
      (ap is_grammar_name is.column.named ∙ both.0)
      (value_written read written (understood read) in_names 4 s.value is.checked.checked both.1)

  sets_written : (trees : List SetTree) → AllByRecursion IsSet trees → are_listed is_set trees ≡ true → are_listed is_set (map (set_tree written) (map set_of trees)) ≡ true
  sets_written trees all old =
      ap (are_listed is_set) (map_twice (set_tree written) set_of trees)
      ∙ listed_again (λ s. set_tree written (set_of s)) is_set is_set trees (all_of IsSet (λ s. is_set s ≡ true → is_set (set_tree written (set_of s)) ≡ true) trees set_written all) old

  -- ---- updates

  module _ (trees : List SetTree) (only : Option Expr) where
    abbrev wholes : List Whole
    wholes = update_wholes trees only

    abbrev unknown_sets : Option TableDef → List (List ℕ)
    unknown_sets o = flat_map (unknown_in_set (entry_with name o) (columns_of o)) trees

    abbrev unknown_only : Option TableDef → List (List ℕ)
    unknown_only o = unknown_in_all (entry_with name o) (filter_wholes only)

    abbrev update_of : Option TableDef → Act
    update_of o = act.Update id (sets_of (entry_with name o) (columns_of o) trees) (filter_of (entry_with name o) only)

    sets_known : unknown_sets (Some table) ≡ [] → AllByRecursion (λ s. unknown_in_set read table.columns s ≡ []) trees
    sets_known e = empty_flat (unknown_in_set read table.columns) trees e

    values_known : AllByRecursion (λ s. unknown_in_set read table.columns s ≡ []) trees → AllByRecursion (IsKnownWhole read) (map set_whole trees)
    values_known all =
        all_mapped set_whole (IsKnownWhole read) trees
        (all_of (λ s. unknown_in_set read table.columns s ≡ []) (λ s. IsKnownWhole read (set_whole s)) trees
        (λ s e. (both_empty (missing (names_of table.columns) (s.column ∷ [])) (unknown_in read s.value) e).1) all)

    update_sound : IsAccepted tables (deed.Update name trees only) → is_written (deed.Update name trees only) ≡ true → suits tables (update_of (Some table)) ≡ true
    update_sound accepted is =
        let text = both_true (is_grammar_name name) (are_listed is_set trees && is_filter only) is in
        let texts = both_true (are_listed is_set trees) (is_filter only) text.1 in
        let unknown = (both_empty (unknown_table tables name) (unknown_sets (table_named tables name) ++ unknown_only (table_named tables name)) accepted.known).1 in
        let none = both_empty (unknown_sets (Some table)) (unknown_only (Some table)) (sym (ap (λ o. unknown_sets o ++ unknown_only o) found.is) ∙ unknown) in
        let matched = matched_all read wholes (sym (ap (λ o. mismatched_in_all (entry_with name o) wholes) found.is) ∙ accepted.kinds) in
        let narrow = narrow_all read wholes (sym (ap (λ o. filter (nat_le least_wide) (magnitudes_in_all (entry_with name o) wholes)) found.is) ∙ accepted.narrow) in
        let values = map set_whole trees in
        let rest = filter_wholes only in
        let known_sets = sets_known none.0 in
        let sets = sets_are trees known_sets
        (each_checked read values (values_known known_sets) (all_left (IsMatchedWhole read) values rest matched) (all_left (IsNarrowWhole read) values rest narrow)) in
        let taken = each_checked read rest (known_all read rest none.1) (all_right (IsMatchedWhole read) values rest matched) (all_right (IsNarrowWhole read) values rest narrow) in
        let those = map set_of trees in
        let t = filter_of read only in
        let differing = all_differ (map (λ (s : Set). s.column) those) in
        are_both (is_sound tables (update_of (Some table))) (is_written (tree_of tables (update_of (Some table))))
        (are_both (is_there tables id) (differing && (list_all each those && suits_filter kinds t)) is_id
        (are_both differing (list_all each those && suits_filter kinds t) (numbers_apart trees sets accepted.once)
        (are_both (list_all each those) (suits_filter kinds t) (sets_suit trees sets) (filter_suits read (understood read) only taken))))
        (are_both (is_grammar_name table.name) (are_listed is_set (map (set_tree written) those) && is_filter (filter_tree written t)) (named_so text.0)
        (are_both (are_listed is_set (map (set_tree written) those)) (is_filter (filter_tree written t)) (sets_written trees sets texts.0)
        (filter_written read written (understood read) in_names only taken texts.1)))

    update_suits : IsAccepted tables (deed.Update name trees only) → is_written (deed.Update name trees only) ≡ true → suits tables (act_of tables (deed.Update name trees only)) ≡ true
    update_suits accepted is = ap (λ o. suits tables (update_of o)) found.is ∙ update_sound accepted is

  -- ---- deletes

  module _ (only : Option Expr) where
    abbrev rest : List Whole
    rest = filter_wholes only

    abbrev delete_of : Option TableDef → Act
    delete_of o = act.Delete id (filter_of (entry_with name o) only)

    delete_sound : IsAccepted tables (deed.Delete name only) → is_written (deed.Delete name only) ≡ true → suits tables (delete_of (Some table)) ≡ true
    delete_sound accepted is =
        let text = both_true (is_grammar_name name) (is_filter only) is in
        let unknown = (both_empty (unknown_table tables name) (unknown_in_all (entry_with name (table_named tables name)) rest) accepted.known).1 in
        let taken = each_checked read rest
        (known_all read rest (sym (ap (λ o. unknown_in_all (entry_with name o) rest) found.is) ∙ unknown))
        (matched_all read rest (sym (ap (λ o. mismatched_in_all (entry_with name o) rest) found.is) ∙ accepted.kinds))
        (narrow_all read rest (sym (ap (λ o. filter (nat_le least_wide) (magnitudes_in_all (entry_with name o) rest)) found.is) ∙ accepted.narrow)) in
        let t = filter_of read only in
        are_both (is_sound tables (delete_of (Some table))) (is_written (tree_of tables (delete_of (Some table))))
        (are_both (is_there tables id) (suits_filter kinds t) is_id (filter_suits read (understood read) only taken))
        (are_both (is_grammar_name table.name) (is_filter (filter_tree written t)) (named_so text.0) (filter_written read written (understood read) in_names only taken text.1))

    delete_suits : IsAccepted tables (deed.Delete name only) → is_written (deed.Delete name only) ≡ true → suits tables (act_of tables (deed.Delete name only)) ≡ true
    delete_suits accepted is = ap (λ o. suits tables (delete_of o)) found.is ∙ delete_sound accepted is

-- ---- laws

module _ (tables : List TableDef) (named : AreNamed tables) where
  abbrev Law : Deed → Type 0
  Law d = is_written d ≡ true → IsAccepted tables d → suits tables (act_of tables d) ≡ true

  pub insert_suits : (name : List ℕ) (rows : List (List Value)) → Law (deed.Insert name rows)
  insert_suits name rows is accepted =
      let found = known tables name accepted.known in
      let both = both_true (is_grammar_name name) (are_listed is_row rows) is in
      are_both (is_there tables (table_id tables name)) (is_grammar_name (def_at tables (table_id tables name)).name && are_listed is_row rows) (is_id tables named name found)
      (are_both (is_grammar_name (def_at tables (table_id tables name)).name) (are_listed is_row rows) (named_so tables named name found both.0) both.1)

  pub put_suits : (name : List ℕ) (row : List Value) → Law (deed.Put name row)
  put_suits name row is accepted =
      let found = known tables name accepted.known in
      let both = both_true (is_grammar_name name) (is_row row) is in
      are_both (is_there tables (table_id tables name)) (is_grammar_name (def_at tables (table_id tables name)).name && is_row row) (is_id tables named name found)
      (are_both (is_grammar_name (def_at tables (table_id tables name)).name) (is_row row) (named_so tables named name found both.0) both.1)

  pub show_suits : (name : List ℕ) → Law (deed.Show name)
  show_suits name is accepted =
      let found = known tables name accepted.known in
      are_both (is_there tables (table_id tables name)) (is_grammar_name (def_at tables (table_id tables name)).name) (is_id tables named name found) (named_so tables named name found is)

  pub update_law : (name : List ℕ) (trees : List SetTree) (only : Option Expr) → Law (deed.Update name trees only)
  update_law name trees only is accepted =
      let entries = own_entry tables name in
      let unknown = both_empty (unknown_table tables name) (flat_map (unknown_in_set entries (columns_of (table_named tables name))) trees ++ unknown_in_all entries (filter_wholes only)) accepted.known in
      update_suits tables named name (known tables name unknown.0) trees only accepted is

  pub delete_law : (name : List ℕ) (only : Option Expr) → Law (deed.Delete name only)
  delete_law name only is accepted =
      let unknown = both_empty (unknown_table tables name) (unknown_in_all (own_entry tables name) (filter_wholes only)) accepted.known in
      delete_suits tables named name (known tables name unknown.0) only accepted is
