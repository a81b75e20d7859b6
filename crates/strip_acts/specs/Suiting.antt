-- Which acts suit the tables of a catalog.
use Rattle.std.specs.Prelude.{ℕ, ◌==◌, Bool, true, false, not, ◌&&◌, nat_le, nat_lt, List, [], ◌∷◌, get_or, length, map, Option, Some, None}
use Rattle.std.specs.List.{list_all}
use Rattle.std.specs.Option.{option_map_or}
use Rattle.strip_value.specs.declared.acts.Act.{Act}
use Rattle.strip_value.specs.declared.acts.Act.TheVariants as act
use Rattle.strip_value.specs.declared.expressions.Calc.{Calc}
use Rattle.strip_value.specs.declared.expressions.Calc.TheVariants as calc
use Rattle.strip_value.specs.declared.expressions.Test.{Test}
use Rattle.strip_value.specs.declared.expressions.Test.TheVariants as test
use Rattle.strip_value.specs.declared.kinds.Kind.{Kind}
use Rattle.strip_value.specs.declared.queries.Input.{Input}
use Rattle.strip_value.specs.declared.queries.Input.TheVariants as input
use Rattle.strip_value.specs.declared.queries.Place.{Place}
use Rattle.strip_value.specs.declared.queries.Query.{Query}
use Rattle.strip_value.specs.declared.queries.What.{What}
use Rattle.strip_value.specs.declared.queries.What.TheVariants as what
use Rattle.strip_value.specs.declared.tables.ColumnDef.{ColumnDef}
use Rattle.strip_value.specs.declared.tables.TableDef.{TableDef}
use Rattle.strip_value.specs.Bounds.{column_kind, kind_of, magnitude_of}
use Rattle.strip_value.specs.Trees as tree
use Rattle.strip_names.specs.Grouped.{has_misplaced}
use Rattle.strip_names.specs.Limits.{most_columns}
use Rattle.strip_kinds.specs.Mismatch.{differ, is_text_kind}
use Rattle.strip_kinds.specs.Width.{least_wide}
use Rattle.strip_setup.specs.Catalog.{is_empty, repeated}
use Rattle.strip_acts.specs.Trees.{input_columns, tree_of}
use Rattle.strip_acts.specs.Writable.{is_written}

-- a table is there
abbrev pub is_there : List TableDef → ℕ → Bool
is_there tables id = nat_lt id (length tables)

-- the kinds of the columns of what entries have
abbrev pub kinds_in : List (List ColumnDef) → List (List Kind)
kinds_in columns = map (map (λ column. column.kind)) columns

-- ---- values

-- the entry has the column
abbrev pub has_column : List (List Kind) → ℕ → ℕ → Bool
has_column kinds entry column = nat_lt column (length (get_or kinds entry []))

-- a number, whose columns are there
abbrev pub is_numeric : List (List Kind) → Calc → Bool
is_numeric kinds (calc.Number n) = true
is_numeric kinds (calc.Text t) = false
is_numeric kinds (calc.Column entry column) = has_column kinds entry column && not (is_text_kind (column_kind kinds entry column))
is_numeric kinds (tree.Add a b) = is_numeric kinds a && is_numeric kinds b
is_numeric kinds (tree.Sub a b) = is_numeric kinds a && is_numeric kinds b
is_numeric kinds (tree.Mul a b) = is_numeric kinds a && is_numeric kinds b

-- a number, a text or a column that is there
abbrev pub is_kinded : List (List Kind) → Calc → Bool
is_kinded kinds (calc.Text t) = true
is_kinded kinds (calc.Column entry column) = has_column kinds entry column
is_kinded kinds e = is_numeric kinds e

-- its magnitude isn't too wide
abbrev pub is_narrow : List (List Kind) → Calc → Bool
is_narrow kinds e = nat_lt (magnitude_of kinds e) least_wide

-- no part but bare columns is too wide
abbrev pub is_bounded : List (List Kind) → Calc → Bool
is_bounded kinds (calc.Number n) = is_narrow kinds (calc.Number n)
is_bounded kinds (calc.Text t) = true
is_bounded kinds (calc.Column entry column) = true
is_bounded kinds (tree.Add a b) = is_bounded kinds a && (is_bounded kinds b && is_narrow kinds (tree.Add a b))
is_bounded kinds (tree.Sub a b) = is_bounded kinds a && (is_bounded kinds b && is_narrow kinds (tree.Sub a b))
is_bounded kinds (tree.Mul a b) = is_bounded kinds a && (is_bounded kinds b && is_narrow kinds (tree.Mul a b))

abbrev pub suits_value : List (List Kind) → Calc → Bool
suits_value kinds e = is_kinded kinds e && is_bounded kinds e

-- what may be summed up
abbrev pub suits_sum : List (List Kind) → Calc → Bool
suits_sum kinds e = is_numeric kinds e && (is_bounded kinds e && is_narrow kinds e)

-- ---- truth values

-- the kind is that of texts
abbrev pub gives_text : List (List Kind) → Calc → Bool
gives_text kinds e = is_text_kind (kind_of kinds e)

-- comparisons of two numbers or two texts, joined
abbrev pub suits_truth : List (List Kind) → Test → Bool
suits_truth kinds test.True = false
suits_truth kinds (test.Compare how a b) =
    suits_value kinds a && (suits_value kinds b && not (differ (gives_text kinds a) (gives_text kinds b)))
suits_truth kinds (tree.Not t) = suits_truth kinds t
suits_truth kinds (tree.And s t) = suits_truth kinds s && suits_truth kinds t
suits_truth kinds (tree.Or s t) = suits_truth kinds s && suits_truth kinds t

-- a filter that takes all is none
abbrev pub suits_filter : List (List Kind) → Test → Bool
suits_filter kinds test.True = true
suits_filter kinds t = suits_truth kinds t

-- ---- queries

-- a plain table that is there
abbrev pub suits_input : List TableDef → Input → Bool
suits_input tables (input.Table id) = is_there tables id
suits_input tables _ = false

-- the most entries: one in a query with groups
abbrev pub most_inputs : Option (List Place) → ℕ
most_inputs None = 3
most_inputs (Some places) = 1

abbrev pub suits_item : List (List Kind) → What → Bool
suits_item kinds (what.Plain e) = suits_value kinds e
suits_item kinds (what.Sum e) = suits_sum kinds e
suits_item kinds what.Count = true

abbrev pub suits_group : List (List Kind) → Option (List Place) → Bool
suits_group kinds group = option_map_or (list_all (λ (place : Place). has_column kinds place.entry place.column)) group true

-- no name stands twice
abbrev pub all_once : List (List ℕ) → Bool
all_once names = is_empty (repeated names)

-- the query suits, where an entry may be such an input and has these columns
abbrev pub suits_over : (Input → Bool) → (Input → List ColumnDef) → Query → Bool
suits_over may_stand columns query =
    let kinds = kinds_in (map columns query.entries) in
    list_all may_stand query.entries
    && (nat_le (length query.entries) (most_inputs query.group)
    && (nat_le (length query.items) most_columns
    && (all_once (map (λ item. item.name) query.items)
    && (list_all (λ item. suits_item kinds item.what) query.items
    && (suits_filter kinds query.filter && (suits_group kinds query.group && not (has_misplaced query)))))))

-- the query suits plain tables that are there
abbrev pub suits_query : List TableDef → Query → Bool
suits_query tables query = suits_over (suits_input tables) (input_columns tables) query

-- ---- acts

-- no number stands twice
abbrev pub is_among : List ℕ → ℕ → Bool
is_among numbers n = not (list_all (λ m. not (m == n)) numbers)

abbrev pub all_differ : List ℕ → Bool
all_differ [] = true
all_differ (n ∷ numbers) = not (is_among numbers n) && all_differ numbers

-- tables and columns are there, kinds go together, nothing is too wide and nothing stands twice
abbrev pub is_sound : List TableDef → Act → Bool
is_sound tables (act.Insert id rows) = is_there tables id
is_sound tables (act.Put id row) = is_there tables id
is_sound tables (act.Update id sets filter) =
    let kinds = kinds_in (input_columns tables (input.Table id) ∷ []) in
    is_there tables id
    && (all_differ (map (λ s. s.column) sets)
    && (list_all (λ s. has_column kinds 0 s.column && suits_value kinds s.value) sets && suits_filter kinds filter))
is_sound tables (act.Delete id filter) =
    is_there tables id && suits_filter (kinds_in (input_columns tables (input.Table id) ∷ [])) filter
is_sound tables (act.Select query) = suits_query tables query
is_sound tables (act.Show id) = is_there tables id

-- the act can be written, and what is written would be accepted
abbrev pub suits : List TableDef → Act → Bool
suits tables one = is_sound tables one && is_written (tree_of tables one)
