-- Tables and columns have names of the grammar, and the columns of a table have names of their own.
use Rattle.std.proofs.Common.{◌≡◌, ℕ, List, [], ◌∷◌, ◌++◌, map, filter_map, Option, None, is_some, refl, sym, ap, subst}
use Rattle.std.specs.List.{AllByRecursion, enumerate_from}
use Rattle.strip_value.specs.declared.tables.ColumnDef.{ColumnDef}
use Rattle.strip_value.specs.declared.tables.TableDef.{TableDef}
use Rattle.strip_value.proofs.Lists.{all_append}
use Rattle.strip_ast.specs.declared.queries.ItemTree.{ItemTree}
use Rattle.strip_ast.specs.declared.queries.QueryTree.{QueryTree}
use Rattle.strip_ast.specs.declared.statements.Statement.{Statement}
use Rattle.strip_ast.specs.declared.statements.Statement.TheVariants as st
use Rattle.strip_setup.specs.declared.scope.Entry.{Entry}
use Rattle.strip_setup.specs.Adds.{kept_by_steps, with_statement}
use Rattle.strip_setup.specs.Catalog.{Catalog, name_if, repeated, table_id, table_named}
use Rattle.strip_setup.specs.Maintain.{declared_kept}
use Rattle.strip_setup.specs.Queries.{alias_of, answer_of, as_columns, entries_of, item_name, item_names}
use Rattle.strip_setup.specs.Resolve.{derived_of, outside_rules, table_of}
use Rattle.strip_names.specs.Exists.{taken_in_query}
use Rattle.strip_acts.specs.Laws.{AreApart, AreNames, column_names}
use Rattle.strip_acts.proofs.Lists.{none_repeated}
use Rattle.strip_catalog.specs.Accepted.{AreAccepted, HasText, IsWritten, declared}
use Rattle.strip_catalog.specs.Laws.{TablesAreNamed}
use Rattle.strip_catalog.specs.Refusals.{refusal}
use Rattle.strip_catalog.proofs.Causes.{both_empty, no_exists}
use Rattle.strip_catalog.proofs.OwnNames.{own_names}
use Rattle.strip_catalog.proofs.Sizes.{small}
use Rattle.strip_catalog.proofs.Sound.{kept_by_function, kept_by_maintain}
use Rattle.strip_catalog.proofs.SoundDerived.{few}
use Rattle.strip_catalog.proofs.SoundKept.{AreKept}
use Rattle.strip_catalog.proofs.WrittenNames.{AreNamedColumns, IsName, derived_columns, text_derive, text_table}

-- a table and its columns have names of the grammar, and the columns names of their own
record IsNamed (table : TableDef) : Type 0 where
  own : IsName table.name
  each : AreNames (column_names table)
  apart : AreApart (column_names table)

abbrev AreAllNamed : List TableDef → Type 0
AreAllNamed tables = AllByRecursion IsNamed tables

-- ---- tables of statements

names_listed : (columns : List ColumnDef) → AreNamedColumns columns → AreNames (map (λ (column : ColumnDef). column.name) columns)
names_listed [] named = tt
names_listed (column ∷ columns) named = (named.0, names_listed columns named.1)

table_named_so : (catalog : Catalog) (name : List ℕ) (columns : List ColumnDef) (key : List (List ℕ)) (rows : Option ℕ) → refusal catalog (st.Table name columns key rows) ≡ None → HasText (st.Table name columns key rows) → IsNamed (table_of name columns key rows)
table_named_so catalog name columns key rows e has =
    let names = text_table name columns key rows has in
    let none = both_empty (name_if (is_some (table_named catalog.tables name)) name) (repeated (map (λ (column : ColumnDef). column.name) columns) ++ repeated key) (no_exists catalog (st.Table name columns key rows) e) in
    let once = both_empty (repeated (map (λ (column : ColumnDef). column.name) columns)) (repeated key) none.1 in
    record { own = names.own; each = names_listed columns names.each; apart = none_repeated (map (λ (column : ColumnDef). column.name) columns) once.0 }

-- the columns of a derived table are called as the items of its query
as_items : (entries : List Entry) (items : List (ℕ × ItemTree)) → map item_name items ≡ map (λ (column : ColumnDef). column.name) (as_columns (map (answer_of entries) items))
as_items entries [] = refl
as_items entries (item ∷ items) = ap (λ names. item_name item ∷ names) (as_items entries items)

derived_named_so : (catalog : Catalog) (name : List ℕ) (query : QueryTree) → refusal catalog (st.Derive name query) ≡ None → HasText (st.Derive name query) → IsNamed (derived_of catalog.tables name query)
derived_named_so catalog name query e has =
    let names = text_derive name query has in
    let none = both_empty (name_if (is_some (table_named catalog.tables name)) name) (taken_in_query query) (no_exists catalog (st.Derive name query) e) in
    let once = both_empty (repeated (item_names query.items)) (repeated (filter_map alias_of query.entries)) none.1 in
    record {
      own = names.own;
      each = names_listed (derived_of catalog.tables name query).columns (derived_columns catalog.tables name query (few catalog name query e).0 names.each);
      apart = subst AreApart (as_items (entries_of (outside_rules catalog.tables) query) (enumerate_from 1 query.items)) (none_repeated (item_names query.items) once.0);
    }

-- tables that are kept are called as before
kept_named : (tables others : List TableDef) → AreKept tables others → AreAllNamed tables → AreAllNamed others
kept_named [] [] kept named = tt
kept_named [] (other ∷ others) kept named = absurd kept
kept_named (table ∷ tables) [] kept named = absurd kept
kept_named (table ∷ tables) (other ∷ others) kept named =
    (subst IsNamed (sym kept.0.is) (record { own = named.0.own; each = named.0.each; apart = named.0.apart }), kept_named tables others kept.1 named.1)

with_named : (catalog : Catalog) (statement : Statement) → refusal catalog statement ≡ None → IsWritten statement → AreAllNamed catalog.tables → AreAllNamed (with_statement catalog statement).tables
unfolding with_statement
with_named catalog (st.Table name columns key rows) e written named =
    all_append IsNamed catalog.tables (table_of name columns key rows ∷ []) named (table_named_so catalog name columns key rows e written, tt)
with_named catalog (st.Stream name table marked) e written named = named
with_named catalog (st.Derive name query) e written named =
    all_append IsNamed catalog.tables (derived_of catalog.tables name query ∷ []) named (derived_named_so catalog name query e written, tt)
with_named catalog (st.Function name steps) e written named = kept_named catalog.tables (kept_by_steps catalog.tables steps) (kept_by_function catalog.tables steps) named
with_named catalog (st.Rule name table events conditions evaluate function manner) e written named = named
with_named catalog (st.Maintain name how manner) e written named =
    kept_named catalog.tables (declared_kept catalog.tables (table_id catalog.tables name) how) (kept_by_maintain catalog name how manner e) named
with_named catalog st.Ready e written named = named
with_named catalog (st.At moment) e written named = named
with_named catalog (st.Deed caller deed) e written named = named

all_named : (statements : List Statement) → AreAccepted statements → AreAllNamed (declared statements).tables
all_named [] accepted = tt
all_named (statement ∷ earlier) accepted = with_named (declared earlier) statement accepted.2 accepted.1 (all_named earlier accepted.0)

-- ---- all that is asked of the tables

tables_called : (tables : List TableDef) → AreAllNamed tables → AreNames (map (λ (table : TableDef). table.name) tables)
tables_called [] named = tt
tables_called (table ∷ tables) named = (named.0.own, tables_called tables named.1)

columns_called : (tables : List TableDef) → AreAllNamed tables → AllByRecursion (λ table. AreNames (column_names table)) tables
columns_called [] named = tt
columns_called (table ∷ tables) named = (named.0.each, columns_called tables named.1)

columns_apart : (tables : List TableDef) → AreAllNamed tables → AllByRecursion (λ table. AreApart (column_names table)) tables
columns_apart [] named = tt
columns_apart (table ∷ tables) named = (named.0.apart, columns_apart tables named.1)

pub tables_named : TablesAreNamed
tables_named catalog is =
    let named = subst (λ (c : Catalog). AreAllNamed c.tables) (sym is.is) (all_named is.statements is.accepted) in
    let sizes = small catalog is in
    record {
      few = sizes.tables;
      names = tables_called catalog.tables named;
      own = (own_names catalog is).tables;
      columns = columns_called catalog.tables named;
      apart = columns_apart catalog.tables named;
      narrow = sizes.narrow;
    }
