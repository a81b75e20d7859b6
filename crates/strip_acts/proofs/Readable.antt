-- The names that acts are written with can be: those of the columns that are there, and of their entries.
use Rattle.std.proofs.Common.{◌≡◌, ℕ, zero, suc, ◌+◌, ◌<◌, ◌≤◌, Bool, true, false, if◌then◌else◌, List, [], ◌∷◌, map, length, get_or, Some, None, refl, arith}
use Rattle.std.specs.Fmt.{digits}
use Rattle.std.specs.List.{AllByRecursion, enumerate_from}
use Rattle.strip_value.specs.declared.kinds.Kind.{Kind}
use Rattle.strip_value.specs.declared.tables.ColumnDef.{ColumnDef}
use Rattle.strip_value.specs.declared.tables.TableDef.{TableDef}
use Rattle.strip_ast.specs.Marks.{keyword_of}
use Rattle.strip_ast.specs.Tokens.{is_grammar_name}
use Rattle.strip_meaning.specs.Contents.{def_at}
use Rattle.strip_setup.specs.declared.scope.Entry.{Entry}
use Rattle.strip_acts.specs.Laws.{AreNamed, AreNames, column_names}
use Rattle.strip_acts.specs.Suiting.{has_column, is_there, kinds_in}
use Rattle.strip_acts.specs.Trees.{alias_at, column_name, entries_of, no_column, no_entry}
use Rattle.strip_acts.specs.Writable.{is_optional_name}
use Rattle.strip_acts.proofs.Tests.{below}

-- a column that is there has a name of the grammar, and so has its entry, if any
pub record IsReadable (entries : List Entry) (entry column : ℕ) : Type 0 where
  pub name : is_grammar_name (column_name entries entry column) ≡ true
  pub alias : is_optional_name (get_or entries entry no_entry).alias ≡ true

pub record AreReadable (entries : List Entry) (kinds : List (List Kind)) : Type 0 where
  pub each : (entry column : ℕ) → has_column kinds entry column ≡ true → IsReadable entries entry column

-- ---- entries

abbrev named_columns : List ColumnDef → List (List ℕ)
named_columns columns = map (λ column. column.name) columns

abbrev kinds_here : List ColumnDef → List Kind
kinds_here columns = map (λ column. column.kind) columns

abbrev entry_at : Bool → ℕ → List ColumnDef → Entry
entry_at named n columns = record { alias = if named then Some (alias_at n) else None; columns = columns }

abbrev entries_from : Bool → ℕ → List (List ColumnDef) → List Entry
entries_from named n columns =
    map (λ (numbered : ℕ × List ColumnDef). entry_at named numbered.0 numbered.1) (enumerate_from n columns)

column_named : (columns : List ColumnDef) (column : ℕ) → AreNames (named_columns columns) → column < length (kinds_here columns)
    → is_grammar_name (get_or columns column no_column).name ≡ true
column_named [] column names lt = absurd (omega arith)
column_named (c ∷ columns) zero names lt = names.0
column_named (c ∷ columns) (suc column) names lt = column_named columns column names.1 (omega arith)

pub alias_named : (named : Bool) (n : ℕ) → n < 3 → is_optional_name (if named then Some (alias_at n) else None) ≡ true
unfolding digits keyword_of
alias_named false n lt = refl
alias_named true zero lt = refl
alias_named true (suc zero) lt = refl
alias_named true (suc (suc zero)) lt = refl
alias_named true (suc (suc (suc n))) lt = absurd (omega arith)

readable_from : (named : Bool) (n : ℕ) (columns : List (List ColumnDef))
    → AllByRecursion (λ here. AreNames (named_columns here)) columns → n + length columns ≤ 3 → (entry column : ℕ)
    → column < length (get_or (kinds_in columns) entry []) → IsReadable (entries_from named n columns) entry column
readable_from named n [] names few entry column lt = absurd (omega arith)
readable_from named n (here ∷ columns) names few zero column lt = record {
  name = column_named here column names.0 lt;
  alias = alias_named named n (omega arith);
}
readable_from named n (here ∷ columns) names few (suc entry) column lt =
    let rest = readable_from named (n + 1) columns names.1 (omega arith) entry column lt in
    record { name = rest.name; alias = rest.alias }

-- at most three entries, whose columns have names of the grammar
pub entries_readable : (named : Bool) (columns : List (List ColumnDef))
    → AllByRecursion (λ here. AreNames (map (λ column. column.name) here)) columns → length columns ≤ 3
    → AreReadable (entries_of named columns) (kinds_in columns)
entries_readable named columns names few = record {
  each = λ entry column there. readable_from named 0 columns names (omega arith) entry column
      (below column (length (get_or (kinds_in columns) entry [])) there);
}

-- ---- tables

-- the table of a number that is there has a name of the grammar
table_named_in : (tables : List TableDef) (id : ℕ) → AreNames (map (λ table. table.name) tables) → id < length tables
    → is_grammar_name (def_at tables id).name ≡ true
table_named_in [] id names lt = absurd (omega arith)
table_named_in (table ∷ tables) zero names lt = names.0
table_named_in (table ∷ tables) (suc id) names lt = table_named_in tables id names.1 (omega arith)

-- and so have its columns
columns_named_in : (tables : List TableDef) (id : ℕ) → AllByRecursion (λ table. AreNames (column_names table)) tables
    → id < length tables → AreNames (column_names (def_at tables id))
columns_named_in [] id names lt = absurd (omega arith)
columns_named_in (table ∷ tables) zero names lt = names.0
columns_named_in (table ∷ tables) (suc id) names lt = columns_named_in tables id names.1 (omega arith)

pub table_named : (tables : List TableDef) (id : ℕ) → AreNamed tables → is_there tables id ≡ true
    → is_grammar_name (def_at tables id).name ≡ true
table_named tables id named there = table_named_in tables id named.names (below id (length tables) there)

pub columns_named : (tables : List TableDef) (id : ℕ) → AreNamed tables → is_there tables id ≡ true
    → AreNames (column_names (def_at tables id))
columns_named tables id named there = columns_named_in tables id named.columns (below id (length tables) there)

-- the table of an update or a delete
pub own_readable : (tables : List TableDef) (id : ℕ) → AreNamed tables → is_there tables id ≡ true
    → AreReadable (entries_of false ((def_at tables id).columns ∷ [])) (kinds_in ((def_at tables id).columns ∷ []))
own_readable tables id named there =
    entries_readable false ((def_at tables id).columns ∷ []) (columns_named tables id named there, tt) (omega arith)
