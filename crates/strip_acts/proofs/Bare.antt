-- The one entry of an update or a delete: it is read under the name of its table, and its columns are written alone.
use Rattle.std.proofs.Common.{◌≡◌, ℕ, zero, suc, ◌<◌, true, ◌&&◌, List, [], ◌∷◌, ◌++◌, length, map, get_or, Option, Some, nat_lt, refl, ap, arith}
use Rattle.strip_value.specs.declared.tables.ColumnDef.{ColumnDef}
use Rattle.strip_value.specs.declared.tables.TableDef.{TableDef}
use Rattle.strip_value.proofs.Lists.{all_at}
use Rattle.strip_ast.specs.Tokens.{is_grammar_name}
use Rattle.strip_setup.specs.declared.scope.Entry.{Entry}
use Rattle.strip_setup.specs.Catalog.{columns_of}
use Rattle.strip_setup.specs.Queries.{kinds_of, places_of}
use Rattle.strip_names.specs.Unknown.{unknown_alias}
use Rattle.strip_acts.specs.Laws.{AreApart, AreNames, column_names}
use Rattle.strip_acts.specs.Suiting.{has_column}
use Rattle.strip_acts.specs.Trees.{bare_entry, column_name, no_column}
use Rattle.strip_acts.specs.Writable.{is_optional_name}
use Rattle.strip_acts.proofs.Alike.{IsNamed}
use Rattle.strip_acts.proofs.Columns.{found_at, kinds_long}
use Rattle.strip_acts.proofs.Lists.{mapped_all}
use Rattle.strip_acts.proofs.Naming.{below, column_found}
use Rattle.strip_acts.proofs.Reading.{alias_in, IsReadBack}

-- an entry of this name, of the columns of a table
abbrev pub entry_with : List ℕ → Option TableDef → List Entry
entry_with name table = record { alias = Some name; columns = columns_of table } ∷ []

pub nowhere : (column : ℕ) → nat_lt column 0 ≡ true → ⊥
nowhere column e = let lt = below column 0 e in omega (arith, lt)

-- a column that is there is below the number of columns
pub within : (columns : List ColumnDef) (column : ℕ) → nat_lt column (length (map (λ (c : ColumnDef). c.kind) columns)) ≡ true → column < length columns
within columns column e =
    let lt = below column (length (map (λ (c : ColumnDef). c.kind) columns)) e in
    let same = kinds_long columns in
    omega (arith, lt, same)

-- its name is one of the grammar
pub name_at : (columns : List ColumnDef) (column : ℕ) → AreNames (map (λ (c : ColumnDef). c.name) columns) → column < length columns → is_grammar_name (get_or columns column no_column).name ≡ true
name_at columns column names lt =
    all_at (λ (c : ColumnDef). is_grammar_name c.name ≡ true) columns column no_column (mapped_all (λ (c : ColumnDef). c.name) (λ name. is_grammar_name name ≡ true) columns names) lt

module _ (name : List ℕ) (table : TableDef) where
  abbrev read : List Entry
  read = entry_with name (Some table)

  abbrev written : List Entry
  written = bare_entry table

  pub bare_read : AreApart (column_names table) → IsReadBack read written
  bare_read apart = record { place = at; alias = before }
    where
      at : (entry column : ℕ) → has_column (kinds_of read) entry column ≡ true → places_of read (alias_in written entry) (column_name written entry column) ≡ record { entry = entry; column = column } ∷ []
      at zero column there = ap (λ (o : Option ℕ). found_at 0 o ++ []) (column_found table.columns column apart (within table.columns column there))
      at (suc entry) column there = absurd (nowhere column there)

      before : (entry column : ℕ) → has_column (kinds_of read) entry column ≡ true → unknown_alias read (alias_in written entry) ≡ []
      before zero column there = refl
      before (suc entry) column there = absurd (nowhere column there)

  pub bare_named : AreNames (column_names table) → IsNamed read written
  bare_named names = record { named = at }
    where
      at : (entry column : ℕ) → has_column (kinds_of read) entry column ≡ true → (is_optional_name (alias_in written entry) && is_grammar_name (column_name written entry column)) ≡ true
      at zero column there = name_at table.columns column names (within table.columns column there)
      at (suc entry) column there = absurd (nowhere column there)
