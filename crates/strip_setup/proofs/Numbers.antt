-- The number that a search finds is below the length of its list.
use Rattle.std.proofs.Common.{◌≡◌, ℕ, ◌<◌, Bool, List, [], ◌∷◌, length, Some, position, bytes_eq}
use Rattle.std.proofs.lemmas.List.Quantifiers.{position-Some}
use Rattle.strip_value.specs.declared.rules.Function.{Function}
use Rattle.strip_value.specs.declared.tables.ColumnDef.{ColumnDef}
use Rattle.strip_value.specs.declared.tables.TableDef.{TableDef}
use Rattle.strip_setup.specs.Catalog.{column_number, function_number, table_number}

pub position_below : {A : Type 0} (p : A → Bool) (xs : List A) (n : ℕ) → position p xs ≡ Some n → n < length xs
position_below p [] n e = cc
position_below p (x ∷ xs) n e = (position-Some p (x ∷ xs) n x e).0

pub column_below : (columns : List ColumnDef) (name : List ℕ) (n : ℕ) → column_number columns name ≡ Some n → n < length columns
column_below columns name n e = position_below (λ column. bytes_eq column.name name) columns n e

pub table_below : (tables : List TableDef) (name : List ℕ) (n : ℕ) → table_number tables name ≡ Some n → n < length tables
table_below tables name n e = position_below (λ table. bytes_eq table.name name) tables n e

pub function_below : (functions : List Function) (name : List ℕ) (n : ℕ) → function_number functions name ≡ Some n → n < length functions
function_below functions name n e = position_below (λ function. bytes_eq function.name name) functions n e

pub bound_below : (names : List (List ℕ)) (name : List ℕ) (n : ℕ) → position (λ other. bytes_eq other name) names ≡ Some n → n < length names
bound_below names name n e = position_below (λ other. bytes_eq other name) names n e

pub ruleset below = (column_below, table_below, function_below)
