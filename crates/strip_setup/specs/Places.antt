-- What is said of the columns of entries on the way to what is declared.
use Rattle.strip_ast.specs.declared.queries.ColTree.{ColTree}
use Rattle.std.specs.Prelude.{Bool, ◌==◌, ◌≡◌, ℕ, ◌≤◌, if◌then◌else◌, List, length, Option, None, Some}
use Rattle.std.specs.Option.{IfSome}
use Rattle.strip_value.specs.declared.expressions.Calc.{Calc}
use Rattle.strip_value.specs.declared.expressions.Cmp.{Cmp}
use Rattle.strip_value.specs.declared.expressions.Test.TheVariants as test
use Rattle.strip_ast.specs.declared.deeds.Deed.{Deed}
use Rattle.strip_ast.specs.declared.deeds.Deed.TheVariants as deed
use Rattle.strip_ast.specs.declared.expressions.Op.{Op}
use Rattle.strip_setup.specs.declared.scope.Entry.{Entry}
use Rattle.strip_setup.specs.Catalog.{column_number}
use Rattle.strip_setup.specs.Queries.{Scope, compared, is_meant, places_of}

-- the number of the column of a name in an entry, if the entry is meant and has it
abbrev pub column_meant : Option (List ℕ) → List ℕ → Entry → Option ℕ
column_meant of name entry = if is_meant of entry.alias then column_number entry.columns name else None

-- one column alone is meant
abbrev pub is_clear : List Entry → ColTree → Bool
is_clear entries column = length (places_of entries column.of column.name) == 1

-- the rule's table has at most 16 columns
abbrev pub ChangesFew : Scope → Type 0
ChangesFew scope = IfSome scope.changed (λ columns. length columns ≤ 16)

-- by the operator values are compared so, or not at all
abbrev pub Compares : Op → Option Cmp → Type 0
Compares op None = (a b : Calc) → compared op a b ≡ test.True
Compares op (Some how) = (a b : Calc) → compared op a b ≡ test.Compare how a b

-- an act asks no query with more than three entries
abbrev pub AsksFew : Deed → Type 0
AsksFew (deed.Select query) = length query.entries ≤ 3
AsksFew _ = Unit {0}
