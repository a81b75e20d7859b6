-- That the acts that suit are just those that some deed of the grammar stands for.
use Rattle.std.specs.Prelude.{◌≡◌, ℕ, ◌≤◌, true, false, List, [], ◌∷◌, map, length, nat_le, filter, Bool}
use Rattle.std.specs.List.{AllByRecursion}
use Rattle.strip_value.specs.declared.acts.Act.{Act}
use Rattle.strip_value.specs.declared.tables.TableDef.{TableDef}
use Rattle.strip_ast.specs.declared.deeds.Deed.{Deed}
use Rattle.strip_ast.specs.declared.deeds.Deed.TheVariants as deed
use Rattle.strip_ast.specs.Tokens.{is_grammar_name}
use Rattle.strip_names.specs.Exists.{taken_in_deed}
use Rattle.strip_names.specs.Grouped.{has_misplaced}
use Rattle.strip_names.specs.Limits.{limits_in_deed}
use Rattle.strip_names.specs.Unknown.{unknown_in_deed}
use Rattle.strip_kinds.specs.Mismatch.{mismatched_in_deed}
use Rattle.strip_kinds.specs.Width.{least_wide, magnitudes_in_deed}
use Rattle.strip_setup.specs.Catalog.{has_name}
use Rattle.strip_setup.specs.Queries.{query_of}
use Rattle.strip_setup.specs.Resolve.{act_of, outside_rules}
use Rattle.strip_acts.specs.Suiting.{suits}
use Rattle.strip_acts.specs.Trees.{tree_of}
use Rattle.strip_acts.specs.Writable.{is_written}

-- ---- tables

-- no name stands twice
abbrev pub AreApart : List (List ℕ) → Type 0
AreApart [] = Unit {0}
AreApart (name ∷ names) = (has_name names name ≡ false) × AreApart names

-- names of the grammar
abbrev pub AreNames : List (List ℕ) → Type 0
AreNames names = AllByRecursion (λ name. is_grammar_name name ≡ true) names

abbrev pub column_names : TableDef → List (List ℕ)
column_names table = map (λ column. column.name) table.columns

-- tables have names of the grammar, each its own, and so have the columns of a table
pub record AreNamed (tables : List TableDef) : Type 0 where
  pub few : length tables ≤ 64
  pub names : AreNames (map (λ table. table.name) tables)
  pub own : AreApart (map (λ table. table.name) tables)
  pub columns : AllByRecursion (λ table. AreNames (column_names table)) tables
  pub apart : AllByRecursion (λ table. AreApart (column_names table)) tables
  pub narrow : AllByRecursion (λ table. length table.columns ≤ 16) tables

-- ---- deeds that are accepted

-- an item may not stand in the query of the act
abbrev pub is_misplaced : List TableDef → Deed → Bool
is_misplaced tables (deed.Select query) = has_misplaced (query_of (outside_rules tables) query)
is_misplaced tables _ = false

-- nothing is taken, unknown, too much, of the wrong kind, too wide or misplaced
pub record IsAccepted (tables : List TableDef) (d : Deed) : Type 0 where
  pub once : taken_in_deed d ≡ []
  pub known : unknown_in_deed tables d ≡ []
  pub within : limits_in_deed d ≡ []
  pub kinds : mismatched_in_deed tables d ≡ []
  pub narrow : filter (nat_le least_wide) (magnitudes_in_deed tables d) ≡ []
  pub placed : is_misplaced tables d ≡ false

-- ---- laws

-- what an act that suits is written as has a text, is accepted, and stands for the act
pub record IsReadAgain (tables : List TableDef) (one : Act) : Type 0 where
  pub written : is_written (tree_of tables one) ≡ true
  pub accepted : IsAccepted tables (tree_of tables one)
  pub again : act_of tables (tree_of tables one) ≡ one

abbrev pub SuitingActsAreWritten : Type 0
SuitingActsAreWritten = (tables : List TableDef) (one : Act) → AreNamed tables → suits tables one ≡ true → IsReadAgain tables one

-- what an accepted deed that has a text stands for suits
abbrev pub WrittenDeedsSuit : Type 0
WrittenDeedsSuit = (tables : List TableDef) (d : Deed) → AreNamed tables → is_written d ≡ true → IsAccepted tables d → suits tables (act_of tables d) ≡ true
