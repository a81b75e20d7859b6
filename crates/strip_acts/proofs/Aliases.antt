-- The entries of a query, at most three, are written under the names e1, e2 and e3: each column of theirs is read as itself.
use Rattle.std.proofs.Common.{◌≡◌, ℕ, zero, suc, ◌+◌, ◌<◌, ◌≤◌, true, ◌&&◌, List, [], ◌∷◌, ◌++◌, length, map, get_or, Option, Some, nat_lt, refl, sym, ap, ◌∙◌, arith}
use Rattle.std.specs.List.{AllByRecursion, enumerate_from, filter_map}
use Rattle.std.specs.Fmt.{digits}
use Rattle.strip_value.specs.declared.queries.Input.{Input}
use Rattle.strip_value.specs.declared.tables.ColumnDef.{ColumnDef}
use Rattle.strip_value.specs.declared.tables.TableDef.{TableDef}
use Rattle.strip_ast.specs.Marks.{keyword_of}
use Rattle.strip_ast.specs.Tokens.{is_grammar_name}
use Rattle.strip_setup.specs.declared.scope.Entry.{Entry}
use Rattle.strip_setup.specs.Catalog.{column_number, repeated}
use Rattle.strip_setup.specs.Queries.{alias_of, kinds_of, places_of}
use Rattle.strip_names.specs.Unknown.{unknown_alias}
use Rattle.strip_acts.specs.Laws.{AreApart, AreNames}
use Rattle.strip_acts.specs.Suiting.{has_column, kinds_in}
use Rattle.strip_acts.specs.Trees.{alias_at, column_name, entries_of, entry_trees, no_column}
use Rattle.strip_acts.specs.Writable.{is_optional_name}
use Rattle.strip_acts.proofs.Bare.{name_at, nowhere, within}
use Rattle.strip_acts.proofs.Columns.{found_at}
use Rattle.strip_acts.proofs.Naming.{are_both, column_found}
use Rattle.strip_acts.proofs.Reading.{alias_in, IsReadBack}

-- ---- names

pub alias_named : (n : ℕ) → n < 3 → is_grammar_name (alias_at n) ≡ true
unfolding digits keyword_of
alias_named zero lt = refl
alias_named (suc zero) lt = refl
alias_named (suc (suc zero)) lt = refl
alias_named (suc (suc (suc n))) lt = absurd (omega (arith, lt))

-- no name stands twice
pub aliases_once : (tables : List TableDef) (inputs : List Input) → length inputs ≤ 3 → repeated (filter_map alias_of (entry_trees tables inputs)) ≡ []
unfolding digits
aliases_once tables [] few = refl
aliases_once tables (a ∷ []) few = refl
aliases_once tables (a ∷ b ∷ []) few = refl
aliases_once tables (a ∷ b ∷ c ∷ []) few = refl
aliases_once tables (a ∷ b ∷ c ∷ d ∷ inputs) few = absurd (omega (arith, few))

-- ---- entries

abbrev pub column_names_of : List ColumnDef → List (List ℕ)
column_names_of columns = map (λ (column : ColumnDef). column.name) columns

-- the entries from a number on
abbrev pub entries_from : ℕ → List (List ColumnDef) → List Entry
entries_from n columns = map (λ (numbered : ℕ × List ColumnDef). record { alias = Some (alias_at numbered.0); columns = numbered.1 }) (enumerate_from n columns)

-- the kinds of their columns
kinds_from : (n : ℕ) (columns : List (List ColumnDef)) → kinds_of (entries_from n columns) ≡ kinds_in columns
kinds_from n [] = refl
kinds_from n (one ∷ columns) = ap (λ kinds. map (λ (column : ColumnDef). column.kind) one ∷ kinds) (kinds_from (n + 1) columns)

pub kinds_named : (columns : List (List ColumnDef)) → kinds_of (entries_of true columns) ≡ kinds_in columns
kinds_named columns = kinds_from 0 columns

abbrev pub AreAllApart : List (List ColumnDef) → Type 0
AreAllApart columns = AllByRecursion (λ those. AreApart (column_names_of those)) columns

abbrev pub AreAllNames : List (List ColumnDef) → Type 0
AreAllNames columns = AllByRecursion (λ those. AreNames (column_names_of those)) columns

-- what is read of the name of a column of the entry of a number
abbrev IsAt : List (List ColumnDef) → ℕ → ℕ → Type 0
IsAt columns entry column = places_of (entries_of true columns) (alias_in (entries_of true columns) entry) (column_name (entries_of true columns) entry column) ≡ record { entry = entry; column = column } ∷ []

place_at : (n : ℕ) (those : List ColumnDef) (column : ℕ) → AreApart (column_names_of those) → nat_lt column (length (map (λ (c : ColumnDef). c.kind) those)) ≡ true → found_at n (column_number those (get_or those column no_column).name) ++ [] ≡ record { entry = n; column = column } ∷ []
place_at n those column apart there = ap (λ (o : Option ℕ). found_at n o ++ []) (column_found those column apart (within those column there))

places_named : (columns : List (List ColumnDef)) (entry column : ℕ) → length columns ≤ 3 → AreAllApart columns → has_column (kinds_in columns) entry column ≡ true → IsAt columns entry column
unfolding digits
places_named [] entry column few apart there = absurd (nowhere column there)
places_named (a ∷ []) zero column few apart there = place_at 0 a column apart.0 there
places_named (a ∷ []) (suc entry) column few apart there = absurd (nowhere column there)
places_named (a ∷ b ∷ []) zero column few apart there = place_at 0 a column apart.0 there
places_named (a ∷ b ∷ []) (suc zero) column few apart there = place_at 1 b column apart.1.0 there
places_named (a ∷ b ∷ []) (suc (suc entry)) column few apart there = absurd (nowhere column there)
places_named (a ∷ b ∷ c ∷ []) zero column few apart there = place_at 0 a column apart.0 there
places_named (a ∷ b ∷ c ∷ []) (suc zero) column few apart there = place_at 1 b column apart.1.0 there
places_named (a ∷ b ∷ c ∷ []) (suc (suc zero)) column few apart there = place_at 2 c column apart.1.1.0 there
places_named (a ∷ b ∷ c ∷ []) (suc (suc (suc entry))) column few apart there = absurd (nowhere column there)
places_named (a ∷ b ∷ c ∷ d ∷ columns) entry column few apart there = absurd (omega (arith, few))

abbrev IsAliasKnown : List (List ColumnDef) → ℕ → Type 0
IsAliasKnown columns entry = unknown_alias (entries_of true columns) (alias_in (entries_of true columns) entry) ≡ []

aliases_known : (columns : List (List ColumnDef)) (entry column : ℕ) → length columns ≤ 3 → has_column (kinds_in columns) entry column ≡ true → IsAliasKnown columns entry
unfolding digits
aliases_known [] entry column few there = absurd (nowhere column there)
aliases_known (a ∷ []) zero column few there = refl
aliases_known (a ∷ []) (suc entry) column few there = absurd (nowhere column there)
aliases_known (a ∷ b ∷ []) zero column few there = refl
aliases_known (a ∷ b ∷ []) (suc zero) column few there = refl
aliases_known (a ∷ b ∷ []) (suc (suc entry)) column few there = absurd (nowhere column there)
aliases_known (a ∷ b ∷ c ∷ []) zero column few there = refl
aliases_known (a ∷ b ∷ c ∷ []) (suc zero) column few there = refl
aliases_known (a ∷ b ∷ c ∷ []) (suc (suc zero)) column few there = refl
aliases_known (a ∷ b ∷ c ∷ []) (suc (suc (suc entry))) column few there = absurd (nowhere column there)
aliases_known (a ∷ b ∷ c ∷ d ∷ columns) entry column few there = absurd (omega (arith, few))

-- each column is read as itself
pub named_back : (columns : List (List ColumnDef)) → length columns ≤ 3 → AreAllApart columns → IsReadBack (entries_of true columns) (entries_of true columns)
named_back columns few apart = record {
  place = λ entry column there. places_named columns entry column few apart (over entry column there);
  alias = λ entry column there. aliases_known columns entry column few (over entry column there);
}
  where
    over : (entry column : ℕ) → has_column (kinds_of (entries_of true columns)) entry column ≡ true → has_column (kinds_in columns) entry column ≡ true
    over entry column there = sym (ap (λ kinds. has_column kinds entry column) (kinds_named columns)) ∙ there

both_named : (n : ℕ) (those : List ColumnDef) (column : ℕ) → n < 3 → AreNames (column_names_of those) → nat_lt column (length (map (λ (c : ColumnDef). c.kind) those)) ≡ true
    → (is_grammar_name (alias_at n) && is_grammar_name (get_or those column no_column).name) ≡ true
both_named n those column lt names there =
    are_both (is_grammar_name (alias_at n)) (is_grammar_name (get_or those column no_column).name) (alias_named n lt) (name_at those column names (within those column there))

-- each column has a name that can be written
pub columns_named : (columns : List (List ColumnDef)) (entry column : ℕ) → length columns ≤ 3 → AreAllNames columns → has_column (kinds_in columns) entry column ≡ true
    → (is_optional_name (alias_in (entries_of true columns) entry) && is_grammar_name (column_name (entries_of true columns) entry column)) ≡ true
columns_named [] entry column few names there = absurd (nowhere column there)
columns_named (a ∷ []) zero column few names there = both_named 0 a column (omega arith) names.0 there
columns_named (a ∷ []) (suc entry) column few names there = absurd (nowhere column there)
columns_named (a ∷ b ∷ []) zero column few names there = both_named 0 a column (omega arith) names.0 there
columns_named (a ∷ b ∷ []) (suc zero) column few names there = both_named 1 b column (omega arith) names.1.0 there
columns_named (a ∷ b ∷ []) (suc (suc entry)) column few names there = absurd (nowhere column there)
columns_named (a ∷ b ∷ c ∷ []) zero column few names there = both_named 0 a column (omega arith) names.0 there
columns_named (a ∷ b ∷ c ∷ []) (suc zero) column few names there = both_named 1 b column (omega arith) names.1.0 there
columns_named (a ∷ b ∷ c ∷ []) (suc (suc zero)) column few names there = both_named 2 c column (omega arith) names.1.1.0 there
columns_named (a ∷ b ∷ c ∷ []) (suc (suc (suc entry))) column few names there = absurd (nowhere column there)
columns_named (a ∷ b ∷ c ∷ d ∷ columns) entry column few names there = absurd (omega (arith, few))
