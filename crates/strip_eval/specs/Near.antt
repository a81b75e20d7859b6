-- Rows that are of the kinds of a query's entries, and numbers of expressions that stay small at them.
use Rattle.std.specs.Prelude.{◌≡◌, ℕ, List, [], ◌∷◌, map, Some, slice_get}
use Rattle.std.specs.List.{AllByRecursion}
use Rattle.strip_value.specs.declared.kinds.Kind.{Kind}
use Rattle.strip_value.specs.declared.values.Value.{Value}
use Rattle.strip_value.specs.declared.expressions.Test.{Test}
use Rattle.strip_value.specs.declared.expressions.Test as test
use Rattle.strip_value.specs.declared.queries.Input.{Input}
use Rattle.strip_value.specs.declared.queries.What.{What}
use Rattle.strip_value.specs.declared.queries.What.TheVariants as what
use Rattle.strip_value.specs.declared.queries.Query.{Query}
use Rattle.strip_value.specs.Bounds.{HasKinds, SuitsKinds, table_kinds}
use Rattle.strip_value.specs.Kinds.{FitsKinds}
use Rattle.strip_value.specs.Query.{Environment}
use Rattle.strip_value.specs.Table.{Keyed}
use Rattle.strip_value.specs.Trees as tree
use Rattle.strip_query.specs.Laws.{IsNear}

-- ---- numbers

-- the numbers of all expressions in a filter stay small
abbrev pub IsNearTest : List (List Value) → Test → Type 0
IsNearTest rows test.True = Unit {0}
IsNearTest rows (test.Compare how a b) = IsNear rows a × IsNear rows b
IsNearTest rows (tree.Not t) = IsNearTest rows t
IsNearTest rows (tree.And s t) = IsNearTest rows s × IsNearTest rows t
IsNearTest rows (tree.Or s t) = IsNearTest rows s × IsNearTest rows t

-- those of an item without groups
abbrev pub IsNearPlain : List (List Value) → What → Type 0
IsNearPlain rows (what.Plain e) = IsNear rows e
IsNearPlain rows _ = Unit {0}

-- those of an item's part of a sum
abbrev pub IsNearPart : List (List Value) → What → Type 0
IsNearPart rows (what.Sum e) = IsNear rows e
IsNearPart rows _ = Unit {0}

-- ---- kinds

-- the rows are of the kinds that the table's columns have
abbrev pub TableFits : List Keyed → ℕ → List (List Value) → Type 0
TableFits tables id rows = (kinds : List Kind) → slice_get (map table_kinds tables) id ≡ Some kinds → AllByRecursion (FitsKinds kinds) rows

-- the rows are of the kinds that the entry has
abbrev pub EntryFits : Environment → Input → List (List Value) → Type 0
EntryFits env input rows = (kinds : List Kind) → HasKinds env input kinds → AllByRecursion (FitsKinds kinds) rows

-- the rows of each entry are of the kinds for it
abbrev pub FitLists : List (List Kind) → List (List (List Value)) → Type 0
FitLists [] [] = Unit {0}
FitLists (ks ∷ kinds) (rows ∷ lists) = AllByRecursion (FitsKinds ks) rows × FitLists kinds lists
FitLists _ _ = ⊥

-- the rows of each entry are of the kinds that the entry has
abbrev pub EntriesFit : Environment → List Input → List (List (List Value)) → Type 0
EntriesFit env [] [] = Unit {0}
EntriesFit env (input ∷ inputs) (rows ∷ lists) = EntryFits env input rows × EntriesFit env inputs lists
EntriesFit env _ _ = ⊥

-- a row of each of the first entries, and the rows of the others
abbrev pub ChosenFit : List (List Kind) → List (List Value) → List (List (List Value)) → Type 0
ChosenFit kinds [] lists = FitLists kinds lists
ChosenFit (ks ∷ kinds) (row ∷ chosen) lists = FitsKinds ks row × ChosenFit kinds chosen lists
ChosenFit [] (row ∷ chosen) lists = ⊥

-- the query suits the kinds of these rows
abbrev pub SuitsRows : Query → List (List Value) → List (List (List Value)) → Type 0
SuitsRows query chosen lists = (kinds : List (List Kind)) × SuitsKinds query kinds × ChosenFit kinds chosen lists
