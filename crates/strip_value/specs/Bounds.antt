-- Which queries suit tables: their columns are there, their kinds agree, and no number grows too wide.
use Rattle.std.specs.Prelude.{◌≡◌, ◌≢◌, ℕ, ◌+◌, ◌*◌, ◌^◌, ◌<◌, min, nat_abs, List, [], ◌∷◌, map, get_or, length, All, IsTrue, Option, None, Some, slice_get}
use Rattle.std.specs.List.{list_any}
use Rattle.strip_value.specs.declared.kinds.Kind.{Kind}
use Rattle.strip_value.specs.declared.kinds.Kind.TheVariants as kind
use Rattle.strip_value.specs.declared.expressions.Calc.{Calc}
use Rattle.strip_value.specs.declared.expressions.Calc as calc
use Rattle.strip_value.specs.declared.expressions.Test.{Test}
use Rattle.strip_value.specs.declared.expressions.Test as test
use Rattle.strip_value.specs.declared.queries.Input.{Input}
use Rattle.strip_value.specs.declared.queries.Input.TheVariants as input
use Rattle.strip_value.specs.declared.queries.What.{What}
use Rattle.strip_value.specs.declared.queries.What.TheVariants as what
use Rattle.strip_value.specs.declared.queries.Place.{Place}
use Rattle.strip_value.specs.declared.queries.Query.{Query}
use Rattle.strip_value.specs.Kinds.{FitsKinds}
use Rattle.strip_value.specs.Trees as tree
use Rattle.strip_value.specs.Table.{Keyed}
use Rattle.strip_value.specs.Query.{Environment, is_column}

-- ---- magnitudes

-- every value of the kind is at most so far from 0; a text has no magnitude
abbrev pub kind_magnitude : Kind → ℕ
kind_magnitude kind.Int = 2 ^ 31
kind_magnitude kind.Big = 2 ^ 126
kind_magnitude kind.Text = 0

-- a magnitude above 2^127 counts as 2^127
abbrev pub capped : ℕ → ℕ
capped n = min n (2 ^ 127)

-- the kind of an entry's column
abbrev pub column_kind : List (List Kind) → ℕ → ℕ → Kind
column_kind kinds entry column = get_or (get_or kinds entry []) column kind.Text

-- the static bound: `+` and `-` add magnitudes, `*` multiplies them
abbrev pub magnitude_of : List (List Kind) → Calc → ℕ
magnitude_of kinds (calc.Number n) = nat_abs n
magnitude_of kinds (calc.Text t) = 0
magnitude_of kinds (calc.Column entry column) = kind_magnitude (column_kind kinds entry column)
magnitude_of kinds (tree.Add a b) = capped (magnitude_of kinds a + magnitude_of kinds b)
magnitude_of kinds (tree.Sub a b) = capped (magnitude_of kinds a + magnitude_of kinds b)
magnitude_of kinds (tree.Mul a b) = capped (magnitude_of kinds a * magnitude_of kinds b)

-- below 2^63
abbrev pub IsNarrow : List (List Kind) → Calc → Type 0
IsNarrow kinds e = magnitude_of kinds e < 2 ^ 63

-- ---- kinds

-- a bare column keeps its kind, any other number is `Big`
abbrev pub kind_of : List (List Kind) → Calc → Kind
kind_of kinds (calc.Text t) = kind.Text
kind_of kinds (calc.Column entry column) = column_kind kinds entry column
kind_of kinds _ = kind.Big

-- the kind of an item's column in the answer
abbrev pub item_kind : List (List Kind) → What → Kind
item_kind kinds (what.Plain e) = kind_of kinds e
item_kind kinds _ = kind.Big

-- the entry and its column are there
abbrev pub IsThere : List (List Kind) → ℕ → ℕ → Type 0
IsThere kinds entry column = column < length (get_or kinds entry [])

-- the columns are there, and no text is in it: it has a magnitude
abbrev pub IsNumeric : List (List Kind) → Calc → Type 0
IsNumeric kinds (calc.Number n) = Unit {0}
IsNumeric kinds (calc.Text t) = ⊥
IsNumeric kinds (calc.Column entry column) = IsThere kinds entry column × (column_kind kinds entry column ≢ kind.Text)
IsNumeric kinds (tree.Add a b) = IsNumeric kinds a × IsNumeric kinds b
IsNumeric kinds (tree.Sub a b) = IsNumeric kinds a × IsNumeric kinds b
IsNumeric kinds (tree.Mul a b) = IsNumeric kinds a × IsNumeric kinds b

-- ---- expressions that keep the static bounds, and whose kinds agree

-- every part but a bare column is narrow
abbrev pub IsBounded : List (List Kind) → Calc → Type 0
IsBounded kinds (calc.Number n) = IsNarrow kinds (calc.Number n)
IsBounded kinds (calc.Text t) = Unit {0}
IsBounded kinds (calc.Column entry column) = Unit {0}
IsBounded kinds (tree.Add a b) = IsBounded kinds a × IsBounded kinds b × IsNarrow kinds (tree.Add a b)
IsBounded kinds (tree.Sub a b) = IsBounded kinds a × IsBounded kinds b × IsNarrow kinds (tree.Sub a b)
IsBounded kinds (tree.Mul a b) = IsBounded kinds a × IsBounded kinds b × IsNarrow kinds (tree.Mul a b)

-- the columns are there, and no text is in arithmetic
abbrev pub IsKinded : List (List Kind) → Calc → Type 0
IsKinded kinds (calc.Text t) = Unit {0}
IsKinded kinds (calc.Column entry column) = IsThere kinds entry column
IsKinded kinds e = IsNumeric kinds e

-- the expression may be computed
abbrev pub SuitsCalc : List (List Kind) → Calc → Type 0
SuitsCalc kinds e = IsKinded kinds e × IsBounded kinds e

-- two numbers or two texts
abbrev pub IsComparable : Kind → Kind → Type 0
IsComparable kind.Text b = b ≡ kind.Text
IsComparable _ b = b ≢ kind.Text

-- the filter may be tried
abbrev pub SuitsTest : List (List Kind) → Test → Type 0
SuitsTest kinds test.True = Unit {0}
SuitsTest kinds (test.Compare how a b) = SuitsCalc kinds a × SuitsCalc kinds b × IsComparable (kind_of kinds a) (kind_of kinds b)
SuitsTest kinds (tree.Not t) = SuitsTest kinds t
SuitsTest kinds (tree.And s t) = SuitsTest kinds s × SuitsTest kinds t
SuitsTest kinds (tree.Or s t) = SuitsTest kinds s × SuitsTest kinds t

-- ---- queries

-- the items are all plain in a query without groups; in one with groups each plain item is a group column
abbrev pub SuitsItem : List (List Kind) → Option (List Place) → What → Type 0
SuitsItem kinds None (what.Plain e) = SuitsCalc kinds e
SuitsItem kinds None _ = ⊥
SuitsItem kinds (Some places) (what.Plain e) = IsTrue (list_any (λ place. is_column place e) places)
SuitsItem kinds (Some places) (what.Sum e) = IsNumeric kinds e × IsBounded kinds e × IsNarrow kinds e
SuitsItem kinds (Some places) what.Count = Unit {0}

-- a query with groups has one entry, and its group columns are there
abbrev pub SuitsGroup : List (List Kind) → List Input → Option (List Place) → Type 0
SuitsGroup kinds entries None = Unit {0}
SuitsGroup kinds entries (Some places) = (length entries ≡ 1) × All (λ place. IsThere kinds place.entry place.column) places

-- the query suits entries whose columns have these kinds
pub record SuitsKinds (query : Query) (kinds : List (List Kind)) : Type 0 where
  pub filter_suits : SuitsTest kinds query.filter
  pub items_suit : All (λ item. SuitsItem kinds query.group item.what) query.items
  pub group_suits : SuitsGroup kinds query.entries query.group

-- the kinds of a table's columns
abbrev pub table_kinds : Keyed → List Kind
table_kinds table = map (λ c. c.kind) table.def.columns

-- the table is there and its columns have these kinds; a transition table's rows have them
abbrev pub HasKinds : Environment → Input → List Kind → Type 0
HasKinds env (input.Table id) kinds = slice_get (map table_kinds env.now) id ≡ Some kinds
HasKinds env (input.Before id) kinds = slice_get (map table_kinds env.before) id ≡ Some kinds
HasKinds env input.Inserted kinds = All (FitsKinds kinds) env.moved.inserted
HasKinds env input.Deleted kinds = All (FitsKinds kinds) env.moved.deleted
HasKinds env input.Old kinds = All (FitsKinds kinds) env.moved.old
HasKinds env input.New kinds = All (FitsKinds kinds) env.moved.new

-- the entries are there and have these kinds, one list for each entry
abbrev pub EntriesHaveKinds : Environment → List Input → List (List Kind) → Type 0
EntriesHaveKinds env [] [] = Unit {0}
EntriesHaveKinds env (entry ∷ entries) (ks ∷ kinds) = HasKinds env entry ks × EntriesHaveKinds env entries kinds
EntriesHaveKinds env _ _ = ⊥

-- the query suits the tables: for some kinds that its entries have, its columns are there, its kinds agree, and it keeps the static bounds
unfoldable pub Suits : Query → Environment → Type 0
Suits query env = (kinds : List (List Kind)) × EntriesHaveKinds env query.entries kinds × SuitsKinds query kinds
