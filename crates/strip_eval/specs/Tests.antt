-- Queries that the tests ask, and what they are asked of.
use Rattle.std.specs.Prelude.{◌≡◌, ℕ, ◌^◌, ◌<◌, pos, List, [], ◌∷◌, map, length, Option, None, Some}
use Rattle.std.specs.List.{AllByRecursion}
use Rattle.strip_value.specs.declared.kinds.Kind.{Kind}
use Rattle.strip_value.specs.declared.kinds.Kind.TheVariants as kind
use Rattle.strip_value.specs.declared.expressions.Calc.{Calc}
use Rattle.strip_value.specs.declared.expressions.Calc.TheVariants.{Number, Column}
use Rattle.strip_value.specs.declared.expressions.Cmp.TheVariants as cmp
use Rattle.strip_value.specs.declared.expressions.Test.{Test}
use Rattle.strip_value.specs.declared.expressions.Test.TheVariants as test
use Rattle.strip_value.specs.declared.queries.Input.{Input}
use Rattle.strip_value.specs.declared.queries.Input.TheVariants as input
use Rattle.strip_value.specs.declared.queries.What.{What}
use Rattle.strip_value.specs.declared.queries.What.TheVariants.{Plain, Sum, Count}
use Rattle.strip_value.specs.declared.queries.Place.{Place}
use Rattle.strip_value.specs.declared.queries.Query.{Query}
use Rattle.strip_value.specs.Bounds.{Suits, table_kinds}
use Rattle.strip_value.specs.Kinds.{FitsKinds}
use Rattle.strip_value.specs.Query.{Environment}
use Rattle.strip_value.specs.Table.{Keyed}
use Rattle.strip_value.specs.Trees.{And}
use Rattle.strip_eval.specs.Reads.{ReadsFew}

-- ---- what queries are asked of

-- the kinds of table t (id int, g int, v int, key id)
abbrev pub numbers : List Kind
numbers = kind.Int ∷ kind.Int ∷ kind.Int ∷ []

-- the kinds of table w (id int, s text, key id)
abbrev pub words : List Kind
words = kind.Int ∷ kind.Text ∷ []

-- one table of these kinds, with few rows
abbrev pub IsOne : List Kind → List Keyed → Type 0
IsOne kinds (table ∷ []) = (table_kinds table ≡ kinds) × (length table.rows < 2 ^ 62)
IsOne kinds _ = ⊥

-- one table as it stands and as it stood, and rows that were added, all of these kinds
pub record IsSetting (kinds : List Kind) (env : Environment) : Type 0 where
  pub now : IsOne kinds env.now
  pub before : IsOne kinds env.before
  pub added : AllByRecursion (FitsKinds kinds) env.moved.inserted

-- the rows of the query may be asked for
abbrev pub MayAsk : Query → Environment → Type 0
MayAsk query env = Suits query env × ReadsFew query env

-- ---- queries

abbrev pub at : ℕ → ℕ → List Place
at entry column = record { entry = entry; column = column } ∷ []

-- the parts of a query, whatever its items' names
pub record HasParts (whats : List What) (entries : List Input) (filter : Test) (group : Option (List Place)) (query : Query) : Type 0 where
  pub items : map (λ item. item.what) query.items ≡ whats
  pub entries_are : query.entries ≡ entries
  pub filter_is : query.filter ≡ filter
  pub group_is : query.group ≡ group

-- select g from t
abbrev pub IsPlain : Query → Type 0
IsPlain = HasParts (Plain (Column 0 1) ∷ []) (input.Table 0 ∷ []) test.True None

-- select g, sum(..), count(*) from t where .. group by g
abbrev pub IsSums : Calc → Test → Query → Type 0
IsSums part filter = HasParts (Plain (Column 0 1) ∷ Sum part ∷ Count ∷ []) (input.Table 0 ∷ []) filter (Some (at 0 1))

-- select a.id, b.id from t a, t b where ..
abbrev pub IsJoined : Test → Query → Type 0
IsJoined filter = HasParts (Plain (Column 0 0) ∷ Plain (Column 1 0) ∷ []) (input.Table 0 ∷ input.Table 0 ∷ []) filter None

-- select a.id, b.id, c.id from first a, second b, third c where a.id < b.id and b.id < c.id
abbrev pub IsChain : Input → Input → Input → Query → Type 0
IsChain first second third =
    HasParts (Plain (Column 0 0) ∷ Plain (Column 1 0) ∷ Plain (Column 2 0) ∷ []) (first ∷ second ∷ third ∷ [])
    (And (test.Compare cmp.Lt (Column 0 0) (Column 1 0)) (test.Compare cmp.Lt (Column 1 0) (Column 2 0))) None

-- a.g = b.g and a.id < b.id
abbrev pub alike : Test
alike = And (test.Compare cmp.Eq (Column 0 1) (Column 1 1)) (test.Compare cmp.Lt (Column 0 0) (Column 1 0))

-- v > 100
abbrev pub large : Test
large = test.Compare cmp.Gt (Column 0 2) (Number (pos 100))
