-- Which databases the engine serves so far: base tables, derived tables, and rules that keep derived tables of the first form
-- by sums, the rows of each commit in an action of their own.
use Rattle.std.specs.Prelude.{◌≡◌, ◌<◌, ◌≤◌, ◌⊎◌, ℕ, ◌+◌, ◌==◌, Bool, true, false, not, ◌&&◌, List, [], ◌∷◌, length, map, None}
use Rattle.std.specs.Option.{is_some}
use Rattle.std.specs.List.{AllByRecursion, list_any}
use Rattle.strip_value.specs.declared.rules.Function.{Function}
use Rattle.strip_value.specs.declared.rules.Rule.{Rule}
use Rattle.strip_value.specs.declared.rules.Step.{Step}
use Rattle.strip_value.specs.declared.rules.Step.TheVariants.{Add, Redo}
use Rattle.strip_value.specs.declared.tables.TableDef.{TableDef}
use Rattle.strip_meaning.specs.Contents.{def_at}
use Rattle.strip_meaning.specs.First.{IsBase, IsFirst}
use Rattle.strip_meaning.specs.Maintained.{Manner, keep_function, keep_rule}
use Rattle.strip_model.specs.Derived.{Fixed}
use Rattle.strip_setup.specs.Maintain.{query_in}

-- ---- tables

-- a derived table that isn't declared to be kept: nothing is ever added to it
pub record IsUnkept (def : TableDef) : Type 0 where
  pub derived : is_some def.query ≡ true
  pub unkept : def.declared ≡ false

abbrev pub IsTableOf : List TableDef → TableDef → Type 0
IsTableOf defs def = IsBase def ⊎ (IsFirst defs def ⊎ IsUnkept def)

-- ---- what keeps tables

-- the table that a function's steps keep
abbrev pub kept_in : List Step → ℕ
kept_in [] = 0
kept_in (Add table into ∷ steps) = into
kept_in (Redo table by_ ∷ steps) = table

-- the tables that are kept, in the order in which that was declared: that of their functions
abbrev pub kept_tables : List Function → List ℕ
kept_tables functions = map (λ function. kept_in function.steps) functions

-- each commit makes an action of its own, due at once
abbrev pub at_once : Manner
at_once = record { unique = None; after = 0 }

-- the functions that keep these tables
abbrev pub functions_of : List TableDef → List ℕ → List Function
functions_of defs ids = map (λ id. keep_function (def_at defs id) id) ids

-- their rules, the first one's function having this number
abbrev pub rules_of : List TableDef → ℕ → List ℕ → List Rule
rules_of defs function [] = []
rules_of defs function (id ∷ ids) = keep_rule (def_at defs id) (query_in (def_at defs id)) function at_once ∷ rules_of defs (function + 1) ids

-- a table of the first form that is declared to be kept
pub record IsKept (defs : List TableDef) (id : ℕ) : Type 0 where
  pub there : id < length defs
  pub first : IsFirst defs (def_at defs id)
  pub declared : (def_at defs id).declared ≡ true

abbrev pub is_among : List ℕ → ℕ → Bool
is_among ids id = list_any (λ other. other == id) ids

-- no number stands twice
abbrev pub all_differ : List ℕ → Bool
all_differ [] = true
all_differ (id ∷ ids) = not (is_among ids id) && all_differ ids

-- ---- the database

-- at most 64 tables; the functions and the rules are those of the tables that are declared to be kept, each once
pub record IsBuilt (f : Fixed) : Type 0 where
  pub few : length f.defs ≤ 64
  pub each : AllByRecursion (IsTableOf f.defs) f.defs
  pub kept : AllByRecursion (IsKept f.defs) (kept_tables f.functions)
  pub once : all_differ (kept_tables f.functions) ≡ true
  pub all : (id : ℕ) → (def_at f.defs id).declared ≡ true → is_among (kept_tables f.functions) id ≡ true
  pub functions : f.functions ≡ functions_of f.defs (kept_tables f.functions)
  pub rules : f.rules ≡ rules_of f.defs 0 (kept_tables f.functions)
