-- What contracts see of an engine: its catalog and its limits, which never change, and its history, oldest entry first. All
-- else that it keeps follows from these.
use Rattle.std.specs.Prelude.{ℕ, List, [], ◌∷◌, ◌++◌, reverse, Option, Some, None, refl}
use Rattle.std.specs.Coded.{Coded, code_by, coded×, coded_ℕ, coded_list}
use Rattle.strip_model.specs.contracts.entries.Entry as entry
use Rattle.strip_model.specs.declared.entries.Entry.{Entry}
use Rattle.strip_model.specs.Derived.{Fixed}
use Rattle.strip_setup.specs.Catalog.{Catalog}
use Rattle.strip_setup.specs.Codes.{catalog_code}

pub record State : Type 0 where
  pub catalog : Catalog
  pub bound_rows : ℕ
  pub history : List Entry

abbrev pub state_code : Coded State
state_code =
    code_by (Catalog × (ℕ × List Entry)) (coded× catalog_code (coded× coded_ℕ (coded_list entry.the_row.coded))) (λ s. (s.catalog, (s.bound_rows, s.history))) (λ p. record { catalog = p.0; bound_rows = p.1.0; history = p.1.1 }) (λ _. refl)

-- what never changes: the tables, rules and functions of the catalog, and the limit
abbrev pub fixed_of : Catalog → ℕ → Fixed
fixed_of catalog most = record { defs = catalog.tables; rules = catalog.rules; functions = catalog.functions; most = most }

abbrev pub fixed : State → Fixed
fixed s = fixed_of s.catalog s.bound_rows

-- the history, newest entry first
abbrev pub past : State → List Entry
past s = reverse s.history

-- the state with one entry more, if there is one
abbrev pub with_entry : State → Option Entry → State
with_entry s None = s
with_entry s (Some e) = record s { history = s.history ++ e ∷ [] }
