-- The tables of a catalog are ones that the engine serves, where those that are declared to be kept ask queries of the first form.
use Rattle.std.proofs.Common.{◌≡◌, ℕ, zero, suc, ◌<◌, Bool, true, false, ◌&&◌, inl, inr, List, [], ◌∷◌, length, refl, ap, ◌∙◌, arith}
use Rattle.std.specs.List.{AllByRecursion}
use Rattle.std.proofs.lemmas.Bool.{eq-eqb}
use Rattle.strip_value.specs.declared.tables.TableDef.{TableDef}
use Rattle.strip_value.proofs.Lists.{all_at}
use Rattle.strip_meaning.specs.Contents.{def_at}
use Rattle.strip_meaning.specs.Effect.{no_table}
use Rattle.strip_meaning.specs.First.{IsFirst}
use Rattle.strip_model.specs.Derived.{Fixed}
use Rattle.strip_setup.specs.Maintain.{query_in}
use Rattle.strip_catalog.specs.First.{is_first}
use Rattle.strip_catalog.specs.Laws.{IsTableOf as IsSound}
use Rattle.strip_engine.specs.Built.{IsBuilt, IsKept, IsTableOf, kept_tables}
use Rattle.strip_engine.proofs.KeeperRules.{one_among}

-- a table that is declared to be kept asks a query of the first form
abbrev pub AskFirst : List TableDef → Type 0
AskFirst tables = (id : ℕ) → (def_at tables id).declared ≡ true → is_first (query_in (def_at tables id)) ≡ true

-- a table of the first form asks one
asks_first : (tables : List TableDef) (def : TableDef) → IsFirst tables def → is_first (query_in def) ≡ true
asks_first tables def is = ap (λ (of : TableDef). is_first (query_in of)) is.is ∙ ap (λ b. b && true) (eq-eqb is.form.group is.form.group refl)

-- so do those of a database that is served
pub served_first : (f : Fixed) → IsBuilt f → AskFirst f.defs
served_first f built id declared =
    asks_first f.defs (def_at f.defs id) (one_among (IsKept f.defs) (kept_tables f.functions) id built.kept (built.all id declared)).first

-- ---- tables that are sound

-- a number that is declared to be kept is there
pub declared_there : (tables : List TableDef) (id : ℕ) → (def_at tables id).declared ≡ true → id < length tables
declared_there [] id declared = cc
declared_there (def ∷ tables) zero declared = omega arith
declared_there (def ∷ tables) (suc id) declared = let rest = declared_there tables id declared in omega (arith, rest)

served : (tables : List TableDef) (def : TableDef) → IsSound tables def → (def.declared ≡ true → is_first (query_in def) ≡ true) → IsTableOf tables def
served tables def (inl base) first = inl base
served tables def (inr derived) first = by_declared def.declared refl
  where
    by_declared : (b : Bool) → def.declared ≡ b → IsTableOf tables def
    by_declared true declared = inr (inl (derived.first (first declared)))
    by_declared false unkept = inr (inr (record { derived = derived.derived; unkept = unkept }))

each_served : (tables some : List TableDef) → AllByRecursion (IsSound tables) some → AskFirst some → AllByRecursion (IsTableOf tables) some
each_served tables [] sound first = tt
each_served tables (def ∷ some) sound first = (served tables def sound.0 (first 0), each_served tables some sound.1 (λ id. first (suc id)))

pub all_served : (tables : List TableDef) → AllByRecursion (IsSound tables) tables → AskFirst tables → AllByRecursion (IsTableOf tables) tables
all_served tables sound first = each_served tables tables sound first

-- one that is declared to be kept is of the first form
first_of : (tables : List TableDef) (def : TableDef) → IsSound tables def → def.declared ≡ true → is_first (query_in def) ≡ true → IsFirst tables def
first_of tables def (inl base) declared first = let unkept = base.unkept in cc
first_of tables def (inr derived) declared first = derived.first first

pub kept_first : (tables : List TableDef) → AllByRecursion (IsSound tables) tables → AskFirst tables → (id : ℕ) → (def_at tables id).declared ≡ true → IsKept tables id
kept_first tables sound first id declared =
    let there = declared_there tables id declared in
    let here = all_at (IsSound tables) tables id no_table.def sound there in
    record { there = there; first = first_of tables (def_at tables id) here declared (first id declared); declared = declared }
