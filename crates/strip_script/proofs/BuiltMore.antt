-- A database stays one that the engine serves when a table is declared that isn't declared to be kept.
use Rattle.std.proofs.Common.{◌≡◌, ℕ, zero, suc, true, false, List, [], ◌∷◌, ◌++◌, refl, sym, ap, ◌∙◌}
use Rattle.strip_value.specs.declared.tables.TableDef.{TableDef}
use Rattle.strip_value.proofs.Lists.{all_weaker}
use Rattle.strip_meaning.specs.Contents.{def_at}
use Rattle.strip_setup.specs.Catalog.{Catalog}
use Rattle.strip_setup.specs.Maintain.{query_in}
use Rattle.strip_catalog.specs.Accepted.{IsDeclared}
use Rattle.strip_catalog.specs.First.{is_first}
use Rattle.strip_catalog.proofs.Sizes.{small}
use Rattle.strip_catalog.proofs.Sound.{tables_sound}
use Rattle.strip_catalog.proofs.SoundKept.{def_before}
use Rattle.strip_engine.specs.Built.{IsBuilt, IsKept, kept_tables}
use Rattle.strip_engine.specs.State.{fixed_of}
use Rattle.strip_script.proofs.BuiltKeepers.{AllAlike, AreMadeAlike, functions_alike, made_alike, rules_alike}
use Rattle.strip_script.proofs.BuiltTables.{AskFirst, all_served, kept_first, served_first}

-- one that is declared to be kept stood before
declared_before : (tables : List TableDef) (table : TableDef) (id : ℕ) → table.declared ≡ false → (def_at (tables ++ table ∷ []) id).declared ≡ true → def_at (tables ++ table ∷ []) id ≡ def_at tables id
declared_before [] table zero undeclared declared = cc
declared_before [] table (suc id) undeclared declared = refl
declared_before (one ∷ tables) table zero undeclared declared = refl
declared_before (one ∷ tables) table (suc id) undeclared declared = declared_before tables table id undeclared declared

module _ (catalog : Catalog) (most : ℕ) (table : TableDef) (undeclared : table.declared ≡ false) (built : IsBuilt (fixed_of catalog most)) where
  abbrev longer : Catalog
  longer = record catalog { tables = catalog.tables ++ table ∷ [] }

  abbrev ids : List ℕ
  ids = kept_tables catalog.functions

  same_def : (id : ℕ) → (def_at longer.tables id).declared ≡ true → def_at longer.tables id ≡ def_at catalog.tables id
  same_def id declared = declared_before catalog.tables table id undeclared declared

  was_declared : (id : ℕ) → (def_at longer.tables id).declared ≡ true → (def_at catalog.tables id).declared ≡ true
  was_declared id declared = ap (λ (def : TableDef). def.declared) (sym (same_def id declared)) ∙ declared

  ask_first : AskFirst longer.tables
  ask_first id declared = ap (λ (def : TableDef). is_first (query_in def)) (same_def id declared) ∙ served_first (fixed_of catalog most) built id (was_declared id declared)

  alike : AllAlike catalog.tables longer.tables ids
  alike =
      all_weaker (IsKept catalog.tables) (λ id. AreMadeAlike (def_at catalog.tables id) (def_at longer.tables id))
      (λ id is. made_alike (def_at catalog.tables id) (def_at longer.tables id) (sym (def_before catalog.tables (table ∷ []) id is.there))) ids built.kept

  module _ (is : IsDeclared longer) where
    kept_still : (id : ℕ) → IsKept catalog.tables id → IsKept longer.tables id
    kept_still id kept =
        kept_first longer.tables (tables_sound longer is) ask_first id (ap (λ (def : TableDef). def.declared) (def_before catalog.tables (table ∷ []) id kept.there) ∙ kept.declared)

    pub more_served : IsBuilt (fixed_of longer most)
    more_served = record {
      few = (small longer is).tables;
      each = all_served longer.tables (tables_sound longer is) ask_first;
      kept = all_weaker (IsKept catalog.tables) (IsKept longer.tables) kept_still ids built.kept;
      once = built.once;
      all = λ id declared. built.all id (was_declared id declared);
      functions = built.functions ∙ functions_alike catalog.tables longer.tables ids alike;
      rules = built.rules ∙ rules_alike catalog.tables longer.tables 0 ids alike;
    }
