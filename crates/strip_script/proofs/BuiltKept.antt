-- A database stays one that the engine serves when a table of the first form is declared to be kept by sums, at once.
use Rattle.std.proofs.Common.{◌≡◌, ℕ, ◌+◌, ◌<◌, ◌⊎◌, inl, inr, Bool, true, false, ◌==◌, List, [], ◌∷◌, ◌++◌, length, Some, is_none, refl, sym, ap, ap₂, ◌∙◌, subst, arith}
use Rattle.std.specs.List.{AllByRecursion}
use Rattle.std.proofs.lemmas.Bool.Decides.{eqb_tells}
use Rattle.std.proofs.lemmas.List.{get_or-set_other, get_or-set_same, length-map}
use Rattle.strip_value.specs.declared.rules.Function.{Function}
use Rattle.strip_value.specs.declared.rules.Rule.{Rule}
use Rattle.strip_value.specs.declared.tables.By.TheVariants as by
use Rattle.strip_value.specs.declared.tables.TableDef.{TableDef}
use Rattle.strip_value.proofs.Lists.{all_append, all_weaker}
use Rattle.strip_meaning.specs.Contents.{def_at}
use Rattle.strip_meaning.specs.Effect.{no_table}
use Rattle.strip_meaning.specs.Maintained.{keep_function, keep_rule}
use Rattle.strip_setup.specs.Catalog.{Catalog}
use Rattle.strip_setup.specs.Maintain.{query_in, with_kept}
use Rattle.strip_catalog.specs.Accepted.{IsDeclared}
use Rattle.strip_catalog.specs.First.{is_first}
use Rattle.strip_catalog.proofs.KeptAlone.{declared_kept_alone}
use Rattle.strip_catalog.proofs.Sizes.{small}
use Rattle.strip_catalog.proofs.Sound.{tables_sound}
use Rattle.strip_engine.specs.Built.{IsBuilt, IsKept, all_differ, at_once, functions_of, is_among, kept_in, kept_tables, rules_of}
use Rattle.strip_engine.specs.State.{fixed_of}
use Rattle.strip_engine.proofs.KeeperRules.{one_among}
use Rattle.strip_script.proofs.BuiltKeepers.{AllAlike, AreMadeAlike, among_before, among_last, differ_more, functions_alike, functions_more, kept_more, made_alike, rules_alike, rules_more}
use Rattle.strip_script.proofs.BuiltTables.{AskFirst, all_served, kept_first, served_first}

-- that a table is declared to be kept makes no difference to what is made of it
kept_alike : (table : TableDef) → AreMadeAlike table (record table { kept = Some by.Sum; declared = true })
kept_alike table = record { function = λ id. refl; rule = λ function. refl }

-- a table of the first form that no step keeps
pub record IsKeepable (tables : List TableDef) (id : ℕ) : Type 0 where
  pub there : id < length tables
  pub first : is_first (query_in (def_at tables id)) ≡ true
  pub unkept : is_none (def_at tables id).kept ≡ true

module _ (catalog : Catalog) (most id : ℕ) (keepable : IsKeepable catalog.tables id) (built : IsBuilt (fixed_of catalog most)) where
  abbrev kept_so : Catalog
  kept_so = with_kept catalog id by.Sum at_once

  abbrev table : TableDef
  table = def_at catalog.tables id

  abbrev ids : List ℕ
  ids = kept_tables catalog.functions

  -- ---- tables

  table_is : def_at kept_so.tables id ≡ record table { kept = Some by.Sum; declared = true }
  table_is = get_or-set_same catalog.tables id (record table { kept = Some by.Sum; declared = true }) no_table.def keepable.there

  other_is : (other : ℕ) → (other ≡ id → ⊥) → def_at kept_so.tables other ≡ def_at catalog.tables other
  other_is other apart = get_or-set_other catalog.tables id other (record table { kept = Some by.Sum; declared = true }) no_table.def apart

  was_declared : (other : ℕ) → (other ≡ id → ⊥) → (def_at kept_so.tables other).declared ≡ true → (def_at catalog.tables other).declared ≡ true
  was_declared other apart declared = ap (λ (def : TableDef). def.declared) (sym (other_is other apart)) ∙ declared

  declared_now : (def_at kept_so.tables id).declared ≡ true
  declared_now = ap (λ (def : TableDef). def.declared) table_is

  ask_first : AskFirst kept_so.tables
  ask_first other declared = by_number (eqb_tells other id)
    where
      by_number : ((other == id ≡ true) × (other ≡ id)) ⊎ ((other == id ≡ false) × (other ≡ id → ⊥)) → is_first (query_in (def_at kept_so.tables other)) ≡ true
      by_number (inl same) = subst (λ n. is_first (query_in (def_at kept_so.tables n)) ≡ true) (sym same.1) (ap (λ (def : TableDef). is_first (query_in def)) table_is ∙ keepable.first)
      by_number (inr apart) =
          ap (λ (def : TableDef). is_first (query_in def)) (other_is other apart.1) ∙ served_first (fixed_of catalog most) built other (was_declared other apart.1 declared)

  still_declared : (other : ℕ) → (def_at catalog.tables other).declared ≡ true → (def_at kept_so.tables other).declared ≡ true
  still_declared other declared = by_number (eqb_tells other id)
    where
      by_number : ((other == id ≡ true) × (other ≡ id)) ⊎ ((other == id ≡ false) × (other ≡ id → ⊥)) → (def_at kept_so.tables other).declared ≡ true
      by_number (inl same) = subst (λ n. (def_at kept_so.tables n).declared ≡ true) (sym same.1) declared_now
      by_number (inr apart) = ap (λ (def : TableDef). def.declared) (other_is other apart.1) ∙ declared

  -- ---- what keeps them

  kept_are : kept_tables kept_so.functions ≡ ids ++ id ∷ []
  kept_are = kept_more catalog.functions (keep_function table id)

  alike_at : (other : ℕ) → AreMadeAlike (def_at catalog.tables other) (def_at kept_so.tables other)
  alike_at other = by_number (eqb_tells other id)
    where
      by_number : ((other == id ≡ true) × (other ≡ id)) ⊎ ((other == id ≡ false) × (other ≡ id → ⊥)) → AreMadeAlike (def_at catalog.tables other) (def_at kept_so.tables other)
      by_number (inl same) =
          subst (λ n. AreMadeAlike (def_at catalog.tables n) (def_at kept_so.tables n)) (sym same.1)
          (subst (AreMadeAlike table) (sym table_is) (kept_alike table))
      by_number (inr apart) = made_alike (def_at catalog.tables other) (def_at kept_so.tables other) (sym (other_is other apart.1))

  alike : AllAlike catalog.tables kept_so.tables ids
  alike =
      all_weaker (IsKept catalog.tables) (λ other. AreMadeAlike (def_at catalog.tables other) (def_at kept_so.tables other))
      (λ other kept. alike_at other) ids built.kept

  functions_are : kept_so.functions ≡ functions_of kept_so.tables (kept_tables kept_so.functions)
  functions_are =
      ap₂ (λ (fs : List Function) (f : Function). fs ++ f ∷ []) (built.functions ∙ functions_alike catalog.tables kept_so.tables ids alike) ((alike_at id).function id)
      ∙ sym (functions_more kept_so.tables ids id)
      ∙ ap (functions_of kept_so.tables) (sym kept_are)

  rules_are : kept_so.rules ≡ rules_of kept_so.tables 0 (kept_tables kept_so.functions)
  rules_are =
      ap₂ (λ (rs : List Rule) (r : Rule). rs ++ r ∷ []) (built.rules ∙ rules_alike catalog.tables kept_so.tables 0 ids alike)
      (ap (λ n. keep_rule table (query_in table) n at_once) as_many ∙ (alike_at id).rule (0 + length ids))
      ∙ sym (rules_more kept_so.tables 0 ids id)
      ∙ ap (rules_of kept_so.tables 0) (sym kept_are)
    where
      as_many : length catalog.functions ≡ 0 + length ids
      as_many = omega (arith, length-map catalog.functions (λ (f : Function). kept_in f.steps))

  module _ (is : IsDeclared catalog) (still : IsDeclared kept_so) where
    -- a table that is declared to be kept is kept, and this one isn't
    not_among : is_among ids id ≡ false
    not_among = by_test (is_among ids id) refl
      where
        by_test : (b : Bool) → is_among ids id ≡ b → is_among ids id ≡ false
        by_test true e =
            let declared = (one_among (IsKept catalog.tables) ids id built.kept e).declared in
            let kept = declared_kept_alone catalog is id keepable.there declared in
            let none = sym (ap is_none kept.kept) ∙ keepable.unkept in
            cc
        by_test false e = e

    kept_now : (other : ℕ) → (def_at kept_so.tables other).declared ≡ true → IsKept kept_so.tables other
    kept_now other declared = kept_first kept_so.tables (tables_sound kept_so still) ask_first other declared

    all_among : (other : ℕ) → (def_at kept_so.tables other).declared ≡ true → is_among (ids ++ id ∷ []) other ≡ true
    all_among other declared = by_number (eqb_tells other id)
      where
        by_number : ((other == id ≡ true) × (other ≡ id)) ⊎ ((other == id ≡ false) × (other ≡ id → ⊥)) → is_among (ids ++ id ∷ []) other ≡ true
        by_number (inl same) = subst (λ n. is_among (ids ++ id ∷ []) n ≡ true) (sym same.1) (among_last ids id)
        by_number (inr apart) = among_before ids id other (built.all other (was_declared other apart.1 declared))

    pub kept_served : IsBuilt (fixed_of kept_so most)
    kept_served = record {
      few = (small kept_so still).tables;
      each = all_served kept_so.tables (tables_sound kept_so still) ask_first;
      kept =
          subst (AllByRecursion (IsKept kept_so.tables)) (sym kept_are)
          (all_append (IsKept kept_so.tables) ids (id ∷ []) (all_weaker (IsKept catalog.tables) (IsKept kept_so.tables) (λ other kept. kept_now other (still_declared other kept.declared)) ids built.kept)
          (kept_now id declared_now, tt));
      once = ap all_differ kept_are ∙ differ_more ids id built.once not_among;
      all = λ other declared. ap (λ numbers. is_among numbers other) kept_are ∙ all_among other declared;
      functions = functions_are;
      rules = rules_are;
    }
