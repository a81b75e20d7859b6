-- Each table that is declared is a base table or a derived one, as its statement says.
use Rattle.std.proofs.Common.{◌≡◌, ℕ, zero, suc, true, inl, inr, List, [], ◌∷◌, ◌++◌, set, Option, Some, None, is_some, refl, sym, ap, ◌∙◌, subst}
use Rattle.std.specs.List.{AllByRecursion}
use Rattle.strip_value.specs.declared.tables.By.{By}
use Rattle.strip_value.specs.declared.tables.TableDef.{TableDef}
use Rattle.strip_value.proofs.Lists.{all_append, all_weaker}
use Rattle.strip_ast.specs.declared.rules.StepTree.{StepTree}
use Rattle.strip_ast.specs.declared.rules.Manner.{Manner}
use Rattle.strip_ast.specs.declared.statements.Statement.{Statement}
use Rattle.strip_ast.specs.declared.statements.Statement.TheVariants as st
use Rattle.strip_meaning.specs.Contents.{def_at}
use Rattle.strip_setup.specs.Adds.{kept_by_steps, with_statement}
use Rattle.strip_setup.specs.Catalog.{Catalog, is_derived, table_id, table_named}
use Rattle.strip_setup.specs.Maintain.{declared_kept}
use Rattle.strip_setup.specs.Resolve.{derived_of, table_of}
use Rattle.strip_catalog.specs.Accepted.{AreAccepted, IsWritten, declared}
use Rattle.strip_catalog.specs.Laws.{IsTableOf, TablesAreSound}
use Rattle.strip_catalog.specs.Refusals.{refusal}
use Rattle.strip_catalog.proofs.Causes.{maintain_derived}
use Rattle.strip_catalog.proofs.SoundBase.{table_base}
use Rattle.strip_catalog.proofs.SoundDerived.{derive_sound}
use Rattle.strip_catalog.proofs.SoundFound.{named_at}
use Rattle.strip_catalog.proofs.SoundKept.{AreKept, IsKept, all_itself, all_kept, sound_before}

-- the tables are sound
abbrev AreSound : List TableDef → Type 0
AreSound tables = AllByRecursion (IsTableOf tables) tables

one_more : (tables : List TableDef) (table : TableDef) → AreSound tables → IsTableOf tables table → AreSound (tables ++ table ∷ [])
one_more tables table sound here =
    let more = tables ++ table ∷ [] in
    all_append (IsTableOf more) tables (table ∷ []) (all_weaker (IsTableOf tables) (IsTableOf more) (sound_before tables (table ∷ [])) tables sound) (sound_before tables (table ∷ []) table here, tt)

-- ---- tables that are kept

-- steps say which of the tables are kept, and nothing else of them
pub kept_by_function : (tables : List TableDef) (steps : List StepTree) → AreKept tables (kept_by_steps tables steps)
kept_by_function [] steps = tt
kept_by_function (table ∷ tables) steps = (record { is = refl; base = λ e. refl }, kept_by_function tables steps)

-- a derived table is declared to be kept
derived_declared : (table : TableDef) (how : By) → is_some table.query ≡ true → IsKept table (record table { kept = Some how; declared = true })
derived_declared table how derived = record { is = refl; base = λ e. let none = ap is_some e in cc }

kept_by_rule : (tables : List TableDef) (id : ℕ) (how : By) (table : TableDef) → def_at tables id ≡ table → is_some table.query ≡ true → AreKept tables (set tables id (record table { kept = Some how; declared = true }))
kept_by_rule [] id how table is derived = tt
kept_by_rule (first ∷ tables) zero how table is derived =
    (subst (λ t. IsKept t (record table { kept = Some how; declared = true })) (sym is) (derived_declared table how derived), all_itself tables)
kept_by_rule (first ∷ tables) (suc id) how table is derived = (record { is = refl; base = λ e. refl }, kept_by_rule tables id how table is derived)

pub kept_by_maintain : (catalog : Catalog) (name : List ℕ) (how : By) (manner : Manner) → refusal catalog (st.Maintain name how manner) ≡ None → AreKept catalog.tables (declared_kept catalog.tables (table_id catalog.tables name) how)
kept_by_maintain catalog name how manner e = by_table (table_named catalog.tables name) refl
  where
    derived_there : is_derived (table_named catalog.tables name) ≡ true
    derived_there = maintain_derived catalog name how manner e

    by_table : (o : Option TableDef) → table_named catalog.tables name ≡ o → AreKept catalog.tables (declared_kept catalog.tables (table_id catalog.tables name) how)
    by_table None named = let derived = derived_there in let none = ap is_derived named in cc
    by_table (Some table) named =
        let derived = sym (ap is_derived named) ∙ derived_there in
        let at = (named_at catalog.tables name table named).is in
        kept_by_rule catalog.tables (table_id catalog.tables name) how (def_at catalog.tables (table_id catalog.tables name)) refl (ap (λ (t : TableDef). is_some t.query) at ∙ derived)

-- ---- statements

with_sound : (catalog : Catalog) (statement : Statement) → refusal catalog statement ≡ None → IsWritten statement → AreSound catalog.tables → AreSound (with_statement catalog statement).tables
unfolding with_statement
with_sound catalog (st.Table name columns key rows) e written sound = one_more catalog.tables (table_of name columns key rows) sound (inl (table_base catalog name columns key rows e written))
with_sound catalog (st.Stream name table marked) e written sound = sound
with_sound catalog (st.Derive name query) e written sound = one_more catalog.tables (derived_of catalog.tables name query) sound (inr (derive_sound catalog name query e sound))
with_sound catalog (st.Function name steps) e written sound = all_kept catalog.tables (kept_by_steps catalog.tables steps) (kept_by_function catalog.tables steps) sound
with_sound catalog (st.Rule name table events conditions evaluate function manner) e written sound = sound
with_sound catalog (st.Maintain name how manner) e written sound =
    all_kept catalog.tables (declared_kept catalog.tables (table_id catalog.tables name) how) (kept_by_maintain catalog name how manner e) sound
with_sound catalog st.Ready e written sound = sound
with_sound catalog (st.At moment) e written sound = sound
with_sound catalog (st.Deed caller deed) e written sound = sound

all_sound : (statements : List Statement) → AreAccepted statements → AreSound (declared statements).tables
all_sound [] accepted = tt
all_sound (statement ∷ earlier) accepted = with_sound (declared earlier) statement accepted.2 accepted.1 (all_sound earlier accepted.0)

pub tables_sound : TablesAreSound
tables_sound catalog is = subst (λ (c : Catalog). AreSound c.tables) (sym is.is) (all_sound is.statements is.accepted)
