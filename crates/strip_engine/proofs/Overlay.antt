-- Derived tables beside base tables: what acts do to the base tables doesn't depend on the rows of derived ones.
use Rattle.std.proofs.Common.{◌≡◌, ℕ, zero, suc, ◌+◌, Bool, true, false, cond, List, [], ◌∷◌, ◌++◌, map, set, Option, Some, None, is_some, refl, sym, ap, ◌∙◌, subst, arith}
use Rattle.strip_value.specs.declared.acts.Act.{Act}
use Rattle.strip_value.specs.declared.acts.Act.TheVariants.{Insert, Put, Update, Delete, Select, Show}
use Rattle.strip_value.specs.declared.acts.ActError.{ActError}
use Rattle.strip_value.specs.declared.acts.ActError.TheVariants.{Derived}
use Rattle.strip_value.specs.declared.acts.Holds.{Holds}
use Rattle.strip_value.specs.declared.changes.Change.{Change}
use Rattle.strip_value.specs.declared.queries.Query.{Query}
use Rattle.strip_value.specs.declared.tables.TableDef.{TableDef}
use Rattle.strip_value.specs.declared.values.Value.{Value}
use Rattle.strip_value.specs.Table.{Keyed, key_of, row_at, with_row, full_at}
use Rattle.strip_meaning.specs.Effect.{Effect, Run, effect, unless, refusal, done, run, put_shift, table_at, or_cause, not_held, one_not_held, read_only, derived, misfit, full, tables_asked}
use Rattle.strip_model.specs.Derived.{with_derived}

-- the rows of a derived table, by its number
abbrev pub Rows : Type 0
Rows = ℕ → List (List Value)

abbrev is_kept : Keyed → Bool
is_kept table = is_some table.def.query

-- a table, with these rows if it is derived
abbrev or_derived : Rows → ℕ → Keyed → Keyed
or_derived rows id table = cond (is_kept table) (record table { rows = rows id }) table

-- the rows of each number decide
pub derived_same : (r s : Rows) → ((id : ℕ) → r id ≡ s id) → (n : ℕ) (ts : List Keyed) → with_derived n r ts ≡ with_derived n s ts
derived_same r s e n [] = refl
derived_same r s e n (t ∷ ts) =
    ap (λ x. cond (is_kept t) (record t { rows = x }) t ∷ with_derived (n + 1) r ts) (e n)
    ∙ ap (λ more. or_derived s n t ∷ more) (derived_same r s e (n + 1) ts)

-- definitions stay
same_def : (b : Bool) (r : Rows) (id : ℕ) (t : Keyed) → (cond b (record t { rows = r id }) t).def ≡ t.def
same_def true r id t = refl
same_def false r id t = refl

pub derived_defs : (r : Rows) (n : ℕ) (ts : List Keyed) → map (λ (t : Keyed). t.def) (with_derived n r ts) ≡ map (λ (t : Keyed). t.def) ts
derived_defs r n [] = refl
derived_defs r n (t ∷ ts) =
    ap (λ d. d ∷ map (λ (u : Keyed). u.def) (with_derived (n + 1) r ts)) (same_def (is_kept t) r n t)
    ∙ ap (λ more. t.def ∷ more) (derived_defs r (n + 1) ts)

-- the table of a number
pub derived_at : (r : Rows) (n : ℕ) (ts : List Keyed) (id : ℕ) → table_at (with_derived n r ts) id ≡ or_derived r (n + id) (table_at ts id)
derived_at r n [] id = refl
derived_at r n (t ∷ ts) zero = ap (λ m. or_derived r m t) (let same : n ≡ n + 0 = omega arith in same)
derived_at r n (t ∷ ts) (suc id) =
    derived_at r (n + 1) ts id
    ∙ ap (λ m. or_derived r m (table_at ts id)) (let same : (n + 1) + id ≡ n + suc id = omega arith in same)

-- a base table among them is changed as it is without the derived ones
base_stays : (b : Bool) (r : Rows) (n : ℕ) (t : Keyed) → b ≡ false → cond b (record t { rows = r n }) t ≡ t
base_stays true r n t e = cc
base_stays false r n t e = refl

derived_set : (r : Rows) (n : ℕ) (ts : List Keyed) (id : ℕ) (t : Keyed) → is_kept t ≡ false → with_derived n r (set ts id t) ≡ set (with_derived n r ts) id t
derived_set r n [] id t e = refl
derived_set r n (u ∷ ts) zero t e = ap (λ x. x ∷ with_derived (n + 1) r ts) (base_stays (is_kept t) r n t e)
derived_set r n (u ∷ ts) (suc id) t e = ap (λ more. or_derived r n u ∷ more) (derived_set r (n + 1) ts id t e)

-- a derived table refuses each row, whatever rows it has
refused_derived : (a b : Option ActError) (q : Option Query) (m e g : Option ActError) (id : ℕ) → is_some q ≡ true
    → or_cause a (or_cause b (or_cause (cond (is_some q) (Some (Derived id)) None) (or_cause m e))) ≡ or_cause a (or_cause b (or_cause (cond (is_some q) (Some (Derived id)) None) (or_cause m g)))
refused_derived (Some x) b q m e g id kept = refl
refused_derived None (Some x) q m e g id kept = refl
refused_derived None None (Some x) m e g id kept = refl
refused_derived None None None m e g id kept = cc

some_cause : (a b : Option ActError) (q : Option Query) (c : Option ActError) (id : ℕ) → is_some q ≡ true
    → is_some (or_cause a (or_cause b (or_cause (cond (is_some q) (Some (Derived id)) None) c))) ≡ true
some_cause (Some x) b q c id kept = refl
some_cause None (Some x) q c id kept = refl
some_cause None None (Some x) c id kept = refl
some_cause None None None c id kept = cc

module _ (holds : Holds) (r : Rows) (base : List Keyed) where
  abbrev all : List Keyed
  all = with_derived 0 r base

  -- a base table is the same in both
  same_table : (id : ℕ) → is_kept (table_at base id) ≡ false → table_at all id ≡ table_at base id
  same_table id e = derived_at r 0 base id ∙ base_stays (is_kept (table_at base id)) r (0 + id) (table_at base id) e

  same_definition : (id : ℕ) → (table_at all id).def ≡ (table_at base id).def
  same_definition id = ap (λ (t : Keyed). t.def) (derived_at r 0 base id) ∙ same_def (is_kept (table_at base id)) r (0 + id) (table_at base id)

  abbrev causes : ℕ → List Value → TableDef → Option ActError → Option ActError
  causes id row def last = or_cause (not_held holds id) (or_cause (read_only holds id) (or_cause (derived def id) (or_cause (misfit def.columns row) last)))

  -- a put is refused in both for the same cause
  same_refusal : (b : Bool) (id : ℕ) (row : List Value) → is_kept (table_at base id) ≡ b → refusal holds all (Put id row) ≡ refusal holds base (Put id row)
  same_refusal false id row e =
      ap (λ (t : Keyed). causes id row t.def (full id (full_at t row))) (same_table id e)
  same_refusal true id row e =
      ap (λ (def : TableDef). causes id row def (full id (full_at (table_at all id) row))) (same_definition id)
      ∙ refused_derived (not_held holds id) (read_only holds id) (table_at base id).def.query (misfit (table_at base id).def.columns row) (full id (full_at (table_at all id) row)) (full id (full_at (table_at base id) row)) id e

  -- what an act changes, in both
  pub record Same (with_rows_of : Effect) (without_rows : Effect) : Type 0 where
    pub tables : with_rows_of.tables ≡ with_derived 0 r without_rows.tables
    pub changes : with_rows_of.changes ≡ without_rows.changes

  put_done : (id : ℕ) (row : List Value) → is_kept (table_at base id) ≡ false → Same (done all (Put id row)) (done base (Put id row))
  put_done id row e =
      let here = same_table id e in
      let key : List ℕ = (table_at base id).def.key in
      let rows = with_row key (table_at base id).rows row in
      record {
        tables =
            ap (λ (t : Keyed). set all id (record t { rows = with_row t.def.key t.rows row })) here
            ∙ sym (derived_set r 0 base id (record (table_at base id) { rows = rows }) e);
        changes = ap (λ (t : Keyed). record { table = id; shift = put_shift (row_at t.def.key t.rows (key_of t.def.key row)) row } ∷ []) here;
      }

  unless_same : (cause : Option ActError) (a b : Effect) → (is_some cause ≡ false → Same a b) → Same (unless cause all a) (unless cause base b)
  unless_same None a b same = same refl
  unless_same (Some cause) a b same = record { tables = refl; changes = refl }

  put_same : (b : Bool) (id : ℕ) (row : List Value) → is_kept (table_at base id) ≡ b → Same (unless (refusal holds base (Put id row)) all (done all (Put id row))) (unless (refusal holds base (Put id row)) base (done base (Put id row)))
  put_same false id row e = unless_same (refusal holds base (Put id row)) (done all (Put id row)) (done base (Put id row)) (λ none. put_done id row e)
  put_same true id row e =
      let some = some_cause (not_held holds id) (read_only holds id) (table_at base id).def.query (or_cause (misfit (table_at base id).def.columns row) (full id (full_at (table_at base id) row))) id e in
      unless_same (refusal holds base (Put id row)) (done all (Put id row)) (done base (Put id row)) (λ none. cc)

  pub same_effect : (act : Act) → Same (effect holds all act) (effect holds base act)
  unfolding effect
  same_effect (Put id row) =
      subst (λ cause. Same (unless cause all (done all (Put id row))) (unless (refusal holds base (Put id row)) base (done base (Put id row)))) (sym (same_refusal (is_kept (table_at base id)) id row refl)) (put_same (is_kept (table_at base id)) id row refl)
  same_effect (Show id) = unless_same (not_held holds id) (done all (Show id)) (done base (Show id)) (λ none. record { tables = refl; changes = refl })
  same_effect (Insert id rows) = record { tables = refl; changes = refl }
  same_effect (Update id sets filter) = record { tables = refl; changes = refl }
  same_effect (Delete id filter) = record { tables = refl; changes = refl }
  same_effect (Select query) =
      unless_same (one_not_held holds (tables_asked query.entries)) (done all (Select query)) (done base (Select query)) (λ none. record { tables = refl; changes = refl })

-- what acts change, one after another, in both
pub record SameRun (r : Rows) (all : Run) (base : Run) : Type 0 where
  pub tables : all.tables ≡ with_derived 0 r base.tables
  pub changes : all.changes ≡ base.changes

pub same_run : (holds : Holds) (r : Rows) (base : List Keyed) (acts : List Act) → SameRun r (run holds (with_derived 0 r base) acts) (run holds base acts)
same_run holds r base [] = record { tables = refl; changes = refl }
same_run holds r base (act ∷ acts) =
    let before = same_run holds r base acts in
    let last = same_effect holds r (run holds base acts).tables act in
    record {
      tables = ap (λ ts. (effect holds ts act).tables) before.tables ∙ last.tables;
      changes =
          ap (λ (cs : List Change). cs ++ (effect holds (run holds (with_derived 0 r base) acts).tables act).changes) before.changes
          ∙ ap (λ ts. (run holds base acts).changes ++ (effect holds ts act).changes) before.tables
          ∙ ap (λ cs. (run holds base acts).changes ++ cs) last.changes;
    }
