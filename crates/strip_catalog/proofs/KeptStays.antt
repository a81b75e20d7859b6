-- Functions keep tables that are kept, and a declared table is kept alone: this stays so by each change of a catalog.
use Rattle.std.proofs.Common.{◌≡◌, ℕ, zero, suc, ◌<◌, ◌⊎◌, inl, inr, Bool, true, false, ◌||◌, ◌==◌, List, [], ◌∷◌, ◌++◌, length, set, slice_get, Option, Some, is_some, refl, sym, ap, ◌∙◌, subst, arith}
use Rattle.std.specs.List.{list_any}
use Rattle.std.specs.Option.{option_map_or}
use Rattle.std.proofs.lemmas.Bool.{eq-eqb, eqb-true}
use Rattle.std.proofs.lemmas.List.{length-set}
use Rattle.std.proofs.lemmas.Option.{slice_get_within}
use Rattle.strip_value.specs.declared.rules.BoundDef.{BoundDef}
use Rattle.strip_value.specs.declared.rules.Function.{Function}
use Rattle.strip_value.specs.declared.rules.Rule.{Rule}
use Rattle.strip_value.specs.declared.rules.Step.{Step}
use Rattle.strip_value.specs.declared.tables.By.{By}
use Rattle.strip_value.specs.declared.tables.By.TheVariants as by
use Rattle.strip_value.specs.declared.tables.TableDef.{TableDef}
use Rattle.strip_meaning.specs.Contents.{def_at}
use Rattle.strip_names.specs.Exists.{is_made, kept_number}
use Rattle.strip_names.proofs.Steps.{list_any-filter_map}
use Rattle.strip_setup.specs.Catalog.{Catalog}
use Rattle.strip_setup.specs.Maintain.{made_function, made_rule}
use Rattle.strip_catalog.specs.Laws.{IsKeptAlone, keeps_table}
use Rattle.strip_catalog.proofs.AtNumbers.{get_before, get_one_more, get_set, get_set_other}
use Rattle.strip_catalog.proofs.Named.{at_id}
use Rattle.strip_catalog.proofs.SoundKept.{def_before}

-- ---- what is made of a table

pub not_both : (b : Bool) → b ≡ true → b ≡ false → ⊥
not_both true e other = cc
not_both false e other = cc

-- the made function keeps the table, and no other
pub made_keeps : (how : By) (table : TableDef) (id : ℕ) → keeps_table (made_function how table id) id ≡ true
made_keeps by.Sum table id = ap (λ b. b || false) (eq-eqb id id refl)
made_keeps by.Key table id = ap (λ b. b || false) (eq-eqb id id refl)

alone_true : (b : Bool) → (b || false) ≡ true → b ≡ true
alone_true true e = refl
alone_true false e = cc

pub made_keeps_alone : (how : By) (table : TableDef) (id other : ℕ) → keeps_table (made_function how table id) other ≡ true → id ≡ other
made_keeps_alone by.Sum table id other e = eqb-true id other (alone_true (id == other) e)
made_keeps_alone by.Key table id other e = eqb-true id other (alone_true (id == other) e)

-- a function with a step on a declared table was made
module _ (tables : List TableDef) (id : ℕ) (there : slice_get tables id ≡ Some (def_at tables id)) (declared : (def_at tables id).declared ≡ true) where
  step_declares : (steps : List Step) → list_any (λ s. kept_number s == id) steps ≡ true → list_any (λ s. option_map_or (λ (table : TableDef). table.declared) (slice_get tables (kept_number s)) false) steps ≡ true
  step_declares [] e = cc
  step_declares (s ∷ steps) e = by_test (kept_number s == id) refl e (step_declares steps)
    where
      either : (b : Bool) → b ≡ true → (a : Bool) → (a || b) ≡ true
      either b is true = refl
      either b is false = is

      by_test : (b : Bool) → (kept_number s == id) ≡ b → (b || list_any (λ x. kept_number x == id) steps) ≡ true
          → (list_any (λ x. kept_number x == id) steps ≡ true → list_any (λ x. option_map_or (λ (table : TableDef). table.declared) (slice_get tables (kept_number x)) false) steps ≡ true)
          → (option_map_or (λ (table : TableDef). table.declared) (slice_get tables (kept_number s)) false || list_any (λ x. option_map_or (λ (table : TableDef). table.declared) (slice_get tables (kept_number x)) false) steps) ≡ true
      by_test true is found rest =
          let number = eqb-true (kept_number s) id is in
          let table : slice_get tables (kept_number s) ≡ Some (def_at tables id) = ap (slice_get tables) number ∙ there in
          let here : option_map_or (λ (t : TableDef). t.declared) (slice_get tables (kept_number s)) false ≡ true = ap (λ (o : Option TableDef). option_map_or (λ (t : TableDef). t.declared) o false) table ∙ declared in
          ap (λ b. b || list_any (λ x. option_map_or (λ (t : TableDef). t.declared) (slice_get tables (kept_number x)) false) steps) here
      by_test false is found rest = either (list_any (λ x. option_map_or (λ (table : TableDef). table.declared) (slice_get tables (kept_number x)) false) steps) (rest found) (option_map_or (λ (table : TableDef). table.declared) (slice_get tables (kept_number s)) false)

  pub made_with : (f : Function) → keeps_table f id ≡ true → is_made tables f ≡ true
  made_with f keeps = list_any-filter_map (λ s. slice_get tables (kept_number s)) (λ (table : TableDef). table.declared) f.steps ∙ step_declares f.steps keeps

-- ---- the invariant

-- a table with a step of some function is kept, rules execute functions that are there, and declared tables are kept alone
pub record Keeps (catalog : Catalog) : Type 0 where
  pub steps : (n : ℕ) (f : Function) (id : ℕ) → slice_get catalog.functions n ≡ Some f → keeps_table f id ≡ true → is_some (def_at catalog.tables id).kept ≡ true
  pub rules : (n : ℕ) (r : Rule) → slice_get catalog.rules n ≡ Some r → r.function < length catalog.functions
  pub alone : (id : ℕ) → id < length catalog.tables → (def_at catalog.tables id).declared ≡ true → IsKeptAlone catalog id

-- what keeps a table stays, and nothing further keeps it
pub record Stays (one other : Catalog) (id : ℕ) : Type 0 where
  pub table : def_at other.tables id ≡ def_at one.tables id
  pub function : (n : ℕ) (f : Function) → slice_get one.functions n ≡ Some f → keeps_table f id ≡ true → slice_get other.functions n ≡ Some f
  pub function_before : (n : ℕ) (f : Function) → slice_get other.functions n ≡ Some f → keeps_table f id ≡ true → (g : Function) × (slice_get one.functions n ≡ Some g) × (keeps_table g id ≡ true)
  pub rule : (n : ℕ) (r : Rule) → slice_get one.rules n ≡ Some r → slice_get other.rules n ≡ Some r
  pub rule_before : (n : ℕ) (r : Rule) (f : Function) → slice_get other.rules n ≡ Some r → slice_get one.functions r.function ≡ Some f → keeps_table f id ≡ true → slice_get one.rules n ≡ Some r

pub alone_stays : (one other : Catalog) (id : ℕ) → Stays one other id → IsKeptAlone one id → IsKeptAlone other id
alone_stays one other id stays alone =
    let made = made_function alone.how (def_at one.tables id) id in
    let keeps = made_keeps alone.how (def_at one.tables id) id in
    record {
      how = alone.how;
      manner = alone.manner;
      function = alone.function;
      rule = alone.rule;
      kept = ap (λ (table : TableDef). table.kept) stays.table ∙ alone.kept;
      is_function = stays.function alone.function made alone.is_function keeps ∙ ap (λ (table : TableDef). Some (made_function alone.how table id)) (sym stays.table);
      is_rule =
          stays.rule alone.rule (made_rule alone.how (def_at one.tables id) alone.function alone.manner) alone.is_rule
          ∙ ap (λ (table : TableDef). Some (made_rule alone.how table alone.function alone.manner)) (sym stays.table);
      no_other_function = λ n f at there. let before = stays.function_before n f at there in alone.no_other_function n before.0 before.1 before.2;
      no_other_rule = λ n r at is. alone.no_other_rule n r (stays.rule_before n r made at (subst (λ k. slice_get one.functions k ≡ Some made) (sym is) alone.is_function) keeps) is;
    }

-- ---- the catalog is another in no table, function or rule

pub unchanged : (one other : Catalog) → other.tables ≡ one.tables → other.functions ≡ one.functions → other.rules ≡ one.rules → Keeps one → Keeps other
unchanged one other tables functions rules keeps =
    record {
      steps = λ n f id at there. ap (λ (ts : List TableDef). is_some (def_at ts id).kept) tables ∙ keeps.steps n f id (ap (λ (fs : List Function). slice_get fs n) (sym functions) ∙ at) there;
      rules = λ n r at. subst (λ (fs : List Function). r.function < length fs) (sym functions) (keeps.rules n r (ap (λ (rs : List Rule). slice_get rs n) (sym rules) ∙ at));
      alone = λ id lt declared. alone_stays one other id (stays id) (keeps.alone id (subst (λ (ts : List TableDef). id < length ts) tables lt) (ap (λ (ts : List TableDef). (def_at ts id).declared) (sym tables) ∙ declared));
    }
  where
    stays : (id : ℕ) → Stays one other id
    stays id = record {
      table = ap (λ (ts : List TableDef). def_at ts id) tables;
      function = λ n f at there. ap (λ (fs : List Function). slice_get fs n) functions ∙ at;
      function_before = λ n f at there. (f, ap (λ (fs : List Function). slice_get fs n) (sym functions) ∙ at, there);
      rule = λ n r at. ap (λ (rs : List Rule). slice_get rs n) rules ∙ at;
      rule_before = λ n r f at executed there. ap (λ (rs : List Rule). slice_get rs n) (sym rules) ∙ at;
    }

-- ---- one more table

kept_before : (tables : List TableDef) (t : TableDef) (id : ℕ) → is_some (def_at tables id).kept ≡ true → is_some (def_at (tables ++ t ∷ []) id).kept ≡ true
kept_before [] t id e = cc
kept_before (one ∷ tables) t zero e = e
kept_before (one ∷ tables) t (suc id) e = kept_before tables t id e

declared_before : (tables : List TableDef) (t : TableDef) (id : ℕ) → t.declared ≡ false → (def_at (tables ++ t ∷ []) id).declared ≡ true → id < length tables
declared_before [] t zero not_it e = cc
declared_before [] t (suc id) not_it e = cc
declared_before (one ∷ tables) t zero not_it e = omega arith
declared_before (one ∷ tables) t (suc id) not_it e = let rest = declared_before tables t id not_it e in omega (arith, rest)

module _ (catalog : Catalog) (t : TableDef) (not_it : t.declared ≡ false) (keeps : Keeps catalog) where
  abbrev longer : Catalog
  longer = record catalog { tables = catalog.tables ++ t ∷ [] }

  alone_before : (id : ℕ) → id < length catalog.tables → (def_at longer.tables id).declared ≡ true → IsKeptAlone longer id
  alone_before id lt declared =
      let table : def_at longer.tables id ≡ def_at catalog.tables id = def_before catalog.tables (t ∷ []) id lt in
      let stays : Stays catalog longer id = record { table = table; function = λ n f at there. at; function_before = λ n f at there. (f, at, there); rule = λ n r at. at; rule_before = λ n r f at executed there. at } in
      alone_stays catalog longer id stays (keeps.alone id lt (ap (λ (one : TableDef). one.declared) (sym table) ∙ declared))

  pub with_table : Keeps longer
  with_table = record {
    steps = λ n f id at there. kept_before catalog.tables t id (keeps.steps n f id at there);
    rules = keeps.rules;
    alone = λ id lt declared. alone_before id (declared_before catalog.tables t id not_it declared) declared;
  }

-- ---- one more rule, whose function has other bound tables

same_some : (f g : Function) → Some f ≡ Some g → f ≡ g
same_some f g e = cc

module _ (catalog : Catalog) (k : ℕ) (g : Function) (bound : List BoundDef) (r : Rule) (known : slice_get catalog.functions k ≡ Some g) (executes : r.function ≡ k) (unmade : is_made catalog.tables g ≡ false) (keeps : Keeps catalog) where
  abbrev bound_so : Function
  bound_so = record g { bound = bound }

  abbrev ruled : Catalog
  ruled = record catalog { functions = set catalog.functions k bound_so; rules = catalog.rules ++ r ∷ [] }

  -- the function keeps no declared table
  not_made : (id : ℕ) (f : Function) → id < length catalog.tables → (def_at catalog.tables id).declared ≡ true → slice_get catalog.functions k ≡ Some f → keeps_table f id ≡ true → ⊥
  not_made id f lt declared at there =
      let same : f ≡ g = same_some f g (sym at ∙ known) in
      not_both (is_made catalog.tables g) (made_with catalog.tables id (at_id catalog.tables id lt) declared g (subst (λ (h : Function). keeps_table h id ≡ true) same there)) unmade

  stays_ruled : (id : ℕ) → id < length catalog.tables → (def_at catalog.tables id).declared ≡ true → Stays catalog ruled id
  stays_ruled id lt declared = record {
    table = refl;
    function = λ n f at there. get_set_other catalog.functions k bound_so n f at (λ is. not_made id f lt declared (subst (λ m. slice_get catalog.functions m ≡ Some f) is at) there);
    function_before = λ n f at there. by_set n f there (get_set catalog.functions k bound_so n f at);
    rule = λ n one at. get_before catalog.rules (r ∷ []) n one at;
    rule_before = λ n one f at executed there. by_more n one f executed there (get_one_more catalog.rules r n one at);
  }
    where
      by_set : (n : ℕ) (f : Function) → keeps_table f id ≡ true → (slice_get catalog.functions n ≡ Some f) ⊎ ((n ≡ k) × (f ≡ bound_so)) → (h : Function) × (slice_get catalog.functions n ≡ Some h) × (keeps_table h id ≡ true)
      by_set n f there (inl at) = (f, at, there)
      by_set n f there (inr is) = (g, ap (slice_get catalog.functions) is.0 ∙ known, subst (λ (h : Function). keeps_table h id ≡ true) is.1 there)

      by_more : (n : ℕ) (one : Rule) (f : Function) → slice_get catalog.functions one.function ≡ Some f → keeps_table f id ≡ true → (slice_get catalog.rules n ≡ Some one) ⊎ ((n ≡ length catalog.rules) × (one ≡ r)) → slice_get catalog.rules n ≡ Some one
      by_more n one f executed there (inl at) = at
      by_more n one f executed there (inr last) =
          let number : one.function ≡ k = ap (λ (of : Rule). of.function) last.1 ∙ executes in
          absurd (not_made id f lt declared (subst (λ m. slice_get catalog.functions m ≡ Some f) number executed) there)

  pub with_rule : Keeps ruled
  with_rule = record {
    steps = λ n f id at there. by_set n f id there (get_set catalog.functions k bound_so n f at);
    rules = λ n one at. subst (λ len. one.function < len) (sym (length-set catalog.functions k bound_so)) (by_more n one (get_one_more catalog.rules r n one at));
    alone = λ id lt declared. alone_stays catalog ruled id (stays_ruled id lt declared) (keeps.alone id lt declared);
  }
    where
      by_set : (n : ℕ) (f : Function) (id : ℕ) → keeps_table f id ≡ true → (slice_get catalog.functions n ≡ Some f) ⊎ ((n ≡ k) × (f ≡ bound_so)) → is_some (def_at catalog.tables id).kept ≡ true
      by_set n f id there (inl at) = keeps.steps n f id at there
      by_set n f id there (inr is) = keeps.steps k g id known (subst (λ (h : Function). keeps_table h id ≡ true) is.1 there)

      by_more : (n : ℕ) (one : Rule) → (slice_get catalog.rules n ≡ Some one) ⊎ ((n ≡ length catalog.rules) × (one ≡ r)) → one.function < length catalog.functions
      by_more n one (inl at) = keeps.rules n one at
      by_more n one (inr last) = subst (λ m. m < length catalog.functions) (sym (ap (λ (of : Rule). of.function) last.1 ∙ executes)) (slice_get_within catalog.functions k g known)
