-- A function that isn't refused keeps derived tables, and none that is declared to be kept.
use Rattle.std.proofs.Common.{◌≡◌, ℕ, zero, suc, ◌+◌, ◌<◌, ◌⊎◌, inl, inr, Bool, true, false, ◌&&◌, ◌||◌, ◌==◌, not, cond, List, [], ◌∷◌, ◌++◌, length, map, filter, find, slice_get, Option, Some, None, option_map, is_some, bytes_eq, refl, sym, ap, ◌∙◌, subst, arith, length-append}
use Rattle.std.specs.List.{AllByRecursion, flat_map, list_any, scan}
use Rattle.std.specs.Option.{option_map_or, option_or}
use Rattle.std.proofs.Math.Bool.{or-true}
use Rattle.std.proofs.lemmas.Bool.{eqb-true}
use Rattle.std.proofs.lemmas.Slice.Eq.{bytes_eq-Decides}
use Rattle.strip_value.specs.declared.rules.Function.{Function}
use Rattle.strip_value.specs.declared.tables.By.{By}
use Rattle.strip_value.specs.declared.tables.TableDef.{TableDef}
use Rattle.strip_ast.specs.declared.rules.StepTree.{StepTree}
use Rattle.strip_ast.specs.declared.rules.StepTree.TheVariants as step_tree
use Rattle.strip_meaning.specs.Contents.{def_at}
use Rattle.strip_names.specs.Exists.{bars, is_kept_otherwise, keeps_otherwise, kept_number, same_by, taken_by_steps}
use Rattle.strip_names.specs.Unknown.{unknown_derived}
use Rattle.strip_setup.specs.Adds.{kept_by_steps}
use Rattle.strip_setup.specs.Catalog.{Catalog, each_once, is_derived, name_if, table_id, table_named}
use Rattle.strip_setup.specs.Resolve.{bound_name, function_of, kept_name, kind_of_step, step_of}
use Rattle.strip_catalog.specs.Laws.{IsKeptAlone, NamesItsNumbers, keeps_table}
use Rattle.strip_catalog.proofs.AtNumbers.{get_before, get_one_more, some_found}
use Rattle.strip_catalog.proofs.Causes.{both_empty}
use Rattle.strip_catalog.proofs.KeptStays.{Keeps, Stays, alone_stays, not_both}
use Rattle.strip_catalog.proofs.Named.{def_named, own_name}
use Rattle.strip_catalog.proofs.SoundFound.{named_at}

-- ---- steps that are not refused

-- the step's table is derived and doesn't bar the step
pub record IsFree (tables : List TableDef) (s : StepTree) : Type 0 where
  pub derived : is_derived (table_named tables (kept_name s)) ≡ true
  pub free : bars (kind_of_step s) (table_named tables (kept_name s)) ≡ false

abbrev IsOfDerived : List TableDef → StepTree → Type 0
IsOfDerived tables s = is_derived (table_named tables (kept_name s)) ≡ true

not_missing : (b : Bool) (name : List ℕ) → name_if (not b) name ≡ [] → b ≡ true
not_missing true name e = refl
not_missing false name e = cc

all_derived : (tables : List TableDef) (steps : List StepTree) → flat_map (λ s. unknown_derived tables (kept_name s)) steps ≡ [] → AllByRecursion (IsOfDerived tables) steps
all_derived tables [] e = tt
all_derived tables (s ∷ steps) e =
    let both = both_empty (unknown_derived tables (kept_name s)) (flat_map (λ x. unknown_derived tables (kept_name x)) steps) e in
    (not_missing (is_derived (table_named tables (kept_name s))) (kept_name s) both.0, all_derived tables steps both.1)

not_first : (b : Bool) (x : StepTree × List StepTree) (xs : List (StepTree × List StepTree)) → map (λ (s : StepTree × List StepTree). kept_name s.0) (cond b (x ∷ xs) xs) ≡ [] → (b ≡ false) × (map (λ (s : StepTree × List StepTree). kept_name s.0) xs ≡ [])
not_first true x xs e = cc
not_first false x xs e = (refl, e)

unbarred : (a b c : Bool) → (a && (b || c)) ≡ false → a ≡ true → b ≡ false
unbarred true true c e is = cc
unbarred true false c e is = refl
unbarred false b c e is = cc

abbrev otherwise_from : List TableDef → List StepTree → List StepTree → List (StepTree × List StepTree)
otherwise_from tables earlier steps = filter (is_kept_otherwise tables) (scan (λ before x. x ∷ before) (λ before x. (x, before)) earlier steps)

all_free : (tables : List TableDef) (earlier steps : List StepTree) → map (λ (s : StepTree × List StepTree). kept_name s.0) (otherwise_from tables earlier steps) ≡ [] → AllByRecursion (IsOfDerived tables) steps → AllByRecursion (IsFree tables) steps
all_free tables earlier [] e derived = tt
all_free tables earlier (s ∷ steps) e derived =
    let here = not_first (is_kept_otherwise tables (s, earlier)) (s, earlier) (otherwise_from tables (s ∷ earlier) steps) e in
    (record { derived = derived.0; free = unbarred (is_derived (table_named tables (kept_name s))) (bars (kind_of_step s) (table_named tables (kept_name s))) (list_any (keeps_otherwise s) earlier) here.0 derived.0 }, all_free tables (s ∷ earlier) steps here.1 derived.1)

pub steps_free : (tables : List TableDef) (steps : List StepTree) → taken_by_steps tables steps ≡ [] → flat_map (λ s. unknown_derived tables (kept_name s)) steps ≡ [] → AllByRecursion (IsFree tables) steps
steps_free tables steps none_taken none_unknown = all_free tables [] steps none_taken (all_derived tables steps none_unknown)

-- ---- the step of a table

step_number : (tables : List TableDef) (names : List (List ℕ)) (s : StepTree) → kept_number (step_of tables names s) ≡ table_id tables (kept_name s)
step_number tables names (step_tree.Add bound into) = refl
step_number tables names (step_tree.Redo table bound) = refl

-- a step that keeps the table of a number
record IsStepOf (tables : List TableDef) (steps : List StepTree) (id : ℕ) (s : StepTree) : Type 0 where
  free : IsFree tables s
  number : table_id tables (kept_name s) ≡ id
  among : list_any (λ x. bytes_eq (kept_name x) (kept_name s)) steps ≡ true

step_found : (tables : List TableDef) (names : List (List ℕ)) (id : ℕ) (steps : List StepTree) → AllByRecursion (IsFree tables) steps → list_any (λ s. kept_number s == id) (map (step_of tables names) steps) ≡ true → (s : StepTree) × IsStepOf tables steps id s
step_found tables names id [] all e = cc
step_found tables names id (s ∷ steps) all e = by_test (kept_number (step_of tables names s) == id) refl e (step_found tables names id steps all.1)
  where
    by_test : (b : Bool) → (kept_number (step_of tables names s) == id) ≡ b → (b || list_any (λ x. kept_number x == id) (map (step_of tables names) steps)) ≡ true
        → (list_any (λ x. kept_number x == id) (map (step_of tables names) steps) ≡ true → (t : StepTree) × IsStepOf tables steps id t)
        → (t : StepTree) × IsStepOf tables (s ∷ steps) id t
    by_test true is found rest =
        let itself : bytes_eq (kept_name s) (kept_name s) ≡ true = (bytes_eq-Decides (kept_name s) (kept_name s)).1 refl in (
          s,
          record {
            free = all.0;
            number = sym (step_number tables names s) ∙ eqb-true (kept_number (step_of tables names s)) id is;
            among = ap (λ b. b || list_any (λ x. bytes_eq (kept_name x) (kept_name s)) steps) itself;
          },
        )
    by_test false is found rest =
        let behind = rest found in
        let t = behind.0 in (
          t,
          record {
            free = behind.1.free;
            number = behind.1.number;
            among = ap (λ b. bytes_eq (kept_name s) (kept_name t) || b) behind.1.among ∙ or-true (bytes_eq (kept_name s) (kept_name t));
          },
        )

-- ---- tables that are kept

some_else : (o : Option By) (kept : Option By) → is_some kept ≡ true → is_some (option_or o kept) ≡ true
some_else None kept e = e
some_else (Some how) kept e = refl

some_first : (o : Option StepTree) (kept : Option By) → is_some o ≡ true → is_some (option_or (option_map kind_of_step o) kept) ≡ true
some_first None kept e = cc
some_first (Some s) kept e = refl

-- what is kept stays so
kept_still : (tables : List TableDef) (steps : List StepTree) (id : ℕ) → is_some (def_at tables id).kept ≡ true → is_some (def_at (kept_by_steps tables steps) id).kept ≡ true
kept_still [] steps id e = e
kept_still (table ∷ tables) steps zero e = some_else (option_map kind_of_step (find (λ s. bytes_eq (kept_name s) table.name) steps)) table.kept e
kept_still (table ∷ tables) steps (suc id) e = kept_still tables steps id e

-- the table that a step names is kept
kept_now : (tables : List TableDef) (steps : List StepTree) (id : ℕ) → id < length tables → list_any (λ s. bytes_eq (kept_name s) (def_at tables id).name) steps ≡ true → is_some (def_at (kept_by_steps tables steps) id).kept ≡ true
kept_now [] steps id lt e = absurd (omega (arith, lt))
kept_now (table ∷ tables) steps zero lt e =
    some_first (find (λ s. bytes_eq (kept_name s) table.name) steps) table.kept (some_found (λ s. bytes_eq (kept_name s) table.name) steps e)
kept_now (table ∷ tables) steps (suc id) lt e = kept_now tables steps id (omega (arith, lt)) e

-- the table that no step names stays as it is
as_before : (tables : List TableDef) (steps : List StepTree) (id : ℕ) → find (λ s. bytes_eq (kept_name s) (def_at tables id).name) steps ≡ None → def_at (kept_by_steps tables steps) id ≡ def_at tables id
as_before [] steps id e = refl
as_before (table ∷ tables) steps zero e = ap (λ (o : Option StepTree). record table { kept = option_or (option_map kind_of_step o) table.kept }) e
as_before (table ∷ tables) steps (suc id) e = as_before tables steps id e

declared_still : (tables : List TableDef) (steps : List StepTree) (id : ℕ) → (def_at (kept_by_steps tables steps) id).declared ≡ (def_at tables id).declared
declared_still [] steps id = refl
declared_still (table ∷ tables) steps zero = refl
declared_still (table ∷ tables) steps (suc id) = declared_still tables steps id

as_many : (tables : List TableDef) (steps : List StepTree) → length (kept_by_steps tables steps) ≡ length tables
as_many [] steps = refl
as_many (table ∷ tables) steps = ap suc (as_many tables steps)

-- ---- a declared table

bars_declared : (how : By) (table : TableDef) → table.declared ≡ true → bars how (Some table) ≡ true
bars_declared how table declared = ap (λ b. b || option_map_or (λ kept. not (same_by how kept)) table.kept false) declared

-- no step names it
unnamed : (tables : List TableDef) (name : List ℕ) (table : TableDef) → table_named tables name ≡ Some table → table.declared ≡ true → (steps : List StepTree) → AllByRecursion (IsFree tables) steps → find (λ s. bytes_eq (kept_name s) name) steps ≡ None
unnamed tables name table named declared [] all = refl
unnamed tables name table named declared (s ∷ steps) all = by_test (bytes_eq (kept_name s) name) refl (unnamed tables name table named declared steps all.1)
  where
    by_test : (b : Bool) → bytes_eq (kept_name s) name ≡ b → find (λ x. bytes_eq (kept_name x) name) steps ≡ None → cond b (Some s) (find (λ x. bytes_eq (kept_name x) name) steps) ≡ None
    by_test true is rest =
        let same : kept_name s ≡ name = (bytes_eq-Decides (kept_name s) name).0 is in
        let barred : bars (kind_of_step s) (table_named tables (kept_name s)) ≡ true = ap (λ n. bars (kind_of_step s) (table_named tables n)) same ∙ ap (bars (kind_of_step s)) named ∙ bars_declared (kind_of_step s) table declared in
        absurd (not_both (bars (kind_of_step s) (table_named tables (kept_name s))) barred all.0.free)
    by_test false is rest = rest

pub derived_is : (o : Option TableDef) → is_derived o ≡ true → (table : TableDef) × (o ≡ Some table)
derived_is None e = cc
derived_is (Some table) e = (table, refl)

-- ---- one more function

module _ (catalog : Catalog) (name : List ℕ) (steps : List StepTree) (numbers : NamesItsNumbers catalog) (all : AllByRecursion (IsFree catalog.tables) steps) (keeps : Keeps catalog) where
  abbrev new : Function
  new = function_of catalog.tables name steps

  abbrev stepped : Catalog
  stepped = record catalog { tables = kept_by_steps catalog.tables steps; functions = catalog.functions ++ new ∷ [] }

  its_step : (id : ℕ) → keeps_table new id ≡ true → (s : StepTree) × IsStepOf catalog.tables steps id s
  its_step id keeping = step_found catalog.tables (each_once (map bound_name steps)) id steps all keeping

  -- it keeps no declared table
  keeps_none_declared : (id : ℕ) → (def_at catalog.tables id).declared ≡ true → keeps_table new id ≡ true → ⊥
  keeps_none_declared id declared keeping =
      let found = its_step id keeping in
      let s = found.0 in
      let there = derived_is (table_named catalog.tables (kept_name s)) found.1.free.derived in
      let at = named_at catalog.tables (kept_name s) there.0 there.1 in
      let is : there.0 ≡ def_at catalog.tables id = sym at.is ∙ ap (def_at catalog.tables) found.1.number in
      let barred = ap (bars (kind_of_step s)) there.1 ∙ bars_declared (kind_of_step s) there.0 (ap (λ (t : TableDef). t.declared) is ∙ declared) in
      not_both (bars (kind_of_step s) (table_named catalog.tables (kept_name s))) barred found.1.free.free

  -- the tables of its steps are kept
  keeps_kept : (id : ℕ) → keeps_table new id ≡ true → is_some (def_at stepped.tables id).kept ≡ true
  keeps_kept id keeping =
      let found = its_step id keeping in
      let s = found.0 in
      let there = derived_is (table_named catalog.tables (kept_name s)) found.1.free.derived in
      let at = named_at catalog.tables (kept_name s) there.0 there.1 in
      let within = subst (λ m. m < length catalog.tables) found.1.number at.there in
      let called : (def_at catalog.tables id).name ≡ kept_name s = ap (λ m. (def_at catalog.tables m).name) (sym found.1.number) ∙ own_name catalog.tables (kept_name s) found.1.free.derived in
      kept_now catalog.tables steps id within (subst (λ n. list_any (λ x. bytes_eq (kept_name x) n) steps ≡ true) (sym called) found.1.among)

  stays_stepped : (id : ℕ) → id < length catalog.tables → (def_at catalog.tables id).declared ≡ true → Stays catalog stepped id
  stays_stepped id lt declared = record {
    table = as_before catalog.tables steps id (unnamed catalog.tables (def_at catalog.tables id).name (def_at catalog.tables id) (def_named catalog.tables id lt (numbers.tables id lt)) declared steps all);
    function = λ n f at keeping. get_before catalog.functions (new ∷ []) n f at;
    function_before = λ n f at keeping. by_function n f keeping (get_one_more catalog.functions new n f at);
    rule = λ n r at. at;
    rule_before = λ n r f at executed keeping. at;
  }
    where
      by_function : (n : ℕ) (f : Function) → keeps_table f id ≡ true → (slice_get catalog.functions n ≡ Some f) ⊎ ((n ≡ length catalog.functions) × (f ≡ new)) → (g : Function) × (slice_get catalog.functions n ≡ Some g) × (keeps_table g id ≡ true)
      by_function n f keeping (inl at) = (f, at, keeping)
      by_function n f keeping (inr last) = absurd (keeps_none_declared id declared (subst (λ (g : Function). keeps_table g id ≡ true) last.1 keeping))

  pub with_function : Keeps stepped
  with_function = record {
    steps = λ n f id at keeping. by_function n f id keeping (get_one_more catalog.functions new n f at);
    rules = λ n r at. let below = keeps.rules n r at in omega (arith, one_longer, below);
    alone = λ id lt declared. still id (subst (λ len. id < len) (as_many catalog.tables steps) lt) (sym (declared_still catalog.tables steps id) ∙ declared);
  }
    where
      one_longer : length (catalog.functions ++ new ∷ []) ≡ length catalog.functions + 1
      one_longer = length-append catalog.functions (new ∷ [])

      by_function : (n : ℕ) (f : Function) (id : ℕ) → keeps_table f id ≡ true → (slice_get catalog.functions n ≡ Some f) ⊎ ((n ≡ length catalog.functions) × (f ≡ new)) → is_some (def_at stepped.tables id).kept ≡ true
      by_function n f id keeping (inl at) = kept_still catalog.tables steps id (keeps.steps n f id at keeping)
      by_function n f id keeping (inr last) = keeps_kept id (subst (λ (g : Function). keeps_table g id ≡ true) last.1 keeping)

      still : (id : ℕ) → id < length catalog.tables → (def_at catalog.tables id).declared ≡ true → IsKeptAlone stepped id
      still id lt declared = alone_stays catalog stepped id (stays_stepped id lt declared) (keeps.alone id lt declared)
