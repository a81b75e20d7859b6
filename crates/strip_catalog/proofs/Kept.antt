-- A derived table that is to be kept: why that is refused, and what its `maintain` statement declares.
use Rattle.std.proofs.Common.{◌≡◌, ℕ, ◌<◌, Bool, true, false, not, List, [], ◌∷◌, ◌++◌, length, get_or, Option, Some, None, Result, Err, option_map, is_some, unwrap_or, refl, sym, ap, ◌∙◌}
use Rattle.strip_value.specs.declared.rules.BoundDef.{BoundDef}
use Rattle.strip_value.specs.declared.rules.Function.{Function}
use Rattle.strip_value.specs.declared.rules.Rule.{Rule}
use Rattle.strip_value.specs.declared.tables.By.{By}
use Rattle.strip_value.specs.declared.tables.By.TheVariants as by
use Rattle.strip_value.specs.declared.tables.ColumnDef.{ColumnDef}
use Rattle.strip_value.specs.declared.tables.TableDef.{TableDef}
use Rattle.strip_meaning.specs.Contents.{def_at}
use Rattle.strip_meaning.specs.Maintained.{Manner}
use Rattle.strip_setup.specs.declared.errors.SetupError.{SetupError}
use Rattle.strip_setup.specs.declared.errors.SetupError.TheVariants.{Closed, Exists, NoCount, NotBound, Unknown}
use Rattle.strip_setup.specs.Adds.{with_statement}
use Rattle.strip_setup.specs.Catalog.{Catalog, first, function_named, is_derived, name_if, refused_if, repeated, rule_named, table_id, table_named}
use Rattle.strip_setup.specs.Checks.{Checks}
use Rattle.strip_setup.specs.Maintain.{declared_kept, function_name, made_function, made_rule, rule_name, with_kept}
use Rattle.strip_setup.proofs.Firsts.{carried}
use Rattle.strip_names.specs.Unknown.{missing, names_of}
use Rattle.strip_catalog.specs.declared.additions.Addition.{Addition}
use Rattle.strip_catalog.specs.declared.additions.Addition.TheVariants as addition
use Rattle.strip_catalog.specs.declared.made.Made.{Made}
use Rattle.strip_catalog.specs.Calls.{AddsKept, IsAdded}
use Rattle.strip_catalog.specs.Laws.{NamesItsNumbers}
use Rattle.strip_catalog.specs.Made.{IsMade, how_of, statement_of}
use Rattle.strip_catalog.specs.Refusals.{columns_made, first_cause, is_kept, lacks_count, limits_of_maintain, refusal, taken_by_maintain}
use Rattle.strip_catalog.proofs.InTurn.{turn_last, turn_passed, turn_refused}
use Rattle.strip_catalog.proofs.Named.{at_id, def_named, id_named, made_function_name, made_rule_name, there}

-- the manner that a rule has
abbrev pub manner_in : Rule → Manner
manner_in rule = record { unique = rule.unique; after = rule.after }

-- the first bound table of a function
abbrev pub bound_first : Function → BoundDef
bound_first function = get_or function.bound 0 (record { name = []; columns = [] })

module _ (catalog : Catalog) (made : Made) (numbers : NamesItsNumbers catalog) (is : IsMade catalog made) where
  abbrev table : TableDef
  table = def_at catalog.tables made.table

  pub below : made.table < length catalog.tables
  below = there catalog.tables made.table is.derived

  -- its name stands for its number, and it is found by it
  id_is : table_id catalog.tables table.name ≡ made.table
  id_is = id_named catalog.tables made.table (numbers.tables made.table below)

  pub found : table_named catalog.tables table.name ≡ Some table
  found = def_named catalog.tables made.table below (numbers.tables made.table below)

  -- it has a query
  pub derived : is_some table.query ≡ true
  derived = ap is_derived (sym (at_id catalog.tables made.table below)) ∙ is.derived

  pub function_is : made.function ≡ made_function (how_of made.function) table made.table
  function_is = ap (λ (m : Made). m.function) is.is

  pub rule_is : made.rule ≡ made_rule (how_of made.function) table (length catalog.functions) (manner_in made.rule)
  rule_is = ap (λ (m : Made). m.rule) is.is

  -- ---- what it adds

  abbrev catalog_with : List TableDef → List Function → Rule → Catalog
  catalog_with tables functions rule = record catalog { tables = tables; functions = functions; rules = catalog.rules ++ rule ∷ [] }

  pub kept_is : (one : Addition) → AddsKept catalog.tables catalog.functions made one → IsAdded catalog (statement_of catalog made) one
  unfolding with_statement
  kept_is (addition.Kept kept with rule) adds =
      ap (λ id. with_kept catalog id (how_of made.function) (manner_in made.rule)) id_is
      ∙ ap (λ f. catalog_with (declared_kept catalog.tables made.table (how_of made.function)) (catalog.functions ++ f ∷ []) (made_rule (how_of made.function) table (length catalog.functions) (manner_in made.rule))) (sym function_is)
      ∙ ap (λ r. catalog_with (declared_kept catalog.tables made.table (how_of made.function)) (catalog.functions ++ made.function ∷ []) r) (sym rule_is)
      ∙ same kept with rule adds.0 adds.1 adds.2
    where
      same : (ts : List TableDef) (fs : List Function) (r : Rule) → ts ≡ declared_kept catalog.tables made.table (how_of made.function) → fs ≡ catalog.functions ++ made.function ∷ [] → r ≡ made.rule
          → catalog_with (declared_kept catalog.tables made.table (how_of made.function)) (catalog.functions ++ made.function ∷ []) made.rule ≡ catalog_with ts fs r
      same ts fs r ts_are fs_are r_is = rw (ts_are, fs_are, r_is) refl
  kept_is (addition.Table t) adds = absurd adds
  kept_is (addition.Stream s) adds = absurd adds
  kept_is (addition.Function ts f) adds = absurd adds
  kept_is (addition.Rule fs r) adds = absurd adds

  -- ---- why it is refused

  abbrev unique_on : List (List ℕ)
  unique_on = unwrap_or made.rule.unique []

  -- the names that are taken, by what is made of the table
  abbrev taken_by : TableDef → List (List ℕ)
  taken_by t =
      name_if (is_some (function_named catalog.functions made.function.name)) made.function.name
      ++ (name_if (is_some (rule_named catalog.rules made.rule.name)) made.rule.name
      ++ (name_if (is_some t.kept) t.name ++ repeated unique_on))

  taken_is : taken_by_maintain catalog table.name unique_on ≡ taken_by table
  taken_is =
      ap (λ b. by_names (function_name table.name) (rule_name table.name) b) (ap is_kept found)
      ∙ ap (λ n. by_names n (rule_name table.name) (is_some table.kept)) (sym (ap (λ (f : Function). f.name) function_is ∙ made_function_name (how_of made.function) table made.table))
      ∙ ap (λ n. by_names made.function.name n (is_some table.kept)) (sym (ap (λ (r : Rule). r.name) rule_is ∙ made_rule_name (how_of made.function) table (length catalog.functions) (manner_in made.rule)))
    where
      by_names : List ℕ → List ℕ → Bool → List (List ℕ)
      by_names f r b =
          name_if (is_some (function_named catalog.functions f)) f ++ (name_if (is_some (rule_named catalog.rules r)) r ++ (name_if b table.name ++ repeated unique_on))

  -- the columns that the rule binds
  columns_are : columns_made (how_of made.function) (Some table) ≡ (bound_first made.function).columns
  columns_are = by_how (how_of made.function) ∙ sym (ap (λ (f : Function). (bound_first f).columns) function_is)
    where
      by_how : (how : By) → columns_made how (Some table) ≡ (bound_first (made_function how table made.table)).columns
      by_how by.Sum = refl
      by_how by.Key = refl

  -- the causes, by the table and what is made of it, and those behind each
  abbrev ended : Option SetupError
  ended = refused_if catalog.closed Closed

  abbrev taken : TableDef → Option SetupError
  taken t = option_map Exists (first (taken_by t))

  abbrev limit : Option SetupError
  limit = first (limits_of_maintain catalog made.rule.after)

  abbrev count : TableDef → Option SetupError
  count t = refused_if (lacks_count (how_of made.function) (Some t)) NoCount

  abbrev unbound : List ColumnDef → List (List ℕ) → Option SetupError
  unbound columns names = option_map NotBound (first (missing (names_of columns) names))

  abbrev last : List (Option SetupError)
  last = unbound (bound_first made.function).columns unique_on ∷ []

  abbrev after_limit : TableDef → List (Option SetupError)
  after_limit t = count t ∷ last

  abbrev after_taken : TableDef → List (Option SetupError)
  after_taken t = limit ∷ after_limit t

  abbrev after_ended : TableDef → List (Option SetupError)
  after_ended t = taken t ∷ after_taken t

  by_causes : refusal catalog (statement_of catalog made) ≡ first_cause (ended ∷ after_ended table)
  unfolding refusal
  by_causes =
      ap (λ (o : Option TableDef). all_causes (taken_by_maintain catalog table.name unique_on) (unknown_by o) (refused_if (lacks_count (how_of made.function) o) NoCount) (columns_made (how_of made.function) o)) found
      ∙ ap (λ b. all_causes (taken_by_maintain catalog table.name unique_on) (option_map Unknown (first (name_if (not b) table.name))) (count table) (columns_made (how_of made.function) (Some table))) derived
      ∙ ap (λ names. all_causes names None (count table) (columns_made (how_of made.function) (Some table))) taken_is
      ∙ ap (λ columns. all_causes (taken_by table) None (count table) columns) columns_are
    where
      unknown_by : Option TableDef → Option SetupError
      unknown_by o = option_map Unknown (first (name_if (not (is_derived o)) table.name))

      all_causes : List (List ℕ) → Option SetupError → Option SetupError → List ColumnDef → Option SetupError
      all_causes names unknown counted columns = first_cause (ended ∷ option_map Exists (first names) ∷ unknown ∷ limit ∷ counted ∷ unbound columns unique_on ∷ [])

  by_table : (t : TableDef) → t ≡ table → refusal catalog (statement_of catalog made) ≡ first_cause (ended ∷ after_ended t)
  by_table t is_it = by_causes ∙ ap (λ (of : TableDef). first_cause (ended ∷ after_ended of)) (sym is_it)

  abbrev Refuses : Result Unit SetupError → Type 0
  Refuses r = Checks (refusal catalog (statement_of catalog made)) r

  pub kept_ended : catalog.closed ≡ true → Refuses (Err Closed)
  kept_ended e = carried _ _ (Err Closed) by_causes (turn_refused ended (after_ended table) Closed (ap (λ b. refused_if b Closed) e))

  -- where setup isn't over
  past_ended : (t : TableDef) (r : Result Unit SetupError) → t ≡ table → catalog.closed ≡ false → Checks (first_cause (after_ended t)) r → Refuses r
  past_ended t r is_it open_ p = carried _ _ r (by_table t is_it) (turn_passed ended (after_ended t) r (ap (λ b. refused_if b Closed) open_) p)

  pub kept_taken : (t : TableDef) (e : SetupError) → t ≡ table → catalog.closed ≡ false → Checks (taken t) (Err e) → Refuses (Err e)
  kept_taken t e is_it open_ p = past_ended t (Err e) is_it open_ (turn_refused (taken t) (after_taken t) e p)

  -- and no name is taken
  past_taken : (t : TableDef) (r : Result Unit SetupError) → t ≡ table → catalog.closed ≡ false → taken t ≡ None → Checks (first_cause (after_taken t)) r → Refuses r
  past_taken t r is_it open_ one p = past_ended t r is_it open_ (turn_passed (taken t) (after_taken t) r one p)

  pub kept_limit : (t : TableDef) (e : SetupError) → t ≡ table → catalog.closed ≡ false → taken t ≡ None → Checks limit (Err e) → Refuses (Err e)
  kept_limit t e is_it open_ one p = past_taken t (Err e) is_it open_ one (turn_refused limit (after_limit t) e p)

  -- and no limit is passed
  past_limit : (t : TableDef) (r : Result Unit SetupError) → t ≡ table → catalog.closed ≡ false → taken t ≡ None → limit ≡ None → Checks (first_cause (after_limit t)) r → Refuses r
  past_limit t r is_it open_ one two p = past_taken t r is_it open_ one (turn_passed limit (after_limit t) r two p)

  pub kept_count : (t : TableDef) (e : SetupError) → t ≡ table → catalog.closed ≡ false → taken t ≡ None → limit ≡ None → Checks (count t) (Err e) → Refuses (Err e)
  kept_count t e is_it open_ one two p = past_limit t (Err e) is_it open_ one two (turn_refused (count t) last e p)

  -- nothing but what the rule binds is left
  pub kept_bound : (t : TableDef) (columns : List ColumnDef) (names : List (List ℕ)) (r : Result Unit SetupError) → t ≡ table → columns ≡ (bound_first made.function).columns → names ≡ unique_on → catalog.closed ≡ false → taken t ≡ None → limit ≡ None → count t ≡ None → Checks (unbound columns names) r → Refuses r
  kept_bound t columns names r is_it columns_is names_are open_ one two three p =
      let same : unbound (bound_first made.function).columns unique_on ≡ unbound columns names = ap (λ of. unbound of unique_on) (sym columns_is) ∙ ap (λ of. unbound columns of) (sym names_are) in
      past_limit t r is_it open_ one two (turn_passed (count t) last r three (turn_last (unbound (bound_first made.function).columns unique_on) r (carried _ _ r same p)))

  pub query_there : (t : TableDef) → t ≡ table → is_some t.query ≡ true
  query_there t is_it = ap (λ (of : TableDef). is_some of.query) is_it ∙ derived
