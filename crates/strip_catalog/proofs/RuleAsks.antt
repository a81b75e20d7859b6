-- What a rule that isn't refused asks suits the tables.
use Rattle.std.proofs.Common.{◌≡◌, ℕ, ◌+◌, Bool, true, false, List, [], ◌∷◌, ◌++◌, filter, flat_map, length, nat_le, Option, Some, None, is_none, is_some, unwrap_or, refl, ap}
use Rattle.std.specs.List.{AllByRecursion, enumerate_from, list_any}
use Rattle.strip_value.specs.declared.rules.BoundQuery.{BoundQuery}
use Rattle.strip_value.specs.declared.tables.TableDef.{TableDef}
use Rattle.strip_ast.specs.declared.queries.Origin.{Origin}
use Rattle.strip_ast.specs.declared.queries.Origin.TheVariants as origin
use Rattle.strip_ast.specs.declared.rules.BoundTree.{BoundTree}
use Rattle.strip_ast.specs.declared.rules.EventTree.{EventTree}
use Rattle.strip_ast.specs.declared.rules.Manner.{Manner}
use Rattle.strip_ast.specs.declared.statements.Statement.{Statement}
use Rattle.strip_ast.specs.declared.statements.Statement.TheVariants as st
use Rattle.strip_setup.specs.declared.errors.LimitKind.TheVariants as limit_kind
use Rattle.strip_setup.specs.declared.errors.SetupError.TheVariants.{KindMismatch, NotGrouped, TooWide, Unknown}
use Rattle.strip_setup.specs.Catalog.{Catalog, columns_of, function_named, name_if, refused_if, repeated, rule_named, table_id, table_named}
use Rattle.strip_setup.specs.Queries.{Scope, input_of, moved_columns, origin_columns, query_of}
use Rattle.strip_setup.specs.Resolve.{bindings_of, bound_query_of, function_at, in_rule, names_with, rule_of}
use Rattle.strip_setup.proofs.Firsts.{no_cause as listed_none}
use Rattle.strip_names.specs.Exists.{is_made, taken_in_event, taken_in_query}
use Rattle.strip_names.specs.Grouped.{has_misplaced}
use Rattle.strip_names.specs.Limits.{limits_in_bound, limits_in_query, more_than, most_delay, most_queries, most_rules, one_more_than}
use Rattle.strip_names.specs.Unknown.{unknown_in_event, unknown_in_query, unknown_origin, unknown_table}
use Rattle.strip_kinds.specs.Mismatch.{mismatched_in_query, mismatched_in_steps, mismatched_in_unique}
use Rattle.strip_kinds.specs.Needs.{fits_of}
use Rattle.strip_kinds.specs.Width.{least_wide, magnitudes_in_query, magnitudes_in_steps}
use Rattle.strip_acts.proofs.Asked.{HasInputs, IsAsked, asked_suits}
use Rattle.strip_acts.proofs.Lists.{all_left, all_mapped, all_of, all_right, empty_filter, empty_flat, filter_empty, flat_all}
use Rattle.strip_acts.proofs.Naming.{is_below, known, neither}
use Rattle.strip_catalog.specs.Laws.{AsksInRange}
use Rattle.strip_catalog.specs.Refusals.{refusal}
use Rattle.strip_catalog.specs.RuleQueries.{columns_in_rule, suits_in_rule, suits_input_in_rule}
use Rattle.strip_catalog.proofs.Causes.{both_empty, no_cause, no_exists, no_limit}

-- ---- inputs of a rule's queries

module _ (tables : List TableDef) (on : List ℕ) (there : unknown_table tables on ≡ []) where
  abbrev scope : Scope
  scope = in_rule tables on

  abbrev number : ℕ
  number = table_id tables on

  stands : (from : Origin) → unknown_origin scope from ≡ [] → suits_input_in_rule tables (input_of tables from) ≡ true
  stands (origin.Table name) e = is_below (table_id tables name) (length tables) (known tables name e).there
  stands (origin.Before name) e = is_below (table_id tables name) (length tables) (known tables name e).there
  stands origin.Inserted e = refl
  stands origin.Deleted e = refl
  stands origin.Old e = refl
  stands origin.New e = refl

  moved_same : origin_columns scope origin.New ≡ columns_in_rule tables number (input_of tables origin.New)
  moved_same = ap (λ (o : Option TableDef). moved_columns (Some (columns_of o))) (known tables on there).is

  same : (from : Origin) → unknown_origin scope from ≡ [] → origin_columns scope from ≡ columns_in_rule tables number (input_of tables from)
  same (origin.Table name) e = ap columns_of (known tables name e).is
  same (origin.Before name) e = ap columns_of (known tables name e).is
  same origin.Inserted e = moved_same
  same origin.Deleted e = moved_same
  same origin.Old e = moved_same
  same origin.New e = moved_same

  inputs_in_rule : HasInputs scope (suits_input_in_rule tables) (columns_in_rule tables number)
  inputs_in_rule = record { stands = stands; same = same }

  bound_suits : (bound : BoundTree) → IsAsked scope bound.query → suits_in_rule tables number (query_of scope bound.query) ≡ true
  bound_suits bound asked = asked_suits scope (suits_input_in_rule tables) (columns_in_rule tables number) inputs_in_rule bound.query asked

-- ---- queries one by one

not_ungrouped : (b : Bool) → refused_if b NotGrouped ≡ None → b ≡ false
not_ungrouped true e = cc
not_ungrouped false e = refl

none_any : {A : Type 0} (test : A → Bool) (xs : List A) → list_any test xs ≡ false → AllByRecursion (λ x. test x ≡ false) xs
none_any test [] e = tt
none_any test (x ∷ xs) e = let both = neither (test x) (list_any test xs) e in (both.0, none_any test xs both.1)

-- the limits of each, whatever its number
each_within : (n : ℕ) (bounds : List BoundTree) → flat_map limits_in_bound (enumerate_from n bounds) ≡ [] → AllByRecursion (λ (bound : BoundTree). limits_in_query bound.query ≡ []) bounds
each_within n [] e = tt
each_within n (bound ∷ bounds) e =
    let both = both_empty (limits_in_bound (n, bound)) (flat_map limits_in_bound (enumerate_from (n + 1) bounds)) e in
    ((both_empty (more_than most_queries limit_kind.Queries n) (limits_in_query bound.query) both.0).1, each_within (n + 1) bounds both.1)

module _ (scope : Scope) where
  each_asked : (bounds : List BoundTree)
      → AllByRecursion (λ (bound : BoundTree). taken_in_query bound.query ≡ []) bounds
      → AllByRecursion (λ (bound : BoundTree). unknown_in_query scope bound.query ≡ []) bounds
      → AllByRecursion (λ (bound : BoundTree). limits_in_query bound.query ≡ []) bounds
      → AllByRecursion (λ (bound : BoundTree). mismatched_in_query scope bound.query ≡ []) bounds
      → AllByRecursion (λ (bound : BoundTree). AllByRecursion (λ n. nat_le least_wide n ≡ false) (magnitudes_in_query scope bound.query)) bounds
      → AllByRecursion (λ (bound : BoundTree). has_misplaced (query_of scope bound.query) ≡ false) bounds
      → AllByRecursion (λ (bound : BoundTree). IsAsked scope bound.query) bounds
  each_asked [] once known within kinds narrow placed = tt
  each_asked (bound ∷ bounds) once known within kinds narrow placed = (
    record {
      once = once.0;
      known = known.0;
      within = within.0;
      kinds = kinds.0;
      narrow = filter_empty (nat_le least_wide) (magnitudes_in_query scope bound.query) narrow.0;
      placed = placed.0;
    },
    each_asked bounds once.1 known.1 within.1 kinds.1 narrow.1 placed.1,
  )

-- ---- a statement that isn't refused

module _ (catalog : Catalog) (name on : List ℕ) (events : List EventTree) (conditions evaluate : List BoundTree) (function : List ℕ) (manner : Manner)
    (e : refusal catalog (st.Rule name on events conditions evaluate function manner) ≡ None) where
  abbrev statement : Statement
  statement = st.Rule name on events conditions evaluate function manner

  abbrev tables : List TableDef
  tables = catalog.tables

  abbrev its_scope : Scope
  its_scope = in_rule tables on

  abbrev bounds : List BoundTree
  bounds = conditions ++ evaluate

  -- nothing is taken
  once : AllByRecursion (λ (bound : BoundTree). taken_in_query bound.query ≡ []) bounds
  once =
      let own = name_if (is_some (rule_named catalog.rules name)) name in
      let queries = flat_map (λ (bound : BoundTree). taken_in_query bound.query) bounds in
      let behind = name_if (is_made tables (function_at catalog function)) function ++ repeated (unwrap_or manner.unique []) in
      let of_own = both_empty own (flat_map taken_in_event events ++ (queries ++ behind)) (no_exists catalog statement e) in
      let of_events = both_empty (flat_map taken_in_event events) (queries ++ behind) of_own.1 in
      empty_flat (λ (bound : BoundTree). taken_in_query bound.query) bounds (both_empty queries behind of_events.1).0

  -- the rule's table is there, and nothing is unknown
  names_there : (unknown_table tables on ≡ []) × AllByRecursion (λ (bound : BoundTree). unknown_in_query its_scope bound.query ≡ []) bounds
  names_there =
      let in_events = flat_map (unknown_in_event (columns_of (table_named tables on))) events in
      let queries = flat_map (λ (bound : BoundTree). unknown_in_query its_scope bound.query) bounds in
      let behind = name_if (is_none (function_named catalog.functions function)) function in
      let none = listed_none Unknown (unknown_table tables on ++ (in_events ++ (queries ++ behind))) (no_cause catalog statement e).1.1.0 in
      let of_table = both_empty (unknown_table tables on) (in_events ++ (queries ++ behind)) none in
      let of_events = both_empty in_events (queries ++ behind) of_table.1 in
      (of_table.0, empty_flat (λ (bound : BoundTree). unknown_in_query its_scope bound.query) bounds (both_empty queries behind of_events.1).0)

  within : AllByRecursion (λ (bound : BoundTree). limits_in_query bound.query ≡ []) bounds
  within =
      let queries = flat_map limits_in_bound (enumerate_from 1 bounds) in
      let behind = more_than most_delay limit_kind.Delay manner.after in
      let of_rules = both_empty (one_more_than most_rules limit_kind.Rules (length catalog.rules)) (queries ++ behind) (no_limit catalog statement e) in
      each_within 1 bounds (both_empty queries behind of_rules.1).0

  kinds : AllByRecursion (λ (bound : BoundTree). mismatched_in_query its_scope bound.query ≡ []) bounds
  kinds =
      let bindings = bindings_of its_scope bounds in
      let queries = flat_map (λ (bound : BoundTree). mismatched_in_query its_scope bound.query) bounds in
      let behind = mismatched_in_steps (fits_of tables (function_at catalog function) bindings) ++ mismatched_in_unique bindings (unwrap_or manner.unique []) in
      let none = listed_none KindMismatch (queries ++ behind) (no_cause catalog statement e).1.1.1.1.0 in
      empty_flat (λ (bound : BoundTree). mismatched_in_query its_scope bound.query) bounds (both_empty queries behind none).0

  narrow : AllByRecursion (λ (bound : BoundTree). AllByRecursion (λ n. nat_le least_wide n ≡ false) (magnitudes_in_query its_scope bound.query)) bounds
  narrow =
      let queries = flat_map (λ (bound : BoundTree). magnitudes_in_query its_scope bound.query) bounds in
      let behind = magnitudes_in_steps (fits_of tables (function_at catalog function) (bindings_of its_scope bounds)) in
      let none = listed_none TooWide (filter (nat_le least_wide) (queries ++ behind)) (no_cause catalog statement e).1.1.1.1.1.0 in
      let all = empty_filter (nat_le least_wide) (queries ++ behind) none in
      flat_all (λ (bound : BoundTree). magnitudes_in_query its_scope bound.query) (λ n. nat_le least_wide n ≡ false) bounds (all_left (λ n. nat_le least_wide n ≡ false) queries behind all)

  placed : AllByRecursion (λ (bound : BoundTree). has_misplaced (query_of its_scope bound.query) ≡ false) bounds
  placed =
      none_any (λ (bound : BoundTree). has_misplaced (query_of its_scope bound.query)) bounds
      (not_ungrouped (list_any (λ (bound : BoundTree). has_misplaced (query_of its_scope bound.query)) bounds) (no_cause catalog statement e).1.1.1.1.1.1.1.1.1.1.0)

  abbrev Suits : BoundTree → Type 0
  Suits bound = suits_in_rule tables (table_id tables on) (query_of its_scope bound.query) ≡ true

  each_suits : AllByRecursion Suits bounds
  each_suits =
      all_of (λ (bound : BoundTree). IsAsked its_scope bound.query) Suits bounds (bound_suits tables on names_there.0)
      (each_asked its_scope bounds once names_there.1 within kinds narrow placed)

  abbrev bound_names : List (List ℕ)
  bound_names = names_with (function_at catalog function).bound (bindings_of its_scope bounds)

  abbrev SuitsBound : BoundQuery → Type 0
  SuitsBound one = suits_in_rule tables (table_id tables on) one.query ≡ true

  pub rule_asks : AsksInRange tables (rule_of catalog name on events conditions evaluate function manner)
  rule_asks = record {
    there = (known tables on names_there.0).there;
    conditions = all_mapped (bound_query_of its_scope bound_names) SuitsBound conditions (all_left Suits conditions evaluate each_suits);
    evaluate = all_mapped (bound_query_of its_scope bound_names) SuitsBound evaluate (all_right Suits conditions evaluate each_suits);
  }
