-- What a statement is that passes no limit.
use Rattle.std.proofs.Common.{◌≡◌, ℕ, ◌+◌, ◌≤◌, Bool, true, false, not, ◌&&◌, nat_le, List, [], ◌∷◌, ◌++◌, length, Option, Some, None, flat_map, unwrap_or, refl, arith}
use Rattle.std.specs.List.{AllByRecursion, enumerate_from}
use Rattle.std.proofs.lemmas.Bool.Decides.{nat_tests}
use Rattle.strip_value.specs.declared.tables.ColumnDef.{ColumnDef}
use Rattle.strip_value.proofs.Lists.{all_left, all_right}
use Rattle.strip_ast.specs.declared.queries.ColTree.{ColTree}
use Rattle.strip_ast.specs.declared.queries.QueryTree.{QueryTree}
use Rattle.strip_ast.specs.declared.rules.BoundTree.{BoundTree}
use Rattle.strip_ast.specs.declared.rules.EventTree.{EventTree}
use Rattle.strip_ast.specs.declared.rules.Manner.{Manner}
use Rattle.strip_ast.specs.declared.rules.StepTree.{StepTree}
use Rattle.strip_ast.specs.declared.statements.Statement.{Statement}
use Rattle.strip_ast.specs.declared.statements.Statement.TheVariants as st
use Rattle.strip_setup.specs.declared.errors.LimitKind.TheVariants as kind
use Rattle.strip_setup.specs.Small.{AskFew}
use Rattle.strip_setup.specs.Catalog.{Catalog}
use Rattle.strip_names.specs.Limits.{limit, limit_if, limit_of_rows, limits, limits_in_bound, limits_in_query, more_than, most_entries, one_more_than}
use Rattle.strip_catalog.specs.Refusals.{refusal}
use Rattle.strip_setup.specs.Resolve.{most_rows}
use Rattle.strip_catalog.proofs.Causes.{at_most, both_empty, no_other_cause, none_there}

pub within : (catalog : Catalog) (statement : Statement) → refusal catalog statement ≡ None → limit catalog statement ≡ None
within catalog statement e = (no_other_cause catalog statement e).1.1.1.0

-- ---- tables

behind_tables : (catalog : Catalog) (name : List ℕ) (columns : List ColumnDef) (key : List (List ℕ)) (rows : Option ℕ) → limit catalog (st.Table name columns key rows) ≡ None → (more_than 16 kind.Columns (length columns) ≡ []) × (limit_of_rows rows ≡ [])
behind_tables catalog name columns key rows e =
    let all = none_there (limits catalog (st.Table name columns key rows)) e in
    both_empty (more_than 16 kind.Columns (length columns)) (limit_of_rows rows) (both_empty (one_more_than 64 kind.Tables (length catalog.tables)) (more_than 16 kind.Columns (length columns) ++ limit_of_rows rows) all).1

pub table_narrow : (catalog : Catalog) (name : List ℕ) (columns : List ColumnDef) (key : List (List ℕ)) (rows : Option ℕ) → limit catalog (st.Table name columns key rows) ≡ None → length columns ≤ 16
table_narrow catalog name columns key rows e = at_most 16 (length columns) kind.Columns (behind_tables catalog name columns key rows e).0

rows_few : (rows : Option ℕ) → limit_of_rows rows ≡ [] → unwrap_or rows most_rows ≤ most_rows
rows_few None e = omega arith
rows_few (Some n) e = by_tests (nat_le 1 n) (nat_le n most_rows) refl e
  where
    by_tests : (a b : Bool) → nat_le n most_rows ≡ b → limit_if (not (a && b)) kind.Rows most_rows ≡ [] → n ≤ most_rows
    by_tests true true is none = grind (arith, nat_tests)
    by_tests true false is none = cc
    by_tests false b is none = cc

pub table_limited : (catalog : Catalog) (name : List ℕ) (columns : List ColumnDef) (key : List (List ℕ)) (rows : Option ℕ) → limit catalog (st.Table name columns key rows) ≡ None → unwrap_or rows most_rows ≤ most_rows
table_limited catalog name columns key rows e = rows_few rows (behind_tables catalog name columns key rows e).1

-- ---- queries

entries_few : (group : Option (List ColTree)) (n : ℕ) → n ≤ most_entries group → n ≤ 3
entries_few None n le = le
entries_few (Some columns) n le = omega (arith, le)

pub query_few : (query : QueryTree) → limits_in_query query ≡ [] → AskFew query
query_few query e = entries_few query.group (length query.entries) (at_most (most_entries query.group) (length query.entries) kind.Entries (both_empty (more_than 16 kind.Columns (length query.items)) (more_than (most_entries query.group) kind.Entries (length query.entries)) e).1)

pub derive_few : (catalog : Catalog) (name : List ℕ) (query : QueryTree) → limit catalog (st.Derive name query) ≡ None → AskFew query
derive_few catalog name query e =
    query_few query (both_empty (one_more_than 64 kind.Tables (length catalog.tables)) (limits_in_query query) (none_there (limits catalog (st.Derive name query)) e)).1

-- ---- functions

pub function_few : (catalog : Catalog) (name : List ℕ) (steps : List StepTree) → limit catalog (st.Function name steps) ≡ None → length steps ≤ 4
function_few catalog name steps e =
    at_most 4 (length steps) kind.Steps (both_empty (one_more_than 64 kind.Functions (length catalog.functions)) (more_than 4 kind.Steps (length steps)) (none_there (limits catalog (st.Function name steps)) e)).1

-- ---- rules

bound_few : (n : ℕ) (queries : List BoundTree) → flat_map limits_in_bound (enumerate_from n queries) ≡ [] → AllByRecursion (λ bound. AskFew bound.query) queries
bound_few n [] e = tt
bound_few n (bound ∷ queries) e =
    let parts = both_empty (limits_in_bound (n, bound)) (flat_map limits_in_bound (enumerate_from (n + 1) queries)) e in
    (query_few bound.query (both_empty (more_than 8 kind.Queries n) (limits_in_query bound.query) parts.0).1, bound_few (n + 1) queries parts.1)

pub rule_limits : (catalog : Catalog) (name table : List ℕ) (events : List EventTree) (conditions evaluate : List BoundTree) (function : List ℕ) (manner : Manner) → limit catalog (st.Rule name table events conditions evaluate function manner) ≡ None
    → (flat_map limits_in_bound (enumerate_from 1 (conditions ++ evaluate)) ≡ []) × (more_than 4294967295 kind.Delay manner.after ≡ [])
rule_limits catalog name table events conditions evaluate function manner e =
    let all = none_there (limits catalog (st.Rule name table events conditions evaluate function manner)) e in
    both_empty (flat_map limits_in_bound (enumerate_from 1 (conditions ++ evaluate))) (more_than 4294967295 kind.Delay manner.after)
    (both_empty (one_more_than 128 kind.Rules (length catalog.rules)) (flat_map limits_in_bound (enumerate_from 1 (conditions ++ evaluate)) ++ more_than 4294967295 kind.Delay manner.after) all).1

module _ (catalog : Catalog) (name table : List ℕ) (events : List EventTree) (conditions evaluate : List BoundTree) (function : List ℕ) (manner : Manner) (e : limit catalog (st.Rule name table events conditions evaluate function manner) ≡ None) where
  parts : (flat_map limits_in_bound (enumerate_from 1 (conditions ++ evaluate)) ≡ []) × (more_than 4294967295 kind.Delay manner.after ≡ [])
  parts = rule_limits catalog name table events conditions evaluate function manner e

  rule_queries : AllByRecursion (λ bound. AskFew bound.query) (conditions ++ evaluate)
  rule_queries = bound_few 1 (conditions ++ evaluate) parts.0

  pub conditions_few : AllByRecursion (λ bound. AskFew bound.query) conditions
  conditions_few = all_left (λ (bound : BoundTree). AskFew bound.query) conditions evaluate rule_queries

  pub evaluate_few : AllByRecursion (λ bound. AskFew bound.query) evaluate
  evaluate_few = all_right (λ (bound : BoundTree). AskFew bound.query) conditions evaluate rule_queries

  pub delay_few : manner.after ≤ 4294967295
  delay_few = at_most 4294967295 manner.after kind.Delay parts.1
