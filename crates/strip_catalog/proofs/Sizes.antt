-- How large a catalog is: what statements declare of which none is refused.
use Rattle.std.proofs.Common.{◌≡◌, ℕ, zero, suc, true, set, ◌+◌, ◌<◌, ◌≤◌, List, [], ◌∷◌, ◌++◌, length, Option, Some, None, refl, sym, ap, ◌∙◌, subst, arith, length-append, flat_map}
use Rattle.std.specs.List.{enumerate_from}
use Rattle.std.proofs.lemmas.List.{length-map, length-set}
use Rattle.strip_value.specs.declared.rules.BoundDef.{BoundDef}
use Rattle.strip_value.specs.declared.rules.Function.{Function}
use Rattle.strip_value.specs.declared.tables.By.{By}
use Rattle.strip_value.specs.declared.tables.TableDef.{TableDef}
use Rattle.strip_value.proofs.Lists.{all_append}
use Rattle.strip_ast.specs.declared.queries.QueryTree.{QueryTree}
use Rattle.strip_ast.specs.declared.rules.StepTree.{StepTree}
use Rattle.strip_ast.specs.declared.statements.Statement.{Statement}
use Rattle.strip_ast.specs.declared.statements.Statement.TheVariants as st
use Rattle.strip_setup.specs.declared.errors.LimitKind.TheVariants as kind
use Rattle.strip_meaning.specs.Contents.{def_at}
use Rattle.strip_catalog.specs.Accepted.{AreAccepted, declared, IsDeclared}
use Rattle.strip_setup.specs.Small.{AreNarrow}
use Rattle.strip_setup.specs.Adds.{kept_by_steps, with_bound, with_statement}
use Rattle.strip_setup.specs.Catalog.{Catalog, function_number, table_id}
use Rattle.strip_setup.specs.Maintain.{declared_kept, made_function, made_rule, manner_of}
use Rattle.strip_names.specs.Limits.{limit_of_rows, limits_in_bound, limits_in_query, more_than, most_entries, one_more_than}
use Rattle.strip_setup.specs.Queries.{answer_of, answers_of, entries_of}
use Rattle.strip_catalog.specs.Laws.{CatalogsAreSmall}
use Rattle.strip_setup.specs.Resolve.{bindings_of, bound_with, derived_of, function_at, function_of, in_rule, outside_rules, rule_of, stream_of, table_of}
use Rattle.strip_catalog.specs.Refusals.{refusal}
use Rattle.strip_catalog.proofs.BoundSizes.{functions_bind_few}
use Rattle.strip_catalog.proofs.Causes.{at_most, both_empty, fewer, maintain_limits, no_limit}

-- ---- columns

pub length-enumerate : {A : Type 0} (n : ℕ) (xs : List A) → length (enumerate_from n xs) ≡ length xs
length-enumerate n [] = refl
length-enumerate n (x ∷ xs) = ap suc (length-enumerate (n + 1) xs)

-- a derived table has a column for each item
derived_columns : (tables : List TableDef) (name : List ℕ) (query : QueryTree) → length (derived_of tables name query).columns ≡ length query.items
derived_columns tables name query =
    let answers = answers_of (outside_rules tables) query in
    length-map answers (λ answer. record { name = answer.name; kind = answer.kind })
    ∙ length-map (enumerate_from 1 query.items) (answer_of (entries_of (outside_rules tables) query))
    ∙ length-enumerate 1 query.items

kept_narrow : (tables : List TableDef) (steps : List StepTree) → AreNarrow tables → AreNarrow (kept_by_steps tables steps)
kept_narrow [] steps narrow = tt
kept_narrow (table ∷ tables) steps narrow = (narrow.0, kept_narrow tables steps narrow.1)

one_more : (tables : List TableDef) (table : TableDef) → AreNarrow tables → length table.columns ≤ 16 → AreNarrow (tables ++ table ∷ [])
one_more tables table narrow here = all_append (λ (t : TableDef). length t.columns ≤ 16) tables (table ∷ []) narrow (here, tt)

-- the table of a number is narrow, and so are the tables with a narrow one in its place
found_narrow : (tables : List TableDef) (id : ℕ) → AreNarrow tables → length (def_at tables id).columns ≤ 16
found_narrow [] id narrow = omega arith
found_narrow (table ∷ tables) zero narrow = narrow.0
found_narrow (table ∷ tables) (suc id) narrow = found_narrow tables id narrow.1

set_narrow : (tables : List TableDef) (id : ℕ) (table : TableDef) → AreNarrow tables → length table.columns ≤ 16 → AreNarrow (set tables id table)
set_narrow [] id table narrow here = tt
set_narrow (other ∷ tables) zero table narrow here = (here, narrow.1)
set_narrow (other ∷ tables) (suc id) table narrow here = (narrow.0, set_narrow tables id table narrow.1 here)

declared_narrow : (tables : List TableDef) (id : ℕ) (how : By) → AreNarrow tables → AreNarrow (declared_kept tables id how)
declared_narrow tables id how narrow = set_narrow tables id (record (def_at tables id) { kept = Some how; declared = true }) narrow (found_narrow tables id narrow)

with_narrow : (catalog : Catalog) (statement : Statement) → refusal catalog statement ≡ None → AreNarrow catalog.tables → AreNarrow (with_statement catalog statement).tables
unfolding with_statement
with_narrow catalog (st.Table name columns key rows) e narrow =
    let none = no_limit catalog (st.Table name columns key rows) e in
    let behind = (both_empty (one_more_than 64 kind.Tables (length catalog.tables)) (more_than 16 kind.Columns (length columns) ++ limit_of_rows rows) none).1 in
    one_more catalog.tables (table_of name columns key rows) narrow (at_most 16 (length columns) kind.Columns (both_empty (more_than 16 kind.Columns (length columns)) (limit_of_rows rows) behind).0)
with_narrow catalog (st.Stream name table marked) e narrow = narrow
with_narrow catalog (st.Derive name query) e narrow =
    let none = no_limit catalog (st.Derive name query) e in
    let behind = (both_empty (one_more_than 64 kind.Tables (length catalog.tables)) (limits_in_query query) none).1 in
    let few = at_most 16 (length query.items) kind.Columns (both_empty (more_than 16 kind.Columns (length query.items)) (more_than (most_entries query.group) kind.Entries (length query.entries)) behind).0 in
    one_more catalog.tables (derived_of catalog.tables name query) narrow (subst (λ n. n ≤ 16) (sym (derived_columns catalog.tables name query)) few)
with_narrow catalog (st.Function name steps) e narrow = kept_narrow catalog.tables steps narrow
with_narrow catalog (st.Rule name table events conditions evaluate function manner) e narrow = narrow
with_narrow catalog (st.Maintain name how manner) e narrow = declared_narrow catalog.tables (table_id catalog.tables name) how narrow
with_narrow catalog st.Ready e narrow = narrow
with_narrow catalog (st.At moment) e narrow = narrow
with_narrow catalog (st.Deed caller deed) e narrow = narrow

all_narrow : (statements : List Statement) → AreAccepted statements → AreNarrow (declared statements).tables
all_narrow [] accepted = tt
all_narrow (statement ∷ earlier) accepted = with_narrow (declared earlier) statement accepted.2 (all_narrow earlier accepted.0)

pub tables_narrow : (catalog : Catalog) → IsDeclared catalog → AreNarrow catalog.tables
tables_narrow catalog is = subst (λ c. AreNarrow c.tables) (sym is.is) (all_narrow is.statements is.accepted)

-- ---- numbers

pub record AreMost (catalog : Catalog) : Type 0 where
  pub tables : length catalog.tables ≤ 64
  pub streams : length catalog.streams ≤ 64
  pub functions : length catalog.functions ≤ 64
  pub rules : length catalog.rules ≤ 128

one_behind : {A : Type 0} (most : ℕ) (xs : List A) (x : A) → length xs < most → length (xs ++ x ∷ []) ≤ most
one_behind most xs x lt = let len = length-append xs (x ∷ []) in omega (arith, len, lt)

length-kept : (tables : List TableDef) (steps : List StepTree) → length (kept_by_steps tables steps) ≡ length tables
length-kept [] steps = refl
length-kept (table ∷ tables) steps = ap suc (length-kept tables steps)

length-bound : (functions : List Function) (number : Option ℕ) (function : Function) (bound : List BoundDef) → length (with_bound functions number function bound) ≡ length functions
length-bound functions None function bound = refl
length-bound functions (Some number) function bound = length-set functions number (record function { bound = bound })

with_most : (catalog : Catalog) (statement : Statement) → refusal catalog statement ≡ None → AreMost catalog → AreMost (with_statement catalog statement)
unfolding with_statement
with_most catalog (st.Table name columns key rows) e most =
    let none = no_limit catalog (st.Table name columns key rows) e in
    let lt = fewer 64 (length catalog.tables) kind.Tables (both_empty (one_more_than 64 kind.Tables (length catalog.tables)) (more_than 16 kind.Columns (length columns) ++ limit_of_rows rows) none).0 in
    record { tables = one_behind 64 catalog.tables (table_of name columns key rows) lt; streams = most.streams; functions = most.functions; rules = most.rules }
with_most catalog (st.Stream name table marked) e most =
    let lt = fewer 64 (length catalog.streams) kind.Streams (no_limit catalog (st.Stream name table marked) e) in
    record { tables = most.tables; streams = one_behind 64 catalog.streams (stream_of catalog.tables name table marked) lt; functions = most.functions; rules = most.rules }
with_most catalog (st.Derive name query) e most =
    let none = no_limit catalog (st.Derive name query) e in
    let lt = fewer 64 (length catalog.tables) kind.Tables (both_empty (one_more_than 64 kind.Tables (length catalog.tables)) (limits_in_query query) none).0 in
    record { tables = one_behind 64 catalog.tables (derived_of catalog.tables name query) lt; streams = most.streams; functions = most.functions; rules = most.rules }
with_most catalog (st.Function name steps) e most =
    let none = no_limit catalog (st.Function name steps) e in
    let lt = fewer 64 (length catalog.functions) kind.Functions (both_empty (one_more_than 64 kind.Functions (length catalog.functions)) (more_than 4 kind.Steps (length steps)) none).0 in
    record {
      tables = subst (λ n. n ≤ 64) (sym (length-kept catalog.tables steps)) most.tables;
      streams = most.streams;
      functions = one_behind 64 catalog.functions (function_of catalog.tables name steps) lt;
      rules = most.rules;
    }
with_most catalog (st.Rule name table events conditions evaluate function manner) e most =
    let none = no_limit catalog (st.Rule name table events conditions evaluate function manner) e in
    let lt = fewer 128 (length catalog.rules) kind.Rules (both_empty (one_more_than 128 kind.Rules (length catalog.rules)) (flat_map limits_in_bound (enumerate_from 1 (conditions ++ evaluate)) ++ more_than 4294967295 kind.Delay manner.after) none).0 in
    let f = function_at catalog function in
    let bound = bound_with f.bound (bindings_of (in_rule catalog.tables table) (conditions ++ evaluate)) in
    record {
      tables = most.tables;
      streams = most.streams;
      functions = subst (λ n. n ≤ 64) (sym (length-bound catalog.functions (function_number catalog.functions function) f bound)) most.functions;
      rules = one_behind 128 catalog.rules (rule_of catalog name table events conditions evaluate function manner) lt;
    }
with_most catalog (st.Maintain name how manner) e most =
    let id = table_id catalog.tables name in
    let table = def_at catalog.tables id in
    let none = maintain_limits catalog name how manner e in
    let behind = both_empty (one_more_than 64 kind.Functions (length catalog.functions)) (one_more_than 128 kind.Rules (length catalog.rules) ++ more_than 4294967295 kind.Delay manner.after) none in
    let fewer_functions = fewer 64 (length catalog.functions) kind.Functions behind.0 in
    let fewer_rules = fewer 128 (length catalog.rules) kind.Rules (both_empty (one_more_than 128 kind.Rules (length catalog.rules)) (more_than 4294967295 kind.Delay manner.after) behind.1).0 in
    record {
      tables = subst (λ n. n ≤ 64) (sym (length-set catalog.tables id (record table { kept = Some how; declared = true }))) most.tables;
      streams = most.streams;
      functions = one_behind 64 catalog.functions (made_function how table id) fewer_functions;
      rules = one_behind 128 catalog.rules (made_rule how table (length catalog.functions) (manner_of manner)) fewer_rules;
    }
with_most catalog st.Ready e most = record { tables = most.tables; streams = most.streams; functions = most.functions; rules = most.rules }
with_most catalog (st.At moment) e most = most
with_most catalog (st.Deed caller deed) e most = most

all_most : (statements : List Statement) → AreAccepted statements → AreMost (declared statements)
all_most [] accepted = record { tables = omega arith; streams = omega arith; functions = omega arith; rules = omega arith }
all_most (statement ∷ earlier) accepted = with_most (declared earlier) statement accepted.2 (all_most earlier accepted.0)

pub small : CatalogsAreSmall
small catalog is =
    let most = subst AreMost (sym is.is) (all_most is.statements is.accepted) in
    record { tables = most.tables; streams = most.streams; functions = most.functions; rules = most.rules; narrow = tables_narrow catalog is; bound = functions_bind_few catalog is }
