-- How many bound tables a function has: at most 4 that its steps use, and 8 more for each rule.
use Rattle.std.proofs.Common.{◌≡◌, ℕ, zero, suc, ◌+◌, ◌*◌, ◌≤◌, Bool, true, false, cond, List, [], ◌∷◌, ◌++◌, map, set, length, Option, Some, None, flat_map, bytes_eq, unwrap_or, sym, subst, arith, length-append}
use Rattle.std.specs.List.{AllByRecursion, cons_option, enumerate_from}
use Rattle.std.proofs.lemmas.List.{length-map}
use Rattle.strip_value.specs.declared.rules.BoundDef.{BoundDef}
use Rattle.strip_value.specs.declared.rules.Function.{Function}
use Rattle.strip_value.proofs.Lists.{all_append, all_weaker}
use Rattle.strip_ast.specs.declared.rules.BoundTree.{BoundTree}
use Rattle.strip_ast.specs.declared.statements.Statement.{Statement}
use Rattle.strip_ast.specs.declared.statements.Statement.TheVariants as st
use Rattle.strip_setup.specs.declared.answers.Binding.{Binding}
use Rattle.strip_setup.specs.declared.errors.LimitKind.TheVariants as kind
use Rattle.strip_meaning.specs.Contents.{def_at}
use Rattle.strip_catalog.specs.Accepted.{AreAccepted, IsDeclared, declared}
use Rattle.strip_setup.specs.Adds.{with_bound, with_statement}
use Rattle.strip_setup.specs.Catalog.{Catalog, each_once, function_named, function_number, table_id}
use Rattle.strip_setup.specs.Maintain.{made_function}
use Rattle.strip_names.specs.Limits.{limits_in_bound, limits_in_query, more_than}
use Rattle.strip_setup.specs.Queries.{Scope}
use Rattle.strip_catalog.specs.Refusals.{refusal}
use Rattle.strip_setup.specs.Resolve.{binding_of, bindings_of, bound_name, bound_with, columns_bound, columns_so_far, function_at, function_of, in_rule, names_with, no_function}
use Rattle.strip_catalog.proofs.Causes.{at_most, both_empty}
use Rattle.strip_catalog.proofs.Fitting.{function_few, rule_limits, within}
use Rattle.strip_catalog.proofs.Named.{made_bound}
use Rattle.strip_setup.proofs.Once.{each_fewer, few_named}

-- ---- what a rule binds

-- a rule has at most 8 queries
pub numbered_few : (n : ℕ) (queries : List BoundTree) → flat_map limits_in_bound (enumerate_from n queries) ≡ [] → n ≤ 9 → n + length queries ≤ 9
numbered_few n [] e le = omega (arith, le)
numbered_few n (bound ∷ queries) e le =
    let both = both_empty (limits_in_bound (n, bound)) (flat_map limits_in_bound (enumerate_from (n + 1) queries)) e in
    let here = at_most 8 n kind.Queries (both_empty (more_than 8 kind.Queries n) (limits_in_query bound.query) both.0).0 in
    let rest = numbered_few (n + 1) queries both.1 (omega (arith, here)) in
    omega (arith, rest)

pub bindings_fewer : (scope : Scope) (queries : List BoundTree) → length (bindings_of scope queries) ≤ length queries
bindings_fewer scope [] = omega arith
bindings_fewer scope (bound ∷ queries) = by_binding (binding_of scope bound) (bindings_fewer scope queries)
  where
    by_binding : (o : Option Binding) → length (bindings_of scope queries) ≤ length queries → length (cons_option o (bindings_of scope queries)) ≤ suc (length queries)
    by_binding None rest = omega (arith, rest)
    by_binding (Some one) rest = omega (arith, rest)

pub names_fewer : (bound : List BoundDef) (bindings : List Binding) → length (names_with bound bindings) ≤ length bound + length bindings
names_fewer bound bindings =
    let all = each_fewer (map (λ (def : BoundDef). def.name) bound ++ map (λ (binding : Binding). binding.name) bindings) in
    let both = length-append (map (λ (def : BoundDef). def.name) bound) (map (λ (binding : Binding). binding.name) bindings) in
    let one = length-map bound (λ (def : BoundDef). def.name) in
    let two = length-map bindings (λ (binding : Binding). binding.name) in
    omega (arith, all, both, one, two)

-- ---- functions

abbrev pub BindsFew : ℕ → Function → Type 0
BindsFew rules f = length f.bound ≤ 4 + 8 * rules

abbrev pub BindFew : ℕ → List Function → Type 0
BindFew rules functions = AllByRecursion (BindsFew rules) functions

one_rule_more : (n : ℕ) (functions : List Function) → BindFew n functions → BindFew (n + 1) functions
one_rule_more n functions few = all_weaker (BindsFew n) (BindsFew (n + 1)) (λ f le. omega (arith, le)) functions few

pub found_few : (n : ℕ) (name : List ℕ) (functions : List Function) → BindFew n functions → BindsFew n (unwrap_or (function_named functions name) no_function)
found_few n name [] few = omega arith
found_few n name (f ∷ functions) few = by_test (bytes_eq f.name name) (found_few n name functions few.1)
  where
    by_test : (b : Bool) → BindsFew n (unwrap_or (function_named functions name) no_function) → BindsFew n (unwrap_or (cond b (Some f) (function_named functions name)) no_function)
    by_test true rest = few.0
    by_test false rest = rest

set_few : (n : ℕ) (functions : List Function) (k : ℕ) (f : Function) → BindFew n functions → BindsFew n f → BindFew n (set functions k f)
set_few n [] k f few here = tt
set_few n (g ∷ functions) zero f few here = (here, few.1)
set_few n (g ∷ functions) (suc k) f few here = (few.0, set_few n functions k f few.1 here)

bound_few_by : (n : ℕ) (functions : List Function) (number : Option ℕ) (f : Function) (bound : List BoundDef) → BindFew n functions → length bound ≤ 4 + 8 * n → BindFew n (with_bound functions number f bound)
bound_few_by n functions None f bound few le = few
bound_few_by n functions (Some k) f bound few le = set_few n functions k (record f { bound = bound }) few le

with_few : (catalog : Catalog) (statement : Statement) → refusal catalog statement ≡ None → BindFew (length catalog.rules) catalog.functions → BindFew (length (with_statement catalog statement).rules) (with_statement catalog statement).functions
unfolding with_statement
with_few catalog (st.Table name columns key rows) e few = few
with_few catalog (st.Stream name table marked) e few = few
with_few catalog (st.Derive name query) e few = few
with_few catalog (st.Function name steps) e few =
    let f = function_of catalog.tables name steps in
    let names = each_once (map bound_name steps) in
    let empty : List ℕ → BoundDef = λ bound. record { name = bound; columns = [] } in
    let len = length-map names empty in
    let steps_few = function_few catalog name steps (within catalog (st.Function name steps) e) in
    let fewer = few_named steps in
    all_append (BindsFew (length catalog.rules)) catalog.functions (f ∷ []) few (omega (arith, len, steps_few, fewer), tt)
with_few catalog (st.Rule name table events conditions evaluate function manner) e few =
    let f = function_at catalog function in
    let bindings = bindings_of (in_rule catalog.tables table) (conditions ++ evaluate) in
    let n = length catalog.rules in
    let before = found_few n function catalog.functions few in
    let names = names_fewer f.bound bindings in
    let fewer = bindings_fewer (in_rule catalog.tables table) (conditions ++ evaluate) in
    let queries = numbered_few 1 (conditions ++ evaluate) (rule_limits catalog name table events conditions evaluate function manner (within catalog (st.Rule name table events conditions evaluate function manner) e)).0 (omega arith) in
    let with_columns : List ℕ → BoundDef = λ one. record { name = one; columns = columns_bound bindings one (columns_so_far f.bound one) } in
    let len = length-map (names_with f.bound bindings) with_columns in
    subst (λ m. BindFew m (with_bound catalog.functions (function_number catalog.functions function) f (bound_with f.bound bindings))) (sym (length-append catalog.rules (_ ∷ [])))
    (bound_few_by (n + 1) catalog.functions (function_number catalog.functions function) f (bound_with f.bound bindings) (one_rule_more n catalog.functions few) (omega (arith, before, names, fewer, queries, len)))
with_few catalog (st.Maintain name how manner) e few =
    let n = length catalog.rules in
    let id = table_id catalog.tables name in
    let f = made_function how (def_at catalog.tables id) id in
    let one = made_bound how (def_at catalog.tables id) id in
    subst (λ m. BindFew m (catalog.functions ++ f ∷ [])) (sym (length-append catalog.rules (_ ∷ [])))
    (all_append (BindsFew (n + 1)) catalog.functions (f ∷ []) (one_rule_more n catalog.functions few) (omega (arith, one), tt))
with_few catalog st.Ready e few = few
with_few catalog (st.At moment) e few = few
with_few catalog (st.Deed caller deed) e few = few

all_few : (statements : List Statement) → AreAccepted statements → BindFew (length (declared statements).rules) (declared statements).functions
all_few [] accepted = tt
all_few (statement ∷ earlier) accepted = with_few (declared earlier) statement accepted.2 (all_few earlier accepted.0)

-- each function of a catalog has so few bound tables
pub functions_bind_few : (catalog : Catalog) → IsDeclared catalog → AllByRecursion (λ f. length f.bound ≤ 4 + 8 * length catalog.rules) catalog.functions
functions_bind_few catalog is = subst (λ c. BindFew (length c.rules) c.functions) (sym is.is) (all_few is.statements is.accepted)

pub function_binds_few : (catalog : Catalog) (name : List ℕ) → IsDeclared catalog → length (function_at catalog name).bound ≤ 4 + 8 * length catalog.rules
function_binds_few catalog name is = found_few (length catalog.rules) name catalog.functions (functions_bind_few catalog is)
