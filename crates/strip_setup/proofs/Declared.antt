-- What the statements of derived tables and of rules declare.
use Rattle.std.proofs.Common.{◌≡◌, ℕ, zero, suc, ◌+◌, ◌<◌, ◌≤◌, Bool, true, false, cond, List, [], ◌∷◌, ◌++◌, length, get_or, find, Option, Some, None, unwrap_or, bytes_eq, refl, sym, ap, ap₂, ◌∙◌, subst, arith, set, Result, Ok, Err, IfOk}
use Rattle.std.specs.List.{range_with_len}
use Rattle.std.specs.declared.alloc.AllocError.{AllocError}
use Rattle.std.proofs.lemmas.List.Elements.{filter_map-append}
use Rattle.std.proofs.lemmas.List.FromFn.{length-range_with_len}
use Rattle.std.proofs.lemmas.List.Quantifiers.{position-Some}
use Rattle.strip_value.specs.declared.queries.Query.{Query}
use Rattle.strip_value.specs.declared.rules.BoundDef.{BoundDef}
use Rattle.strip_value.specs.declared.rules.Function.{Function}
use Rattle.strip_value.specs.declared.tables.ColumnDef.{ColumnDef}
use Rattle.strip_value.specs.declared.tables.TableDef.{TableDef}
use Rattle.strip_ast.specs.declared.queries.ColTree.{ColTree}
use Rattle.strip_ast.specs.declared.queries.QueryTree.{QueryTree}
use Rattle.strip_ast.specs.declared.rules.BoundTree.{BoundTree}
use Rattle.strip_setup.specs.declared.answers.Answer.{Answer}
use Rattle.strip_setup.specs.declared.answers.Binding.{Binding}
use Rattle.strip_setup.specs.Adds.{functions_with_rule, with_bound}
use Rattle.strip_setup.specs.Catalog.{function_named, function_number}
use Rattle.strip_setup.specs.Queries.{Scope, answers_of, as_columns, query_of}
use Rattle.strip_setup.specs.Resolve.{binding_of, bindings_of, bound_with, derived_of, group_numbers, in_rule, no_function, outside_rules}
use Rattle.strip_setup.specs.Small.{of_both, rebound}

-- one number more
range_more : (a n : ℕ) → range_with_len a (n + 1) ≡ range_with_len a n ++ (a + n) ∷ []
range_more a zero = let same : a ≡ a + 0 = omega arith in ap (λ m. m ∷ []) same
range_more a (suc n) =
    let next : suc n + 1 ≡ suc (n + 1) = omega arith in
    let same : a + 1 + n ≡ a + suc n = omega arith in
    ap (range_with_len a) next ∙ ap (λ xs. a ∷ xs) (range_more (a + 1) n ∙ ap (λ m. range_with_len (a + 1) n ++ m ∷ []) same)

pub number_more : (n : ℕ) → range_with_len 0 (n + 1) ≡ range_with_len 0 n ++ n ∷ []
number_more n = let same : 0 + n ≡ n = omega arith in range_more 0 n ∙ ap (λ m. range_with_len 0 n ++ m ∷ []) same

-- what the queries of two lists bind
pub bindings_append : (scope : Scope) (xs ys : List BoundTree) → bindings_of scope (xs ++ ys) ≡ bindings_of scope xs ++ bindings_of scope ys
bindings_append scope xs ys = filter_map-append (binding_of scope) xs ys

pub both_bound : (scope : Scope) (xs ys : List BoundTree) (none first both : List Binding) → none ≡ [] → first ≡ none ++ bindings_of scope xs → both ≡ first ++ bindings_of scope ys → both ≡ bindings_of scope (xs ++ ys)
both_bound scope xs ys none first both empty first_is both_is =
    both_is ∙ ap (λ made. made ++ bindings_of scope ys) (first_is ∙ ap (λ made. made ++ bindings_of scope xs) empty) ∙ sym (bindings_append scope xs ys)

-- as many numbers as there are columns
pub group_short : (group : Option (List ColTree)) (columns : List ColTree) (n : ℕ) → group ≡ Some columns → n ≡ length columns → length (group_numbers group) ≤ 16 → n ≤ 16
group_short group columns n is count short =
    let few : length (range_with_len 0 (length columns)) ≤ 16 = subst (λ g. length (group_numbers g) ≤ 16) is short in
    let len = length-range_with_len 0 (length columns) in
    omega (arith, few, len, count)

abbrev derived_made : List ℕ → List ColumnDef → List ℕ → Query → TableDef
derived_made name columns key query = record {
  name = name;
  columns = columns;
  key = key;
  limit = None;
  query = Some query;
  kept = None;
  declared = false;
}

pub derived_is : (tables : List TableDef) (name own : List ℕ) (tree : QueryTree) (scope : Scope) (answers slice : List Answer) (columns : List ColumnDef) (key : List ℕ) (query : Query)
    → own ≡ name → scope ≡ outside_rules tables → answers ≡ answers_of scope tree → slice ≡ answers → columns ≡ as_columns slice → key ≡ group_numbers tree.group → query ≡ query_of scope tree
    → derived_made own columns key query ≡ derived_of tables name tree
derived_is tables name own tree scope answers slice columns key query own_is scope_is answers_are slice_is columns_are key_is query_is =
    rw (own_is, columns_are, slice_is, answers_are, key_is, query_is, scope_is) refl

-- what is found stands at its number
find_at : {A : Type 0} (p : A → Bool) (xs : List A) (n : ℕ) (d : A) → n < length xs → p (get_or xs n d) ≡ true → ((k : ℕ) → k < n → p (get_or xs k d) ≡ false) → find p xs ≡ Some (get_or xs n d)
find_at p [] n d within here before = absurd (omega arith)
find_at p (x ∷ xs) zero d within here before = ap (λ b. cond b (Some x) (find p xs)) here
find_at p (x ∷ xs) (suc n) d within here before =
    ap (λ b. cond b (Some x) (find p xs)) (before 0 (omega arith))
    ∙ find_at p xs n d (omega arith) here (λ k less. before (suc k) (omega (arith, less)))

pub function_found : (functions : List Function) (name : List ℕ) (n : ℕ) → function_number functions name ≡ Some n → get_or functions n no_function ≡ unwrap_or (function_named functions name) no_function
function_found functions name n is =
    let at = position-Some (λ (function : Function). bytes_eq function.name name) functions n no_function is in
    let found = find_at (λ (function : Function). bytes_eq function.name name) functions n no_function at.0 at.1 at.2 in
    sym (ap (λ f. unwrap_or f no_function) found)

-- the functions with a rule, by the number of its function
functions_are : (tables : List TableDef) (functions : List Function) (function table : List ℕ) (queries : List BoundTree) (n : ℕ) (bound : List BoundDef) → function_number functions function ≡ Some n
    → bound ≡ bound_with (unwrap_or (function_named functions function) no_function).bound (bindings_of (in_rule tables table) queries)
    → rebound functions n bound ≡ functions_with_rule (of_both tables functions) function table queries
functions_are tables functions function table queries n bound is bound_is =
    let f = unwrap_or (function_named functions function) no_function in
    let new = bound_with f.bound (bindings_of (in_rule tables table) queries) in
    ap₂ (λ (g : Function) b. set functions n (record g { bound = b })) (function_found functions function n is) bound_is
    ∙ sym (ap (λ k. with_bound functions k f new) is)

pub with_rule_is : (tables : List TableDef) (functions : List Function) (function table : List ℕ) (queries : List BoundTree) (number : Option ℕ) (n : ℕ) (scope : Scope) (bindings slice : List Binding) (before bound : List BoundDef) (made : Result (List Function) AllocError)
    → number ≡ function_number functions function → number ≡ Some n → scope ≡ in_rule tables table → bindings ≡ bindings_of scope queries → slice ≡ bindings
    → before ≡ (unwrap_or (function_named functions function) no_function).bound → bound ≡ bound_with before slice
    → IfOk made (λ fs. fs ≡ rebound functions n bound) → IfOk made (λ fs. fs ≡ functions_with_rule (of_both tables functions) function table queries)
with_rule_is tables functions function table queries number n scope bindings slice before bound (Err e) number_is some scope_is bindings_are slice_is before_is bound_is made_is = tt
with_rule_is tables functions function table queries number n scope bindings slice before bound (Ok fs) number_is some scope_is bindings_are slice_is before_is bound_is made_is =
    let all : slice ≡ bindings_of (in_rule tables table) queries = slice_is ∙ bindings_are ∙ ap (λ s. bindings_of s queries) scope_is in
    made_is ∙ functions_are tables functions function table queries n bound (sym number_is ∙ some) (bound_is ∙ ap₂ bound_with before_is all)
