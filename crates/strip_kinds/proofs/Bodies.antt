-- What the queries of a rule are refused for, and then what uses their bindings.
use Rattle.std.proofs.Common.{◌≡◌, ◌++◌, ℕ, Bool, List, filter, None, option_map, Result, Err, sym, ap, ◌∙◌, flat_map}
use Rattle.std.proofs.lemmas.List.Elements.{filter-append}
use Rattle.strip_value.specs.declared.tables.TableDef.{TableDef}
use Rattle.strip_ast.specs.declared.rules.BoundTree.{BoundTree}
use Rattle.strip_setup.specs.declared.answers.Binding.{Binding}
use Rattle.strip_setup.specs.declared.errors.SetupError.{SetupError}
use Rattle.strip_setup.specs.Catalog.{first}
use Rattle.strip_setup.specs.Checks.{Checks}
use Rattle.strip_setup.specs.Queries.{Scope}
use Rattle.strip_setup.specs.Resolve.{bindings_of, in_rule}
use Rattle.strip_setup.proofs.Filters.{filter-flat_map}
use Rattle.strip_setup.proofs.Firsts.{carried, passed-append, refused-append}

-- where the queries of a rule stand, as its check finds it
pub place_is : (scope : Scope) (defs tables : List TableDef) (table : List ℕ) → scope ≡ in_rule defs table → defs ≡ tables → scope ≡ in_rule tables table
place_is scope defs tables table is defs_are = is ∙ ap (λ of. in_rule of table) defs_are

-- a refusal for a query refuses the rule
pub bodies_refused : {B : Type 0} (f : B → SetupError) (of : Scope → BoundTree → List B) (scope there : Scope) (queries : List BoundTree) (uses : List B) (e : SetupError) → scope ≡ there → Checks (option_map f (first (flat_map (of scope) queries))) (Err e) → Checks (option_map f (first (flat_map (of there) queries ++ uses))) (Err e)
bodies_refused f of scope there queries uses e is checks =
    refused-append f (flat_map (of there) queries) uses e
    (carried _ _ (Err e) (ap (λ at. option_map f (first (flat_map (of at) queries))) (sym is)) checks)

-- where none is refused, what uses the bindings decides
pub bodies_passed : {B : Type 0} (f : B → SetupError) (of : Scope → BoundTree → List B) (uses : List Binding → List B) (scope there : Scope) (queries : List BoundTree) (bindings : List Binding) (r : Result Unit SetupError) → scope ≡ there → bindings ≡ bindings_of scope queries → option_map f (first (flat_map (of scope) queries)) ≡ None → Checks (option_map f (first (uses bindings))) r → Checks (option_map f (first (flat_map (of there) queries ++ uses (bindings_of there queries)))) r
bodies_passed f of uses scope there queries bindings r is bindings_are none checks =
    passed-append f (flat_map (of there) queries) (uses (bindings_of there queries)) r
    (ap (λ at. option_map f (first (flat_map (of at) queries))) (sym is) ∙ none)
    (carried _ _ r (ap (λ bound. option_map f (first (uses bound))) (sym (bindings_are ∙ ap (λ at. bindings_of at queries) is))) checks)

-- what passes a test, of the queries and then of what uses their bindings
pub bodies-filter : (test : ℕ → Bool) (of : BoundTree → List ℕ) (queries : List BoundTree) (uses : List ℕ) → filter test (flat_map of queries ++ uses) ≡ flat_map (λ bound. filter test (of bound)) queries ++ filter test uses
bodies-filter test of queries uses =
    filter-append test (flat_map of queries) uses ∙ ap (λ xs. xs ++ filter test uses) (filter-flat_map test of queries)

-- the uses alone
pub uses_checked : {B : Type 0} (f : B → SetupError) (uses : List Binding → List B) (scope there : Scope) (queries : List BoundTree) (bindings : List Binding) (r : Result Unit SetupError) → scope ≡ there → bindings ≡ bindings_of scope queries → Checks (option_map f (first (uses bindings))) r → Checks (option_map f (first (uses (bindings_of there queries)))) r
uses_checked f uses scope there queries bindings r is bindings_are checks =
    carried _ _ r (ap (λ bound. option_map f (first (uses bound))) (sym (bindings_are ∙ ap (λ at. bindings_of at queries) is))) checks
