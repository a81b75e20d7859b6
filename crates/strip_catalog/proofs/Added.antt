-- What a statement adds that isn't refused: its parts are small, and what is made of them is what the statement declares.
use Rattle.std.proofs.Common.{◌≡◌, ℕ, ◌≤◌, Bool, List, [], ◌∷◌, ◌++◌, length, Option, None, flat_map, sym, ap, ap₂, ◌∙◌, subst, arith}
use Rattle.std.specs.List.{enumerate_from}
use Rattle.std.proofs.lemmas.List.Elements.{All-from_recursion}
use Rattle.strip_value.specs.declared.rules.Function.{Function}
use Rattle.strip_value.specs.declared.rules.Rule.{Rule}
use Rattle.strip_value.specs.declared.streams.Stream.{Stream}
use Rattle.strip_value.specs.declared.tables.ColumnDef.{ColumnDef}
use Rattle.strip_value.specs.declared.tables.TableDef.{TableDef}
use Rattle.strip_ast.specs.declared.queries.QueryTree.{QueryTree}
use Rattle.strip_ast.specs.declared.rules.BoundTree.{BoundTree}
use Rattle.strip_ast.specs.declared.rules.EventTree.{EventTree}
use Rattle.strip_ast.specs.declared.rules.Manner.{Manner}
use Rattle.strip_ast.specs.declared.rules.StepTree.{StepTree}
use Rattle.strip_ast.specs.declared.statements.Statement.TheVariants as st
use Rattle.strip_setup.specs.Adds.{functions_with_rule, kept_by_steps, with_statement}
use Rattle.strip_setup.specs.Catalog.{Catalog}
use Rattle.strip_setup.specs.Resolve.{bindings_of, derived_of, function_at, function_of, in_rule, names_with, rule_of, stream_of, table_of}
use Rattle.strip_setup.specs.Small.{AskFew, HaveFewEntries, IsSmallScope, of_both}
use Rattle.strip_setup.proofs.Meant.{named_narrow}
use Rattle.strip_names.specs.Limits.{limits_in_bound}
use Rattle.strip_catalog.specs.declared.additions.Addition.TheVariants as addition
use Rattle.strip_catalog.specs.Calls.{IsAdded}
use Rattle.strip_catalog.specs.Laws.{IsSmall}
use Rattle.strip_catalog.specs.Refusals.{refusal}
use Rattle.strip_catalog.proofs.BoundSizes.{bindings_fewer, found_few, names_fewer, numbered_few}
use Rattle.strip_catalog.proofs.Fitting.{conditions_few, evaluate_few, rule_limits, within}

-- ---- what is added

pub table_is : (catalog : Catalog) (name : List ℕ) (columns : List ColumnDef) (key : List (List ℕ)) (limit : Option ℕ) (made : TableDef) → made ≡ table_of name columns key limit → IsAdded catalog (st.Table name columns key limit) (addition.Table made)
unfolding with_statement
table_is catalog name columns key limit made is = ap (λ (t : TableDef). record catalog { tables = catalog.tables ++ t ∷ [] }) (sym is)

pub stream_is : (catalog : Catalog) (tables : List TableDef) (name table : List ℕ) (marked : Bool) (made : Stream) → tables ≡ catalog.tables → made ≡ stream_of tables name table marked → IsAdded catalog (st.Stream name table marked) (addition.Stream made)
unfolding with_statement
stream_is catalog tables name table marked made tables_are is =
    let same = is ∙ ap (λ (ts : List TableDef). stream_of ts name table marked) tables_are in
    ap (λ (s : Stream). record catalog { streams = catalog.streams ++ s ∷ [] }) (sym same)

pub derived_is : (catalog : Catalog) (tables : List TableDef) (name : List ℕ) (query : QueryTree) (made : TableDef) → tables ≡ catalog.tables → made ≡ derived_of tables name query → IsAdded catalog (st.Derive name query) (addition.Table made)
unfolding with_statement
derived_is catalog tables name query made tables_are is =
    let same = is ∙ ap (λ (ts : List TableDef). derived_of ts name query) tables_are in
    ap (λ (t : TableDef). record catalog { tables = catalog.tables ++ t ∷ [] }) (sym same)

pub function_is : (catalog : Catalog) (tables : List TableDef) (name : List ℕ) (steps : List StepTree) (kept : List TableDef) (made : Function) → tables ≡ catalog.tables → made ≡ function_of tables name steps → kept ≡ kept_by_steps tables steps → IsAdded catalog (st.Function name steps) (addition.Function kept made)
unfolding with_statement
function_is catalog tables name steps kept made tables_are is kept_is =
    let same = is ∙ ap (λ (ts : List TableDef). function_of ts name steps) tables_are in
    let same_kept = kept_is ∙ ap (λ (ts : List TableDef). kept_by_steps ts steps) tables_are in
    ap₂ (λ (ts : List TableDef) (f : Function). record catalog { tables = ts; functions = catalog.functions ++ f ∷ [] }) (sym same_kept) (sym same)

pub rule_is : (catalog : Catalog) (tables : List TableDef) (functions : List Function) (name table : List ℕ) (events : List EventTree) (conditions evaluate : List BoundTree) (function : List ℕ) (manner : Manner) (bound : List Function) (made : Rule)
    → tables ≡ catalog.tables → functions ≡ catalog.functions
    → made ≡ rule_of (of_both tables functions) name table events conditions evaluate function manner
    → bound ≡ functions_with_rule (of_both tables functions) function table (conditions ++ evaluate)
    → IsAdded catalog (st.Rule name table events conditions evaluate function manner) (addition.Rule bound made)
unfolding with_statement
rule_is catalog tables functions name table events conditions evaluate function manner bound made tables_are functions_are is bound_is =
    let same = is ∙ ap₂ (λ (ts : List TableDef) (fs : List Function). rule_of (of_both ts fs) name table events conditions evaluate function manner) tables_are functions_are in
    let same_bound = bound_is ∙ ap₂ (λ (ts : List TableDef) (fs : List Function). functions_with_rule (of_both ts fs) function table (conditions ++ evaluate)) tables_are functions_are in
    ap₂ (λ (fs : List Function) (r : Rule). record catalog { functions = fs; rules = catalog.rules ++ r ∷ [] }) (sym same_bound) (sym same)

-- ---- rules are small

pub rule_small : (catalog : Catalog) (tables : List TableDef) (table : List ℕ) → IsSmall catalog → tables ≡ catalog.tables → IsSmallScope (in_rule tables table)
rule_small catalog tables table small tables_are =
    subst (λ (ts : List TableDef). IsSmallScope (in_rule ts table)) (sym tables_are)
    (record { tables = small.tables; narrow = small.narrow; changed = named_narrow catalog.tables table small.narrow })

-- a rule has so few names that the function's bound tables and its own are few together
pub names_few : (catalog : Catalog) (tables : List TableDef) (functions : List Function) (table function : List ℕ) (queries : List BoundTree) → IsSmall catalog → tables ≡ catalog.tables → functions ≡ catalog.functions
    → flat_map limits_in_bound (enumerate_from 1 queries) ≡ []
    → length (names_with (function_at (of_both tables functions) function).bound (bindings_of (in_rule tables table) queries)) ≤ 4096
names_few catalog tables functions table function queries small tables_are functions_are none =
    let rules = small.rules in
    let before = found_few (length catalog.rules) function catalog.functions small.bound in
    let bindings = bindings_of (in_rule catalog.tables table) queries in
    let names = names_fewer (function_at catalog function).bound bindings in
    let fewer = bindings_fewer (in_rule catalog.tables table) queries in
    let numbered = numbered_few 1 queries none (omega arith) in
    subst (λ (ts : List TableDef). length (names_with (function_at (of_both ts functions) function).bound (bindings_of (in_rule ts table) queries)) ≤ 4096) (sym tables_are)
    (subst (λ (fs : List Function). length (names_with (function_at (of_both catalog.tables fs) function).bound (bindings_of (in_rule catalog.tables table) queries)) ≤ 4096) (sym functions_are)
    (omega (arith, rules, before, names, fewer, numbered)))

module _ (catalog : Catalog) (name table : List ℕ) (events : List EventTree) (conditions evaluate : List BoundTree) (function : List ℕ) (manner : Manner) (e : refusal catalog (st.Rule name table events conditions evaluate function manner) ≡ None) where
  pub all_conditions_few : HaveFewEntries conditions
  all_conditions_few = All-from_recursion (λ (bound : BoundTree). AskFew bound.query) conditions (conditions_few catalog name table events conditions evaluate function manner (within catalog (st.Rule name table events conditions evaluate function manner) e))

  pub all_evaluate_few : HaveFewEntries evaluate
  all_evaluate_few = All-from_recursion (λ (bound : BoundTree). AskFew bound.query) evaluate (evaluate_few catalog name table events conditions evaluate function manner (within catalog (st.Rule name table events conditions evaluate function manner) e))

  pub none_passed : flat_map limits_in_bound (enumerate_from 1 (conditions ++ evaluate)) ≡ []
  none_passed = (rule_limits catalog name table events conditions evaluate function manner (within catalog (st.Rule name table events conditions evaluate function manner) e)).0
