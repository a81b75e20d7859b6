-- Why a statement is refused, by the parts of a rule, and by three groups of causes.
use Rattle.std.proofs.Common.{◌≡◌, ℕ, Bool, List, [], ◌∷◌, ◌++◌, Option, Some, None, Result, Err, refl, sym, ap, ◌∙◌, subst}
use Rattle.std.specs.Option.{option_or}
use Rattle.std.proofs.lemmas.List.Elements.{All-from_recursion}
use Rattle.strip_value.specs.declared.tables.TableDef.{TableDef}
use Rattle.strip_ast.specs.declared.deeds.Deed.{Deed}
use Rattle.strip_ast.specs.declared.deeds.Deed.TheVariants as deed
use Rattle.strip_ast.specs.declared.queries.QueryTree.{QueryTree}
use Rattle.strip_ast.specs.declared.rules.BoundTree.{BoundTree}
use Rattle.strip_ast.specs.declared.rules.EventTree.{EventTree}
use Rattle.strip_ast.specs.declared.rules.Manner.{Manner}
use Rattle.strip_ast.specs.declared.statements.Statement.{Statement}
use Rattle.strip_ast.specs.declared.statements.Statement.TheVariants as st
use Rattle.strip_setup.specs.declared.errors.SetupError.{SetupError}
use Rattle.strip_setup.specs.declared.errors.SetupError.TheVariants.{BoundDiffers}
use Rattle.strip_setup.specs.Catalog.{Catalog, refused_if}
use Rattle.strip_setup.specs.Checks.{Checks}
use Rattle.strip_setup.specs.Queries.{Scope, entries_of, query_of}
use Rattle.strip_setup.specs.Resolve.{bindings_of, in_rule, outside_rules}
use Rattle.strip_setup.specs.Small.{AreFew, AskFew, HaveFewEntries, IsSmallScope}
use Rattle.strip_setup.proofs.Firsts.{carried, passed, refused}
use Rattle.strip_setup.proofs.Meant.{query_few, rule_changes}
use Rattle.strip_names.specs.Basics.{closed, no_key, reads_derived}
use Rattle.strip_names.specs.Exists.{exists}
use Rattle.strip_names.specs.Grouped.{has_misplaced, is_ungrouped, not_grouped}
use Rattle.strip_names.specs.Limits.{limit}
use Rattle.strip_names.specs.Unknown.{unknown}
use Rattle.strip_kinds.specs.Bound.{bound_differs, differs, not_bound}
use Rattle.strip_kinds.specs.Mismatch.{kind_mismatch}
use Rattle.strip_kinds.specs.Width.{too_wide}
use Rattle.strip_catalog.specs.Laws.{IsSmall}
use Rattle.strip_catalog.specs.Refusals.{first_cause, refusal}
use Rattle.strip_catalog.specs.Calls.{IsDeclaration}
use Rattle.strip_catalog.proofs.Causes.{declaration_refused}
use Rattle.strip_catalog.proofs.Fitting.{conditions_few, derive_few, evaluate_few}

-- ---- where queries stand

-- outside rules
pub scope_is : (catalog : Catalog) (tables : List TableDef) (scope : Scope) → tables ≡ catalog.tables → scope ≡ outside_rules tables → outside_rules catalog.tables ≡ scope
scope_is catalog tables scope tables_are is = sym (is ∙ ap outside_rules tables_are)

-- in a rule on a table all is small where the catalog is
pub rule_small : (catalog : Catalog) (table : List ℕ) → IsSmall catalog → IsSmallScope (in_rule catalog.tables table)
rule_small catalog table small = record { tables = small.tables; narrow = small.narrow; changed = rule_changes catalog.tables table small.narrow }

-- the same, where the tables are the catalog's
pub rule_small_of : (catalog : Catalog) (tables : List TableDef) (table : List ℕ) → tables ≡ catalog.tables → IsSmall catalog → IsSmallScope (in_rule tables table)
rule_small_of catalog tables table is small = subst (λ of. IsSmallScope (in_rule of table)) (sym is) (rule_small catalog table small)

-- ---- derived tables and questions

-- items and groups of an act that asks a query
pub select_ungrouped : (catalog : Catalog) (s : Statement) (caller : Option ℕ) (d : Deed) (query : QueryTree) (scope : Scope) → s ≡ st.Deed caller d → d ≡ deed.Select query → outside_rules catalog.tables ≡ scope → is_ungrouped catalog s ≡ has_misplaced (query_of scope query)
select_ungrouped catalog s caller d query scope is d_is there =
    ap (is_ungrouped catalog) (is ∙ ap (st.Deed caller) d_is) ∙ ap (λ of. has_misplaced (query_of of query)) there

-- the entries of a derived table's query are few
pub derive_entries : (catalog : Catalog) (s : Statement) (name : List ℕ) (query : QueryTree) (scope : Scope) → s ≡ st.Derive name query → outside_rules catalog.tables ≡ scope → IsSmall catalog → limit catalog s ≡ None → AreFew (entries_of scope query)
derive_entries catalog s name query scope is there small none =
    let few = derive_few catalog name query (subst (λ of. limit catalog of ≡ None) is none) in
    subst (λ of. AreFew (entries_of of query)) there (query_few (outside_rules catalog.tables) query few small.narrow tt)

-- ---- rules

module _ (s : Statement) (name table : List ℕ) (events : List EventTree) (conditions evaluate : List BoundTree) (function : List ℕ) (manner : Manner) (cs vs : List BoundTree) (is : s ≡ st.Rule name table events conditions evaluate function manner) (cs_are : cs ≡ conditions) (vs_are : vs ≡ evaluate) where
  -- a rule, by the queries that are read from it
  pub rule_is : s ≡ st.Rule name table events cs vs function manner
  rule_is =
      is
      ∙ ap (λ of. st.Rule name table events of evaluate function manner) (sym cs_are)
      ∙ ap (λ of. st.Rule name table events cs of function manner) (sym vs_are)

  -- where its bindings differ is what the answer says
  pub differs_is : (catalog : Catalog) (b : Bool) → b ≡ differs catalog function (bindings_of (in_rule catalog.tables table) (cs ++ vs)) manner.unique → bound_differs catalog s ≡ refused_if b (BoundDiffers function)
  differs_is catalog b e = ap (bound_differs catalog) rule_is ∙ ap (λ of. refused_if of (BoundDiffers function)) (sym e)

module _ (catalog : Catalog) (s : Statement) (name table : List ℕ) (events : List EventTree) (conditions evaluate : List BoundTree) (function : List ℕ) (manner : Manner) (is : s ≡ st.Rule name table events conditions evaluate function manner) (none : limit catalog s ≡ None) where
  within_rule : limit catalog (st.Rule name table events conditions evaluate function manner) ≡ None
  within_rule = subst (λ of. limit catalog of ≡ None) is none

  -- the queries of a rule that passes no limit have few entries
  pub rule_conditions_few : (cs : List BoundTree) → cs ≡ conditions → HaveFewEntries cs
  rule_conditions_few cs cs_are =
      subst HaveFewEntries (sym cs_are) (All-from_recursion (λ (bound : BoundTree). AskFew bound.query) conditions (conditions_few catalog name table events conditions evaluate function manner within_rule))

  pub rule_evaluate_few : (vs : List BoundTree) → vs ≡ evaluate → HaveFewEntries vs
  rule_evaluate_few vs vs_are =
      subst HaveFewEntries (sym vs_are) (All-from_recursion (λ (bound : BoundTree). AskFew bound.query) evaluate (evaluate_few catalog name table events conditions evaluate function manner within_rule))

-- ---- the causes in their order, by three groups

-- what comes too late, is taken, isn't there, or is too much
abbrev pub of_names : Catalog → Statement → List (Option SetupError)
of_names catalog s = closed catalog s ∷ exists catalog s ∷ unknown catalog s ∷ limit catalog s ∷ []

-- what doesn't go together, and what a table lacks or may not read
abbrev pub of_kinds : Catalog → Statement → List (Option SetupError)
of_kinds catalog s = kind_mismatch catalog s ∷ too_wide catalog s ∷ no_key s ∷ reads_derived catalog s ∷ []

-- what rules bind, and what groups ask for
abbrev pub of_rules : Catalog → Statement → List (Option SetupError)
of_rules catalog s = not_bound catalog s ∷ bound_differs catalog s ∷ not_grouped catalog s ∷ []

-- the first cause of two lists that are one after the other
first_cause-append : (xs ys : List (Option SetupError)) → first_cause (xs ++ ys) ≡ option_or (first_cause xs) (first_cause ys)
first_cause-append [] ys = refl
first_cause-append (None ∷ xs) ys = first_cause-append xs ys
first_cause-append (Some error ∷ xs) ys = refl

by_groups : (catalog : Catalog) (s : Statement) → IsDeclaration s → refusal catalog s ≡ option_or (first_cause (of_names catalog s)) (option_or (first_cause (of_kinds catalog s)) (first_cause (of_rules catalog s)))
by_groups catalog s is =
    declaration_refused catalog s is
    ∙ first_cause-append (of_names catalog s) (of_kinds catalog s ++ of_rules catalog s)
    ∙ ap (option_or (first_cause (of_names catalog s))) (first_cause-append (of_kinds catalog s) (of_rules catalog s))

pub names_refused : (catalog : Catalog) (s : Statement) (e : SetupError) → IsDeclaration s → Checks (first_cause (of_names catalog s)) (Err e) → Checks (refusal catalog s) (Err e)
names_refused catalog s e is p =
    carried _ _ (Err e) (by_groups catalog s is) (refused (first_cause (of_names catalog s)) (option_or (first_cause (of_kinds catalog s)) (first_cause (of_rules catalog s))) e p)

pub kinds_refused : (catalog : Catalog) (s : Statement) (e : SetupError) → IsDeclaration s → first_cause (of_names catalog s) ≡ None → Checks (first_cause (of_kinds catalog s)) (Err e) → Checks (refusal catalog s) (Err e)
kinds_refused catalog s e is none p =
    carried _ _ (Err e) (by_groups catalog s is)
    (passed (first_cause (of_names catalog s)) (option_or (first_cause (of_kinds catalog s)) (first_cause (of_rules catalog s))) (Err e) none
    (refused (first_cause (of_kinds catalog s)) (first_cause (of_rules catalog s)) e p))

pub rules_checked : (catalog : Catalog) (s : Statement) (r : Result Unit SetupError) → IsDeclaration s → first_cause (of_names catalog s) ≡ None → first_cause (of_kinds catalog s) ≡ None → Checks (first_cause (of_rules catalog s)) r → Checks (refusal catalog s) r
rules_checked catalog s r is no_name no_kind p =
    carried _ _ r (by_groups catalog s is)
    (passed (first_cause (of_names catalog s)) (option_or (first_cause (of_kinds catalog s)) (first_cause (of_rules catalog s))) r no_name
    (passed (first_cause (of_kinds catalog s)) (first_cause (of_rules catalog s)) r no_kind p))
