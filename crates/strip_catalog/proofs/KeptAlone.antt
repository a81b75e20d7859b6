-- A table that is declared to be kept is kept by the function and the rule that were made of it, and by no others.
use Rattle.std.proofs.Common.{◌≡◌, ℕ, ◌<◌, Bool, true, false, List, [], ◌∷◌, ◌++◌, set, Option, Some, None, option_map, bytes_eq, is_none, is_some, unwrap_or, slice_get, refl, sym, ap, ◌∙◌, subst, arith}
use Rattle.std.specs.List.{flat_map}
use Rattle.strip_value.specs.declared.rules.Function.{Function}
use Rattle.strip_value.specs.declared.tables.By.{By}
use Rattle.strip_value.specs.declared.tables.TableDef.{TableDef}
use Rattle.strip_ast.specs.declared.rules.BoundTree.{BoundTree}
use Rattle.strip_ast.specs.declared.rules.EventTree.{EventTree}
use Rattle.strip_ast.specs.declared.rules.Manner.{Manner}
use Rattle.strip_ast.specs.declared.rules.StepTree.{StepTree}
use Rattle.strip_ast.specs.declared.statements.Statement.{Statement}
use Rattle.strip_ast.specs.declared.statements.Statement.TheVariants as st
use Rattle.strip_meaning.specs.Contents.{def_at}
use Rattle.strip_setup.specs.declared.errors.SetupError.TheVariants.{Unknown}
use Rattle.strip_setup.specs.Adds.{functions_with_rule, kept_by_steps, with_bound, with_statement}
use Rattle.strip_setup.specs.Catalog.{Catalog, columns_of, first, function_named, function_number, name_if, repeated, rule_named, table_id, table_named}
use Rattle.strip_setup.specs.Maintain.{function_name, manner_of, rule_name, with_kept}
use Rattle.strip_setup.specs.Resolve.{bindings_of, bound_with, derived_of, function_at, function_of, in_rule, no_function, rule_of, table_of}
use Rattle.strip_names.specs.Exists.{is_made, taken_by_steps, taken_in_event, taken_in_query}
use Rattle.strip_names.specs.Unknown.{unknown_in_event, unknown_in_query, unknown_names, unknown_table}
use Rattle.strip_catalog.specs.Accepted.{AreAccepted, IsDeclared, declared}
use Rattle.strip_catalog.specs.Laws.{DeclaredTablesAreKept}
use Rattle.strip_catalog.specs.Refusals.{is_kept, refusal}
use Rattle.strip_catalog.proofs.AtNumbers.{found_at}
use Rattle.strip_catalog.proofs.Causes.{both_empty, maintain_derived, maintain_names, no_exists, no_other_cause, none_there}
use Rattle.strip_catalog.proofs.KeptMade.{with_made}
use Rattle.strip_catalog.proofs.KeptStays.{Keeps, unchanged, with_rule, with_table}
use Rattle.strip_catalog.proofs.KeptSteps.{derived_is, steps_free, with_function}
use Rattle.strip_catalog.proofs.Numbering.{own_numbers}
use Rattle.strip_catalog.proofs.SoundFound.{named_at}

-- ---- names that aren't taken and names that are there

none_unknown : (o : Option (List ℕ)) → option_map Unknown o ≡ None → o ≡ None
none_unknown None e = refl
none_unknown (Some name) e = cc

no_unknown : (catalog : Catalog) (statement : Statement) → refusal catalog statement ≡ None → unknown_names catalog statement ≡ []
no_unknown catalog statement e = none_there (unknown_names catalog statement) (none_unknown (first (unknown_names catalog statement)) (no_other_cause catalog statement e).1.1.0)

not_named : (b : Bool) (name : List ℕ) → name_if b name ≡ [] → b ≡ false
not_named true name e = cc
not_named false name e = refl

second : (a b : List (List ℕ)) → a ++ b ≡ [] → b ≡ []
second a b e = (both_empty a b e).1

third : (a b c d : List (List ℕ)) → a ++ (b ++ (c ++ d)) ≡ [] → c ≡ []
third a b c d e = (both_empty c d (second b (c ++ d) (second a (b ++ (c ++ d)) e))).0

last_of_four : (a b c d : List (List ℕ)) → a ++ (b ++ (c ++ d)) ≡ [] → d ≡ []
last_of_four a b c d e = second c d (second b (c ++ d) (second a (b ++ (c ++ d)) e))

fourth : (a b c d rest : List (List ℕ)) → a ++ (b ++ (c ++ (d ++ rest))) ≡ [] → d ≡ []
fourth a b c d rest e = third b c d rest (second a (b ++ (c ++ (d ++ rest))) e)

-- ---- statements

function_keeps : (catalog : Catalog) (name : List ℕ) (steps : List StepTree) → IsDeclared catalog → refusal catalog (st.Function name steps) ≡ None → Keeps catalog
    → Keeps (record catalog { tables = kept_by_steps catalog.tables steps; functions = catalog.functions ++ function_of catalog.tables name steps ∷ [] })
function_keeps catalog name steps is e keeps =
    let taken = second (name_if (is_some (function_named catalog.functions name)) name) (taken_by_steps catalog.tables steps) (no_exists catalog (st.Function name steps) e) in
    with_function catalog name steps (own_numbers catalog is) (steps_free catalog.tables steps taken (no_unknown catalog (st.Function name steps) e)) keeps

rule_keeps : (catalog : Catalog) (name table : List ℕ) (events : List EventTree) (conditions evaluate : List BoundTree) (function : List ℕ) (manner : Manner) → refusal catalog (st.Rule name table events conditions evaluate function manner) ≡ None → Keeps catalog
    → Keeps (record catalog { functions = functions_with_rule catalog function table (conditions ++ evaluate); rules = catalog.rules ++ rule_of catalog name table events conditions evaluate function manner ∷ [] })
rule_keeps catalog name table events conditions evaluate function manner e keeps =
    by_found (function_named catalog.functions function) refl (not_named (is_none (function_named catalog.functions function)) function (last_of_four (unknown_table catalog.tables table) (flat_map (unknown_in_event (columns_of (table_named catalog.tables table))) events) (flat_map (λ (bound : BoundTree). unknown_in_query (in_rule catalog.tables table) bound.query) (conditions ++ evaluate)) (name_if (is_none (function_named catalog.functions function)) function) (no_unknown catalog (st.Rule name table events conditions evaluate function manner) e)))
  where
    unmade : is_made catalog.tables (function_at catalog function) ≡ false
    unmade =
        not_named (is_made catalog.tables (function_at catalog function)) function (fourth (name_if (is_some (rule_named catalog.rules name)) name) (flat_map taken_in_event events) (flat_map (λ (bound : BoundTree). taken_in_query bound.query) (conditions ++ evaluate))
        (name_if (is_made catalog.tables (function_at catalog function)) function) (repeated (unwrap_or manner.unique [])) (no_exists catalog (st.Rule name table events conditions evaluate function manner) e))

    by_found : (o : Option Function) → function_named catalog.functions function ≡ o → is_none o ≡ false
        → Keeps (record catalog { functions = functions_with_rule catalog function table (conditions ++ evaluate); rules = catalog.rules ++ rule_of catalog name table events conditions evaluate function manner ∷ [] })
    by_found None named known = cc
    by_found (Some g) named known =
        let at = found_at (λ (f : Function). bytes_eq f.name function) catalog.functions g named in
        let is_it : function_at catalog function ≡ g = ap (λ (o : Option Function). unwrap_or o no_function) named in
        let bindings = bindings_of (in_rule catalog.tables table) (conditions ++ evaluate) in
        let functions : functions_with_rule catalog function table (conditions ++ evaluate) ≡ set catalog.functions at.0 (record g { bound = bound_with g.bound bindings }) =
        ap (λ (h : Function). with_bound catalog.functions (function_number catalog.functions function) h (bound_with h.bound bindings)) is_it
        ∙ ap (λ (o : Option ℕ). with_bound catalog.functions o g (bound_with g.bound bindings)) at.1 in
        let rule = rule_of catalog name table events conditions evaluate function manner in
        let executes : rule.function ≡ at.0 = ap (λ (o : Option ℕ). unwrap_or o 0) at.1 in
        subst (λ (fs : List Function). Keeps (record catalog { functions = fs; rules = catalog.rules ++ rule ∷ [] })) (sym functions)
        (with_rule catalog at.0 g (bound_with g.bound bindings) rule at.2 executes (ap (is_made catalog.tables) (sym is_it) ∙ unmade) keeps)

maintain_keeps : (catalog : Catalog) (name : List ℕ) (how : By) (manner : Manner) → refusal catalog (st.Maintain name how manner) ≡ None → Keeps catalog → Keeps (with_kept catalog (table_id catalog.tables name) how (manner_of manner))
maintain_keeps catalog name how manner e keeps =
    let there = derived_is (table_named catalog.tables name) (maintain_derived catalog name how manner e) in
    let at = named_at catalog.tables name there.0 there.1 in
    let unkept : is_kept (table_named catalog.tables name) ≡ false = not_named (is_kept (table_named catalog.tables name)) name
    (third (name_if (is_some (function_named catalog.functions (function_name name))) (function_name name)) (name_if (is_some (rule_named catalog.rules (rule_name name))) (rule_name name)) (name_if (is_kept (table_named catalog.tables name)) name) (repeated (unwrap_or manner.unique [])) (maintain_names catalog name how manner e)) in
    let before : is_some (def_at catalog.tables (table_id catalog.tables name)).kept ≡ false = ap (λ (t : TableDef). is_some t.kept) at.is ∙ (ap is_kept (sym there.1) ∙ unkept) in
    with_made catalog (table_id catalog.tables name) how (manner_of manner) at.there before keeps

with_keeps : (catalog : Catalog) (statement : Statement) → IsDeclared catalog → refusal catalog statement ≡ None → Keeps catalog → Keeps (with_statement catalog statement)
unfolding with_statement
with_keeps catalog (st.Table name columns key rows) is e keeps = with_table catalog (table_of name columns key rows) refl keeps
with_keeps catalog (st.Stream name table marked) is e keeps = unchanged catalog (with_statement catalog (st.Stream name table marked)) refl refl refl keeps
with_keeps catalog (st.Derive name query) is e keeps = with_table catalog (derived_of catalog.tables name query) refl keeps
with_keeps catalog (st.Function name steps) is e keeps = function_keeps catalog name steps is e keeps
with_keeps catalog (st.Rule name table events conditions evaluate function manner) is e keeps = rule_keeps catalog name table events conditions evaluate function manner e keeps
with_keeps catalog (st.Maintain name how manner) is e keeps = maintain_keeps catalog name how manner e keeps
with_keeps catalog st.Ready is e keeps = unchanged catalog (with_statement catalog st.Ready) refl refl refl keeps
with_keeps catalog (st.At moment) is e keeps = keeps
with_keeps catalog (st.Deed caller deed) is e keeps = keeps

none_at : {A : Type 0} (n : ℕ) (x : A) → slice_get [] n ≡ Some x → ⊥
none_at n x e = cc

none_below : (n : ℕ) → n < 0 → ⊥
none_below n lt = omega (arith, lt)

all_keep : (statements : List Statement) → AreAccepted statements → Keeps (declared statements)
all_keep [] accepted = record { steps = λ n f id at keeping. absurd (none_at n f at); rules = λ n r at. absurd (none_at n r at); alone = λ id lt is. absurd (none_below id lt) }
all_keep (statement ∷ earlier) accepted =
    with_keeps (declared earlier) statement (record { statements = earlier; accepted = accepted.0; is = refl }) accepted.2 (all_keep earlier accepted.0)

pub declared_kept_alone : DeclaredTablesAreKept
declared_kept_alone catalog is id lt declared_so = (subst Keeps (sym is.is) (all_keep is.statements is.accepted)).alone id lt declared_so
