-- The rules of a function that bind otherwise.
use Rattle.std.proofs.Common.{◌≡◌, ℕ, Bool, true, false, ◌&&◌, ◌||◌, cond, List, [], ◌∷◌, get_or, length, filter, Option, Some, None, unwrap_or, refl, sym, ap, ◌∙◌, arith}
use Rattle.std.specs.List.{list_any, find, position, slice_get}
use Rattle.std.specs.Str.{bytes_eq}
use Rattle.std.proofs.lemmas.List.Folds.{find_at}
use Rattle.std.proofs.lemmas.List.Quantifiers.{position-Some}
use Rattle.std.proofs.lemmas.List.Sums.{position_or_len_is}
use Rattle.std.proofs.lemmas.Option.{slice_get_read}
use Rattle.strip_value.specs.declared.rules.BoundDef.{BoundDef}
use Rattle.strip_value.specs.declared.rules.Function.{Function}
use Rattle.strip_value.specs.declared.rules.Rule.{Rule}
use Rattle.strip_setup.specs.declared.answers.Binding.{Binding}
use Rattle.strip_setup.specs.Catalog.{Catalog, function_number}
use Rattle.strip_setup.specs.Resolve.{function_at, no_function}
use Rattle.strip_kinds.specs.Bound.{bind_differently, bound_by, differs, is_number, is_other}

-- one of those that pass the first passes the second where one passes both
any_filter : {A : Type 0} (first second : A → Bool) (xs : List A) → list_any second (filter first xs) ≡ list_any (λ x. first x && second x) xs
any_filter first second [] = refl
any_filter first second (x ∷ xs) = by_test (first x) (any_filter first second xs)
  where
    by_test : (b : Bool) → list_any second (filter first xs) ≡ list_any (λ y. first y && second y) xs → list_any second (cond b (x ∷ filter first xs) (filter first xs)) ≡ ((b && second x) || list_any (λ y. first y && second y) xs)
    by_test true rest = ap (λ more. second x || more) rest
    by_test false rest = rest

-- no item passes a test that none can
none_pass : {A : Type 0} (xs : List A) → filter (λ x. false) xs ≡ []
none_pass [] = refl
none_pass (x ∷ xs) = none_pass xs

-- ---- the function of a number

-- the item at the first place that passes is the first that passes
find_there : {A : Type 0} (test : A → Bool) (xs : List A) (i : ℕ) (x : A) → position test xs ≡ Some i → x ≡ get_or xs i x → find test xs ≡ Some x
find_there test xs i x there is =
    let at = position-Some test xs i x there in
    let place = position_or_len_is test xs i x (omega (arith, at.0)) at.2 (λ _. at.1) in
    find_at test xs ∙ ap (slice_get xs) place ∙ slice_get_read xs (length xs) i x refl at.0 is

-- ---- what a rule binds differently

-- a function that isn't there has no rules
pub differs_nowhere : (catalog : Catalog) (functions : List Function) (function : List ℕ) (bindings : List Binding) (unique : Option (List (List ℕ))) → bind_differently bindings ≡ false → functions ≡ catalog.functions → function_number functions function ≡ None → false ≡ differs catalog function bindings unique
differs_nowhere catalog functions function bindings unique same functions_are none =
    let number : function_number catalog.functions function ≡ None = ap (λ of. function_number of function) (sym functions_are) ∙ none in
    let test = is_other (function_at catalog function) (bound_by bindings) unique in
    sym
    (ap (λ b. b || list_any test (filter (λ (rule : Rule). is_number (function_number catalog.functions function) rule.function) catalog.rules)) same
    ∙ ap (λ of. list_any test (filter (λ (rule : Rule). is_number of rule.function) catalog.rules)) number
    ∙ ap (list_any test) (none_pass catalog.rules))

-- the rules of the function are those of its number
pub differs_there : (catalog : Catalog) (functions : List Function) (rules : List Rule) (function : List ℕ) (bindings : List Binding) (bound : List BoundDef) (unique : Option (List (List ℕ))) (number : ℕ) (f : Function) (r : Bool) → bind_differently bindings ≡ false → functions ≡ catalog.functions → rules ≡ catalog.rules → bound ≡ bound_by bindings → function_number functions function ≡ Some number → f ≡ get_or functions number f → r ≡ list_any (λ rule. is_number (Some number) rule.function && is_other f bound unique rule) rules → r ≡ differs catalog function bindings unique
differs_there catalog functions rules function bindings bound unique number f r same functions_are rules_are bound_is there f_is r_is =
    let there_too : function_number catalog.functions function ≡ Some number = ap (λ of. function_number of function) (sym functions_are) ∙ there in
    let f_too : f ≡ get_or catalog.functions number f = f_is ∙ ap (λ of. get_or of number f) functions_are in
    let found : function_at catalog function ≡ f =
    ap (λ of. unwrap_or of no_function) (find_there (λ (g : Function). bytes_eq g.name function) catalog.functions number f there_too f_too) in
    let test = is_other (function_at catalog function) (bound_by bindings) unique in
    r_is
    ∙ ap (list_any (λ (rule : Rule). is_number (Some number) rule.function && is_other f bound unique rule)) rules_are
    ∙ ap (λ of. list_any (λ (rule : Rule). is_number (Some number) rule.function && is_other f of unique rule) catalog.rules) bound_is
    ∙ sym
    (ap (λ b. b || list_any test (filter (λ (rule : Rule). is_number (function_number catalog.functions function) rule.function) catalog.rules)) same
    ∙ ap (λ of. list_any test (filter (λ (rule : Rule). is_number of rule.function) catalog.rules)) there_too
    ∙ ap (λ of. list_any (is_other of (bound_by bindings) unique) (filter (λ (rule : Rule). is_number (Some number) rule.function) catalog.rules)) found
    ∙ any_filter (λ (rule : Rule). is_number (Some number) rule.function) (is_other f (bound_by bindings) unique) catalog.rules)
