-- Tables that steps keep otherwise, found by going through the steps.
use Rattle.std.proofs.Common.{◌≡◌, ℕ, ◌+◌, ◌<◌, Bool, true, false, ◌||◌, List, [], ◌∷◌, length, get_or, take, reverse, map, filter, Option, Some, None, refl, ◌∙◌}
use Rattle.std.specs.List.{list_any, filter_map, cons_option}
use Rattle.std.specs.Option.{option_map_or}
use Rattle.strip_value.specs.declared.tables.TableDef.{TableDef}
use Rattle.strip_ast.specs.declared.rules.StepTree.{StepTree}
use Rattle.strip_setup.specs.Catalog.{first}
use Rattle.strip_setup.specs.Resolve.{kept_name}
use Rattle.strip_names.specs.Exists.{keeps_otherwise, is_kept_otherwise}
use Rattle.strip_setup.proofs.Firsts.{with_earlier_from, with_earlier-more, list_any-reverse}

-- the tables of the steps from a number on that are kept otherwise
abbrev pub taken_by_steps_from : List TableDef → List StepTree → ℕ → List (List ℕ)
taken_by_steps_from tables steps i = map (λ s. kept_name s.0) (filter (is_kept_otherwise tables) (with_earlier_from steps i))

-- the order of the earlier steps doesn't matter
kept_otherwise-reverse : (tables : List TableDef) (s : StepTree) (earlier : List StepTree) → is_kept_otherwise tables (s, reverse earlier) ≡ is_kept_otherwise tables (s, earlier)
kept_otherwise-reverse tables s earlier = let turned = list_any-reverse (keeps_otherwise s) earlier in rw turned refl

pub taken-here : (tables : List TableDef) (steps : List StepTree) (i : ℕ) (s : StepTree) → i < length steps → s ≡ get_or steps i s → is_kept_otherwise tables (s, take i steps) ≡ true → first (taken_by_steps_from tables steps i) ≡ Some (kept_name s)
taken-here tables steps i s lt is kept =
    let more = with_earlier-more steps i s lt is in
    let turned = kept_otherwise-reverse tables s (take i steps) ∙ kept in
    rw (more, turned) refl

pub taken-past : (tables : List TableDef) (steps : List StepTree) (i : ℕ) (s : StepTree) → i < length steps → s ≡ get_or steps i s → is_kept_otherwise tables (s, take i steps) ≡ false → taken_by_steps_from tables steps i ≡ taken_by_steps_from tables steps (i + 1)
taken-past tables steps i s lt is kept =
    let more = with_earlier-more steps i s lt is in
    let turned = kept_otherwise-reverse tables s (take i steps) ∙ kept in
    rw (more, turned) refl

in_front : {B : Type 0} {b : Bool} (o : Option B) (test : B → Bool) (ys : List B) → list_any test ys ≡ b → list_any test (cons_option o ys) ≡ (option_map_or test o false || b)
in_front None test ys e = e
in_front (Some y) test ys e = rw e refl

-- a test of what is there of a list
pub list_any-filter_map : {A B : Type 0} (of : A → Option B) (test : B → Bool) (xs : List A) → list_any test (filter_map of xs) ≡ list_any (λ x. option_map_or test (of x) false) xs
list_any-filter_map of test [] = refl
list_any-filter_map of test (x ∷ xs) = in_front (of x) test (filter_map of xs) (list_any-filter_map of test xs)
