-- The functions and the rules that keep tables, and the numbers of these, as one more is kept.
use Rattle.std.proofs.Common.{◌≡◌, ℕ, ◌+◌, ◌==◌, Bool, true, false, not, ◌&&◌, ◌||◌, List, [], ◌∷◌, ◌++◌, length, refl, sym, ap, ap₂, ◌∙◌, arith}
use Rattle.std.specs.List.{AllByRecursion}
use Rattle.std.proofs.lemmas.Bool.{eq-eqb, eqb-true}
use Rattle.std.proofs.lemmas.List.{map-append}
use Rattle.std.proofs.lemmas.List.Folds.{list_any-append}
use Rattle.strip_value.specs.declared.rules.Function.{Function}
use Rattle.strip_value.specs.declared.rules.Rule.{Rule}
use Rattle.strip_value.specs.declared.tables.TableDef.{TableDef}
use Rattle.strip_meaning.specs.Contents.{def_at}
use Rattle.strip_meaning.specs.Maintained.{keep_function, keep_rule}
use Rattle.strip_setup.specs.Maintain.{query_in}
use Rattle.strip_engine.specs.Built.{all_differ, at_once, functions_of, is_among, kept_in, kept_tables, rules_of}

-- ---- what is made of tables

-- the same function and the same rule are made of both
pub record AreMadeAlike (one other : TableDef) : Type 0 where
  pub function : (id : ℕ) → keep_function one id ≡ keep_function other id
  pub rule : (function : ℕ) → keep_rule one (query_in one) function at_once ≡ keep_rule other (query_in other) function at_once

pub made_alike : (one other : TableDef) → one ≡ other → AreMadeAlike one other
made_alike one other same = record {
  function = λ id. ap (λ def. keep_function def id) same;
  rule = λ function. ap (λ def. keep_rule def (query_in def) function at_once) same;
}

-- the same of the tables of these numbers
abbrev pub AllAlike : List TableDef → List TableDef → List ℕ → Type 0
AllAlike defs others ids = AllByRecursion (λ id. AreMadeAlike (def_at defs id) (def_at others id)) ids

pub functions_alike : (defs others : List TableDef) (ids : List ℕ) → AllAlike defs others ids → functions_of defs ids ≡ functions_of others ids
functions_alike defs others [] alike = refl
functions_alike defs others (id ∷ ids) alike = ap₂ (λ (f : Function) fs. f ∷ fs) (alike.0.function id) (functions_alike defs others ids alike.1)

pub rules_alike : (defs others : List TableDef) (function : ℕ) (ids : List ℕ) → AllAlike defs others ids → rules_of defs function ids ≡ rules_of others function ids
rules_alike defs others function [] alike = refl
rules_alike defs others function (id ∷ ids) alike = ap₂ (λ (r : Rule) rs. r ∷ rs) (alike.0.rule function) (rules_alike defs others (function + 1) ids alike.1)

-- ---- one more number

pub functions_more : (defs : List TableDef) (ids : List ℕ) (id : ℕ) → functions_of defs (ids ++ id ∷ []) ≡ functions_of defs ids ++ keep_function (def_at defs id) id ∷ []
functions_more defs ids id = map-append (λ one. keep_function (def_at defs one) one) ids (id ∷ [])

pub rules_more : (defs : List TableDef) (function : ℕ) (ids : List ℕ) (id : ℕ)
    → rules_of defs function (ids ++ id ∷ []) ≡ rules_of defs function ids ++ keep_rule (def_at defs id) (query_in (def_at defs id)) (function + length ids) at_once ∷ []
rules_more defs function [] id = ap (λ n. keep_rule (def_at defs id) (query_in (def_at defs id)) n at_once ∷ []) itself
  where
    itself : function ≡ function + 0
    itself = omega arith
rules_more defs function (other ∷ ids) id =
    ap (λ rs. keep_rule (def_at defs other) (query_in (def_at defs other)) function at_once ∷ rs)
    (rules_more defs (function + 1) ids id ∙ ap (λ n. rules_of defs (function + 1) ids ++ keep_rule (def_at defs id) (query_in (def_at defs id)) n at_once ∷ []) moved)
  where
    moved : (function + 1) + length ids ≡ function + length (other ∷ ids)
    moved = omega arith

pub kept_more : (functions : List Function) (f : Function) → kept_tables (functions ++ f ∷ []) ≡ kept_tables functions ++ kept_in f.steps ∷ []
kept_more functions f = map-append (λ (of : Function). kept_in of.steps) functions (f ∷ [])

-- ---- numbers among these

-- one that is among them stays so
pub among_before : (ids : List ℕ) (id other : ℕ) → is_among ids other ≡ true → is_among (ids ++ id ∷ []) other ≡ true
among_before ids id other there =
    list_any-append (λ one. one == other) ids (id ∷ []) ∙ ap (λ b. b || (id == other || false)) there

pub among_last : (ids : List ℕ) (id : ℕ) → is_among (ids ++ id ∷ []) id ≡ true
among_last [] id = ap (λ b. b || false) (eq-eqb id id refl)
among_last (one ∷ ids) id = by_test (one == id) (among_last ids id)
  where
    by_test : (b : Bool) → is_among (ids ++ id ∷ []) id ≡ true → (b || is_among (ids ++ id ∷ []) id) ≡ true
    by_test true e = refl
    by_test false e = e

-- another one is among them if it was before
not_last : (ids : List ℕ) (id other : ℕ) → (id == other) ≡ false → is_among (ids ++ id ∷ []) other ≡ is_among ids other
not_last ids id other apart = list_any-append (λ one. one == other) ids (id ∷ []) ∙ ap (λ b. is_among ids other || (b || false)) apart ∙ without (is_among ids other)
  where
    without : (b : Bool) → (b || false) ≡ b
    without true = refl
    without false = refl

differ_turned : (a b : ℕ) → (a == b) ≡ false → (b == a) ≡ false
differ_turned a b apart = by_test (b == a) refl
  where
    by_test : (t : Bool) → (b == a) ≡ t → t ≡ false
    by_test true e = let same = eq-eqb a b (sym (eqb-true b a e)) in cc
    by_test false e = refl

-- one that isn't among them differs from each
pub differ_more : (ids : List ℕ) (id : ℕ) → all_differ ids ≡ true → is_among ids id ≡ false → all_differ (ids ++ id ∷ []) ≡ true
differ_more [] id differ none = refl
differ_more (one ∷ ids) id differ none = by_tests (is_among ids one) refl (one == id) refl differ none (differ_more ids id)
  where
    by_tests : (a : Bool) → is_among ids one ≡ a → (b : Bool) → (one == id) ≡ b → (not a && all_differ ids) ≡ true → (b || is_among ids id) ≡ false → (all_differ ids ≡ true → is_among ids id ≡ false → all_differ (ids ++ id ∷ []) ≡ true)
        → all_differ (one ∷ (ids ++ id ∷ [])) ≡ true
    by_tests true a b e differ none rest = cc
    by_tests false a true e differ none rest = cc
    by_tests false a false e differ none rest = ap₂ (λ x y. not x && y) (not_last ids id one (differ_turned one id e) ∙ a) (rest differ none)
