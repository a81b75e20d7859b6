-- What of joined lists passes a test.
use Rattle.std.proofs.Common.{◌≡◌, ℕ, ◌+◌, ◌<◌, Bool, true, false, not, cond, ◌||◌, List, [], ◌∷◌, ◌++◌, filter, length, get_or, drop, Some, refl, ap, ◌∙◌}
use Rattle.std.specs.List.{flat_map, list_any}
use Rattle.std.proofs.lemmas.List.{drop_more}
use Rattle.std.proofs.lemmas.List.Concat.{flat_map-append}
use Rattle.std.proofs.lemmas.List.Elements.{filter-append}
use Rattle.strip_setup.specs.Catalog.{first, is_empty}

pub filter-flat_map : {A B : Type 0} (test : B → Bool) (of : A → List B) (xs : List A) → filter test (flat_map of xs) ≡ flat_map (λ x. filter test (of x)) xs
filter-flat_map test of [] = refl
filter-flat_map test of (x ∷ xs) = filter-append test (of x) (flat_map of xs) ∙ ap (λ ys. filter test (of x) ++ ys) (filter-flat_map test of xs)

-- an item, and what is made of two lists
pub filter-front : {A B : Type 0} (test : B → Bool) (of : A → List B) (y : B) (xs ys : List A) → filter test (y ∷ flat_map of (xs ++ ys)) ≡ filter test (y ∷ []) ++ (flat_map (λ x. filter test (of x)) xs ++ flat_map (λ x. filter test (of x)) ys)
filter-front test of y xs ys =
    filter-append test (y ∷ []) (flat_map of (xs ++ ys))
    ∙ ap (λ zs. filter test (y ∷ []) ++ zs) (filter-flat_map test of (xs ++ ys) ∙ flat_map-append (λ x. filter test (of x)) xs ys)

-- an item that passes is the first of those from it on that do
pub filter-here : {A : Type 0} (test : A → Bool) (xs : List A) (i : ℕ) (x : A) → i < length xs → x ≡ get_or xs i x → test x ≡ true → first (filter test (drop i xs)) ≡ Some x
filter-here test xs i x lt is passes =
    let more = drop_more xs i x lt in
    rw (more, ← is, passes) refl

-- one that doesn't may be left out
pub filter-past : {A : Type 0} (test : A → Bool) (xs : List A) (i : ℕ) (x : A) → i < length xs → x ≡ get_or xs i x → test x ≡ false → filter test (drop i xs) ≡ filter test (drop (i + 1) xs)
filter-past test xs i x lt is fails =
    let more = drop_more xs i x lt in
    rw (more, ← is, fails) refl

empty-cond : {A : Type 0} (b : Bool) (x : A) (xs : List A) (any : Bool) → is_empty xs ≡ not any → is_empty (cond b (x ∷ xs) xs) ≡ not (b || any)
empty-cond true x xs any e = refl
empty-cond false x xs any e = e

-- none passes
pub filter-empty : {A : Type 0} (test : A → Bool) (xs : List A) → is_empty (filter test xs) ≡ not (list_any test xs)
filter-empty test [] = refl
filter-empty test (x ∷ xs) = empty-cond (test x) x (filter test xs) (list_any test xs) (filter-empty test xs)
