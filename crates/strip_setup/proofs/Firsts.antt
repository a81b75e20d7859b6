-- The first of a list that has parts, and what a check answers for it.
use Rattle.std.proofs.Common.{◌≡◌, ℕ, ◌+◌, ◌<◌, Bool, true, false, cond, List, [], ◌∷◌, ◌++◌, length, get_or, take, drop, reverse, map, filter, Option, Some, None, option_map, Result, Err, refl, sym, ap, subst}
use Rattle.std.specs.List.{flat_map, list_any, find, scan}
use Rattle.std.specs.Option.{option_or}
use Rattle.std.proofs.Math.Bool.{or_comm, or-false}
use Rattle.std.proofs.lemmas.List.{drop_more, take_more, reverse-append}
use Rattle.std.proofs.lemmas.List.Folds.{list_any-append}
use Rattle.strip_setup.specs.declared.errors.SetupError.{SetupError}
use Rattle.strip_setup.specs.declared.errors.SetupError.TheVariants as error
use Rattle.strip_setup.specs.Catalog.{first}
use Rattle.strip_setup.specs.Checks.{Checks}

-- ---- the first of a list

pub first-append : {A : Type 0} (xs ys : List A) → first (xs ++ ys) ≡ option_or (first xs) (first ys)
first-append [] ys = refl
first-append (x ∷ xs) ys = refl

pub first-map : {A B : Type 0} (f : A → B) (xs : List A) → first (map f xs) ≡ option_map f (first xs)
first-map f [] = refl
first-map f (x ∷ xs) = refl

first-cond : {A : Type 0} (b : Bool) (x : A) (xs : List A) (o : Option A) → first xs ≡ o → first (cond b (x ∷ xs) xs) ≡ cond b (Some x) o
first-cond true x xs o e = refl
first-cond false x xs o e = e

-- the first that passes a test
pub first-filter : {A : Type 0} (test : A → Bool) (xs : List A) → first (filter test xs) ≡ find test xs
first-filter test [] = refl
first-filter test (x ∷ xs) = first-cond (test x) x (filter test xs) (find test xs) (first-filter test xs)

pub option_map-or : {A B : Type 0} (f : A → B) (a b : Option A) → option_map f (option_or a b) ≡ option_or (option_map f a) (option_map f b)
option_map-or f None b = refl
option_map-or f (Some x) b = refl

-- no cause: the list is empty
pub no_cause : {A : Type 0} (f : A → SetupError) (xs : List A) → option_map f (first xs) ≡ None → xs ≡ []
no_cause f [] e = refl
no_cause f (x ∷ xs) e = cc

-- ---- checks of parts, one after the other

-- the same cause
pub carried : (a b : Option SetupError) (r : Result Unit SetupError) → a ≡ b → Checks b r → Checks a r
carried a b r e p = subst (λ cause. Checks cause r) (sym e) p

-- the first part has no cause, so the second decides
pub passed : (a b : Option SetupError) (r : Result Unit SetupError) → a ≡ None → Checks b r → Checks (option_or a b) r
passed a b r e p = carried (option_or a b) b r (rw e refl) p

-- a refusal for the first part refuses the whole
pub refused : (a b : Option SetupError) (e : SetupError) → Checks a (Err e) → Checks (option_or a b) (Err e)
refused a b error.Closed p = rw p refl
refused a b (error.Exists name) p = rw p refl
refused a b (error.Unknown name) p = rw p refl
refused a b (error.Limit what at) p = rw p refl
refused a b (error.KindMismatch column) p = rw p refl
refused a b (error.TooWide magnitude) p = rw p refl
refused a b error.NoKey p = rw p refl
refused a b (error.ReadsDerived name) p = rw p refl
refused a b error.NoCount p = rw p refl
refused a b (error.NotBound column) p = rw p refl
refused a b (error.BoundDiffers function) p = rw p refl
refused a b error.NotGrouped p = rw p refl
refused a b error.Memory p = tt

-- the first of two lists that are one after the other
pub parted : {A : Type 0} (f : A → SetupError) (xs ys : List A) → option_map f (first (xs ++ ys)) ≡ option_or (option_map f (first xs)) (option_map f (first ys))
parted f [] ys = refl
parted f (x ∷ xs) ys = refl

-- the same for two such lists
pub passed-append : {A : Type 0} (f : A → SetupError) (xs ys : List A) (r : Result Unit SetupError) → option_map f (first xs) ≡ None → Checks (option_map f (first ys)) r → Checks (option_map f (first (xs ++ ys))) r
passed-append f xs ys r e p = carried _ _ r (parted f xs ys) (passed (option_map f (first xs)) (option_map f (first ys)) r e p)

pub refused-append : {A : Type 0} (f : A → SetupError) (xs ys : List A) (e : SetupError) → Checks (option_map f (first xs)) (Err e) → Checks (option_map f (first (xs ++ ys))) (Err e)
refused-append f xs ys e p = carried _ _ (Err e) (parted f xs ys) (refused (option_map f (first xs)) (option_map f (first ys)) e p)

-- ---- a check of each item, in a loop: what is left says what the whole says

-- an item without a cause may be left out
pub passed-item : {A B : Type 0} (f : B → SetupError) (of : A → List B) (xs : List A) (i : ℕ) (x : A) → i < length xs → x ≡ get_or xs i x → option_map f (first (of x)) ≡ None → flat_map of (drop i xs) ≡ flat_map of (drop (i + 1) xs)
passed-item f of xs i x lt is e =
    let more = drop_more xs i x lt in
    let none = no_cause f (of x) e in
    rw (more, ← is, none) refl

-- a refusal for an item refuses all that is left
pub refused-item : {A B : Type 0} (f : B → SetupError) (of : A → List B) (xs : List A) (i : ℕ) (x : A) (e : SetupError) → i < length xs → x ≡ get_or xs i x → Checks (option_map f (first (of x))) (Err e) → Checks (option_map f (first (flat_map of (drop i xs)))) (Err e)
refused-item f of xs i x e lt is p =
    let more = drop_more xs i x lt in
    let left : flat_map of (drop i xs) ≡ of x ++ flat_map of (drop (i + 1) xs) = rw (more, ← is) refl in
    carried _ _ (Err e) (ap (λ ys. option_map f (first ys)) left) (refused-append f (of x) (flat_map of (drop (i + 1) xs)) e p)

-- the same, where what is left is all that the whole has
pub refused_left : {A B : Type 0} (f : B → SetupError) (of : A → List B) (xs : List A) (i : ℕ) (x : A) (e : SetupError) → flat_map of xs ≡ flat_map of (drop i xs) → i < length xs → x ≡ get_or xs i x → Checks (option_map f (first (of x))) (Err e) → Checks (option_map f (first (flat_map of xs))) (Err e)
refused_left f of xs i x e left lt is p =
    carried _ _ (Err e) (ap (λ ys. option_map f (first ys)) left) (refused-item f of xs i x e lt is p)

-- ---- items with those before them

-- a test of a list turned round
pub list_any-reverse : {A : Type 0} (test : A → Bool) (xs : List A) → list_any test (reverse xs) ≡ list_any test xs
list_any-reverse test [] = refl
list_any-reverse test (x ∷ xs) =
    let turned = reverse-append (x ∷ []) xs in
    let apart = list_any-append test (reverse xs) (x ∷ []) in
    let swapped = or_comm (list_any test (reverse xs)) (test x) in
    let inner = list_any-reverse test xs in
    let single : list_any test (x ∷ []) ≡ test x = or-false (test x) in
    cc

-- the items from a number on, each with those before it
abbrev pub with_earlier_from : {A : Type 0} → List A → ℕ → List (A × List A)
with_earlier_from xs i = scan (λ earlier x. x ∷ earlier) (λ earlier x. (x, earlier)) (reverse (take i xs)) (drop i xs)

pub with_earlier-more : {A : Type 0} (xs : List A) (i : ℕ) (x : A) → i < length xs → x ≡ get_or xs i x → with_earlier_from xs i ≡ (x, reverse (take i xs)) ∷ with_earlier_from xs (i + 1)
with_earlier-more xs i x lt is =
    let more = drop_more xs i x lt in
    let taken = take_more xs i x lt in
    rw (more, ← is, taken, ← is, reverse-append) refl
