-- Tests joined by `and`, and lists of what passes a test.
use Rattle.std.proofs.Common.{◌≡◌, ℕ, zero, suc, ◌<◌, ◌≤◌, Bool, true, false, ◌&&◌, List, [], ◌∷◌, map, length, get_or, nat_le, nat_lt, refl, sym, ap, ◌∙◌, arith}
use Rattle.std.specs.List.{list_all}
use Rattle.std.proofs.lemmas.Bool.Decides.{nat_tests}
use Rattle.strip_acts.specs.Writable.{are_listed}

-- ---- tests

pub both : (a b : Bool) → (a && b) ≡ true → (a ≡ true) × (b ≡ true)
both true b e = (refl, e)
both false b e = cc

pub joined : (a b : Bool) → a ≡ true → b ≡ true → (a && b) ≡ true
joined a b a_is b_is = cc

pub below : (n m : ℕ) → nat_lt n m ≡ true → n < m
below n m e = grind (arith, nat_tests, e)

pub is_below : (n m : ℕ) → n < m → nat_lt n m ≡ true
is_below n m lt = grind (arith, nat_tests, lt)

pub at_most : (n m : ℕ) → nat_le n m ≡ true → n ≤ m
at_most n m e = grind (arith, nat_tests, e)

pub is_at_most : (n m : ℕ) → n ≤ m → nat_le n m ≡ true
is_at_most n m le = grind (arith, nat_tests, le)

-- what is true needs no test of its own
pub told : (a b c : Bool) → a ≡ true → b ≡ c → (a && b) ≡ c
told true b c e is = is
told false b c e is = cc

-- where the first fails, both do
pub fails : (a b x : Bool) → x ≡ a → x ≡ false → x ≡ (a && b)
fails a b x x_is failed = failed ∙ sym (ap (λ t. t && b) (sym x_is ∙ failed))

-- a first test that decides comes to the same where the rest does under it
pub under : (a b c : Bool) → (a ≡ true → b ≡ c) → (a && b) ≡ (a && c)
under true b c same = same refl
under false b c same = refl

-- five tests in a row, of which the middle three are told together

nested : (a b c rest : Bool) → ((a && (b && c)) && rest) ≡ (a && (b && (c && rest)))
nested true true c rest = refl
nested true false c rest = refl
nested false b c rest = refl

pub middle_told : (first a b c rest all x y : Bool) → all ≡ (first && (a && (b && (c && rest)))) → x ≡ first → x ≡ true
    → y ≡ ((a && (b && c)) && rest) → y ≡ all
middle_told first a b c rest all x y whole x_is passed y_is =
    let one : first ≡ true = sym x_is ∙ passed in
    y_is ∙ nested a b c rest ∙ sym (whole ∙ ap (λ t. t && (a && (b && (c && rest)))) one)

-- ---- lists

-- lists of what comes from items by a step that keeps the test
all_same : {A B : Type 0} (suits q : A → Bool) (p : B → Bool) (step : A → B) (xs : List A)
    → ((x : A) → suits x ≡ true → p (step x) ≡ q x) → list_all suits xs ≡ true → list_all p (map step xs) ≡ list_all q xs
all_same suits q p step [] same all = refl
all_same suits q p step (x ∷ xs) same all =
    let here = both (suits x) (list_all suits xs) all in
    ap (λ b. b && list_all p (map step xs)) (same x here.0) ∙ ap (λ b. q x && b) (all_same suits q p step xs same here.1)

pub listed_same : {A B : Type 0} (suits q : A → Bool) (p : B → Bool) (step : A → B) (xs : List A)
    → ((x : A) → suits x ≡ true → p (step x) ≡ q x) → list_all suits xs ≡ true → are_listed p (map step xs) ≡ are_listed q xs
listed_same suits q p step [] same all = refl
listed_same suits q p step (x ∷ xs) same all = all_same suits q p step (x ∷ xs) same all

-- where all pass, so does each
pub all_at : {A : Type 0} (p : A → Bool) (xs : List A) (i : ℕ) (x : A) → list_all p xs ≡ true → i < length xs → x ≡ get_or xs i x
    → p x ≡ true
all_at p [] i x all lt is = absurd (omega arith)
all_at p (y ∷ ys) zero x all lt is = ap p is ∙ (both (p y) (list_all p ys) all).0
all_at p (y ∷ ys) (suc i) x all lt is = all_at p ys i x (both (p y) (list_all p ys) all).1 (omega arith) is

-- ---- parts of a whole

pub left_passes : {A : Type 0} (p q : A → Bool) (e a b l : A) → p e ≡ (q a && q b) → p e ≡ true → l ≡ a → q l ≡ true
left_passes p q e a b l whole passed l_is = ap q l_is ∙ (both (q a) (q b) (sym whole ∙ passed)).0

pub right_passes : {A : Type 0} (p q : A → Bool) (e a b r : A) → p e ≡ (q a && q b) → p e ≡ true → r ≡ b → q r ≡ true
right_passes p q e a b r whole passed r_is = ap q r_is ∙ (both (q a) (q b) (sym whole ∙ passed)).1
