-- Lists whose items all pass, lists that stay empty, and lists in which no name or number stands twice.
use Rattle.std.proofs.Common.{◌≡◌, ℕ, ◌==◌, Bool, true, false, not, ◌&&◌, ◌||◌, cond, List, [], ◌∷◌, ◌++◌, length, map, filter, bytes_eq, refl, sym, ap, ap₂, ◌∙◌, arith, flat_map, eqb-true}
use Rattle.std.specs.List.{AllByRecursion, enumerate_from, list_all, scan}
use Rattle.std.proofs.lemmas.Bool.Decides.{nat_tests}
use Rattle.std.proofs.lemmas.List.{length-map}
use Rattle.std.proofs.lemmas.List.FromFn.{length-enumerate_from}
use Rattle.std.proofs.lemmas.Slice.Eq.{bytes_eq-Decides}
use Rattle.strip_setup.specs.Catalog.{has_name, is_empty, repeated, stood_before}
use Rattle.strip_acts.specs.Laws.{AreApart}
use Rattle.strip_acts.specs.Suiting.{all_differ}
use Rattle.strip_acts.proofs.Naming.{are_both, both_true, eq_turned, is_not, neither, not_so}

-- ---- all items

module _ {A : Type 0} (P : A → Type 0) where
  pub all-append : (xs ys : List A) → AllByRecursion P xs → AllByRecursion P ys → AllByRecursion P (xs ++ ys)
  all-append [] ys px py = py
  all-append (x ∷ xs) ys px py = (px.0, all-append xs ys px.1 py)

  pub all_left : (xs ys : List A) → AllByRecursion P (xs ++ ys) → AllByRecursion P xs
  all_left [] ys p = tt
  all_left (x ∷ xs) ys p = (p.0, all_left xs ys p.1)

  pub all_right : (xs ys : List A) → AllByRecursion P (xs ++ ys) → AllByRecursion P ys
  all_right [] ys p = p
  all_right (x ∷ xs) ys p = all_right xs ys p.1

pub all_of : {A : Type 0} (P Q : A → Type 0) (xs : List A) → ((x : A) → P x → Q x) → AllByRecursion P xs → AllByRecursion Q xs
all_of P Q [] of p = tt
all_of P Q (x ∷ xs) of p = (of x p.0, all_of P Q xs of p.1)

module _ {A B : Type 0} (f : A → B) (P : B → Type 0) where
  pub all_mapped : (xs : List A) → AllByRecursion (λ x. P (f x)) xs → AllByRecursion P (map f xs)
  all_mapped [] p = tt
  all_mapped (x ∷ xs) p = (p.0, all_mapped xs p.1)

  pub mapped_all : (xs : List A) → AllByRecursion P (map f xs) → AllByRecursion (λ x. P (f x)) xs
  mapped_all [] p = tt
  mapped_all (x ∷ xs) p = (p.0, mapped_all xs p.1)

module _ {A B : Type 0} (f : A → List B) (P : B → Type 0) where
  pub all_flat : (xs : List A) → AllByRecursion (λ x. AllByRecursion P (f x)) xs → AllByRecursion P (flat_map f xs)
  all_flat [] p = tt
  all_flat (x ∷ xs) p = all-append P (f x) (flat_map f xs) p.0 (all_flat xs p.1)

  pub flat_all : (xs : List A) → AllByRecursion P (flat_map f xs) → AllByRecursion (λ x. AllByRecursion P (f x)) xs
  flat_all [] p = tt
  flat_all (x ∷ xs) p = (all_left P (f x) (flat_map f xs) p, flat_all xs (all_right P (f x) (flat_map f xs) p))

module _ {A : Type 0} (test : A → Bool) where
  pub each_passes : (xs : List A) → list_all test xs ≡ true → AllByRecursion (λ x. test x ≡ true) xs
  each_passes [] e = tt
  each_passes (x ∷ xs) e = let both = both_true (test x) (list_all test xs) e in (both.0, each_passes xs both.1)

  pub all_pass : (xs : List A) → AllByRecursion (λ x. test x ≡ true) xs → list_all test xs ≡ true
  all_pass [] p = refl
  all_pass (x ∷ xs) p = are_both (test x) (list_all test xs) p.0 (all_pass xs p.1)

-- ---- lists made of others

pub map_twice : {A B C : Type 0} (g : B → C) (f : A → B) (xs : List A) → map g (map f xs) ≡ map (λ x. g (f x)) xs
map_twice g f [] = refl
map_twice g f (x ∷ xs) = ap (λ ys. g (f x) ∷ ys) (map_twice g f xs)

pub long_map : {A B : Type 0} (f : A → B) (xs : List A) → length (map f xs) ≡ length xs
long_map f xs = length-map xs f

pub long_numbered : {A B : Type 0} (f : ℕ × A → B) (n : ℕ) (xs : List A) → length (map f (enumerate_from n xs)) ≡ length xs
long_numbered f n xs = length-map (enumerate_from n xs) f ∙ length-enumerate_from n xs

-- ---- empty lists

pub none_empty : {A : Type 0} (xs : List A) → is_empty xs ≡ true → xs ≡ []
none_empty [] e = refl
none_empty (x ∷ xs) e = cc

pub both_empty : {A : Type 0} (xs ys : List A) → xs ++ ys ≡ [] → (xs ≡ []) × (ys ≡ [])
both_empty [] ys e = (refl, e)
both_empty (x ∷ xs) ys e = cc

pub empty_both : {A : Type 0} (xs ys : List A) → xs ≡ [] → ys ≡ [] → xs ++ ys ≡ []
empty_both xs ys a b = ap₂ (λ p q. p ++ q) a b

pub map_empty : {A B : Type 0} (f : A → B) (xs : List A) → map f xs ≡ [] → xs ≡ []
map_empty f [] e = refl
map_empty f (x ∷ xs) e = cc

module _ {A B : Type 0} (f : A → List B) where
  pub flat_empty : (xs : List A) → AllByRecursion (λ x. f x ≡ []) xs → flat_map f xs ≡ []
  flat_empty [] p = refl
  flat_empty (x ∷ xs) p = empty_both (f x) (flat_map f xs) p.0 (flat_empty xs p.1)

  pub empty_flat : (xs : List A) → flat_map f xs ≡ [] → AllByRecursion (λ x. f x ≡ []) xs
  empty_flat [] e = tt
  empty_flat (x ∷ xs) e = let both = both_empty (f x) (flat_map f xs) e in (both.0, empty_flat xs both.1)

module _ {A : Type 0} (p : A → Bool) where
  pub filter_empty : (xs : List A) → AllByRecursion (λ x. p x ≡ false) xs → filter p xs ≡ []
  filter_empty [] all = refl
  filter_empty (x ∷ xs) all = ap (λ b. cond b (x ∷ filter p xs) (filter p xs)) all.0 ∙ filter_empty xs all.1

  pub empty_filter : (xs : List A) → filter p xs ≡ [] → AllByRecursion (λ x. p x ≡ false) xs
  empty_filter [] e = tt
  empty_filter (x ∷ xs) e = by_test (p x) refl e (empty_filter xs)
    where
      by_test : (b : Bool) → p x ≡ b → cond b (x ∷ filter p xs) (filter p xs) ≡ [] → (filter p xs ≡ [] → AllByRecursion (λ y. p y ≡ false) xs) → (p x ≡ false) × AllByRecursion (λ y. p y ≡ false) xs
      by_test true is none rest = cc
      by_test false is none rest = (is, rest none)

-- items that are left out where one test fails, and fail another else
module _ {A B : Type 0} (g : A → B) (p q : B → Bool) where
  pub kept_fail : (xs : List A) → AllByRecursion (λ x. (p (g x) && q (g x)) ≡ false) xs → AllByRecursion (λ y. q y ≡ false) (filter p (map g xs))
  kept_fail [] all = tt
  kept_fail (x ∷ xs) all = by_test (p (g x)) all.0 (kept_fail xs all.1)
    where
      by_test : (b : Bool) → (b && q (g x)) ≡ false → AllByRecursion (λ y. q y ≡ false) (filter p (map g xs)) → AllByRecursion (λ y. q y ≡ false) (cond b (g x ∷ filter p (map g xs)) (filter p (map g xs)))
      by_test true fails rest = (fails, rest)
      by_test false fails rest = rest

  pub fail_kept : (xs : List A) → AllByRecursion (λ y. q y ≡ false) (filter p (map g xs)) → AllByRecursion (λ x. (p (g x) && q (g x)) ≡ false) xs
  fail_kept [] all = tt
  fail_kept (x ∷ xs) all = by_test (p (g x)) all (fail_kept xs)
    where
      by_test : (b : Bool) → AllByRecursion (λ y. q y ≡ false) (cond b (g x ∷ filter p (map g xs)) (filter p (map g xs))) → (AllByRecursion (λ y. q y ≡ false) (filter p (map g xs)) → AllByRecursion (λ y. (p (g y) && q (g y)) ≡ false) xs)
          → ((b && q (g x)) ≡ false) × AllByRecursion (λ y. (p (g y) && q (g y)) ≡ false) xs
      by_test true fails rest = (fails.0, rest fails.1)
      by_test false fails rest = (refl, rest fails)

-- ---- names that stand twice

abbrev repeated_after : List (List ℕ) → List (List ℕ) → List (List ℕ)
repeated_after earlier names = map (λ (name : List ℕ × List (List ℕ)). name.0) (filter stood_before (scan (λ those x. x ∷ those) (λ those x. (x, those)) earlier names))

abbrev behind : List (List ℕ) → List (List ℕ) → List (List ℕ × List (List ℕ))
behind earlier names = filter stood_before (scan (λ those x. x ∷ those) (λ those x. (x, those)) earlier names)

abbrev firsts : List (List ℕ × List (List ℕ)) → List (List ℕ)
firsts names = map (λ (name : List ℕ × List (List ℕ)). name.0) names

abbrev AreNew : List (List ℕ) → List (List ℕ) → Type 0
AreNew earlier names = AllByRecursion (λ name. has_name earlier name ≡ false) names

pub none_of : (a b : Bool) → a ≡ false → b ≡ false → (a || b) ≡ false
none_of a b ea eb = cc

with_one : (x : List ℕ) (earlier names : List (List ℕ)) → has_name names x ≡ false → AreNew earlier names → AreNew (x ∷ earlier) names
with_one x earlier [] none new = tt
with_one x earlier (name ∷ names) none new =
    let both = neither (bytes_eq name x) (has_name names x) none in
    (none_of (bytes_eq x name) (has_name earlier name) (eq_turned name x both.0) new.0, with_one x earlier names both.1 new.1)

without_one : (x : List ℕ) (earlier names : List (List ℕ)) → AreNew (x ∷ earlier) names → (has_name names x ≡ false) × AreNew earlier names
without_one x earlier [] new = (refl, tt)
without_one x earlier (name ∷ names) new =
    let both = neither (bytes_eq x name) (has_name earlier name) new.0 in
    let rest = without_one x earlier names new.1 in
    (none_of (bytes_eq name x) (has_name names x) (eq_turned x name both.0) rest.0, (both.1, rest.1))

apart_new : (earlier names : List (List ℕ)) → AreApart names → AreNew earlier names → repeated_after earlier names ≡ []
apart_new earlier [] apart new = refl
apart_new earlier (x ∷ names) apart new =
    ap (λ b. firsts (cond b ((x, earlier) ∷ behind (x ∷ earlier) names) (behind (x ∷ earlier) names))) new.0
    ∙ apart_new (x ∷ earlier) names apart.1 (with_one x earlier names apart.0 new.1)

new_apart : (earlier names : List (List ℕ)) → repeated_after earlier names ≡ [] → AreApart names × AreNew earlier names
new_apart earlier [] e = (tt, tt)
new_apart earlier (x ∷ names) e = by_test (has_name earlier x) refl e (new_apart (x ∷ earlier) names)
  where
    by_test : (b : Bool) → has_name earlier x ≡ b → firsts (cond b ((x, earlier) ∷ behind (x ∷ earlier) names) (behind (x ∷ earlier) names)) ≡ [] → (repeated_after (x ∷ earlier) names ≡ [] → AreApart names × AreNew (x ∷ earlier) names)
        → AreApart (x ∷ names) × AreNew earlier (x ∷ names)
    by_test true is none rest = cc
    by_test false is none rest =
        let more = rest none in
        let both = without_one x earlier names more.1 in
        ((both.0, more.0), (is, both.1))

each_new : (names : List (List ℕ)) → AreNew [] names
each_new [] = tt
each_new (name ∷ names) = (refl, each_new names)

pub not_repeated : (names : List (List ℕ)) → AreApart names → repeated names ≡ []
not_repeated names apart = apart_new [] names apart (each_new names)

pub none_repeated : (names : List (List ℕ)) → repeated names ≡ [] → AreApart names
none_repeated names e = (new_apart [] names e).0

-- ---- names and numbers that differ

same_number : (a b : ℕ) → a ≡ b → (a == b) ≡ true
same_number a b e = grind (arith, nat_tests)

module _ {A : Type 0} (name : A → List ℕ) (number : A → ℕ) where
  module _ (number_of : List ℕ → ℕ) where
    other_name : (x y : A) → not (number y == number x) ≡ true → number_of (name y) ≡ number y → number_of (name x) ≡ number x → bytes_eq (name y) (name x) ≡ false
    other_name x y differ at_y at_x = by_test (bytes_eq (name y) (name x)) refl
      where
        by_test : (b : Bool) → bytes_eq (name y) (name x) ≡ b → b ≡ false
        by_test false e = refl
        by_test true e =
            let met = same_number (number y) (number x) (sym at_y ∙ ap number_of ((bytes_eq-Decides (name y) (name x)).0 e) ∙ at_x) in
            let other = is_not (number y == number x) differ in
            sym met ∙ other

    no_other : (x : A) (xs : List A) → list_all (λ m. not (m == number x)) (map number xs) ≡ true → number_of (name x) ≡ number x → AllByRecursion (λ y. number_of (name y) ≡ number y) xs → has_name (map name xs) (name x) ≡ false
    no_other x [] differ at_x at = refl
    no_other x (y ∷ ys) differ at_x at =
        let both = both_true (not (number y == number x)) (list_all (λ m. not (m == number x)) (map number ys)) differ in
        none_of (bytes_eq (name y) (name x)) (has_name (map name ys) (name x)) (other_name x y both.0 at.0 at_x) (no_other x ys both.1 at_x at.1)

    -- numbers that differ have names that do
    pub names_differ : (xs : List A) → all_differ (map number xs) ≡ true → AllByRecursion (λ x. number_of (name x) ≡ number x) xs → AreApart (map name xs)
    names_differ [] differ at = tt
    names_differ (x ∷ xs) differ at =
        let among = list_all (λ m. not (m == number x)) (map number xs) in
        let both = both_true (not (not among)) (all_differ (map number xs)) differ in
        (no_other x xs (not_so among (is_not (not among) both.0)) at.0 at.1, names_differ xs both.1 at.1)

  module _ (name_of : ℕ → List ℕ) where
    other_number : (x y : A) → bytes_eq (name y) (name x) ≡ false → name_of (number y) ≡ name y → name_of (number x) ≡ name x → not (number y == number x) ≡ true
    other_number x y differ at_y at_x = by_test (number y == number x) refl
      where
        by_test : (b : Bool) → (number y == number x) ≡ b → not b ≡ true
        by_test false e = refl
        by_test true e =
            let met = (bytes_eq-Decides (name y) (name x)).1 (sym at_y ∙ ap name_of (eqb-true (number y) (number x) e) ∙ at_x) in
            sym differ ∙ met

    no_number : (x : A) (xs : List A) → has_name (map name xs) (name x) ≡ false → name_of (number x) ≡ name x → AllByRecursion (λ y. name_of (number y) ≡ name y) xs → list_all (λ m. not (m == number x)) (map number xs) ≡ true
    no_number x [] differ at_x at = refl
    no_number x (y ∷ ys) differ at_x at =
        let both = neither (bytes_eq (name y) (name x)) (has_name (map name ys) (name x)) differ in
        are_both (not (number y == number x)) (list_all (λ m. not (m == number x)) (map number ys)) (other_number x y both.0 at.0 at_x) (no_number x ys both.1 at_x at.1)

    -- names that differ stand for numbers that do
    pub numbers_differ : (xs : List A) → AreApart (map name xs) → AllByRecursion (λ x. name_of (number x) ≡ name x) xs → all_differ (map number xs) ≡ true
    numbers_differ [] differ at = refl
    numbers_differ (x ∷ xs) differ at =
        let among = list_all (λ m. not (m == number x)) (map number xs) in
        are_both (not (not among)) (all_differ (map number xs)) (ap (λ b. not (not b)) (no_number x xs differ.0 at.0 at.1)) (numbers_differ xs differ.1 at.1)
