-- Facts of each element of a list and of the elements behind it, and what filters keep.
use Rattle.std.proofs.Common.{◌≡◌, ℕ, zero, suc, Bool, true, false, ◌&&◌, cond, List, [], ◌∷◌, ◌++◌, map, filter, get_or, refl, ap, ap₂, ◌∙◌}
use Rattle.std.specs.List.{AllByRecursion, list_any, flat_map}
use Rattle.std.proofs.lemmas.List.Elements.{filter-append, filter_passes, recursion_from_All}
use Rattle.strip_value.proofs.Lists.{all_append, all_right, all_weaker, all_filter, filter_all}

-- what each element is, the one in the middle is
pub all_middle : {A : Type 0} (P : A → Type 0) (before : List A) (x : A) (after : List A) → AllByRecursion P (before ++ x ∷ after) → P x
all_middle P before x after all = (all_right P before (x ∷ after) all).0

-- what each element and the default is, an element at a place is
pub all_or : {A : Type 0} (P : A → Type 0) (xs : List A) (n : ℕ) (d : A) → AllByRecursion P xs → P d → P (get_or xs n d)
all_or P [] n d all other = other
all_or P (x ∷ xs) zero d all other = all.0
all_or P (x ∷ xs) (suc n) d all other = all_or P xs n d all.1 other

-- what each image is, each element of the mapped list is
pub all_map : {A B : Type 0} (P : B → Type 0) (f : A → B) (xs : List A) → AllByRecursion (λ x. P (f x)) xs → AllByRecursion P (map f xs)
all_map P f [] all = tt
all_map P f (x ∷ xs) all = (all.0, all_map P f xs all.1)

-- what is so wherever the list is cut is so of each element
pub all_cut : {A : Type 0} (P : A → Type 0) (xs : List A) → ((before : List A) (x : A) (after : List A) → xs ≡ before ++ x ∷ after → P x) → AllByRecursion P xs
all_cut P [] each = tt
all_cut P (x ∷ xs) each = (each [] x xs refl, all_cut P xs (λ before y after e. each (x ∷ before) y after (ap (λ ys. x ∷ ys) e)))

-- what is so of each element of each list is so of those of all, one after the other
pub all_flat : {A B : Type 0} (P : B → Type 0) (f : A → List B) (xs : List A) → AllByRecursion (λ x. AllByRecursion P (f x)) xs → AllByRecursion P (flat_map f xs)
all_flat P f [] all = tt
all_flat P f (x ∷ xs) all = all_append P (f x) (flat_map f xs) all.0 (all_flat P f xs all.1)

pub flat_alike : {A B : Type 0} (f g : A → List B) (xs : List A) → AllByRecursion (λ x. f x ≡ g x) xs → flat_map f xs ≡ flat_map g xs
flat_alike f g [] same = refl
flat_alike f g (x ∷ xs) same = ap₂ (λ one other. one ++ other) same.0 (flat_alike f g xs same.1)

-- what is so everywhere is so of each element
pub all_since : {A : Type 0} (P : A → Type 0) (xs : List A) → ((x : A) → P x) → AllByRecursion P xs
all_since P [] each = tt
all_since P (x ∷ xs) each = (each x, all_since P xs each)

-- a test that no element passes
pub none_passes : {A : Type 0} (test : A → Bool) (xs : List A) → AllByRecursion (λ x. test x ≡ false) xs → list_any test xs ≡ false
none_passes test [] none = refl
none_passes test (x ∷ xs) none = let rest = none_passes test xs none.1 in rw none.0 rest

-- ---- filters

-- a filter at an element that passes, at one that fails, and where none passes
pub filter_keeps : {A : Type 0} (test : A → Bool) (x : A) (xs : List A) → test x ≡ true → filter test (x ∷ xs) ≡ x ∷ filter test xs
filter_keeps test x xs e = ap (λ b. cond b (x ∷ filter test xs) (filter test xs)) e

pub filter_skips : {A : Type 0} (test : A → Bool) (x : A) (xs : List A) → test x ≡ false → filter test (x ∷ xs) ≡ filter test xs
filter_skips test x xs e = ap (λ b. cond b (x ∷ filter test xs) (filter test xs)) e

pub filter_none : {A : Type 0} (test : A → Bool) (xs : List A) → AllByRecursion (λ x. test x ≡ false) xs → filter test xs ≡ []
filter_none test [] none = refl
filter_none test (x ∷ xs) none = filter_skips test x xs none.0 ∙ filter_none test xs none.1

-- tests that agree at each element keep the same
pub filter_alike : {A : Type 0} (one other : A → Bool) (xs : List A) → AllByRecursion (λ x. one x ≡ other x) xs → filter one xs ≡ filter other xs
filter_alike one other [] same = refl
filter_alike one other (x ∷ xs) same =
    ap (λ b. cond b (x ∷ filter one xs) (filter one xs)) same.0
    ∙ ap (λ rest. cond (other x) (x ∷ rest) rest) (filter_alike one other xs same.1)

-- a filter of what a filter kept
pub filter_twice : {A : Type 0} (one other : A → Bool) (xs : List A) → filter other (filter one xs) ≡ filter (λ x. one x && other x) xs
filter_twice one other [] = refl
filter_twice one other (x ∷ xs) = by_test (one x) (filter_twice one other xs)
  where
    by_test : (b : Bool) → filter other (filter one xs) ≡ filter (λ y. one y && other y) xs
        → filter other (cond b (x ∷ filter one xs) (filter one xs)) ≡ cond (b && other x) (x ∷ filter (λ y. one y && other y) xs) (filter (λ y. one y && other y) xs)
    by_test true e = ap (λ rest. cond (other x) (x ∷ rest) rest) e
    by_test false e = e

-- each element that a filter kept passes
pub all_pass : {A : Type 0} (test : A → Bool) (xs : List A) → AllByRecursion (λ x. test x ≡ true) (filter test xs)
all_pass test xs = recursion_from_All (λ x. test x ≡ true) (filter test xs) (filter_passes test xs)

-- so a second time it keeps all
pub filter_again : {A : Type 0} (test : A → Bool) (xs : List A) → filter test (filter test xs) ≡ filter test xs
filter_again test xs = filter_all test (filter test xs) (all_pass test xs)

-- ---- each element and those behind it

-- each element stands so to each behind it
abbrev pub AllBehind : {A : Type 0} → (A → A → Type 0) → List A → Type 0
AllBehind R [] = Unit {0}
AllBehind R (x ∷ xs) = AllByRecursion (R x) xs × AllBehind R xs

-- this of two lists joined, of what a filter keeps, and about an element in the middle
module _ {A : Type 0} (R : A → A → Type 0) where
  pub behind_append : (xs ys : List A) → AllBehind R xs → AllBehind R ys → AllByRecursion (λ x. AllByRecursion (R x) ys) xs → AllBehind R (xs ++ ys)
  behind_append [] ys one other across = other
  behind_append (x ∷ xs) ys one other across = (all_append (R x) xs ys one.0 across.0, behind_append xs ys one.1 other across.1)

  pub behind_filter : (test : A → Bool) (xs : List A) → AllBehind R xs → AllBehind R (filter test xs)
  behind_filter test [] all = tt
  behind_filter test (x ∷ xs) all = by_test (test x) (behind_filter test xs all.1)
    where
      by_test : (b : Bool) → AllBehind R (filter test xs) → AllBehind R (cond b (x ∷ filter test xs) (filter test xs))
      by_test true rest = (all_filter (R x) test xs all.0, rest)
      by_test false rest = rest

  pub behind_middle : (before : List A) (x : A) (after : List A) → AllBehind R (before ++ x ∷ after) → AllByRecursion (λ y. R y x) before × AllByRecursion (R x) after
  behind_middle [] x after all = (tt, all.0)
  behind_middle (y ∷ before) x after all =
      let rest = behind_middle before x after all.1 in
      ((all_middle (R y) before x after all.0, rest.0), rest.1)

-- this of a mapped list, and of a weaker relation
pub behind_map : {A B : Type 0} (R : B → B → Type 0) (f : A → B) (xs : List A) → AllBehind (λ x y. R (f x) (f y)) xs → AllBehind R (map f xs)
behind_map R f [] all = tt
behind_map R f (x ∷ xs) all = (all_map (R (f x)) f xs all.0, behind_map R f xs all.1)

pub behind_weaker : {A : Type 0} (R S : A → A → Type 0) → ((x y : A) → R x y → S x y) → (xs : List A) → AllBehind R xs → AllBehind S xs
behind_weaker R S f [] all = tt
behind_weaker R S f (x ∷ xs) all = (all_weaker (R x) (S x) (f x) xs all.0, behind_weaker R S f xs all.1)

-- ---- lists that are cut in two at an element

-- an element of a list that was mapped, as the element that it comes from
pub record CameFrom {A B : Type 0} (f : A → B) (xs : List A) (before : List B) (y : B) (after : List B) : Type 0 where
  pub front : List A
  pub origin : A
  pub back : List A
  pub split : xs ≡ front ++ origin ∷ back
  pub ahead : map f front ≡ before
  pub here : f origin ≡ y
  pub behind : map f back ≡ after

-- the same with one more element at the front of both
came_behind : {A B : Type 0} (f : A → B) (x : A) (b : B) (xs : List A) (before : List B) (y : B) (after : List B) → f x ≡ b → CameFrom f xs before y after → CameFrom f (x ∷ xs) (b ∷ before) y after
came_behind f x b xs before y after first c = record {
  front = x ∷ c.front;
  origin = c.origin;
  back = c.back;
  split = ap (λ zs. x ∷ zs) c.split;
  ahead = ap₂ (λ z zs. z ∷ zs) first c.ahead;
  here = c.here;
  behind = c.behind;
}

-- where a mapped list is cut, the list itself is
pub map_split : {A B : Type 0} (f : A → B) (xs : List A) (before : List B) (y : B) (after : List B) → map f xs ≡ before ++ y ∷ after → CameFrom f xs before y after
map_split f [] [] y after e = absurd (cc)
map_split f [] (b ∷ before) y after e = absurd (cc)
map_split f (x ∷ xs) [] y after e = record { front = []; origin = x; back = xs; split = refl; ahead = refl; here = cc; behind = cc }
map_split f (x ∷ xs) (b ∷ before) y after e =
    let first : f x ≡ b = cc in
    let rest : map f xs ≡ before ++ y ∷ after = cc in
    came_behind f x b xs before y after first (map_split f xs before y after rest)

-- a filter of a list in which an element stands, kept
pub filter_middle : {A : Type 0} (test : A → Bool) (before : List A) (x : A) (after : List A) → test x ≡ true → filter test (before ++ x ∷ after) ≡ filter test before ++ x ∷ filter test after
filter_middle test before x after e = filter-append test before (x ∷ after) ∙ ap (λ rest. filter test before ++ rest) (filter_keeps test x after e)
