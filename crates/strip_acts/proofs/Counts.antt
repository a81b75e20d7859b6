-- What calls on the parts of an expression make of the whole: counts that stop at 257, and tests.
use Rattle.std.proofs.Common.{◌≡◌, ℕ, ◌+◌, ◌<◌, ◌≤◌, ◌==◌, min, max, Bool, true, false, ◌&&◌, List, [], ◌∷◌, length, nat_le, refl, sym, ap, ap₂, ◌∙◌, arith}
use Rattle.std.specs.List.{list_all}
use Rattle.strip_value.specs.declared.expressions.Calc.{Calc}
use Rattle.strip_value.specs.declared.kinds.Kind.{Kind}
use Rattle.strip_acts.specs.Suiting.{is_bounded, is_narrow}
use Rattle.strip_acts.specs.Writable.{are_listed}
use Rattle.strip_acts.proofs.Tests.{at_most, is_at_most}

-- ---- counts

joined_count : (x y a b s t : ℕ) → t ≡ a + (1 + b) → x ≡ min a 257 → y ≡ min b 257 → s ≡ min (x + (1 + y)) 257 → s ≡ min t 257
joined_count x y a b s t t_is x_is y_is s_is = omega arith

deeper_count : (x y a b s t : ℕ) → t ≡ max a b → x ≡ min a 257 → y ≡ min b 257 → s ≡ max x y → s ≡ min t 257
deeper_count x y a b s t t_is x_is y_is s_is = omega arith

-- the operators of a whole are those of its parts and one more
pub count_made : {A : Type 0} (f : A → ℕ) (e a b l r : A) (x y s : ℕ) → f e ≡ f a + (1 + f b) → l ≡ a → r ≡ b → x ≡ min (f l) 257
    → y ≡ min (f r) 257 → s ≡ min (x + (1 + y)) 257 → s ≡ min (f e) 257
count_made f e a b l r x y s whole l_is r_is x_is y_is s_is =
    joined_count x y (f a) (f b) s (f e) whole (x_is ∙ ap (λ z. min (f z) 257) l_is) (y_is ∙ ap (λ z. min (f z) 257) r_is) s_is

one_more : (x a s t : ℕ) → t ≡ 1 + a → x ≡ min a 257 → s ≡ min (0 + (1 + x)) 257 → s ≡ min t 257
one_more x a s t t_is x_is s_is = omega arith

pub one_more_made : {A : Type 0} (f : A → ℕ) (e a l : A) (x s : ℕ) → f e ≡ 1 + f a → l ≡ a → x ≡ min (f l) 257
    → s ≡ min (0 + (1 + x)) 257 → s ≡ min (f e) 257
one_more_made f e a l x s whole l_is x_is s_is = one_more x (f a) s (f e) whole (x_is ∙ ap (λ z. min (f z) 257) l_is) s_is

-- the parentheses of a whole are those of the deeper part
pub depth_made : {A : Type 0} (f g h : A → ℕ) (e a b l r : A) (x y s : ℕ) → f e ≡ max (g a) (h b) → l ≡ a → r ≡ b
    → x ≡ min (g l) 257 → y ≡ min (h r) 257 → s ≡ max x y → s ≡ min (f e) 257
depth_made f g h e a b l r x y s whole l_is r_is x_is y_is s_is =
    deeper_count x y (g a) (h b) s (f e) whole (x_is ∙ ap (λ z. min (g z) 257) l_is) (y_is ∙ ap (λ z. min (h z) 257) r_is) s_is

-- ---- tests

-- the first part passes, so the second decides
pub second_decides : {A : Type 0} (f : A → Bool) (e a b l r : A) (x y : Bool) → f e ≡ (f a && f b) → l ≡ a → r ≡ b → x ≡ f l
    → x ≡ true → y ≡ f r → y ≡ f e
second_decides f e a b l r x y whole l_is r_is x_is passed y_is =
    let first : f a ≡ true = ap f (sym l_is) ∙ sym x_is ∙ passed in
    y_is ∙ ap f r_is ∙ sym (whole ∙ ap (λ t. t && f b) first)

-- the first part fails, and so does the whole
pub first_decides : {A : Type 0} (f : A → Bool) (e a b l : A) (x : Bool) → f e ≡ (f a && f b) → l ≡ a → x ≡ f l → x ≡ false
    → x ≡ f e
first_decides f e a b l x whole l_is x_is failed =
    let first : f a ≡ false = ap f (sym l_is) ∙ sym x_is ∙ failed in
    failed ∙ sym (whole ∙ ap (λ t. t && f b) first)

-- both parts are bounded and the whole is narrow, all three told
pub bounded_made : (kinds : List (List Kind)) (e w a b l r : Calc) (x y z s : Bool)
    → is_bounded kinds e ≡ (is_bounded kinds a && (is_bounded kinds b && is_narrow kinds w)) → e ≡ w → l ≡ a → r ≡ b
    → x ≡ is_bounded kinds l → y ≡ is_bounded kinds r → z ≡ is_narrow kinds e → s ≡ (x && (y && z)) → s ≡ is_bounded kinds e
bounded_made kinds e w a b l r x y z s whole e_is l_is r_is x_is y_is z_is s_is =
    let first : x ≡ is_bounded kinds a = x_is ∙ ap (is_bounded kinds) l_is in
    let second : y ≡ is_bounded kinds b = y_is ∙ ap (is_bounded kinds) r_is in
    let third : z ≡ is_narrow kinds w = z_is ∙ ap (is_narrow kinds) e_is in
    s_is ∙ ap (λ t. t && (y && z)) first ∙ ap (λ t. is_bounded kinds a && (t && z)) second
    ∙ ap (λ t. is_bounded kinds a && (is_bounded kinds b && t)) third ∙ sym whole

-- ---- limits

upper : (x n m : ℕ) → m < 257 → x ≡ min n 257 → x ≤ m → n ≤ m
upper x n m low is le = omega arith

lower : (x n m : ℕ) → x ≡ min n 257 → n ≤ m → x ≤ m
lower x n m is le = omega arith

-- a count that stops at 257 is within the same limits below
capped_le : (x n m : ℕ) → m < 257 → x ≡ min n 257 → nat_le x m ≡ nat_le n m
capped_le x n m low is = by_tests (nat_le x m) (nat_le n m) refl refl
  where
    by_tests : (b c : Bool) → nat_le x m ≡ b → nat_le n m ≡ c → b ≡ c
    by_tests true true e f = refl
    by_tests false false e f = refl
    by_tests true false e f = let le : n ≤ m = upper x n m low is (at_most x m e) in let yes = is_at_most n m le in cc
    by_tests false true e f = let le : x ≤ m = lower x n m is (at_most n m f) in let yes = is_at_most x m le in cc

pub within_limits : (x y n p : ℕ) (s : Bool) → x ≡ min n 257 → y ≡ min p 257 → s ≡ (nat_le x 256 && nat_le y 64)
    → s ≡ (nat_le n 256 && nat_le p 64)
within_limits x y n p s x_is y_is s_is =
    s_is ∙ ap₂ (λ a b. a && b) (capped_le x n 256 (omega arith) x_is) (capped_le y p 64 (omega arith) y_is)

-- ---- lists

-- a list that isn't empty is listed where all of it passes
pub listed_is : {A : Type 0} (p : A → Bool) (xs : List A) (none all : Bool) → none ≡ (length xs == 0) → none ≡ false
    → all ≡ list_all p xs → all ≡ are_listed p xs
listed_is p [] none all none_is some is = cc
listed_is p (x ∷ xs) none all none_is some is = is
