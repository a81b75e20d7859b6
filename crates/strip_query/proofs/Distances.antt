-- How far sums, differences and products are from 0. A cap is a variable here.
use Rattle.std.proofs.Common.{ℕ, zero, suc, ◌+◌, ◌*◌, ◌<◌, ◌≤◌, min, arith}
use Rattle.std.specs.Prelude.{ℤ, pos, ◌+ℤ◌, ◌-ℤ◌, ◌*ℤ◌, neg_ℤ, ◌≤ℤ◌, ◌<ℤ◌, nat_abs}
use Rattle.std.proofs.lemmas.Int.{ints, unsigned_abs-mul}
use Rattle.std.proofs.lemmas.Nat.{mul-le, mul-lt}

abs_add : (x y : ℤ) → nat_abs (x +ℤ y) ≤ nat_abs x + nat_abs y
abs_add x y = omega (arith, ints)

abs_sub : (x y : ℤ) → nat_abs (x -ℤ y) ≤ nat_abs x + nat_abs y
abs_sub x y = omega (arith, ints)

-- between bounds
pub abs_between : (x : ℤ) (h : ℕ) → neg_ℤ (pos h) ≤ℤ x → x <ℤ pos h → nat_abs x ≤ h
abs_between x h low high = omega (arith, ints)

pub abs_inside : (x : ℤ) (h : ℕ) → neg_ℤ (pos h) <ℤ x → x <ℤ pos h → nat_abs x ≤ h
abs_inside x h low high = omega (arith, ints)

-- of a sum, a difference and a product whose bound isn't capped
pub sum_within : (x y : ℤ) (m n c : ℕ) → (m < c → nat_abs x ≤ m) → (n < c → nat_abs y ≤ n) → min (m + n) c < c → nat_abs (x +ℤ y) ≤ min (m + n) c
sum_within x y m n c left right low =
    let both = abs_add x y in
    let one : nat_abs x ≤ m = left (omega arith) in
    let two : nat_abs y ≤ n = right (omega arith) in
    omega arith

pub difference_within : (x y : ℤ) (m n c : ℕ) → (m < c → nat_abs x ≤ m) → (n < c → nat_abs y ≤ n) → min (m + n) c < c → nat_abs (x -ℤ y) ≤ min (m + n) c
difference_within x y m n c left right low =
    let both = abs_sub x y in
    let one : nat_abs x ≤ m = left (omega arith) in
    let two : nat_abs y ≤ n = right (omega arith) in
    omega arith

-- a product of numbers whose bounds aren't both known: where one bound is 0, the product is
factors_within : (p q m n c : ℕ) → (m < c → p ≤ m) → (n < c → q ≤ n) → m * n < c → p * q ≤ m * n
factors_within p q zero n c left right low = let none = mul-le p q 0 q (left (omega arith)) (omega arith) in omega arith
factors_within p q (suc m) zero c left right low = let none = mul-le p q p 0 (omega arith) (right (omega arith)) in omega arith
factors_within p q (suc m) (suc n) c left right low = mul-le p q (suc m) (suc n) (left (omega arith)) (right (omega arith))

pub product_within : (x y : ℤ) (m n c : ℕ) → (m < c → nat_abs x ≤ m) → (n < c → nat_abs y ≤ n) → min (m * n) c < c → nat_abs (x *ℤ y) ≤ min (m * n) c
product_within x y m n c left right low =
    let factors = factors_within (nat_abs x) (nat_abs y) m n c left right (omega arith) in
    let product = unsigned_abs-mul x y in
    omega arith

-- one number more
pub one_more : (x sum : ℤ) (m n : ℕ) → nat_abs x ≤ m → nat_abs sum ≤ n * m → nat_abs (x +ℤ sum) ≤ suc n * m
one_more x sum m n one others = let both = abs_add x sum in omega arith

-- fewer than p numbers, each less than q from 0
pub sum_below : (d n m p q : ℕ) → n < p → m < q → d ≤ n * m → d < p * q
sum_below d n m p q few narrow within = let product = mul-lt n m p q few narrow in omega arith

-- below a bound that is no more than the cap
pub under_cap : (d m h c : ℕ) → h ≤ c → m < h → (m < c → d ≤ m) → d < h
under_cap d m h c cap low within = let near : d ≤ m = within (omega arith) in omega arith
