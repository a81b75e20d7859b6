-- The variants of expressions that hold parts: a part is smaller, and the bounds of the parts make that of the whole.
use Rattle.std.proofs.Common.{◌≡◌, ℕ, ◌+◌, ◌*◌, ◌<◌, List, refl, arith}
use Rattle.strip_value.specs.declared.kinds.Kind.{Kind}
use Rattle.strip_value.specs.declared.expressions.Calc.{Calc}
use Rattle.strip_value.specs.declared.expressions.Calc.TheVariants as calc
use Rattle.strip_value.specs.Trees as tree
use Rattle.strip_value.specs.Trees.{Add-is, Sub-is, Mul-is}
use Rattle.strip_value.specs.Bounds.{capped, magnitude_of}

-- how many sums, differences and products an expression has
abbrev pub size : Calc → ℕ
size (tree.Add a b) = size a + size b + 1
size (tree.Sub a b) = size a + size b + 1
size (tree.Mul a b) = size a + size b + 1
size _ = 0

-- a part of an expression is smaller

pub parts_of_add : (a b : Calc) → (size a < size (calc.Add a b)) × (size b < size (calc.Add a b))
parts_of_add a b = rw (Add-is a b) (omega arith, omega arith)

pub parts_of_sub : (a b : Calc) → (size a < size (calc.Sub a b)) × (size b < size (calc.Sub a b))
parts_of_sub a b = rw (Sub-is a b) (omega arith, omega arith)

pub parts_of_mul : (a b : Calc) → (size a < size (calc.Mul a b)) × (size b < size (calc.Mul a b))
parts_of_mul a b = rw (Mul-is a b) (omega arith, omega arith)

-- what a call on a part asks
pub part_falls : (e whole p part : Calc) (n : ℕ) → e ≡ whole → p ≡ part → size part < size whole → size e ≡ n → (size p < n) × Unit {0}
part_falls e whole p part n e_is p_is smaller size_is = rw (p_is, ← size_is, e_is) (smaller, tt)

-- what is made of the bounds of both parts is the bound of the whole
pub bound_of_add : (kinds : List (List Kind)) (e a b l r : Calc) (m n s : ℕ) → e ≡ calc.Add a b → l ≡ a → r ≡ b → m ≡ magnitude_of kinds l → n ≡ magnitude_of kinds r → s ≡ capped (m + n) → s ≡ magnitude_of kinds e
bound_of_add kinds e a b l r m n s e_is l_is r_is m_is n_is s_is = rw (e_is, Add-is a b, s_is, m_is, n_is, l_is, r_is) refl

pub bound_of_sub : (kinds : List (List Kind)) (e a b l r : Calc) (m n s : ℕ) → e ≡ calc.Sub a b → l ≡ a → r ≡ b → m ≡ magnitude_of kinds l → n ≡ magnitude_of kinds r → s ≡ capped (m + n) → s ≡ magnitude_of kinds e
bound_of_sub kinds e a b l r m n s e_is l_is r_is m_is n_is s_is = rw (e_is, Sub-is a b, s_is, m_is, n_is, l_is, r_is) refl

pub bound_of_mul : (kinds : List (List Kind)) (e a b l r : Calc) (m n s : ℕ) → e ≡ calc.Mul a b → l ≡ a → r ≡ b → m ≡ magnitude_of kinds l → n ≡ magnitude_of kinds r → s ≡ capped (m * n) → s ≡ magnitude_of kinds e
bound_of_mul kinds e a b l r m n s e_is l_is r_is m_is n_is s_is = rw (e_is, Mul-is a b, s_is, m_is, n_is, l_is, r_is) refl
