-- Parts of values and truth values are smaller than the whole.
use Rattle.std.proofs.Common.{◌≡◌, ℕ, ◌+◌, ◌<◌, arith}
use Rattle.strip_value.specs.declared.expressions.Test.{Test}
use Rattle.strip_value.specs.declared.expressions.Test.TheVariants as test
use Rattle.strip_value.specs.Trees as tree
use Rattle.strip_value.specs.Trees.{Not-is, And-is, Or-is}

-- how many words a truth value has
abbrev pub words : Test → ℕ
words (tree.Not t) = words t + 1
words (tree.And s t) = words s + words t + 1
words (tree.Or s t) = words s + words t + 1
words _ = 0

pub part_of_not : (t : Test) → words t < words (test.Not t)
part_of_not t = rw (Not-is t) (omega arith)

pub parts_of_and : (s t : Test) → (words s < words (test.And s t)) × (words t < words (test.And s t))
parts_of_and s t = rw (And-is s t) (omega arith, omega arith)

pub parts_of_or : (s t : Test) → (words s < words (test.Or s t)) × (words t < words (test.Or s t))
parts_of_or s t = rw (Or-is s t) (omega arith, omega arith)

-- what a call on a part asks
pub falls : {A : Type 0} (size : A → ℕ) (e whole p part : A) (n : ℕ) → e ≡ whole → p ≡ part → size part < size whole → size e ≡ n
    → size p < n
falls size e whole p part n e_is p_is smaller size_is = rw (p_is, ← size_is, e_is) smaller
