-- Static bounds on which the definitions compute.
use Rattle.std.specs.Prelude.{◌≡◌, ◌+◌, ◌^◌, pos, negsuc, List, [], ◌∷◌, refl}
use Rattle.strip_value.specs.declared.kinds.Kind.{Kind}
use Rattle.strip_value.specs.declared.kinds.Kind.TheVariants as kind
use Rattle.strip_value.specs.declared.expressions.Calc.TheVariants.{Number, Column}
use Rattle.strip_value.specs.Trees.{Add, Sub, Mul}
use Rattle.strip_value.specs.Bounds.{magnitude_of}

-- an entry with an int, a big and a text column, and one with two int columns
abbrev pub kinds : List (List Kind)
kinds = (kind.Int ∷ kind.Big ∷ kind.Text ∷ []) ∷ (kind.Int ∷ kind.Int ∷ []) ∷ []

-- -7
pub number : magnitude_of kinds (Number (negsuc 6)) ≡ 7
number = refl

pub int_column : magnitude_of kinds (Column 1 0) ≡ 2 ^ 31
int_column = refl

pub big_column : magnitude_of kinds (Column 0 1) ≡ 2 ^ 126
big_column = refl

pub product : magnitude_of kinds (Mul (Mul (Column 0 0) (Column 1 0)) (Column 1 1)) ≡ 2 ^ 93
product = refl

pub sum : magnitude_of kinds (Add (Column 0 0) (Number (pos 5))) ≡ 2 ^ 31 + 5
sum = refl

-- the bounds of a difference are added too
pub difference : magnitude_of kinds (Sub (Column 1 0) (Column 1 0)) ≡ 2 ^ 32
difference = refl

-- nothing times a big column is nothing
pub by_zero : magnitude_of kinds (Mul (Number (pos 0)) (Column 0 1)) ≡ 0
by_zero = refl

-- a big column times itself counts as 2^127
pub square : magnitude_of kinds (Mul (Column 0 1) (Column 0 1)) ≡ 2 ^ 127
square = refl

-- and so do three big columns, added
pub past_the_cap : magnitude_of kinds (Add (Add (Column 0 1) (Column 0 1)) (Column 0 1)) ≡ 2 ^ 127
past_the_cap = refl
