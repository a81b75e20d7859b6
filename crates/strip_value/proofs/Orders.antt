-- Values and rows that their orders don't tell apart are equal.
use Rattle.std.proofs.Common.{◌≡◌, List, ap}
use Rattle.std.specs.declared.cmp.Ordering.TheVariants.{Equal}
use Rattle.std.specs.FinMap.{nat_cmp-IsAntisymmetric, int_cmp-IsAntisymmetric, slice_cmp-IsAntisymmetric}
use Rattle.strip_value.specs.declared.values.Value.{Value}
use Rattle.strip_value.specs.declared.values.Value.TheVariants.{Int, Text}
use Rattle.strip_value.specs.Order.{value_cmp, row_cmp}

pub value_cmp_equal : (a b : Value) → value_cmp a b ≡ Equal → a ≡ b
value_cmp_equal (Int a) (Int b) same = ap Int (int_cmp-IsAntisymmetric a b same)
value_cmp_equal (Int a) (Text b) same = cc
value_cmp_equal (Text a) (Int b) same = cc
value_cmp_equal (Text a) (Text b) same = ap Text (slice_cmp-IsAntisymmetric nat_cmp-IsAntisymmetric a b same)

pub row_cmp_equal : (a b : List Value) → row_cmp a b ≡ Equal → a ≡ b
row_cmp_equal = slice_cmp-IsAntisymmetric value_cmp_equal
