-- The order of values and of rows, and its laws.
use Rattle.std.specs.Prelude.{◌≡◌, List, refl}
use Rattle.std.specs.declared.cmp.Ordering.{Ordering}
use Rattle.std.specs.declared.cmp.Ordering.TheVariants.{Less, Equal, Greater}
use Rattle.std.specs.Ordering.{nat_cmp, int_cmp, ordering_reverse}
use Rattle.std.specs.Cmp.{IsTotalOrder, nat_cmp_total, int_cmp_total}
use Rattle.std.specs.Cmp.Lexicographic.{slice_cmp, lists_total}
use Rattle.strip_value.specs.declared.values.Value.{Value}
use Rattle.strip_value.specs.declared.values.Value.TheVariants.{Int, Text}

-- numbers by size, texts by their bytes, a number below every text
abbrev pub value_cmp : Value → Value → Ordering
value_cmp (Int a) (Int b) = int_cmp a b
value_cmp (Int a) (Text b) = Less
value_cmp (Text a) (Int b) = Greater
value_cmp (Text a) (Text b) = slice_cmp nat_cmp a b

-- rows value by value; a row that ends first is below
abbrev pub row_cmp : List Value → List Value → Ordering
row_cmp = slice_cmp value_cmp

pub text_cmp_total : IsTotalOrder (slice_cmp nat_cmp)
text_cmp_total = lists_total nat_cmp_total

pub value_cmp_total : IsTotalOrder value_cmp
value_cmp_total = record {
  antisymm = flipped;
  trans = chained;
  congr = alike;
}
  where
    flipped : (x y : Value) → value_cmp x y ≡ ordering_reverse (value_cmp y x)
    flipped (Int a) (Int b) = int_cmp_total.antisymm a b
    flipped (Int a) (Text b) = refl
    flipped (Text a) (Int b) = refl
    flipped (Text a) (Text b) = text_cmp_total.antisymm a b

    chained : (x y z : Value) → value_cmp x y ≡ Less → value_cmp y z ≡ Less → value_cmp x z ≡ Less
    chained (Int a) (Int b) (Int c) p q = int_cmp_total.trans a b c p q
    chained (Int a) (Int b) (Text c) p q = refl
    chained (Int a) (Text b) (Int c) p q = cc
    chained (Int a) (Text b) (Text c) p q = refl
    chained (Text a) (Int b) z p q = cc
    chained (Text a) (Text b) (Int c) p q = cc
    chained (Text a) (Text b) (Text c) p q = text_cmp_total.trans a b c p q

    alike : (x y z : Value) → value_cmp x y ≡ Equal → value_cmp x z ≡ value_cmp y z
    alike (Int a) (Int b) (Int c) p = int_cmp_total.congr a b c p
    alike (Int a) (Int b) (Text c) p = refl
    alike (Int a) (Text b) z p = cc
    alike (Text a) (Int b) z p = cc
    alike (Text a) (Text b) (Int c) p = refl
    alike (Text a) (Text b) (Text c) p = text_cmp_total.congr a b c p

pub row_cmp_total : IsTotalOrder row_cmp
row_cmp_total = lists_total value_cmp_total
