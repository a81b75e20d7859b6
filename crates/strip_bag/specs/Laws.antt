-- The laws of bags.
use Rattle.std.specs.Prelude.{◌≡◌, ◌≢◌, ℤ, ◌+ℤ◌, ◌-ℤ◌, List, ◌++◌, map}
use Rattle.strip_value.specs.declared.values.Value.{Value}
use Rattle.strip_value.specs.Query.{in_order, sum_of}
use Rattle.strip_value.specs.Bag.{Counted, IsBag, count_in, added, bag_of, times_in, bag_sum, bag_less}

-- after adding, the row's count is raised by the number, and every other row's is as before
abbrev pub AddingRaises : Type 0
AddingRaises =
    (bag : List Counted) (row : List Value) (times : ℤ) →
    (count_in (added bag row times) row ≡ count_in bag row +ℤ times)
    × ((other : List Value) → other ≢ row → count_in (added bag row times) other ≡ count_in bag other)

-- a bag stays one
abbrev pub AddingKeepsBags : Type 0
AddingKeepsBags = (bag : List Counted) (row : List Value) (times : ℤ) → IsBag bag → IsBag (added bag row times)

-- in the bag of a list each row counts as often as the list has it
abbrev pub RowsCount : Type 0
RowsCount = (rows : List (List Value)) (row : List Value) → count_in (bag_of rows) row ≡ times_in rows row

abbrev pub BagsOfRows : Type 0
BagsOfRows = (rows : List (List Value)) → IsBag (bag_of rows)

-- counts add up in a sum of bags
abbrev pub SumsCount : Type 0
SumsCount = (one two : List Counted) (row : List Value) → count_in (bag_sum one two) row ≡ count_in one row +ℤ count_in two row

abbrev pub SumsAreBags : Type 0
SumsAreBags = (one two : List Counted) → IsBag one → IsBag (bag_sum one two)

-- and are subtracted in a bag less a bag
abbrev pub DifferencesCount : Type 0
DifferencesCount = (one two : List Counted) (row : List Value) → count_in (bag_less one two) row ≡ count_in one row -ℤ count_in two row

abbrev pub DifferencesAreBags : Type 0
DifferencesAreBags = (one two : List Counted) → IsBag one → IsBag (bag_less one two)

-- the counts of two lists, one after the other, are the sums of their counts
abbrev pub AppendsCount : Type 0
AppendsCount = (one two : List (List Value)) (row : List Value) → count_in (bag_of (one ++ two)) row ≡ count_in (bag_of one) row +ℤ count_in (bag_of two) row

-- two bags with the same counts are one
abbrev pub CountsDecide : Type 0
CountsDecide = (one two : List Counted) → IsBag one → IsBag two → ((row : List Value) → count_in one row ≡ count_in two row) → one ≡ two

-- the bag of two lists, one after the other, is the sum of their bags
abbrev pub AppendsAreSums : Type 0
AppendsAreSums = (one two : List (List Value)) → bag_of (one ++ two) ≡ bag_sum (bag_of one) (bag_of two)

-- the bag of rows doesn't change when they are put in order
abbrev pub OrderKeepsBags : Type 0
OrderKeepsBags = (rows : List (List Value)) → bag_of (in_order rows) ≡ bag_of rows

-- lists of one bag have one sum of any number of each row
abbrev pub SumsFollowBags : Type 0
SumsFollowBags = (of : List Value → ℤ) (one two : List (List Value)) → bag_of one ≡ bag_of two → sum_of (map of one) ≡ sum_of (map of two)
