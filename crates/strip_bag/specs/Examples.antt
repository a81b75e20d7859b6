-- Small bags on which the definitions compute.
use Rattle.std.specs.Prelude.{◌≡◌, ℕ, pos, negsuc, true, false, List, [], ◌∷◌, codes, refl}
use Rattle.strip_value.specs.declared.expressions.Calc.{Calc}
use Rattle.strip_value.specs.declared.expressions.Calc.TheVariants.{Column, Number}
use Rattle.strip_value.specs.declared.expressions.Cmp.TheVariants as cmp
use Rattle.strip_value.specs.declared.expressions.Test.{Test}
use Rattle.strip_value.specs.declared.expressions.Test.TheVariants as test
use Rattle.strip_value.specs.declared.queries.Item.{Item}
use Rattle.strip_value.specs.declared.queries.Place.{Place}
use Rattle.strip_value.specs.declared.queries.What.TheVariants.{Plain, Sum}
use Rattle.strip_value.specs.declared.values.Value.{Value}
use Rattle.strip_value.specs.declared.values.Value.TheVariants.{Int}
use Rattle.strip_value.specs.Bag.{Counted, added, bag_of, bag_sum, bag_less, times_in}
use Rattle.strip_value.specs.Query.{in_order}
use Rattle.strip_bag.specs.Linear.{is_in_group, rows_in_group, selected, sum_in_group, total, total_count, total_value}

abbrev row : ℕ → List Value
row n = Int (pos n) ∷ []

-- two, one and two again: by rising row, each with its count
pub counted_twice : bag_of (row 2 ∷ row 1 ∷ row 2 ∷ []) ≡ record { row = row 1; count = pos 1 } ∷ record { row = row 2; count = pos 2 } ∷ []
counted_twice = refl

-- a count that comes to zero takes the row out
pub taken_out : added (bag_of (row 2 ∷ row 1 ∷ [])) (row 1) (negsuc 0) ≡ record { row = row 2; count = pos 1 } ∷ []
taken_out = refl

-- nothing is added by zero
pub by_zero : added [] (row 1) (pos 0) ≡ []
by_zero = refl

-- what is less than nothing counts below zero
pub less_than_none : bag_less [] (bag_of (row 3 ∷ row 3 ∷ [])) ≡ record { row = row 3; count = negsuc 1 } ∷ []
less_than_none = refl

pub meets_in_zero : bag_sum (bag_of (row 3 ∷ [])) (bag_less [] (bag_of (row 3 ∷ []))) ≡ []
meets_in_zero = refl

pub twice : times_in (row 2 ∷ row 1 ∷ row 2 ∷ []) (row 2) ≡ pos 2
twice = refl

-- in order they are the same bag
pub in_order_as_well : bag_of (in_order (row 2 ∷ row 1 ∷ row 2 ∷ [])) ≡ bag_of (row 2 ∷ row 1 ∷ row 2 ∷ [])
in_order_as_well = refl

-- ---- rows (g, v), of which those with v above 2 are asked for

abbrev pair : ℕ → ℕ → List Value
pair g v = Int (pos g) ∷ Int (pos v) ∷ []

abbrev large : Test
large = test.Compare cmp.Gt (Column 0 1) (Number (pos 2))

-- the item g, the group column g, and the expression v
abbrev only_g : List Item
only_g = record { name = codes "g"; what = Plain (Column 0 0) } ∷ []

abbrev by_g : List Place
by_g = record { entry = 0; column = 0 } ∷ []

abbrev v : Calc
v = Column 0 1

-- (1, 5) counts -2, (1, 6) counts 1, (2, 1) counts 3 and (3, 4) counts 2
abbrev mixed : List Counted
mixed =
    record { row = pair 1 5; count = negsuc 1 } ∷ record { row = pair 1 6; count = pos 1 } ∷ record { row = pair 2 1; count = pos 3 } ∷ record { row = pair 3 4; count = pos 2 } ∷ []

-- select g where v > 2: 1 counts -2 and 1, 2 doesn't pass, 3 counts 2
pub selected_counts : selected large only_g mixed ≡ record { row = row 1; count = negsuc 0 } ∷ record { row = row 3; count = pos 2 } ∷ []
selected_counts = refl

-- counts that meet in zero: nothing is selected
pub selected_none : selected large only_g (bag_less (bag_of (pair 1 5 ∷ [])) (bag_of (pair 1 6 ∷ []))) ≡ []
selected_none = refl

pub is_in_its_group : is_in_group large by_g (row 1) (pair 1 5) ≡ true
is_in_its_group = refl

-- of a row that doesn't pass, and of another group
pub is_in_no_group : is_in_group large by_g (row 2) (pair 2 1) ≡ false
is_in_no_group = refl

pub is_in_another_group : is_in_group large by_g (row 2) (pair 1 5) ≡ false
is_in_another_group = refl

-- sum(v) where v > 2 group by g: -2 times 5 and 6 are -4, and -2 and 1 rows are -1
pub total_of_one : total large by_g (row 1) v mixed ≡ negsuc 3
total_of_one = refl

pub count_of_one : total_count large by_g (row 1) mixed ≡ negsuc 0
count_of_one = refl

pub total_of_two : total large by_g (row 2) v mixed ≡ pos 0
total_of_two = refl

-- the item sum(v) of the group 1
pub value_of_one : total_value large by_g (row 1) mixed (Sum v) ≡ Int (negsuc 3)
value_of_one = refl

pub sum_of_one : sum_in_group large by_g (row 1) v (pair 1 5 ∷ pair 2 9 ∷ pair 1 1 ∷ pair 1 6 ∷ []) ≡ pos 11
sum_of_one = refl

pub rows_of_one : rows_in_group large by_g (row 1) (pair 1 5 ∷ pair 2 9 ∷ pair 1 1 ∷ pair 1 6 ∷ []) ≡ (pair 1 5 ∷ []) ∷ (pair 1 6 ∷ []) ∷ []
rows_of_one = refl

-- (1, 6) came and (2, 9) went: the sum of 1 rises by 6, that of 2 falls by 9
abbrev came_and_went : List Counted
came_and_went = bag_less (bag_of (pair 1 5 ∷ pair 1 6 ∷ [])) (bag_of (pair 2 9 ∷ pair 1 5 ∷ []))

pub one_rises : total large by_g (row 1) v came_and_went ≡ pos 6
one_rises = refl

pub two_falls : total large by_g (row 2) v came_and_went ≡ negsuc 8
two_falls = refl

pub two_has_one_less : total_count large by_g (row 2) came_and_went ≡ negsuc 0
two_has_one_less = refl
