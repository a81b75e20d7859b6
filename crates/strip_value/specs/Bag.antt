-- A signed bag: rows with counts, by rising row, no count being zero.
use Rattle.std.specs.Prelude.{◌≡◌, ◌≢◌, ◌^◌, ℤ, pos, neg_ℤ, ◌+ℤ◌, ◌<ℤ◌, List, [], ◌∷◌, ◌++◌, if◌then◌else◌}
use Rattle.std.specs.List.{AllByRecursion}
use Rattle.std.specs.declared.cmp.Ordering.{Ordering}
use Rattle.std.specs.declared.cmp.Ordering.TheVariants.{Less, Equal, Greater}
use Rattle.std.specs.Ordering.{int_eq}
use Rattle.strip_value.specs.declared.values.Value.{Value}
use Rattle.strip_value.specs.Order.{row_cmp}

-- a row, and how often it counts
pub record Counted : Type 0 where
  pub row : List Value
  pub count : ℤ

-- the first row is below the second
abbrev pub IsLower : Counted → Counted → Type 0
IsLower low high = row_cmp low.row high.row ≡ Less

-- the rows rise, and no count is zero
abbrev pub IsBag : List Counted → Type 0
IsBag [] = Unit {0}
IsBag (c ∷ cs) = (c.count ≢ pos 0) × AllByRecursion (IsLower c) cs × IsBag cs

-- a count is strictly between -2^126 and 2^126
abbrev pub IsCount : ℤ → Type 0
IsCount n = (neg_ℤ (pos (2 ^ 126)) <ℤ n) × (n <ℤ pos (2 ^ 126))

-- a number where the row is the one that is looked for, else nothing
abbrev pub counts_here : Ordering → ℤ → ℤ
counts_here Equal n = n
counts_here _ n = pos 0

-- how often the row counts; one that isn't listed counts 0
abbrev pub count_in : List Counted → List Value → ℤ
count_in [] row = pos 0
count_in (c ∷ cs) row = counts_here (row_cmp row c.row) c.count +ℤ count_in cs row

-- the row with its count, or nothing where the count is zero
abbrev pub counted_row : List Value → ℤ → List Counted
counted_row row count = if int_eq count (pos 0) then [] else record { row = row; count = count } ∷ []

-- the row before the first one, in its place with both counts, or among the others
abbrev pub added_by : Ordering → List Value → ℤ → Counted → List Counted → List Counted → List Counted
added_by Less row times first others later = counted_row row times ++ first ∷ others
added_by Equal row times first others later = counted_row row (first.count +ℤ times) ++ others
added_by Greater row times first others later = first ∷ later

-- the bag with the row's count raised, and without the row where its count comes to zero
abbrev pub added : List Counted → List Value → ℤ → List Counted
added [] row times = counted_row row times
added (c ∷ cs) row times = added_by (row_cmp row c.row) row times c cs (added cs row times)

-- the bag of a list of rows: each counts once
abbrev pub bag_of : List (List Value) → List Counted
bag_of [] = []
bag_of (row ∷ rows) = added (bag_of rows) row (pos 1)

-- how often a list has the row
abbrev pub times_in : List (List Value) → List Value → ℤ
times_in [] row = pos 0
times_in (one ∷ rows) row = counts_here (row_cmp row one) (pos 1) +ℤ times_in rows row

-- the sum of two bags
abbrev pub bag_sum : List Counted → List Counted → List Counted
bag_sum bag [] = bag
bag_sum bag (c ∷ cs) = added (bag_sum bag cs) c.row c.count

-- a bag less a bag
abbrev pub bag_less : List Counted → List Counted → List Counted
bag_less bag [] = bag
bag_less bag (c ∷ cs) = added (bag_less bag cs) c.row (neg_ℤ c.count)
