-- What queries over one entry make of a signed bag: rows selected, and totals of groups, each row as often as it counts.
use Rattle.std.specs.Prelude.{◌≡◌, ℤ, pos, ◌+ℤ◌, ◌-ℤ◌, ◌*ℤ◌, Bool, ◌&&◌, List, [], ◌∷◌, map, filter, length, None, Some, if◌then◌else◌}
use Rattle.std.specs.Ordering.{is_eq}
use Rattle.strip_value.specs.declared.expressions.Calc.{Calc}
use Rattle.strip_value.specs.declared.expressions.Calc as calc
use Rattle.strip_value.specs.declared.expressions.Test.{Test}
use Rattle.strip_value.specs.declared.queries.Input.{Input}
use Rattle.strip_value.specs.declared.queries.Item.{Item}
use Rattle.strip_value.specs.declared.queries.Place.{Place}
use Rattle.strip_value.specs.declared.queries.Query.{Query}
use Rattle.strip_value.specs.declared.queries.What.{What}
use Rattle.strip_value.specs.declared.queries.What.TheVariants as what
use Rattle.strip_value.specs.declared.values.Value.{Value}
use Rattle.strip_value.specs.declared.values.Value.TheVariants.{Int}
use Rattle.strip_value.specs.Bag.{Counted, added, bag_less, bag_of, bag_sum}
use Rattle.strip_value.specs.Order.{row_cmp}
use Rattle.strip_value.specs.Query.{Environment, chosen, distinct, entry_rows, group_key, group_of, in_order, key_value, mean, number_of, plain_row, satisfies, sum_of, value_at}

-- ---- selecting

-- the rows of the items, for the rows that satisfy the filter
abbrev pub selected : Test → List Item → List Counted → List Counted
selected t items [] = []
selected t items (c ∷ cs) =
    if satisfies t (c.row ∷ []) then added (selected t items cs) (plain_row items (c.row ∷ [])) c.count else selected t items cs

-- selecting is linear
abbrev pub SelectingIsLinear : Type 0
SelectingIsLinear =
    (t : Test) (items : List Item) (one two : List Counted) →
    (selected t items (bag_sum one two) ≡ bag_sum (selected t items one) (selected t items two))
    × (selected t items (bag_less one two) ≡ bag_less (selected t items one) (selected t items two))

-- the answer to a query over one entry, without groups, as a bag
abbrev pub AnswersAreSelected : Type 0
AnswersAreSelected =
    (query : Query) (env : Environment) (entry : Input) → query.entries ≡ entry ∷ [] → query.group ≡ None
    → bag_of (mean query env) ≡ selected query.filter query.items (bag_of (entry_rows env entry))

-- ---- grouping

-- the row satisfies the filter, and the group columns have these values in it
abbrev pub is_in_group : Test → List Place → List Value → List Value → Bool
is_in_group t places key row = satisfies t (row ∷ []) && is_eq (row_cmp (group_key places (row ∷ [])) key)

-- the sum of an expression over the rows of a group
abbrev pub total : Test → List Place → List Value → Calc → List Counted → ℤ
total t places key e [] = pos 0
total t places key e (c ∷ cs) =
    (if is_in_group t places key c.row then c.count *ℤ number_of (value_at (c.row ∷ []) e) else pos 0) +ℤ total t places key e cs

-- the number of rows of a group
abbrev pub total_count : Test → List Place → List Value → List Counted → ℤ
total_count t places key bag = total t places key (calc.Number (pos 1)) bag

-- grouping by columns is linear, in sums and so in counts
abbrev pub GroupingIsLinear : Type 0
GroupingIsLinear =
    (t : Test) (places : List Place) (key : List Value) (e : Calc) (one two : List Counted) →
    (total t places key e (bag_sum one two) ≡ total t places key e one +ℤ total t places key e two)
    × (total t places key e (bag_less one two) ≡ total t places key e one -ℤ total t places key e two)

-- ---- the groups of a query

-- the rows of a list that are in the group, as combinations of one entry
abbrev pub rows_in_group : Test → List Place → List Value → List (List Value) → List (List (List Value))
rows_in_group t places key rows = group_of places (filter (satisfies t) (map (λ row. row ∷ []) rows)) key

abbrev pub sum_in_group : Test → List Place → List Value → Calc → List (List Value) → ℤ
sum_in_group t places key e rows = sum_of (map (λ one. number_of (value_at one e)) (rows_in_group t places key rows))

-- what a query over one entry chooses are the rows of that entry that satisfy its filter
abbrev pub OneEntryIsChosen : Type 0
OneEntryIsChosen =
    (query : Query) (env : Environment) (entry : Input) → query.entries ≡ entry ∷ []
    → chosen query env ≡ filter (satisfies query.filter) (map (λ row. row ∷ []) (entry_rows env entry))

-- the sum over a group of a list of rows, and the number of its rows, are the totals of the bag of the list
abbrev pub GroupsAreTotals : Type 0
GroupsAreTotals =
    (t : Test) (places : List Place) (key : List Value) (e : Calc) (rows : List (List Value)) →
    (sum_in_group t places key e rows ≡ total t places key e (bag_of rows))
    × (pos (length (rows_in_group t places key rows)) ≡ total_count t places key (bag_of rows))

-- the value of an item for the group of a key: a group column's value, or a total
abbrev pub total_value : Test → List Place → List Value → List Counted → What → Value
total_value t places key bag (what.Plain e) = key_value places key e
total_value t places key bag (what.Sum e) = Int (total t places key e bag)
total_value t places key bag what.Count = Int (total_count t places key bag)

-- in the answer to a query over one entry, with groups, the row of each key that the entry's chosen rows have is made of the totals
-- of the bag of that entry's rows
abbrev pub GroupedAnswersAreTotals : Type 0
GroupedAnswersAreTotals =
    (query : Query) (env : Environment) (entry : Input) (places : List Place) → query.entries ≡ entry ∷ [] → query.group ≡ Some places
    → mean query env
    ≡ in_order (map (λ key. map (λ item. total_value query.filter places key (bag_of (entry_rows env entry)) item.what) query.items) (distinct (map (group_key places) (chosen query env))))

-- the sum over a group after, less the sum before, is the total of the difference alone; so is the number of its rows
abbrev pub TotalsFollow : Type 0
TotalsFollow =
    (t : Test) (places : List Place) (key : List Value) (e : Calc) (before after : List (List Value)) →
    (sum_in_group t places key e after -ℤ sum_in_group t places key e before ≡ total t places key e (bag_less (bag_of after) (bag_of before)))
    × (pos (length (rows_in_group t places key after)) -ℤ pos (length (rows_in_group t places key before)) ≡ total_count t places key (bag_less (bag_of after) (bag_of before)))
