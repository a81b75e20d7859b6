-- Groups by rising key, each with what its items have come to.
use Rattle.std.specs.Prelude.{◌≡◌, ℕ, ◌^◌, ℤ, pos, neg_ℤ, ◌+ℤ◌, ◌<ℤ◌, List, [], ◌∷◌, ◌++◌, length, map, filter, if◌then◌else◌}
use Rattle.std.specs.List.{AllByRecursion}
use Rattle.std.specs.List.Sorted.{IsPermutation}
use Rattle.std.specs.declared.cmp.Ordering.TheVariants.{Less, Greater}
use Rattle.strip_value.specs.declared.values.Value.{Value}
use Rattle.strip_value.specs.declared.values.Value.TheVariants.{Int}
use Rattle.strip_value.specs.declared.expressions.Test.{Test}
use Rattle.strip_value.specs.declared.queries.Item.{Item}
use Rattle.strip_value.specs.declared.queries.Place.{Place}
use Rattle.strip_value.specs.declared.queries.What.{What}
use Rattle.strip_value.specs.declared.queries.What.TheVariants as what
use Rattle.strip_value.specs.Order.{row_cmp}
use Rattle.strip_value.specs.Query.{distinct, group_key, group_of, key_value, number_of, satisfies, sum_of, value_at}
use Rattle.strip_eval.specs.declared.groups.Group.{Group}

-- ---- what items come to

-- what a combination adds to an item: the number of a sum's expression, 1 to a count
abbrev pub part_of : What → List (List Value) → ℤ
part_of (what.Plain e) rows = pos 0
part_of (what.Sum e) rows = number_of (value_at rows e)
part_of what.Count rows = pos 1

-- what an item has come to over combinations
abbrev pub total_of : List (List (List Value)) → Item → ℤ
total_of group item = sum_of (map (part_of item.what) group)

-- the numbers with one more combination
abbrev pub with_parts : List Item → List (List Value) → List ℤ → List ℤ
with_parts [] rows totals = totals
with_parts (item ∷ items) rows [] = []
with_parts (item ∷ items) rows (total ∷ totals) = (total +ℤ part_of item.what rows) ∷ with_parts items rows totals

-- strictly between -2^126 and 2^126
abbrev pub IsBig : ℤ → Type 0
IsBig n = (neg_ℤ (pos (2 ^ 126)) <ℤ n) × (n <ℤ pos (2 ^ 126))

-- ---- groups

abbrev pub keys_of : List Group → List (List Value)
keys_of = map (λ g. g.key)

-- rows that rise strictly
abbrev pub Rise : List (List Value) → Type 0
Rise [] = Unit {0}
Rise (row ∷ rows) = AllByRecursion (λ other. row_cmp row other ≡ Less) rows × Rise rows

-- the keys rise strictly
abbrev pub GroupsRise : List Group → Type 0
GroupsRise groups = Rise (keys_of groups)

-- the group of the key stands at this place
pub record IsGroupAt (groups : List Group) (key : List Value) (at : ℕ) : Type 0 where
  pub front : List Group
  pub group : Group
  pub back : List Group
  pub split : groups ≡ front ++ group ∷ back
  pub place : length front ≡ at
  pub has_key : group.key ≡ key

-- no group has the key, and those before this place are below it, the others above
pub record IsGroupGap (groups : List Group) (key : List Value) (at : ℕ) : Type 0 where
  pub front : List Group
  pub back : List Group
  pub split : groups ≡ front ++ back
  pub place : length front ≡ at
  pub below : AllByRecursion (λ g. row_cmp g.key key ≡ Less) front
  pub above : AllByRecursion (λ g. row_cmp g.key key ≡ Greater) back

-- each item has come to what it is over the combinations of the group's key
abbrev pub HasTotals : List Item → List Place → List (List (List Value)) → Group → Type 0
HasTotals items places all group = group.totals.items ≡ map (total_of (group_of places all group.key)) items

-- the groups of these combinations
pub record AreGroups (items : List Item) (places : List Place) (all : List (List (List Value))) (groups : List Group) : Type 0 where
  pub rise : GroupsRise groups
  pub keys : IsPermutation (keys_of groups) (distinct (map (group_key places) all))
  pub totals : AllByRecursion (HasTotals items places all) groups

-- where the group has the combination's key, it may be added: what the items come to stays a `Big`
abbrev pub StaysBig : List Item → List Place → List (List Value) → Group → Type 0
StaysBig items places rows group = group.key ≡ group_key places rows → (length group.totals.items ≡ length items) × AllByRecursion IsBig (with_parts items rows group.totals.items)

-- these combinations are added to the groups
abbrev pub Adds : List Item → List Place → List (List (List Value)) → List Group → List Group → Type 0
Adds items places more old new = (all : List (List (List Value))) → AreGroups items places all old → AreGroups items places (all ++ more) new

-- the combinations of an only entry that satisfy the filter
abbrev pub picked : Test → List (List Value) → List (List (List Value))
picked t rows = filter (satisfies t) (map (λ row. row ∷ []) rows)

-- the combination, if it satisfies the filter
abbrev pub picked_one : Test → List (List Value) → List (List (List Value))
picked_one t rows = if satisfies t rows then rows ∷ [] else []

-- ---- rows

-- the value of an item for a group: a group column's value, or what it has come to
abbrev pub value_in : List Place → List Value → What → ℤ → Value
value_in places key (what.Plain e) total = key_value places key e
value_in places key _ total = Int total

-- the values of the items
abbrev pub values_in : List Place → List Value → List Item → List ℤ → List Value
values_in places key [] totals = []
values_in places key (item ∷ items) [] = []
values_in places key (item ∷ items) (total ∷ totals) = value_in places key item.what total ∷ values_in places key items totals

abbrev pub row_in : List Item → List Place → Group → List Value
row_in items places group = values_in places group.key items group.totals.items
