-- What a query means: its answer, from whole lists of rows.
use Rattle.std.specs.Prelude.{ℕ, ℤ, pos, ◌+ℤ◌, ◌-ℤ◌, ◌*ℤ◌, Bool, true, false, not, ◌&&◌, ◌||◌, ◌==◌, List, [], ◌∷◌, map, filter, get_or, length, Option, None, Some, if◌then◌else◌}
use Rattle.std.specs.List.{flat_map}
use Rattle.std.specs.declared.cmp.Ordering.{Ordering}
use Rattle.std.specs.Ordering.{is_eq, is_lt, is_gt}
use Rattle.strip_value.specs.declared.values.Value.{Value}
use Rattle.strip_value.specs.declared.values.Value.TheVariants.{Int, Text}
use Rattle.strip_value.specs.declared.expressions.Calc.{Calc}
use Rattle.strip_value.specs.declared.expressions.Calc as calc
use Rattle.strip_value.specs.declared.expressions.Cmp.{Cmp}
use Rattle.strip_value.specs.declared.expressions.Cmp.TheVariants as cmp
use Rattle.strip_value.specs.declared.expressions.Test.{Test}
use Rattle.strip_value.specs.declared.expressions.Test as test
use Rattle.strip_value.specs.declared.queries.Input.{Input}
use Rattle.strip_value.specs.declared.queries.Input.TheVariants as input
use Rattle.strip_value.specs.declared.queries.What.{What}
use Rattle.strip_value.specs.declared.queries.What.TheVariants as what
use Rattle.strip_value.specs.declared.queries.Item.{Item}
use Rattle.strip_value.specs.declared.queries.Place.{Place}
use Rattle.strip_value.specs.declared.queries.Query.{Query}
use Rattle.strip_value.specs.declared.changes.Moved.{Moved}
use Rattle.strip_value.specs.Order.{value_cmp, row_cmp}
use Rattle.strip_value.specs.Trees as tree
use Rattle.strip_value.specs.Table.{Keyed, column_of, put_between}

-- ---- expressions, at one combination: a row of each entry

-- the number of a value; a text has none and counts as 0
abbrev pub number_of : Value → ℤ
number_of (Int n) = n
number_of (Text t) = pos 0

-- the value of an expression
abbrev pub value_at : List (List Value) → Calc → Value
value_at rows (calc.Number n) = Int n
value_at rows (calc.Text t) = Text t
value_at rows (calc.Column entry column) = column_of (get_or rows entry []) column
value_at rows (tree.Add a b) = Int (number_of (value_at rows a) +ℤ number_of (value_at rows b))
value_at rows (tree.Sub a b) = Int (number_of (value_at rows a) -ℤ number_of (value_at rows b))
value_at rows (tree.Mul a b) = Int (number_of (value_at rows a) *ℤ number_of (value_at rows b))

-- what a comparison asks of the order of its two values
abbrev pub compares : Cmp → Ordering → Bool
compares cmp.Eq order = is_eq order
compares cmp.Ne order = not (is_eq order)
compares cmp.Lt order = is_lt order
compares cmp.Le order = not (is_gt order)
compares cmp.Gt order = is_gt order
compares cmp.Ge order = not (is_lt order)

-- the combination satisfies the filter
abbrev pub satisfies : Test → List (List Value) → Bool
satisfies test.True rows = true
satisfies (test.Compare how a b) rows = compares how (value_cmp (value_at rows a) (value_at rows b))
satisfies (tree.Not t) rows = not (satisfies t rows)
satisfies (tree.And s t) rows = satisfies s rows && satisfies t rows
satisfies (tree.Or s t) rows = satisfies s rows || satisfies t rows

-- ---- entries and their combinations

-- the tables as they stand, the tables as they stood at the begin, and the rows that were moved since
pub record Environment : Type 0 where
  pub now : List Keyed
  pub before : List Keyed
  pub moved : Moved

-- the rows of the table of a number; a table that isn't there has none
abbrev pub rows_at : List Keyed → ℕ → List (List Value)
rows_at tables id = get_or (map (λ t. t.rows) tables) id []

-- the list of rows that an entry stands for
abbrev pub entry_rows : Environment → Input → List (List Value)
entry_rows env (input.Table id) = rows_at env.now id
entry_rows env (input.Before id) = rows_at env.before id
entry_rows env input.Inserted = env.moved.inserted
entry_rows env input.Deleted = env.moved.deleted
entry_rows env input.Old = env.moved.old
entry_rows env input.New = env.moved.new

-- each of the rows, before each of the combinations
abbrev pub with_each : List (List Value) → List (List (List Value)) → List (List (List Value))
with_each rows others = flat_map (λ row. map (λ rest. row ∷ rest) others) rows

-- all combinations of one row of each entry
abbrev pub combinations : List (List (List Value)) → List (List (List Value))
combinations [] = [] ∷ []
combinations (rows ∷ entries) = with_each rows (combinations entries)

-- the combinations that satisfy the filter of the query
abbrev pub chosen : Query → Environment → List (List (List Value))
chosen query env = filter (satisfies query.filter) (combinations (map (entry_rows env) query.entries))

-- ---- rows in their order

-- a row put before the first one that isn't below it
abbrev pub put_in_order : List Value → List (List Value) → List (List Value)
put_in_order row [] = row ∷ []
put_in_order row (first ∷ rows) = put_between (row_cmp row first) row first rows (put_in_order row rows)

-- the rows in row order, each as often as it occurs
abbrev pub in_order : List (List Value) → List (List Value)
in_order [] = []
in_order (row ∷ rows) = put_in_order row (in_order rows)

-- the rows, each once
abbrev pub distinct : List (List Value) → List (List Value)
distinct [] = []
distinct (row ∷ rows) = row ∷ filter (λ other. not (is_eq (row_cmp row other))) (distinct rows)

-- ---- without groups

-- the value of an item; sums and counts are only of groups
abbrev pub plain_value : List (List Value) → What → Value
plain_value rows (what.Plain e) = value_at rows e
plain_value rows _ = Int (pos 0)

-- the row of the items
abbrev pub plain_row : List Item → List (List Value) → List Value
plain_row items rows = map (λ item. plain_value rows item.what) items

-- ---- with groups

-- the values of the group columns
abbrev pub group_key : List Place → List (List Value) → List Value
group_key places rows = map (λ place. column_of (get_or rows place.entry []) place.column) places

-- the combinations that have these values of the group columns
abbrev pub group_of : List Place → List (List (List Value)) → List Value → List (List (List Value))
group_of places all key = filter (λ rows. is_eq (row_cmp (group_key places rows) key)) all

abbrev pub sum_of : List ℤ → ℤ
sum_of [] = pos 0
sum_of (n ∷ ns) = n +ℤ sum_of ns

-- the expression is the group column
abbrev pub is_column : Place → Calc → Bool
is_column place (calc.Column entry column) = (place.entry == entry) && (place.column == column)
is_column place _ = false

-- the key's value for the group column that the expression is
abbrev pub key_value : List Place → List Value → Calc → Value
key_value [] key e = Int (pos 0)
key_value (place ∷ places) [] e = Int (pos 0)
key_value (place ∷ places) (v ∷ key) e = if is_column place e then v else key_value places key e

-- the value of an item for a group: a group column's value, a sum over the group's rows, or their number
abbrev pub group_value : List Place → List Value → List (List (List Value)) → What → Value
group_value places key group (what.Plain e) = key_value places key e
group_value places key group (what.Sum e) = Int (sum_of (map (λ rows. number_of (value_at rows e)) group))
group_value places key group what.Count = Int (pos (length group))

-- the row of the items for the group of a key
abbrev pub group_row : List Item → List Place → List (List (List Value)) → List Value → List Value
group_row items places all key = map (λ item. group_value places key (group_of places all key) item.what) items

-- ---- the answer

-- the rows that the combinations give, before they are put in order
abbrev pub rows_of : List Item → Option (List Place) → List (List (List Value)) → List (List Value)
rows_of items None all = map (plain_row items) all
rows_of items (Some places) all = map (group_row items places all) (distinct (map (group_key places) all))

-- the meaning of a query: its rows, in row order
unfoldable pub mean : Query → Environment → List (List Value)
mean query env = in_order (rows_of query.items query.group (chosen query env))

-- nothing was inserted, deleted or replaced
abbrev pub nothing_moved : Moved
nothing_moved = record { inserted = []; deleted = []; old = []; new = [] }

-- the meaning of a query that names plain tables alone
unfoldable pub mean_now : Query → List Keyed → List (List Value)
mean_now query tables = mean query (record { now = tables; before = []; moved = nothing_moved })
