-- What a rule binds at a commit.
use Rattle.std.specs.Prelude.{ℕ, ◌+◌, Bool, true, false, not, ◌&&◌, ◌||◌, if◌then◌else◌, List, [], ◌∷◌, ◌++◌, map, Option, Some, None}
use Rattle.std.specs.List.{list_all, list_any, flat_map}
use Rattle.std.specs.Ordering.{is_eq}
use Rattle.std.specs.Str.{bytes_eq}
use Rattle.strip_value.specs.declared.actions.Bound.{Bound}
use Rattle.strip_value.specs.declared.changes.Change.{Change}
use Rattle.strip_value.specs.declared.changes.Moved.{Moved}
use Rattle.strip_value.specs.declared.queries.Item.{Item}
use Rattle.strip_value.specs.declared.rules.BoundQuery.{BoundQuery}
use Rattle.strip_value.specs.declared.rules.Event.{Event}
use Rattle.strip_value.specs.declared.rules.Event.TheVariants.{Inserted, Deleted, Updated}
use Rattle.strip_value.specs.declared.rules.Rule.{Rule}
use Rattle.strip_value.specs.declared.values.Value.{Value}
use Rattle.strip_value.specs.Order.{row_cmp}
use Rattle.strip_value.specs.Query.{Environment, mean}
use Rattle.strip_value.specs.Table.{Keyed, column_of, key_of}
use Rattle.strip_meaning.specs.Moved.{moved}

-- ---- whether the rule is triggered

abbrev pub has_rows : List (List Value) → Bool
has_rows [] = false
has_rows (row ∷ rows) = true

-- a row and what it became differ in one of these columns
abbrev pub any_differs : List ℕ → List (List Value) → List (List Value) → Bool
any_differs columns (old ∷ olds) (new ∷ news) =
    not (is_eq (row_cmp (key_of columns old) (key_of columns new))) || any_differs columns olds news
any_differs columns _ _ = false

-- the event occurred; an event of no columns is that of any replacement
abbrev pub occurs : Moved → Event → Bool
occurs m Inserted = has_rows m.inserted
occurs m Deleted = has_rows m.deleted
occurs m (Updated []) = has_rows m.old
occurs m (Updated (c ∷ cs)) = any_differs (c ∷ cs) m.old m.new

-- ---- what it binds

-- the number of the item of a name, counted on from c
abbrev pub item_at : ℕ → List Item → List ℕ → ℕ
item_at c [] name = c
item_at c (item ∷ items) name = if bytes_eq item.name name then c else item_at (c + 1) items name

-- the row's values of the columns that tell actions apart
abbrev pub key_values : Option (List (List ℕ)) → List Item → List Value → List Value
key_values None items row = []
key_values (Some names) items row = map (λ name. column_of row (item_at 0 items name)) names

-- the rows of a query that binds
abbrev pub rows_bound : Option (List (List ℕ)) → Environment → Option ℕ → BoundQuery → List Bound
rows_bound unique env None q = []
rows_bound unique env (Some table) q =
    map (λ row. record { bound = table; key = key_values unique q.query.items row; row = row }) (mean q.query env)

-- the rule is triggered, and each of its conditions has a row
abbrev pub is_met : Rule → Environment → Bool
is_met rule env =
    list_any (occurs env.moved) rule.events && list_all (λ q. has_rows (mean q.query env)) rule.conditions

-- what the rule's tables are at a commit: as they stand, as they stood at the begin, and the changes of the rule's table
abbrev pub at_commit : Rule → List Keyed → List Keyed → List Change → Environment
at_commit rule before after changes = record { now = after; before = before; moved = moved changes rule.table }

-- the rows that the rule binds: those of its conditions and then of its other queries, of each that binds
unfoldable pub fired : Rule → List Keyed → List Keyed → List Change → List Bound
fired rule before after changes =
    let env = at_commit rule before after changes in
    if is_met rule env then flat_map (λ q. rows_bound rule.unique env q.bound q) (rule.conditions ++ rule.evaluate) else []
