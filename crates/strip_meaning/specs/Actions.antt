-- The actions of the rows that rules bind: which rows are in which action, in which state it is, when it is due, and which
-- is next. All of it is said of what happened, the newest first, and of no queue.
use Rattle.std.specs.Prelude.{ℕ, ◌+◌, ◌==◌, Bool, true, false, not, ◌&&◌, ◌||◌, if◌then◌else◌, nat_le, List, [], ◌∷◌, ◌++◌, map, filter, get_or, Option, Some, None}
use Rattle.std.specs.List.{list_any, flat_map}
use Rattle.std.specs.declared.cmp.Ordering.{Ordering}
use Rattle.std.specs.Ordering.{is_eq, is_lt, nat_cmp, then_cmp, on}
use Rattle.strip_value.specs.declared.actions.ActionId.{ActionId}
use Rattle.strip_value.specs.declared.actions.Bound.{Bound}
use Rattle.strip_value.specs.declared.actions.FiredRule.{FiredRule}
use Rattle.strip_value.specs.declared.actions.KeyOf.{KeyOf}
use Rattle.strip_value.specs.declared.actions.KeyOf.TheVariants.{Plain, Unique}
use Rattle.strip_value.specs.declared.rules.Rule.{Rule}
use Rattle.strip_value.specs.declared.values.Value.{Value}
use Rattle.strip_value.specs.Order.{row_cmp}

-- ---- what happened

-- the rules bound rows at a commit, at a place of the history and a moment; an action was started, with a number; a
-- started number was finished, or given back
pub data Happened : Type 0 where
  commit : (place moment : ℕ) → List FiredRule → Happened
  start : (number : ℕ) → ActionId → Happened
  finish : (number : ℕ) → Happened
  give_back : (number : ℕ) → Happened

abbrev pub is_start_of : ℕ → Happened → Bool
is_start_of number (start n action) = n == number
is_start_of number _ = false

abbrev pub is_finish_of : ℕ → Happened → Bool
is_finish_of number (finish n) = n == number
is_finish_of number _ = false

-- a start that was given back counts as none, and neither does the giving back
abbrev pub kept : List Happened → List Happened
kept [] = []
kept (commit place moment fired ∷ past) = commit place moment fired ∷ kept past
kept (start number action ∷ past) = start number action ∷ kept past
kept (finish number ∷ past) = finish number ∷ kept past
kept (give_back number ∷ past) = filter (λ e. not (is_start_of number e)) (kept past)

-- ---- which action a row is in

abbrev pub same_values : List Value → List Value → Bool
same_values one other = is_eq (row_cmp one other)

-- the values that tell the action apart from others of its function are these
abbrev pub has_values : List Value → KeyOf → Bool
has_values values (Plain place rule) = false
has_values values (Unique own starts) = same_values own values

-- the action is one of the function that is told apart by these values
abbrev pub is_of : ℕ → List Value → ActionId → Bool
is_of function values action = (action.function == function) && has_values values action.key

-- how many actions of a function with these values were started
abbrev pub starts_of : List Happened → ℕ → List Value → ℕ
starts_of [] function values = 0
starts_of (start number action ∷ past) function values =
    (if is_of function values action then 1 else 0) + starts_of past function values
starts_of (commit place moment fired ∷ past) function values = starts_of past function values
starts_of (finish number ∷ past) function values = starts_of past function values
starts_of (give_back number ∷ past) function values = starts_of past function values

abbrev pub no_rule : Rule
no_rule = record { name = []; table = 0; events = []; conditions = []; evaluate = []; function = 0; unique = None; after = 0 }

-- the rule of a number
abbrev pub rule_at : List Rule → ℕ → Rule
rule_at rules number = get_or rules number no_rule

-- a rule without `unique` makes one action of all rows that it binds at a commit; else all rows of one function and one key
-- are in one action until it is started
abbrev pub key_by : Option (List (List ℕ)) → List Happened → ℕ → ℕ → ℕ → List Value → KeyOf
key_by None past place rule function values = Plain place rule
key_by (Some names) past place rule function values = Unique values (starts_of past function values)

-- the action of a row that is bound behind what happened
abbrev pub action_of : List Rule → List Happened → ℕ → ℕ → List Value → ActionId
action_of rules past place number values =
    let rule = rule_at rules number in
    record { function = rule.function; key = key_by rule.unique past place number rule.function values }

-- a bound row: where and when it was bound and by which rule, its bound table, its key values, and its action
pub record BoundRow : Type 0 where
  pub place : ℕ
  pub moment : ℕ
  pub rule : ℕ
  pub table : ℕ
  pub key : List Value
  pub row : List Value
  pub action : ActionId

abbrev pub as_bound : List Rule → List Happened → ℕ → ℕ → ℕ → Bound → BoundRow
as_bound rules past place moment rule b = record {
  place = place;
  moment = moment;
  rule = rule;
  table = b.bound;
  key = b.key;
  row = b.row;
  action = action_of rules past place rule b.key;
}

-- the rows that one rule bound at a commit
abbrev pub rows_of_rule : List Rule → List Happened → ℕ → ℕ → FiredRule → List BoundRow
rows_of_rule rules past place moment f = map (as_bound rules past place moment f.number) f.rows

-- all bound rows, the oldest first, of what is kept
abbrev pub rows_bound : List Rule → List Happened → List BoundRow
rows_bound rules [] = []
rows_bound rules (commit place moment fired ∷ past) = rows_bound rules past ++ flat_map (rows_of_rule rules past place moment) fired
rows_bound rules (start number action ∷ past) = rows_bound rules past
rows_bound rules (finish number ∷ past) = rows_bound rules past
rows_bound rules (give_back number ∷ past) = rows_bound rules past

abbrev pub all_rows : List Rule → List Happened → List BoundRow
all_rows rules happened = rows_bound rules (kept happened)

abbrev pub same_key : KeyOf → KeyOf → Bool
same_key (Plain place rule) (Plain place' rule') = (place == place') && (rule == rule')
same_key (Unique values starts) (Unique values' starts') = same_values values values' && (starts == starts')
same_key _ _ = false

abbrev pub same_action : ActionId → ActionId → Bool
same_action one other = (one.function == other.function) && same_key one.key other.key

-- the bound rows of an action, the oldest first
abbrev pub rows_of : List Rule → List Happened → ActionId → List BoundRow
rows_of rules happened action = filter (λ row. same_action row.action action) (all_rows rules happened)

-- the first row of each action
abbrev pub firsts : List BoundRow → List BoundRow
firsts [] = []
firsts (row ∷ rows) = row ∷ filter (λ other. not (same_action other.action row.action)) (firsts rows)

-- all actions, each with its first row
abbrev pub actions : List Rule → List Happened → List BoundRow
actions rules happened = firsts (all_rows rules happened)

-- ---- in which state it is

-- waiting to be started; started with a number and not finished; finished
pub data State : Type 0 where
  pending : State
  running : (number : ℕ) → State
  finished : (number : ℕ) → State

-- the number with which an action was started
abbrev pub number_of : List Happened → ActionId → Option ℕ
number_of [] action = None
number_of (start number other ∷ past) action = if same_action other action then Some number else number_of past action
number_of (commit place moment fired ∷ past) action = number_of past action
number_of (finish number ∷ past) action = number_of past action
number_of (give_back number ∷ past) action = number_of past action

abbrev pub state_by : List Happened → Option ℕ → State
state_by happened None = pending
state_by happened (Some number) = if list_any (is_finish_of number) happened then finished number else running number

abbrev pub state_of : List Happened → ActionId → State
state_of happened action = state_by (kept happened) (number_of (kept happened) action)

abbrev pub is_pending : State → Bool
is_pending pending = true
is_pending (running number) = false
is_pending (finished number) = false

abbrev pub is_running : State → Bool
is_running pending = false
is_running (running number) = true
is_running (finished number) = false

abbrev pub is_finished : State → Bool
is_finished pending = false
is_finished (running number) = false
is_finished (finished number) = true

-- the actions in such a state
abbrev pub in_state : (State → Bool) → List Rule → List Happened → List BoundRow
in_state is rules happened = filter (λ a. is (state_of happened a.action)) (actions rules happened)

-- nothing is pending or running
abbrev pub is_quiet : List Rule → List Happened → Bool
is_quiet rules happened =
    not (list_any (λ a. is_pending (state_of happened a.action) || is_running (state_of happened a.action)) (actions rules happened))

-- ---- which is next

-- an action is due at the moment of its first row, and as much later as that row's rule says
abbrev pub due_of : List Rule → BoundRow → ℕ
due_of rules first = first.moment + (rule_at rules first.rule).after

-- the order in which actions are due: by moment, then by the place of the first row, its rule and its key
abbrev pub due_cmp : List Rule → BoundRow → BoundRow → Ordering
due_cmp rules =
    then_cmp (on (due_of rules) nat_cmp) (then_cmp (on (λ a. a.place) nat_cmp) (then_cmp (on (λ a. a.rule) nat_cmp) (on (λ a. a.key) row_cmp)))

-- the earlier one in this order
abbrev pub earlier : List Rule → BoundRow → Option BoundRow → BoundRow
earlier rules a None = a
earlier rules a (Some b) = if is_lt (due_cmp rules b a) then b else a

-- the first of these in this order
abbrev pub first_due : List Rule → List BoundRow → Option BoundRow
first_due rules [] = None
first_due rules (a ∷ as_) = Some (earlier rules a (first_due rules as_))

abbrev pub is_twin : ActionId → ℕ → KeyOf → Bool
is_twin one function (Plain place rule) = false
is_twin one function (Unique values starts) = is_of function values one

-- both are told apart from the others of one function by the same values
abbrev pub twins : ActionId → ActionId → Bool
twins one other = is_twin one other.function other.key

-- an action of the same function and values is running
abbrev pub has_running_twin : List Rule → List Happened → ActionId → Bool
has_running_twin rules happened action = list_any (λ a. twins a.action action) (in_state is_running rules happened)

-- pending, and due at the moment
abbrev pub due_at : List Rule → List Happened → ℕ → List BoundRow
due_at rules happened moment = filter (λ a. nat_le (due_of rules a) moment) (in_state is_pending rules happened)

-- the action that a start at the moment takes
abbrev pub next : List Rule → List Happened → ℕ → Option BoundRow
next rules happened moment =
    first_due rules (filter (λ a. not (has_running_twin rules happened a.action)) (due_at rules happened moment))
