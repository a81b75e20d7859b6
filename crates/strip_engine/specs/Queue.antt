-- The actions that an engine keeps: those that wait, those that run, and the counts.
use Rattle.std.specs.Prelude.{◌≡◌, ℕ, ◌+◌, ◌<◌, ◌≤◌, ◌==◌, if◌then◌else◌, List, [], ◌∷◌, ◌++◌, map, reverse, length, get_or, remove, Option, Some, None}
use Rattle.std.specs.List.{AllByRecursion}
use Rattle.strip_value.specs.declared.actions.ActionId.{ActionId}
use Rattle.strip_value.specs.declared.actions.Bound.{Bound}
use Rattle.strip_value.specs.declared.actions.FiredRule.{FiredRule}
use Rattle.strip_value.specs.declared.actions.KeyOf.TheVariants.{Plain}
use Rattle.strip_value.specs.declared.rules.Rule.{Rule}
use Rattle.strip_meaning.specs.Actions.{Happened, BoundRow, actions, as_bound, in_state, is_pending, rows_of}
use Rattle.strip_meaning.specs.Course.{Firing, plain_action, firing_rows}
use Rattle.strip_model.specs.History.{Running}
use Rattle.strip_engine.specs.declared.queue.Queue.{Queue}
use Rattle.strip_engine.specs.declared.queue.Started.{Started}
use Rattle.strip_engine.specs.declared.queue.Waiting.{Waiting}

-- ---- what is kept of an action

abbrev pub as_firing : Waiting → Firing
as_firing w = record { place = w.place; moment = w.moment; fired = w.fired }

abbrev pub no_bound : Bound
no_bound = record { bound = 0; key = []; row = [] }

-- the first bound row of an action that waits
abbrev pub first_of : List Rule → Waiting → BoundRow
first_of rules w = as_bound rules [] w.place w.moment w.fired.number (get_or w.fired.rows 0 no_bound)

-- a rule's function has its number
abbrev pub plain_id : ℕ → ℕ → ActionId
plain_id place rule = record { function = rule; key = Plain place rule }

abbrev pub running_of : Started → Running
running_of s = record { number = s.number; caller = s.caller; action = plain_id s.place s.rule }

-- the rows of the actions
abbrev pub waiting_rows : List Waiting → ℕ
waiting_rows [] = 0
waiting_rows (w ∷ ws) = length w.fired.rows + waiting_rows ws

abbrev pub started_rows : List Started → ℕ
started_rows [] = 0
started_rows (s ∷ ss) = s.rows + started_rows ss

-- ---- that it is what happened

-- an action of this identity is there
abbrev pub IsThere : List Rule → List Happened → ActionId → Type 0
IsThere rules happened action = (before : List BoundRow) × (a : BoundRow) × (after : List BoundRow)
    × (actions rules happened ≡ before ++ a ∷ after)
    × (a.action ≡ action)

-- an action that waits is there, and has just these rows, at least one, by a rule that is there
abbrev pub IsWaiting : List Rule → List Happened → Waiting → Type 0
IsWaiting rules happened w = (rows_of rules happened (plain_action rules (as_firing w)) ≡ firing_rows rules (as_firing w))
    × (w.fired.number < length rules)
    × (0 < length w.fired.rows)
    × IsThere rules happened (plain_action rules (as_firing w))

-- an action that runs has so many rows, by a rule that is there
abbrev pub IsStarted : List Rule → List Happened → Started → Type 0
IsStarted rules happened s = (s.rows ≡ length (rows_of rules happened (plain_id s.place s.rule))) × (s.rule < length rules)

-- the pending actions in their order, the running ones by rising number, and the counts: of the rows bound so far and of
-- the actions started
pub record Queues (rules : List Rule) (happened : List Happened) (jobs : List Running) (bound count : ℕ) (q : Queue) : Type 0 where
  pub pending : in_state is_pending rules happened ≡ map (first_of rules) q.waiting.items
  pub waiting : AllByRecursion (IsWaiting rules happened) q.waiting.items
  pub running : map running_of q.running.items ≡ reverse jobs
  pub started : AllByRecursion (IsStarted rules happened) q.running.items
  pub bound_rows : q.bound ≡ bound
  pub rows : q.rows ≡ waiting_rows q.waiting.items + started_rows q.running.items
  pub within : q.rows ≤ q.bound
  pub starts : q.jobs ≡ count

-- ---- what its steps do

-- the actions of what rules bound at a commit
abbrev pub waiting_at : ℕ → ℕ → List FiredRule → List Waiting
waiting_at place moment fired = map (λ f. record { place = place; moment = moment; fired = f }) fired

-- the place of a number among those that run, counted on from `at`
abbrev pub place_from : ℕ → List Started → ℕ → Option ℕ
place_from at [] number = None
place_from at (s ∷ ss) number = if s.number == number then Some at else place_from (at + 1) ss number

-- the numbers rise
abbrev pub NumbersRise : List Started → Type 0
NumbersRise [] = Unit {0}
NumbersRise (s ∷ ss) = AllByRecursion (λ t. s.number < t.number) ss × NumbersRise ss

abbrev pub no_started : Started
no_started = record { number = 0; caller = 0; place = 0; rule = 0; rows = 0 }

-- the action at a place runs no more
pub record Stops (old : Queue) (at : ℕ) (new : Queue) (started : Started) : Type 0 where
  pub is : started ≡ get_or old.running.items at no_started
  pub waiting : new.waiting.items ≡ old.waiting.items
  pub running : new.running.items ≡ remove old.running.items at
  pub bound : new.bound ≡ old.bound
  pub rows : new.rows + started.rows ≡ old.rows
  pub jobs : new.jobs ≡ old.jobs
