-- Which course of events there can be, and what its actions are where no rule is `unique`.
use Rattle.std.specs.Prelude.{◌≡◌, ℕ, ◌+◌, ◌<◌, ◌≤◌, List, [], ◌∷◌, ◌++◌, map, length, Some, None}
use Rattle.std.specs.List.{AllByRecursion}
use Rattle.strip_value.specs.declared.actions.ActionId.{ActionId}
use Rattle.strip_value.specs.declared.actions.FiredRule.{FiredRule}
use Rattle.strip_value.specs.declared.actions.KeyOf.TheVariants.{Plain}
use Rattle.strip_value.specs.declared.rules.Rule.{Rule}
use Rattle.strip_meaning.specs.Actions.{Happened, commit, start, finish, give_back, BoundRow, State, running, actions, next, state_of, rule_at, rows_of_rule}

-- how many actions were started
abbrev pub starts : List Happened → ℕ
starts [] = 0
starts (start number action ∷ past) = starts past + 1
starts (commit place moment fired ∷ past) = starts past
starts (finish number ∷ past) = starts past
starts (give_back number ∷ past) = starts past

-- no commit stands at this place or behind it, nor later than at this moment
abbrev pub IsBefore : ℕ → ℕ → Happened → Type 0
IsBefore place moment (commit p m fired) = (p < place) × (m ≤ moment)
IsBefore place moment _ = Unit {0}

-- rules bind rows by rising number, each at least one, and each is one of so many
abbrev pub Fires : ℕ → ℕ → List FiredRule → Type 0
Fires low count [] = Unit {0}
Fires low count (f ∷ fs) = (low ≤ f.number) × (f.number < count) × (0 < length f.rows) × Fires (f.number + 1) count fs

-- an action of this identity is there, in this state
abbrev pub IsIn : List Rule → List Happened → ActionId → State → Type 0
IsIn rules past action state = (a : BoundRow) × (before : List BoundRow) × (after : List BoundRow)
    × (actions rules past ≡ before ++ a ∷ after) × (a.action ≡ action) × (state_of past action ≡ state)

-- what may happen next: rows are bound at a later place and no earlier moment; the action that is next at some moment is
-- started, with the next number; a number that is running is finished or given back
abbrev pub MayFollow : List Rule → List Happened → Happened → Type 0
MayFollow rules past (commit place moment fired) = AllByRecursion (IsBefore place moment) past × Fires 0 (length rules) fired
MayFollow rules past (start number action) = (number ≡ starts past + 1)
    × ((moment : ℕ) × (first : BoundRow) × (next rules past moment ≡ Some first) × (first.action ≡ action))
MayFollow rules past (finish number) = (action : ActionId) × IsIn rules past action (running number)
MayFollow rules past (give_back number) = (action : ActionId) × IsIn rules past action (running number)

-- a course of events, the newest first
abbrev pub Course : List Rule → List Happened → Type 0
Course rules [] = Unit {0}
Course rules (e ∷ past) = MayFollow rules past e × Course rules past

-- ---- where no rule is `unique`, and nothing is given back

abbrev pub IsPlainRule : Rule → Type 0
IsPlainRule rule = rule.unique ≡ None

abbrev pub Stays : Happened → Type 0
Stays (give_back number) = ⊥
Stays _ = Unit {0}

-- no rule is `unique`, and nothing was given back
pub record IsPlainCourse (rules : List Rule) (happened : List Happened) : Type 0 where
  pub course : Course rules happened
  pub plain : AllByRecursion IsPlainRule rules
  pub stays : AllByRecursion Stays happened

-- a rule that bound rows at a commit
pub record Firing : Type 0 where
  pub place : ℕ
  pub moment : ℕ
  pub fired : FiredRule

-- the firings of a commit
abbrev pub firings_at : ℕ → ℕ → List FiredRule → List Firing
firings_at place moment fired = map (λ f. record { place = place; moment = moment; fired = f }) fired

-- all firings, the oldest first
abbrev pub firings : List Happened → List Firing
firings [] = []
firings (commit place moment fired ∷ past) = firings past ++ firings_at place moment fired
firings (start number action ∷ past) = firings past
firings (finish number ∷ past) = firings past
firings (give_back number ∷ past) = firings past

-- the action of a firing
abbrev pub plain_action : List Rule → Firing → ActionId
plain_action rules f = record { function = (rule_at rules f.fired.number).function; key = Plain f.place f.fired.number }

-- all its rows
abbrev pub firing_rows : List Rule → Firing → List BoundRow
firing_rows rules f = rows_of_rule rules [] f.place f.moment f.fired
