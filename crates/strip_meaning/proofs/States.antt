-- Laws of the states of actions under any rules: what is next is pending, and what a start and a finish change.
use Rattle.std.proofs.Common.{◌≡◌, ℕ, ◌+◌, ◌<◌, Bool, true, false, not, ◌&&◌, ◌||◌, cond, List, [], ◌∷◌, ◌++◌, filter, Option, Some, None, IfSome, refl, sym, ap, ap₂, ◌∙◌, subst, arith}
use Rattle.std.specs.Prelude.{nat_le}
use Rattle.std.specs.List.{AllByRecursion, list_any}
use Rattle.std.specs.Ordering.{is_lt}
use Rattle.std.proofs.Math.Bool.{and-true, and-false}
use Rattle.std.proofs.lemmas.List.Elements.{filter-append}
use borrow.Author.Tests.{eq-eqb, ne_eqb}
use Rattle.strip_value.specs.declared.actions.ActionId.{ActionId}
use Rattle.strip_value.specs.declared.actions.FiredRule.{FiredRule}
use Rattle.strip_value.specs.declared.rules.Rule.{Rule}
use Rattle.strip_value.proofs.Lists.{all_weaker, all_filter, filter_all}
use Rattle.strip_meaning.specs.Actions.{Happened, commit, start, finish, give_back, is_start_of, is_finish_of, kept, BoundRow, all_rows, same_action, actions, State, pending, running, finished, number_of, state_by, state_of, is_pending, is_finished, in_state, due_of, due_cmp, earlier, first_due, has_running_twin, due_at, next}
use Rattle.strip_meaning.specs.Course.{starts, MayFollow, Course}
use Rattle.strip_meaning.proofs.Behind.{AllBehind, all_since, none_passes, filter_skips, filter_alike, filter_twice, behind_filter, all_pass, behind_middle, filter_middle}
use Rattle.strip_meaning.proofs.ActionLaws.{same_action_equal, same_action_self, same_action_since, other_action_back, not_this, Apart, actions_apart}

-- ---- what is next is one of the pending ones

-- the first due is one of those that there are
pub first_among : (rules : List Rule) (P : BoundRow → Type 0) (waiting : List BoundRow) → AllByRecursion P waiting → IfSome (first_due rules waiting) P
first_among rules P [] all = tt
first_among rules P (a ∷ waiting) all = by_rest (first_due rules waiting) (first_among rules P waiting all.1)
  where
    chosen : (b : Bool) (other : BoundRow) → P other → P (cond b other a)
    chosen true other p = p
    chosen false other p = all.0

    by_rest : (o : Option BoundRow) → IfSome o P → P (earlier rules a o)
    by_rest None p = all.0
    by_rest (Some other) p = chosen (is_lt (due_cmp rules other a)) other p

-- what is so of each pending action is so of the next one
pub next_is : (rules : List Rule) (happened : List Happened) (moment : ℕ) (first : BoundRow) (P : BoundRow → Type 0) → AllByRecursion P (in_state is_pending rules happened) → next rules happened moment ≡ Some first → P first
next_is rules happened moment first P all e =
    subst (λ o. IfSome o P) e
    (first_among rules P (filter (λ a. not (has_running_twin rules happened a.action)) (due_at rules happened moment))
    (all_filter P (λ a. not (has_running_twin rules happened a.action)) (due_at rules happened moment)
    (all_filter P (λ a. nat_le (due_of rules a) moment) (in_state is_pending rules happened) all)))

-- the action is in such a state
abbrev pub is_in : (State → Bool) → List Happened → BoundRow → Bool
is_in is happened a = is (state_of happened a.action)

only_pending : (s : State) → is_pending s ≡ true → s ≡ pending
only_pending pending e = refl
only_pending (running n) e = cc
only_pending (finished n) e = cc

-- an action that may be started is pending
pub start_takes_pending : (rules : List Rule) (past : List Happened) (number : ℕ) (action : ActionId) → MayFollow rules past (start number action) → state_of past action ≡ pending
start_takes_pending rules past number action may =
    subst (λ one. state_of past one ≡ pending) may.1.3
    (only_pending (state_of past may.1.1.action) (next_is rules past may.1.0 may.1.1 (λ a. is_in is_pending past a ≡ true) (all_pass (is_in is_pending past) (actions rules past)) may.1.2))

-- ---- the numbers of starts

-- a start or a finish is of a number under this
abbrev pub IsNumberUnder : ℕ → Happened → Type 0
IsNumberUnder most (start number action) = number < most
IsNumberUnder most (finish number) = number < most
IsNumberUnder most _ = Unit {0}

under_more : (most : ℕ) (e : Happened) → IsNumberUnder most e → IsNumberUnder (most + 1) e
under_more most (commit place moment fired) under = tt
under_more most (start number action) under = omega arith
under_more most (finish number) under = omega arith
under_more most (give_back number) under = tt

-- then so is an action's number
number_under : (most : ℕ) (happened : List Happened) (action : ActionId) (number : ℕ) → AllByRecursion (IsNumberUnder most) happened → number_of happened action ≡ Some number → number < most
number_under most [] action number under e = absurd (cc)
number_under most (start n other ∷ past) action number under e = by_test (same_action other action) e (number_under most past action number under.1)
  where
    by_test : (b : Bool) → cond b (Some n) (number_of past action) ≡ Some number → (number_of past action ≡ Some number → number < most) → number < most
    by_test true e rest = let same : n ≡ number = cc in let here = under.0 in omega arith
    by_test false e rest = rest e
number_under most (commit place moment fired ∷ past) action number under e = number_under most past action number under.1 e
number_under most (finish n ∷ past) action number under e = number_under most past action number under.1 e
number_under most (give_back n ∷ past) action number under e = number_under most past action number under.1 e

-- an action that is running was started with that number
running_number : (happened : List Happened) (o : Option ℕ) (number : ℕ) → state_by happened o ≡ running number → o ≡ Some number
running_number happened None number e = absurd (cc)
running_number happened (Some n) number e = by_test (list_any (is_finish_of n) happened) e
  where
    by_test : (b : Bool) → cond b (finished n) (running n) ≡ running number → Some n ≡ Some number
    by_test true e = absurd (cc)
    by_test false e = cc

pub number_running : (happened : List Happened) (action : ActionId) (number : ℕ) → state_of happened action ≡ running number → number_of (kept happened) action ≡ Some number
number_running happened action number e = running_number (kept happened) (number_of (kept happened) action) number e

-- the numbers of a course are those of its starts at most
numbers_under : (rules : List Rule) (happened : List Happened) → Course rules happened → AllByRecursion (IsNumberUnder (starts happened + 1)) (kept happened)
numbers_under rules [] course = tt
numbers_under rules (commit place moment fired ∷ past) course = (tt, numbers_under rules past course.1)
numbers_under rules (start number action ∷ past) course =
    (let new = course.0.0 in omega arith, all_weaker (IsNumberUnder (starts past + 1)) (IsNumberUnder (starts past + 1 + 1)) (under_more (starts past + 1)) (kept past) (numbers_under rules past course.1))
numbers_under rules (finish number ∷ past) course =
    let there = course.0 in
    let rest = numbers_under rules past course.1 in
    (number_under (starts past + 1) (kept past) there.0 number rest (number_running past there.0 number there.1.5), rest)
numbers_under rules (give_back number ∷ past) course =
    all_filter (IsNumberUnder (starts past + 1)) (λ e. not (is_start_of number e)) (kept past) (numbers_under rules past course.1)

-- a start is of a higher number than what it stands before
abbrev IsAbove : Happened → Happened → Type 0
IsAbove (start number action) e = IsNumberUnder number e
IsAbove _ e = Unit {0}

course_falls : (rules : List Rule) (happened : List Happened) → Course rules happened → AllBehind IsAbove (kept happened)
course_falls rules [] course = tt
course_falls rules (commit place moment fired ∷ past) course = (all_since (IsAbove (commit place moment fired)) (kept past) (λ e. tt), course_falls rules past course.1)
course_falls rules (start number action ∷ past) course =
    (subst (λ n. AllByRecursion (IsNumberUnder n) (kept past)) (sym course.0.0) (numbers_under rules past course.1), course_falls rules past course.1)
course_falls rules (finish number ∷ past) course = (all_since (IsAbove (finish number)) (kept past) (λ e. tt), course_falls rules past course.1)
course_falls rules (give_back number ∷ past) course = behind_filter IsAbove (λ e. not (is_start_of number e)) (kept past) (course_falls rules past course.1)

-- so no two actions have one number
number_apart : (happened : List Happened) (one other : ActionId) (number : ℕ) → AllBehind IsAbove happened → number_of happened one ≡ Some number → number_of happened other ≡ Some number → one ≡ other
number_apart [] one other number falls e e' = absurd (cc)
number_apart (start n action ∷ past) one other number falls e e' =
    by_tests (same_action action one) (same_action action other) refl refl e e' (number_apart past one other number falls.1)
  where
    by_tests : (b b' : Bool) → same_action action one ≡ b → same_action action other ≡ b' → cond b (Some n) (number_of past one) ≡ Some number → cond b' (Some n) (number_of past other) ≡ Some number
        → (number_of past one ≡ Some number → number_of past other ≡ Some number → one ≡ other) → one ≡ other
    by_tests true true t t' e e' rest = sym (same_action_equal action one t) ∙ same_action_equal action other t'
    by_tests true false t t' e e' rest = let same : n ≡ number = cc in let lt = number_under n past other number falls.0 e' in absurd (omega arith)
    by_tests false true t t' e e' rest = let same : n ≡ number = cc in let lt = number_under n past one number falls.0 e in absurd (omega arith)
    by_tests false false t t' e e' rest = rest e e'
number_apart (commit place moment fired ∷ past) one other number falls e e' = number_apart past one other number falls.1 e e'
number_apart (finish n ∷ past) one other number falls e e' = number_apart past one other number falls.1 e e'
number_apart (give_back n ∷ past) one other number falls e e' = number_apart past one other number falls.1 e e'

-- a number that all are under isn't finished
not_finished : (number : ℕ) (e : Happened) → IsNumberUnder number e → is_finish_of number e ≡ false
not_finished number (commit place moment fired) under = refl
not_finished number (start n action) under = refl
not_finished number (finish n) under = ne_eqb n number (λ e. omega arith)
not_finished number (give_back n) under = refl

-- an event that finishes nothing leaves each number's state
state_besides : (e : Happened) (past : List Happened) (o : Option ℕ) → ((number : ℕ) → is_finish_of number e ≡ false) → state_by (e ∷ past) o ≡ state_by past o
state_besides e past None none = refl
state_besides e past (Some number) none = ap (λ b. cond (b || list_any (is_finish_of number) past) (finished number) (running number)) (none number)

-- ---- one more event: rows are bound

-- no action's state changes
pub commit_state : (place moment : ℕ) (fired : List FiredRule) (past : List Happened) (action : ActionId) → state_of (commit place moment fired ∷ past) action ≡ state_of past action
commit_state place moment fired past action = state_besides (commit place moment fired) (kept past) (number_of (kept past) action) (λ number. refl)

-- ---- one more event: an action is started

-- a start and a finish leave all bound rows, and so the actions and the rows of each
pub start_rows : (rules : List Rule) (number : ℕ) (action : ActionId) (past : List Happened) → all_rows rules (start number action ∷ past) ≡ all_rows rules past
start_rows rules number action past = refl

pub finish_rows : (rules : List Rule) (number : ℕ) (past : List Happened) → all_rows rules (finish number ∷ past) ≡ all_rows rules past
finish_rows rules number past = refl

module _ (rules : List Rule) (number : ℕ) (action : ActionId) (past : List Happened) (c : Course rules (start number action ∷ past)) where
  -- the action is running now
  pub start_this : state_of (start number action ∷ past) action ≡ running number
  start_this =
      ap (λ b. state_by (start number action ∷ kept past) (cond b (Some number) (number_of (kept past) action))) (same_action_self action)
      ∙ ap (λ b. cond b (finished number) (running number)) (none_passes (is_finish_of number) (kept past)
      (all_weaker (IsNumberUnder number) (λ e. is_finish_of number e ≡ false) (not_finished number) (kept past) (course_falls rules (start number action ∷ past) c).0))

  -- no other action's state changes
  pub start_other : (other : ActionId) → same_action action other ≡ false → state_of (start number action ∷ past) other ≡ state_of past other
  start_other other apart =
      ap (λ b. state_by (start number action ∷ kept past) (cond b (Some number) (number_of (kept past) other))) apart
      ∙ state_besides (start number action) (kept past) (number_of (kept past) other) (λ n. refl)

  -- where the action is one of these states neither before nor now, those in them stay
  start_alike : (is : State → Bool) → is pending ≡ false → is (running number) ≡ false → in_state is rules (start number action ∷ past) ≡ in_state is rules past
  start_alike is waits runs =
      let now = is_in is (start number action ∷ past) in
      let then = is_in is past in
      filter_alike now then (actions rules past) (all_since (λ a. now a ≡ then a) (actions rules past) (λ a. by_test a.action (same_action action a.action) refl))
    where
      by_test : (other : ActionId) (b : Bool) → same_action action other ≡ b → is (state_of (start number action ∷ past) other) ≡ is (state_of past other)
      by_test other true e =
          subst (λ one. is (state_of (start number action ∷ past) one) ≡ is (state_of past one)) (same_action_equal action other e)
          (ap is start_this ∙ runs ∙ sym (ap is (start_takes_pending rules past number action c.0) ∙ waits))
      by_test other false e = ap is (start_other other e)

  -- those that are finished stay
  pub start_finished : in_state is_finished rules (start number action ∷ past) ≡ in_state is_finished rules past
  start_finished = start_alike is_finished refl refl

  -- the first of those that were pending is so no more
  pub start_pending : (w : BoundRow) (ws : List BoundRow) → in_state is_pending rules past ≡ w ∷ ws → action ≡ w.action → in_state is_pending rules (start number action ∷ past) ≡ ws
  start_pending w ws waiting is_first =
      let now = is_in is_pending (start number action ∷ past) in
      let then = is_in is_pending past in
      filter_alike now (λ a. then a && not_this action a) (actions rules past) (all_since (λ a. now a ≡ (then a && not_this action a)) (actions rules past) (λ a. by_test a.action (same_action a.action action) refl))
      ∙ sym (filter_twice then (not_this action) (actions rules past))
      ∙ ap (filter (not_this action)) waiting
      ∙ filter_skips (not_this action) w ws (ap not (same_action_since w.action action (sym is_first)))
      ∙ filter_all (not_this action) ws others
    where
      by_test : (other : ActionId) (b : Bool) → same_action other action ≡ b → is_pending (state_of (start number action ∷ past) other) ≡ (is_pending (state_of past other) && not (same_action other action))
      by_test other true e =
          ap (λ one. is_pending (state_of (start number action ∷ past) one)) (same_action_equal other action e) ∙ ap is_pending start_this
          ∙ sym (and-false (is_pending (state_of past other))) ∙ ap (λ b. is_pending (state_of past other) && not b) (sym e)
      by_test other false e =
          ap is_pending (start_other other (other_action_back other action e))
          ∙ sym (and-true (is_pending (state_of past other))) ∙ ap (λ b. is_pending (state_of past other) && not b) (sym e)

      others : AllByRecursion (λ a. not_this action a ≡ true) ws
      others =
          let apart = subst (AllBehind Apart) waiting (behind_filter Apart (is_in is_pending past) (actions rules past) (actions_apart rules past)) in
          all_weaker (Apart w) (λ a. not_this action a ≡ true) (λ a e. ap (λ one. not (same_action a.action one)) is_first ∙ ap not e) ws apart.0

-- ---- one more event: a number is finished

-- the action of the number is finished now
pub finish_this : (number : ℕ) (past : List Happened) (action : ActionId) → state_of past action ≡ running number → state_of (finish number ∷ past) action ≡ finished number
finish_this number past action runs =
    ap (state_by (finish number ∷ kept past)) (number_running past action number runs)
    ∙ ap (λ b. cond (b || list_any (is_finish_of number) (kept past)) (finished number) (running number)) (eq-eqb number number refl)

-- those that are pending stay
pub finish_pending : (rules : List Rule) (number : ℕ) (past : List Happened) → in_state is_pending rules (finish number ∷ past) ≡ in_state is_pending rules past
finish_pending rules number past =
    let now = is_in is_pending (finish number ∷ past) in
    let then = is_in is_pending past in
    filter_alike now then (actions rules past) (all_since (λ a. now a ≡ then a) (actions rules past) (λ a. waits (number_of (kept past) a.action)))
  where
    never : (n : ℕ) (b : Bool) → is_pending (cond b (finished n) (running n)) ≡ false
    never n true = refl
    never n false = refl

    waits : (o : Option ℕ) → is_pending (state_by (finish number ∷ kept past) o) ≡ is_pending (state_by (kept past) o)
    waits None = refl
    waits (Some n) = never n (list_any (is_finish_of n) (finish number ∷ kept past)) ∙ sym (never n (list_any (is_finish_of n) (kept past)))

module _ (rules : List Rule) (number : ℕ) (past : List Happened) (c : Course rules (finish number ∷ past)) where
  -- no other action's state changes
  pub finish_other : (action other : ActionId) → state_of past action ≡ running number → same_action action other ≡ false → state_of (finish number ∷ past) other ≡ state_of past other
  finish_other action other runs apart = by_number (number_of (kept past) other) refl
    where
      by_number : (o : Option ℕ) → number_of (kept past) other ≡ o → state_by (finish number ∷ kept past) o ≡ state_by (kept past) o
      by_number None e = refl
      by_number (Some n) e = ap (λ b. cond (b || list_any (is_finish_of n) (kept past)) (finished n) (running n)) (ne_eqb number n (λ same.
          let here : number_of (kept past) other ≡ Some number = cc in
          let equal = number_apart (kept past) action other number (course_falls rules past c.1) (number_running past action number runs) here in
          let alike = same_action_since action other equal in
          cc))

  -- those that are finished are those that were, and this one in its place
  module _ (before : List BoundRow) (a : BoundRow) (after : List BoundRow) (e : actions rules past ≡ before ++ a ∷ after) (runs : state_of past a.action ≡ running number) where
    pub finished_then : in_state is_finished rules past ≡ filter (is_in is_finished past) before ++ filter (is_in is_finished past) after
    finished_then =
        let then = is_in is_finished past in
        ap (filter then) e ∙ filter-append then before (a ∷ after) ∙ ap (λ rest. filter then before ++ rest) (filter_skips then a after (ap is_finished runs))

    pub finished_now : in_state is_finished rules (finish number ∷ past) ≡ filter (is_in is_finished past) before ++ a ∷ filter (is_in is_finished past) after
    finished_now =
        let now = is_in is_finished (finish number ∷ past) in
        let then = is_in is_finished past in
        let sides = behind_middle Apart before a after (subst (AllBehind Apart) e (actions_apart rules past)) in
        ap (filter now) e ∙ filter_middle now before a after (ap is_finished (finish_this number past a.action runs))
        ∙ ap₂ (λ one other. one ++ a ∷ other)
        (filter_alike now then before (all_weaker (λ b. Apart b a) (λ b. now b ≡ then b) (λ b apart. ap is_finished (finish_other a.action b.action runs apart)) before sides.0))
        (filter_alike now then after (all_weaker (Apart a) (λ b. now b ≡ then b) (λ b apart. ap is_finished (finish_other a.action b.action runs (other_action_back b.action a.action apart))) after sides.1))
