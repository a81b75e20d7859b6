-- Laws of courses in which no rule is `unique` and nothing is given back.
use Rattle.std.proofs.Common.{◌≡◌, ℕ, ◌+◌, ◌<◌, ◌≤◌, Bool, true, false, not, ◌==◌, cond, List, [], ◌∷◌, ◌++◌, map, filter, length, get_or, Option, Some, None, IfSome, refl, sym, ap, ap₂, ◌∙◌, subst, arith, append-nil, append_assoc}
use Rattle.std.specs.Prelude.{nat_le}
use Rattle.std.specs.List.{AllByRecursion, flat_map}
use Rattle.std.specs.declared.cmp.Ordering.{Ordering}
use Rattle.std.specs.declared.cmp.Ordering.TheVariants.{Less, Equal, Greater}
use Rattle.std.specs.Ordering.{is_lt, nat_cmp, ordering_then}
use Rattle.std.proofs.Math.ListN.{get_or-map}
use Rattle.std.proofs.Math.Path.{fun_ext}
use Rattle.std.proofs.lemmas.List.{map-append}
use Rattle.std.proofs.lemmas.List.Elements.{filter-append}
use Rattle.std.proofs.lemmas.List.Concat.{flat_map-append}
use borrow.Author.Tests.{eqb-true, le-leb, le-ltb}
use Rattle.strip_value.specs.Order.{row_cmp}
use Rattle.strip_value.specs.declared.actions.ActionId.{ActionId}
use Rattle.strip_value.specs.declared.actions.Bound.{Bound}
use Rattle.strip_value.specs.declared.actions.FiredRule.{FiredRule}
use Rattle.strip_value.specs.declared.actions.KeyOf.TheVariants.{Plain}
use Rattle.strip_value.specs.declared.rules.Rule.{Rule}
use Rattle.strip_value.specs.declared.values.Value.{Value}
use Rattle.strip_value.proofs.Lists.{all_weaker, all_append, all_filter, filter_all}
use Rattle.strip_meaning.specs.Actions.{Happened, commit, start, finish, give_back, kept, BoundRow, as_bound, rows_of_rule, all_rows, no_rule, rule_at, key_by, action_of, same_action, rows_of, firsts, actions, State, pending, number_of, state_by, state_of, is_pending, is_running, in_state, due_of, due_cmp, earlier, first_due, twins, has_running_twin, next}
use Rattle.strip_meaning.specs.Course.{IsBefore, Fires, Course, IsPlainRule, Stays, IsPlainCourse, Firing, firings_at, firings, plain_action, firing_rows}
use Rattle.strip_meaning.proofs.Behind.{AllBehind, all_or, all_map, all_since, none_passes, filter_skips, filter_none, filter_alike, filter_again, behind_append, behind_filter, behind_middle, behind_map, behind_weaker, map_split, CameFrom}
use Rattle.strip_meaning.proofs.ActionLaws.{of_key, same_action_since, other_action, other_action_back, not_this, in_action}
use Rattle.strip_meaning.proofs.States.{first_among, next_is, is_in, commit_state}

-- ---- nothing is given back

-- all that happened counts
pub kept_all : (happened : List Happened) → AllByRecursion Stays happened → kept happened ≡ happened
kept_all [] stays = refl
kept_all (commit place moment fired ∷ past) stays = ap (λ rest. commit place moment fired ∷ rest) (kept_all past stays.1)
kept_all (start number action ∷ past) stays = ap (λ rest. start number action ∷ rest) (kept_all past stays.1)
kept_all (finish number ∷ past) stays = ap (λ rest. finish number ∷ rest) (kept_all past stays.1)
kept_all (give_back number ∷ past) stays = absurd stays.0

-- ---- no rule is unique

module _ (rules : List Rule) (plain : AllByRecursion IsPlainRule rules) where
  -- a row's action is its commit and its rule
  action_plain : (past : List Happened) (place number : ℕ) (values : List Value) → action_of rules past place number values ≡ of_key (rule_at rules number).function (Plain place number)
  action_plain past place number values =
      ap (λ unique. of_key (rule_at rules number).function (key_by unique past place number (rule_at rules number).function values)) (all_or IsPlainRule rules number no_rule plain refl)

  -- whatever happened before
  as_plain : (past : List Happened) (place moment number : ℕ) → as_bound rules past place moment number ≡ as_bound rules [] place moment number
  as_plain past place moment number = fun_ext (λ (b : Bound).
      ap (λ action. record { place = place; moment = moment; rule = number; table = b.bound; key = b.key; row = b.row; action = action }) (action_plain past place number b.key ∙ sym (action_plain [] place number b.key)))

  -- what a commit binds are the rows of its firings
  rows_at : (past : List Happened) (place moment : ℕ) (fired : List FiredRule) → flat_map (rows_of_rule rules past place moment) fired ≡ flat_map (firing_rows rules) (firings_at place moment fired)
  rows_at past place moment [] = refl
  rows_at past place moment (f ∷ fs) =
      ap₂ (λ bind rows. map bind f.rows ++ rows) (as_plain past place moment f.number) (rows_at past place moment fs)

-- ---- the firings of a course, in their order

-- one stands before another: at an earlier commit, or at the same by a rule of a lower number
pub record Precedes (f g : Firing) : Type 0 where
  pub places : f.place ≤ g.place
  pub rules : f.place ≡ g.place → f.fired.number < g.fired.number
  pub moments : f.moment ≤ g.moment

-- the rule bound a row
abbrev pub HasRows : Firing → Type 0
HasRows f = 0 < length f.fired.rows

-- a firing of a commit, by a rule from this number on
abbrev IsAt : ℕ → ℕ → ℕ → Firing → Type 0
IsAt place moment low f = (f.place ≡ place) × (f.moment ≡ moment) × (low ≤ f.fired.number)

-- a firing of an earlier commit
abbrev pub IsEarlier : ℕ → ℕ → Firing → Type 0
IsEarlier place moment f = (f.place < place) × (f.moment ≤ moment)

-- what one commit fires is there, rises and has rows
at_commit : (place moment low count : ℕ) (fired : List FiredRule) → Fires low count fired → AllByRecursion (IsAt place moment low) (firings_at place moment fired)
at_commit place moment low count [] fires = tt
at_commit place moment low count (f ∷ fs) fires =
    ((refl, refl, fires.0), all_weaker (IsAt place moment (f.number + 1)) (IsAt place moment low) (λ g at. (at.0, at.1, omega arith)) (firings_at place moment fs) (at_commit place moment (f.number + 1) count fs fires.3))

commit_rises : (place moment low count : ℕ) (fired : List FiredRule) → Fires low count fired → AllBehind Precedes (firings_at place moment fired)
commit_rises place moment low count [] fires = tt
commit_rises place moment low count (f ∷ fs) fires = (
  all_weaker (IsAt place moment (f.number + 1)) (Precedes record { place = place; moment = moment; fired = f }) (λ g at. record { places = omega arith; rules = λ same. omega arith; moments = omega arith })
      (firings_at place moment fs) (at_commit place moment (f.number + 1) count fs fires.3),
  commit_rises place moment (f.number + 1) count fs fires.3,
)

commit_has_rows : (place moment low count : ℕ) (fired : List FiredRule) → Fires low count fired → AllByRecursion HasRows (firings_at place moment fired)
commit_has_rows place moment low count [] fires = tt
commit_has_rows place moment low count (f ∷ fs) fires = (fires.2, commit_has_rows place moment (f.number + 1) count fs fires.3)

-- what each commit says of its firings is so of all firings
each_firing : (P : Firing → Type 0) (Q : Happened → Type 0) → ((place moment : ℕ) (fired : List FiredRule) → Q (commit place moment fired) → AllByRecursion P (firings_at place moment fired)) → (happened : List Happened) → AllByRecursion Q happened → AllByRecursion P (firings happened)
each_firing P Q f [] all = tt
each_firing P Q f (commit p m fired ∷ past) all = all_append P (firings past) (firings_at p m fired) (each_firing P Q f past all.1) (f p m fired all.0)
each_firing P Q f (start number action ∷ past) all = each_firing P Q f past all.1
each_firing P Q f (finish number ∷ past) all = each_firing P Q f past all.1
each_firing P Q f (give_back number ∷ past) all = each_firing P Q f past all.1

pub firings_earlier : (place moment : ℕ) (happened : List Happened) → AllByRecursion (IsBefore place moment) happened → AllByRecursion (IsEarlier place moment) (firings happened)
firings_earlier place moment = each_firing (IsEarlier place moment) (IsBefore place moment) (λ p m fired here.
    all_map (IsEarlier place moment) (λ f. record { place = p; moment = m; fired = f }) fired (all_since (λ f. (p < place) × (m ≤ moment)) fired (λ f. here)))

-- the firings of a course rise
pub course_rises : (rules : List Rule) (happened : List Happened) → Course rules happened → AllBehind Precedes (firings happened)
course_rises rules [] course = tt
course_rises rules (commit p m fired ∷ past) course =
    behind_append Precedes (firings past) (firings_at p m fired) (course_rises rules past course.1) (commit_rises p m 0 (length rules) fired course.0.1)
    (all_weaker (IsEarlier p m) (λ f. AllByRecursion (Precedes f) (firings_at p m fired)) (λ f early.
    all_weaker (IsAt p m 0) (Precedes f) (λ g at. record { places = omega arith; rules = λ same. absurd (omega arith); moments = omega arith }) (firings_at p m fired) (at_commit p m 0 (length rules) fired course.0.1))
    (firings past) (firings_earlier p m past course.0.0))
course_rises rules (start number action ∷ past) course = course_rises rules past course.1
course_rises rules (finish number ∷ past) course = course_rises rules past course.1
course_rises rules (give_back number ∷ past) course = course_rises rules past course.1

pub course_has_rows : (rules : List Rule) (happened : List Happened) → Course rules happened → AllByRecursion HasRows (firings happened)
course_has_rows rules [] course = tt
course_has_rows rules (commit p m fired ∷ past) course =
    all_append HasRows (firings past) (firings_at p m fired) (course_has_rows rules past course.1) (commit_has_rows p m 0 (length rules) fired course.0.1)
course_has_rows rules (start number action ∷ past) course = course_has_rows rules past course.1
course_has_rows rules (finish number ∷ past) course = course_has_rows rules past course.1
course_has_rows rules (give_back number ∷ past) course = course_has_rows rules past course.1

-- firings of which one precedes the other make two actions
pub preceding_apart : (rules : List Rule) (f g : Firing) → Precedes f g → same_action (plain_action rules g) (plain_action rules f) ≡ false
preceding_apart rules f g before = other_action (plain_action rules g) (plain_action rules f) (λ e.
    let keys : Plain g.place g.fired.number ≡ Plain f.place f.fired.number = ap (λ (a : ActionId). a.key) e in
    let places : g.place ≡ f.place = cc in
    let numbers : g.fired.number ≡ f.fired.number = cc in
    let lower = before.rules (sym places) in
    omega arith)

-- ---- the rows of firings

-- the bound rows are those of the firings
pub rows_are : (rules : List Rule) (happened : List Happened) → IsPlainCourse rules happened → all_rows rules happened ≡ flat_map (firing_rows rules) (firings happened)
rows_are rules happened c = flat happened c.stays
  where
    flat : (happened : List Happened) → AllByRecursion Stays happened → all_rows rules happened ≡ flat_map (firing_rows rules) (firings happened)
    flat [] stays = refl
    flat (commit p m fired ∷ past) stays =
        ap₂ (λ one other. one ++ other) (flat past stays.1) (rows_at rules c.plain (kept past) p m fired) ∙ sym (flat_map-append (firing_rows rules) (firings past) (firings_at p m fired))
    flat (start number action ∷ past) stays = flat past stays.1
    flat (finish number ∷ past) stays = flat past stays.1
    flat (give_back number ∷ past) stays = absurd stays.0

-- a row of a firing
abbrev pub row_by : List Rule → Firing → Bound → BoundRow
row_by rules f = as_bound rules [] f.place f.moment f.fired.number

-- a row in the place of one that is not there
abbrev pub no_bound : Bound
no_bound = record { bound = 0; key = []; row = [] }

-- the first row of a firing
abbrev pub first_row : List Rule → Firing → BoundRow
first_row rules f = get_or (firing_rows rules f) 0 (row_by rules f no_bound)

first_is : (rules : List Rule) (f : Firing) → first_row rules f ≡ row_by rules f (get_or f.fired.rows 0 no_bound)
first_is rules f = get_or-map (row_by rules f) f.fired.rows 0 no_bound

-- ---- each firing makes an action

module _ (rules : List Rule) (plain : AllByRecursion IsPlainRule rules) where
  -- all its rows are in it
  row_action : (f : Firing) (b : Bound) → (row_by rules f b).action ≡ plain_action rules f
  row_action f b = action_plain rules plain [] f.place f.fired.number b.key

  pub first_action : (f : Firing) → (first_row rules f).action ≡ plain_action rules f
  first_action f = ap (λ (row : BoundRow). row.action) (first_is rules f) ∙ row_action f (get_or f.fired.rows 0 no_bound)

  -- rows behind a firing's first add nothing, and the first makes its action
  later_rows : (f : Firing) (bounds : List Bound) (rest : List BoundRow)
      → filter (not_this (plain_action rules f)) (firsts (map (row_by rules f) bounds ++ rest)) ≡ filter (not_this (plain_action rules f)) (firsts rest)
  later_rows f [] rest = refl
  later_rows f (b ∷ bs) rest =
      let these = not_this (plain_action rules f) in
      let row = row_by rules f b in
      let more = firsts (map (row_by rules f) bs ++ rest) in
      filter_skips these row (filter (not_this row.action) more) (ap not (same_action_since row.action (plain_action rules f) (row_action f b)))
      ∙ ap (λ action. filter these (filter (not_this action) more)) (row_action f b)
      ∙ filter_again these more ∙ later_rows f bs rest

  front_rows : (f : Firing) (bounds : List Bound) (rest : List BoundRow) → 0 < length bounds
      → firsts (map (row_by rules f) bounds ++ rest) ≡ get_or (map (row_by rules f) bounds) 0 (row_by rules f no_bound) ∷ filter (not_this (plain_action rules f)) (firsts rest)
  front_rows f [] rest some = absurd (omega arith)
  front_rows f (b ∷ bs) rest some =
      let row = row_by rules f b in
      ap (λ action. row ∷ filter (not_this action) (firsts (map (row_by rules f) bs ++ rest))) (row_action f b) ∙ ap (λ others. row ∷ others) (later_rows f bs rest)

  firsts_plain : (fs : List Firing) → AllBehind Precedes fs → AllByRecursion HasRows fs → firsts (flat_map (firing_rows rules) fs) ≡ map (first_row rules) fs
  firsts_plain [] rises some = refl
  firsts_plain (f ∷ fs) rises some =
      let these = not_this (plain_action rules f) in
      front_rows f f.fired.rows (flat_map (firing_rows rules) fs) some.0
      ∙ ap (λ others. first_row rules f ∷ others) (ap (filter these) (firsts_plain fs rises.1 some.1)
      ∙ filter_all these (map (first_row rules) fs) (all_map (λ a. these a ≡ true) (first_row rules) fs
      (all_weaker (Precedes f) (λ g. these (first_row rules g) ≡ true) (λ g before.
      ap (λ action. not (same_action action (plain_action rules f))) (first_action g) ∙ ap not (preceding_apart rules f g before)) fs rises.0)))

-- the actions are those of the firings, each with the first of its firing's rows
pub actions_plain : (rules : List Rule) (happened : List Happened) → IsPlainCourse rules happened → actions rules happened ≡ map (first_row rules) (firings happened)
actions_plain rules happened c =
    ap firsts (rows_are rules happened c) ∙ firsts_plain rules c.plain (firings happened) (course_rises rules happened c.course) (course_has_rows rules happened c.course)

-- ---- the rows of a firing's action

-- other firings have no row in it, and the firing has all its own
module _ (rules : List Rule) (plain : AllByRecursion IsPlainRule rules) where
  no_rows : (action : ActionId) (fs : List Firing) → AllByRecursion (λ f. same_action (plain_action rules f) action ≡ false) fs → filter (in_action action) (flat_map (firing_rows rules) fs) ≡ []
  no_rows action [] none = refl
  no_rows action (f ∷ fs) none =
      filter-append (in_action action) (firing_rows rules f) (flat_map (firing_rows rules) fs)
      ∙ ap₂ (λ one other. one ++ other) (filter_none (in_action action) (firing_rows rules f) (all_map (λ row. in_action action row ≡ false) (row_by rules f) f.fired.rows
      (all_since (λ b. in_action action (row_by rules f b) ≡ false) f.fired.rows (λ b. ap (λ one. same_action one action) (row_action rules plain f b) ∙ none.0))))
      (no_rows action fs none.1)

  own_rows : (f : Firing) → filter (in_action (plain_action rules f)) (firing_rows rules f) ≡ firing_rows rules f
  own_rows f =
      let here = in_action (plain_action rules f) in
      filter_all here (firing_rows rules f) (all_map (λ row. here row ≡ true) (row_by rules f) f.fired.rows
      (all_since (λ b. here (row_by rules f b) ≡ true) f.fired.rows (λ b. same_action_since (row_by rules f b).action (plain_action rules f) (row_action rules plain f b))))

-- the rows of a firing's action are the firing's
pub rows_plain : (rules : List Rule) (happened : List Happened) (before : List Firing) (f : Firing) (after : List Firing) → IsPlainCourse rules happened → firings happened ≡ before ++ f ∷ after → rows_of rules happened (plain_action rules f) ≡ firing_rows rules f
rows_plain rules happened before f after c e =
    let action = plain_action rules f in
    let sides = behind_middle Precedes before f after (subst (AllBehind Precedes) e (course_rises rules happened c.course)) in
    let apart_before = all_weaker (λ g. Precedes g f) (λ g. same_action (plain_action rules g) action ≡ false) (λ g p. other_action_back action (plain_action rules g) (preceding_apart rules g f p)) before sides.0 in
    let apart_after = all_weaker (Precedes f) (λ g. same_action (plain_action rules g) action ≡ false) (λ g p. preceding_apart rules f g p) after sides.1 in
    ap (filter (in_action action)) (rows_are rules happened c ∙ ap (flat_map (firing_rows rules)) e ∙ flat_map-append (firing_rows rules) before (f ∷ after))
    ∙ filter-append (in_action action) (flat_map (firing_rows rules) before) (firing_rows rules f ++ flat_map (firing_rows rules) after)
    ∙ ap (λ rows. rows ++ filter (in_action action) (firing_rows rules f ++ flat_map (firing_rows rules) after)) (no_rows rules c.plain action before apart_before)
    ∙ filter-append (in_action action) (firing_rows rules f) (flat_map (firing_rows rules) after)
    ∙ ap₂ (λ one other. one ++ other) (own_rows rules c.plain f) (no_rows rules c.plain action after apart_after)
    ∙ append-nil (firing_rows rules f)

-- ---- what is so of each firing's action is so of an action that is there

-- an action that is there came from a firing
pub of_firing : (rules : List Rule) (happened : List Happened) (before : List BoundRow) (a : BoundRow) (after : List BoundRow) → IsPlainCourse rules happened → actions rules happened ≡ before ++ a ∷ after → CameFrom (first_row rules) (firings happened) before a after
of_firing rules happened before a after c e = map_split (first_row rules) (firings happened) before a after (sym (actions_plain rules happened c) ∙ e)

-- what is so of each firing's first row is so of each action in a state
pub each_in_state : (is : State → Bool) (rules : List Rule) (happened : List Happened) (P : BoundRow → Type 0) → IsPlainCourse rules happened → AllByRecursion (λ f. P (first_row rules f)) (firings happened) → AllByRecursion P (in_state is rules happened)
each_in_state is rules happened P c all =
    all_filter P (is_in is happened) (actions rules happened) (subst (AllByRecursion P) (sym (actions_plain rules happened c)) (all_map P (first_row rules) (firings happened) all))

-- a course's past is one
pub past_of : (rules : List Rule) (e : Happened) (past : List Happened) → IsPlainCourse rules (e ∷ past) → IsPlainCourse rules past
past_of rules e past c = record { course = c.course.1; plain = c.plain; stays = c.stays.1 }

-- an action of a later place was never started
number_none : (rules : List Rule) (happened : List Happened) (place moment function rule : ℕ) → IsPlainCourse rules happened → AllByRecursion (IsBefore place moment) happened → number_of (kept happened) (of_key function (Plain place rule)) ≡ None
number_none rules [] place moment function rule c all = refl
number_none rules (commit p m fired ∷ past) place moment function rule c all = number_none rules past place moment function rule (past_of rules (commit p m fired) past c) all.1
number_none rules (start n action ∷ past) place moment function rule c all =
    let new = of_key function (Plain place rule) in
    let c_past = past_of rules (start n action) past c in
    let apart = next_is rules past c.course.0.1.0 c.course.0.1.1 (λ a. same_action a.action new ≡ false) (each_in_state is_pending rules past (λ a. same_action a.action new ≡ false) c_past
    (all_weaker (IsEarlier place moment) (λ f. same_action (first_row rules f).action new ≡ false) (λ f early.
    ap (λ one. same_action one new) (first_action rules c.plain f) ∙ other_action (plain_action rules f) new (λ e.
    let keys : Plain f.place f.fired.number ≡ Plain place rule = ap (λ (a : ActionId). a.key) e in
    let places : f.place ≡ place = cc in
    omega arith)) (firings past) (firings_earlier place moment past all.1))) c.course.0.1.2 in
    ap (λ b. cond b (Some n) (number_of (kept past) new)) (ap (λ one. same_action one new) (sym c.course.0.1.3) ∙ apart) ∙ number_none rules past place moment function rule c_past all.1
number_none rules (finish n ∷ past) place moment function rule c all = number_none rules past place moment function rule (past_of rules (finish n) past c) all.1
number_none rules (give_back n ∷ past) place moment function rule c all = absurd c.stays.0

-- ---- one more event: rows are bound

module _ (rules : List Rule) (place moment : ℕ) (fired : List FiredRule) (past : List Happened) (c : IsPlainCourse rules (commit place moment fired ∷ past)) where
  -- what was before is such a course
  abbrev c_past : IsPlainCourse rules past
  c_past = past_of rules (commit place moment fired) past c

  -- the new actions
  abbrev new : List BoundRow
  new = map (first_row rules) (firings_at place moment fired)

  -- a new action is pending
  pub commit_new_state : (f : FiredRule) → state_of (commit place moment fired ∷ past) (plain_action rules record { place = place; moment = moment; fired = f }) ≡ pending
  commit_new_state f =
      let action = plain_action rules record { place = place; moment = moment; fired = f } in
      commit_state place moment fired past action
      ∙ ap (state_by (kept past)) (number_none rules past place moment action.function f.number c_past c.course.0.0)

  pub commit_actions : actions rules (commit place moment fired ∷ past) ≡ actions rules past ++ map (first_row rules) (firings_at place moment fired)
  commit_actions =
      actions_plain rules (commit place moment fired ∷ past) c
      ∙ map-append (first_row rules) (firings past) (firings_at place moment fired)
      ∙ ap (λ old. old ++ new) (sym (actions_plain rules past c_past))

  -- the old ones stay what they were, the new ones are all alike
  commit_in_state : (is : State → Bool) → in_state is rules (commit place moment fired ∷ past) ≡ in_state is rules past ++ filter (is_in is (commit place moment fired ∷ past)) new
  commit_in_state is =
      let now = is_in is (commit place moment fired ∷ past) in
      let then = is_in is past in
      ap (filter now) commit_actions
      ∙ filter-append now (actions rules past) new
      ∙ ap (λ old. old ++ filter now new) (filter_alike now then (actions rules past) (all_since (λ a. now a ≡ then a) (actions rules past) (λ a. ap is (commit_state place moment fired past a.action))))

  -- each new action is in those states in which pending ones are
  new_are : (is : State → Bool) → AllByRecursion (λ a. is_in is (commit place moment fired ∷ past) a ≡ is pending) new
  new_are is =
      let now = λ (one : ActionId). is (state_of (commit place moment fired ∷ past) one) in
      all_map (λ a. now a.action ≡ is pending) (first_row rules) (firings_at place moment fired)
      (all_map (λ f. now (first_row rules f).action ≡ is pending) (λ f. record { place = place; moment = moment; fired = f }) fired
      (all_since (λ f. now (first_row rules record { place = place; moment = moment; fired = f }).action ≡ is pending) fired (λ f.
      ap now (first_action rules c.plain record { place = place; moment = moment; fired = f }) ∙ ap is (commit_new_state f))))

  -- the new actions stand behind those that were pending
  pub commit_pending : in_state is_pending rules (commit place moment fired ∷ past) ≡ in_state is_pending rules past ++ map (first_row rules) (firings_at place moment fired)
  commit_pending =
      let now = is_in is_pending (commit place moment fired ∷ past) in
      commit_in_state is_pending ∙ ap (λ more. in_state is_pending rules past ++ more) (filter_all now new (new_are is_pending))

  -- those in any other states, as running or finished, stay
  pub commit_others : (is : State → Bool) → is pending ≡ false → in_state is rules (commit place moment fired ∷ past) ≡ in_state is rules past
  commit_others is other =
      let now = is_in is (commit place moment fired ∷ past) in
      let left_out = all_weaker (λ a. now a ≡ is pending) (λ a. now a ≡ false) (λ a e. e ∙ other) new (new_are is) in
      commit_in_state is ∙ ap (λ more. in_state is rules past ++ more) (filter_none now new left_out) ∙ append-nil (in_state is rules past)

  -- the rows of an old action stay
  pub commit_rows_of : (before : List BoundRow) (a : BoundRow) (after : List BoundRow) → actions rules past ≡ before ++ a ∷ after → rows_of rules (commit place moment fired ∷ past) a.action ≡ rows_of rules past a.action
  commit_rows_of before a after e =
      let from = of_firing rules past before a after c_past e in
      let action_is : plain_action rules from.origin ≡ a.action = sym (first_action rules c.plain from.origin) ∙ ap (λ (a : BoundRow). a.action) from.here in
      let longer : firings past ++ firings_at place moment fired ≡ from.front ++ from.origin ∷ (from.back ++ firings_at place moment fired) =
      ap (λ fs. fs ++ firings_at place moment fired) from.split ∙ append_assoc from.front (from.origin ∷ from.back) (firings_at place moment fired) in
      subst (λ action. rows_of rules (commit place moment fired ∷ past) action ≡ rows_of rules past action) action_is
      (rows_plain rules (commit place moment fired ∷ past) from.front from.origin (from.back ++ firings_at place moment fired) c longer
      ∙ sym (rows_plain rules past from.front from.origin from.back c_past from.split))

-- ---- which is next

-- the rule's actions are due with no delay
abbrev pub IsAtOnce : Rule → Type 0
IsAtOnce rule = rule.after ≡ 0

-- rows were bound at this moment at the latest
abbrev pub BindsBy : ℕ → Happened → Type 0
BindsBy moment (commit p m fired) = m ≤ moment
BindsBy moment _ = Unit {0}

-- then no firing is later
firings_by : (moment : ℕ) (happened : List Happened) → AllByRecursion (BindsBy moment) happened → AllByRecursion (λ f. f.moment ≤ moment) (firings happened)
firings_by moment = each_firing (λ f. f.moment ≤ moment) (BindsBy moment) (λ p m fired here.
    all_map (λ (f : Firing). f.moment ≤ moment) (λ f. record { place = p; moment = m; fired = f }) fired (all_since (λ f. m ≤ moment) fired (λ f. here)))

-- a firing's action is due at the firing's moment
due_is : (rules : List Rule) (f : Firing) → AllByRecursion IsAtOnce rules → due_of rules (first_row rules f) ≡ f.moment
due_is rules f at_once =
    let no_wait : (rule_at rules f.fired.number).after ≡ 0 = all_or IsAtOnce rules f.fired.number no_rule at_once refl in
    ap (due_of rules) (first_is rules f) ∙ omega arith

-- where a number isn't smaller, what is compared next decides
compares_next : (m n : ℕ) (next : Ordering) → n ≤ m → (m ≡ n → is_lt next ≡ false) → is_lt (ordering_then (nat_cmp m n) next) ≡ false
compares_next m n next le rest = ap (λ b. is_lt (ordering_then (cond b Less (cond (m == n) Equal Greater)) next)) (le-ltb m n le) ∙ by_test (m == n) refl
  where
    by_test : (b : Bool) → (m == n) ≡ b → is_lt (ordering_then (cond b Equal Greater) next) ≡ false
    by_test true e = rest (eqb-true m n e)
    by_test false e = refl

-- the other isn't due before this
abbrev pub IsDueBy : List Rule → BoundRow → BoundRow → Type 0
IsDueBy rules a other = is_lt (due_cmp rules other a) ≡ false

-- no firing's action is due before that of a firing that precedes it
due_after : (rules : List Rule) (f g : Firing) → AllByRecursion IsAtOnce rules → Precedes f g → IsDueBy rules (first_row rules f) (first_row rules g)
due_after rules f g at_once before =
    let a = first_row rules f in
    let b = first_row rules g in
    let due_a = due_is rules f at_once in
    let due_b = due_is rules g at_once in
    let place_a : a.place ≡ f.place = ap (λ (row : BoundRow). row.place) (first_is rules f) in
    let place_b : b.place ≡ g.place = ap (λ (row : BoundRow). row.place) (first_is rules g) in
    let rule_a : a.rule ≡ f.fired.number = ap (λ (row : BoundRow). row.rule) (first_is rules f) in
    let rule_b : b.rule ≡ g.fired.number = ap (λ (row : BoundRow). row.rule) (first_is rules g) in
    let by_key = row_cmp b.key a.key in
    let by_rule = ordering_then (nat_cmp b.rule a.rule) by_key in
    let by_place = ordering_then (nat_cmp b.place a.place) by_rule in
    compares_next (due_of rules b) (due_of rules a) by_place (omega arith) (λ same_due.
    compares_next b.place a.place by_rule (omega arith) (λ same_place.
    compares_next b.rule a.rule by_key (omega arith) (λ same_rule. absurd (omega arith))))

-- an action stays the first before one that is not due before it
stays_first : (rules : List Rule) (a : BoundRow) (o : Option BoundRow) → IfSome o (IsDueBy rules a) → earlier rules a o ≡ a
stays_first rules a None p = refl
stays_first rules a (Some other) p = ap (λ b. cond b other a) p

-- no action has a twin
no_twin : (rules : List Rule) (happened : List Happened) (f : Firing) → has_running_twin rules happened (plain_action rules f) ≡ false
no_twin rules happened f =
    none_passes (λ a. twins a.action (plain_action rules f)) (in_state is_running rules happened) (all_since (λ a. twins a.action (plain_action rules f) ≡ false) (in_state is_running rules happened) (λ a. refl))

-- the first of those that are pending is next, whatever is running
pub next_plain : (rules : List Rule) (happened : List Happened) (moment : ℕ) (w : BoundRow) (ws : List BoundRow) → IsPlainCourse rules happened → AllByRecursion IsAtOnce rules → in_state is_pending rules happened ≡ w ∷ ws
    → AllByRecursion (BindsBy moment) happened → next rules happened moment ≡ Some w
next_plain rules happened moment w ws c at_once waiting binds =
    let due = λ (a : BoundRow). nat_le (due_of rules a) moment in
    let free = λ (a : BoundRow). not (has_running_twin rules happened a.action) in
    let all_due = each_in_state is_pending rules happened (λ a. due a ≡ true) c
    (all_weaker (λ f. f.moment ≤ moment) (λ f. due (first_row rules f) ≡ true) (λ f by_then. let is = due_is rules f at_once in le-leb (due_of rules (first_row rules f)) moment (omega arith)) (firings happened) (firings_by moment happened binds)) in
    let all_free = each_in_state is_pending rules happened (λ a. free a ≡ true) c
    (all_since (λ f. free (first_row rules f) ≡ true) (firings happened) (λ f. ap (λ one. not (has_running_twin rules happened one)) (first_action rules c.plain f) ∙ ap not (no_twin rules happened f))) in
    let rises : AllBehind (IsDueBy rules) (actions rules happened) =
    subst (AllBehind (IsDueBy rules)) (sym (actions_plain rules happened c)) (behind_map (IsDueBy rules) (first_row rules) (firings happened)
    (behind_weaker Precedes (λ f g. IsDueBy rules (first_row rules f) (first_row rules g)) (λ f g. due_after rules f g at_once) (firings happened) (course_rises rules happened c.course))) in
    let in_order = subst (AllBehind (IsDueBy rules)) waiting (behind_filter (IsDueBy rules) (is_in is_pending happened) (actions rules happened) rises) in
    ap (λ those. first_due rules (filter free those)) (filter_all due (in_state is_pending rules happened) all_due)
    ∙ ap (first_due rules) (filter_all free (in_state is_pending rules happened) all_free)
    ∙ ap (first_due rules) waiting
    ∙ ap Some (stays_first rules w (first_due rules ws) (first_among rules (IsDueBy rules w) ws in_order.0))

-- where none is pending, none is next
pub next_none : (rules : List Rule) (happened : List Happened) (moment : ℕ) → in_state is_pending rules happened ≡ [] → next rules happened moment ≡ None
next_none rules happened moment none = ap (λ those. first_due rules (filter (λ a. not (has_running_twin rules happened a.action)) (filter (λ a. nat_le (due_of rules a) moment) those))) none
