-- What each event makes of the actions that an engine keeps.
use Rattle.std.proofs.Common.{◌≡◌, ℕ, zero, suc, ◌+◌, ◌≤◌, List, [], ◌∷◌, ◌++◌, map, filter, reverse, length, get_or, Some, None, refl, sym, ap, ap₂, ◌∙◌, subst, arith, append_assoc}
use Rattle.std.specs.Prelude.{nat_le}
use Rattle.std.specs.List.{AllByRecursion}
use Rattle.std.proofs.Math.ListN.{get_or-map}
use Rattle.std.proofs.lemmas.List.{map-append, reverse-append, length-map, length-reverse}
use Rattle.strip_value.specs.declared.actions.ActionId.{ActionId}
use Rattle.strip_value.specs.declared.actions.Counts.{Counts}
use Rattle.strip_value.specs.declared.actions.FiredRule.{FiredRule}
use Rattle.strip_value.specs.declared.rules.Rule.{Rule}
use Rattle.strip_value.specs.declared.tables.TableDef.{TableDef}
use Rattle.strip_value.proofs.Lists.{all_weaker, all_append}
use Rattle.strip_meaning.specs.Actions.{Happened, commit, start, finish, BoundRow, running, rows_of, in_state, is_pending, next, due_of, due_at, first_due}
use Rattle.strip_meaning.specs.Course.{Fires, IsIn, IsPlainRule, IsPlainCourse, Firing, firings, firings_at, plain_action, firing_rows}
use Rattle.strip_meaning.proofs.States.{start_pending, finish_pending}
use Rattle.strip_meaning.proofs.PlainActions.{first_row, row_by, first_action, actions_plain, rows_plain, commit_actions, commit_pending, commit_rows_of, IsAtOnce, BindsBy, next_plain, next_none}
use Rattle.strip_model.specs.declared.entries.Entry.{Entry}
use Rattle.strip_model.specs.Counted.{rows_of_all, counts}
use Rattle.strip_model.specs.Derived.{Fixed, bound_count, happened}
use Rattle.strip_model.specs.History.{Running, stopped, jobs, job_count}
use Rattle.strip_model.specs.Kept.{Kept}
use Rattle.strip_model.specs.Says.{Task, row_count, none_pending, refused, said_in_hand, said_later, said_start}
use Rattle.strip_engine.specs.declared.committing.Binding.{Binding}
use Rattle.strip_engine.specs.declared.queue.Queue.{Queue}
use Rattle.strip_engine.specs.declared.queue.Started.{Started}
use Rattle.strip_engine.specs.declared.queue.Waiting.{Waiting}
use Rattle.strip_engine.specs.Acting.{SameQueue, Merges, StartsFirst}
use Rattle.strip_engine.specs.Queue.{as_firing, no_bound, first_of, plain_id, running_of, waiting_rows, started_rows, IsThere, IsWaiting, IsStarted, Queues, waiting_at, place_from, NumbersRise, no_started, Stops}
use Rattle.strip_engine.proofs.QueueNumbers.{all_reverse, all_unmap, cut_at, cut_is, removed, without, stopped_run}

-- ---- nothing happens

pub same_queue : (rules : List Rule) (h : List Happened) (going : List Running) (bound count : ℕ) (q q' : Queue) → SameQueue q q' → Queues rules h going bound count q → Queues rules h going bound count q'
same_queue rules h going bound count q q' same keeps = record {
  pending = keeps.pending ∙ ap (map (first_of rules)) (sym same.waiting);
  waiting = subst (AllByRecursion (IsWaiting rules h)) (sym same.waiting) keeps.waiting;
  running = ap (map running_of) same.running ∙ keeps.running;
  started = subst (AllByRecursion (IsStarted rules h)) (sym same.running) keeps.started;
  bound_rows = same.bound ∙ keeps.bound_rows;
  rows = same.rows ∙ keeps.rows ∙ ap₂ (λ ws ss. waiting_rows ws + started_rows ss) (sym same.waiting) (sym same.running);
  within = (let were = keeps.within in let rows_same = same.rows in let bound_same = same.bound in omega arith);
  starts = same.jobs ∙ keeps.starts;
}

pub queue_new : (rules : List Rule) (q : Queue) → q.waiting.items ≡ [] → q.running.items ≡ [] → (q.bound ≡ 0) × (q.rows ≡ 0) × (q.jobs ≡ 0) → Queues rules [] [] 0 0 q
queue_new rules q none_waits none_runs zeros = record {
  pending = ap (map (first_of rules)) (sym none_waits);
  waiting = subst (AllByRecursion (IsWaiting rules [])) (sym none_waits) tt;
  running = ap (map running_of) none_runs;
  started = subst (AllByRecursion (IsStarted rules [])) (sym none_runs) tt;
  bound_rows = zeros.0;
  rows = zeros.1 ∙ ap₂ (λ ws ss. waiting_rows ws + started_rows ss) (sym none_waits) (sym none_runs);
  within = (let rows = zeros.1 in let bound = zeros.0 in omega arith);
  starts = zeros.2;
}

-- ---- rows of lists that are joined

waiting_joined : (ws more : List Waiting) → waiting_rows (ws ++ more) ≡ waiting_rows ws + waiting_rows more
waiting_joined [] more = omega arith
waiting_joined (w ∷ ws) more = let rest = waiting_joined ws more in omega arith

started_joined : (ss more : List Started) → started_rows (ss ++ more) ≡ started_rows ss + started_rows more
started_joined [] more = omega arith
started_joined (s ∷ ss) more = let rest = started_joined ss more in omega arith

waiting_counted : (place moment : ℕ) (fires : List FiredRule) → waiting_rows (waiting_at place moment fires) ≡ row_count fires
waiting_counted place moment [] = refl
waiting_counted place moment (f ∷ fs) = ap (λ more. length f.rows + more) (waiting_counted place moment fs)

-- what each is in two ways, each is in a third one
all_both : {A : Type 0} (P Q R : A → Type 0) → ((x : A) → P x → Q x → R x) → (xs : List A) → AllByRecursion P xs → AllByRecursion Q xs → AllByRecursion R xs
all_both P Q R f [] one other = tt
all_both P Q R f (x ∷ xs) one other = (f x one.0 other.0, all_both P Q R f xs one.1 other.1)

-- ---- an action's first row

-- the first row of an action that waits is that of its firing
first_is : (rules : List Rule) (w : Waiting) → first_row rules (as_firing w) ≡ first_of rules w
first_is rules w = get_or-map (row_by rules (as_firing w)) w.fired.rows 0 no_bound

first_named : (rules : List Rule) (w : Waiting) → AllByRecursion IsPlainRule rules → (first_of rules w).action ≡ plain_action rules (as_firing w)
first_named rules w plain = ap (λ (a : BoundRow). a.action) (sym (first_is rules w)) ∙ first_action rules plain (as_firing w)

-- ---- a commit

-- a firing's action is there with the firing's rows
firing_there : (rules : List Rule) (h : List Happened) (before : List Firing) (f : Firing) (after : List Firing) → IsPlainCourse rules h → firings h ≡ before ++ f ∷ after
    → (rows_of rules h (plain_action rules f) ≡ firing_rows rules f) × IsThere rules h (plain_action rules f)
firing_there rules h before f after c e = (
  rows_plain rules h before f after c e,
  (
    map (first_row rules) before,
    first_row rules f,
    map (first_row rules) after,
    actions_plain rules h c ∙ ap (map (first_row rules)) e ∙ map-append (first_row rules) before (f ∷ after),
    first_action rules c.plain f,
  ),
)

-- what waits is what the firings bound
pub firsts_at : (rules : List Rule) (place moment : ℕ) (fires : List FiredRule) → map (first_row rules) (firings_at place moment fires) ≡ map (first_of rules) (waiting_at place moment fires)
firsts_at rules place moment [] = refl
firsts_at rules place moment (f ∷ fs) = ap₂ (λ a as_. a ∷ as_) (first_is rules record { place = place; moment = moment; fired = f }) (firsts_at rules place moment fs)

-- the new actions wait, whatever of the commit's firings stand before them
waits_at : (rules : List Rule) (h : List Happened) (place moment low : ℕ) (before : List Firing) (fires : List FiredRule) → IsPlainCourse rules h → firings h ≡ before ++ firings_at place moment fires → Fires low (length rules) fires
    → AllByRecursion (IsWaiting rules h) (waiting_at place moment fires)
waits_at rules h place moment low before [] c e fires = tt
waits_at rules h place moment low before (f ∷ fs) c e fires =
    let here : Firing = record { place = place; moment = moment; fired = f } in
    let there = firing_there rules h before here (firings_at place moment fs) c e in (
      (there.0, fires.1, fires.2, there.1),
      waits_at rules h place moment (f.number + 1) (before ++ here ∷ []) fs c (e ∙ sym (append_assoc before (here ∷ []) (firings_at place moment fs))) fires.3,
    )

module _ (rules : List Rule) (h : List Happened) (place moment : ℕ) (fires : List FiredRule) (c : IsPlainCourse rules (commit place moment fires ∷ h)) where
  -- an action that is there stays there, with its rows
  commit_there : (action : ActionId) → IsThere rules h action → (rows_of rules (commit place moment fires ∷ h) action ≡ rows_of rules h action) × IsThere rules (commit place moment fires ∷ h) action
  commit_there action there =
      let new = map (first_row rules) (firings_at place moment fires) in (
        subst (λ one. rows_of rules (commit place moment fires ∷ h) one ≡ rows_of rules h one) there.4 (commit_rows_of rules place moment fires h c there.0 there.1 there.2 there.3),
        (there.0, there.1, there.2 ++ new, commit_actions rules place moment fires h c ∙ ap (λ old. old ++ new) there.3 ∙ append_assoc there.0 (there.1 ∷ there.2) new, there.4),
      )

  commit_waits : (w : Waiting) → IsWaiting rules h w → IsWaiting rules (commit place moment fires ∷ h) w
  commit_waits w waits =
      let there = commit_there (plain_action rules (as_firing w)) waits.3 in
      (there.0 ∙ waits.0, waits.1, waits.2, there.1)

  commit_starts : (s : Started) → IsIn rules h (plain_id s.place s.rule) (running s.number) → IsStarted rules h s → IsStarted rules (commit place moment fires ∷ h) s
  commit_starts s runs was =
      let there = commit_there (plain_id s.place s.rule) (runs.1, runs.0, runs.2, runs.3, runs.4) in
      (was.0 ∙ ap length (sym there.0), was.1)

pub queue_commit : (rules : List Rule) (h : List Happened) (going : List Running) (bound count place moment : ℕ) (fires : List FiredRule) (binding : Binding) (q q' : Queue) → IsPlainCourse rules (commit place moment fires ∷ h)
    → AllByRecursion (λ (j : Running). IsIn rules h j.action (running j.number)) going → binding.fired ≡ fires → binding.rows ≡ row_count fires → Merges q place moment binding q' → Queues rules h going bound count q → Queues rules (commit place moment fires ∷ h) going (bound + row_count fires) count q'
queue_commit rules h going bound count place moment fires binding q q' c run are counted merges keeps =
    let now = commit place moment fires ∷ h in
    let waits : q'.waiting.items ≡ q.waiting.items ++ waiting_at place moment fires = merges.waiting ∙ ap (λ those. q.waiting.items ++ waiting_at place moment those) are in
    let old = all_weaker (IsWaiting rules h) (IsWaiting rules now) (commit_waits rules h place moment fires c) q.waiting.items keeps.waiting in
    let new = waits_at rules now place moment 0 (firings h) fires c refl c.course.0.1 in
    let those = subst (AllByRecursion (λ (j : Running). IsIn rules h j.action (running j.number))) (sym keeps.running) (all_reverse (λ (j : Running). IsIn rules h j.action (running j.number)) going run) in
    let ran = all_unmap (λ (j : Running). IsIn rules h j.action (running j.number)) running_of q.running.items those in
    let started_now = all_both (λ (s : Started). IsIn rules h (plain_id s.place s.rule) (running s.number)) (IsStarted rules h) (IsStarted rules now) (commit_starts rules h place moment fires c) q.running.items ran keeps.started in
    let longer : waiting_rows q'.waiting.items ≡ waiting_rows q.waiting.items + row_count fires = ap waiting_rows waits ∙ waiting_joined q.waiting.items (waiting_at place moment fires) ∙ ap (λ more. waiting_rows q.waiting.items + more) (waiting_counted place moment fires) in
    let same : started_rows q'.running.items ≡ started_rows q.running.items = ap started_rows merges.running in
    let were = keeps.rows in
    let are_now = merges.rows in
    let bound_were = keeps.bound_rows in
    let bound_now = merges.bound in
    record {
      pending = commit_pending rules place moment fires h c ∙ ap₂ (λ one other. one ++ other) keeps.pending (firsts_at rules place moment fires)
          ∙ sym (map-append (first_of rules) q.waiting.items (waiting_at place moment fires)) ∙ ap (map (first_of rules)) (sym waits);
      waiting = subst (AllByRecursion (IsWaiting rules now)) (sym waits) (all_append (IsWaiting rules now) q.waiting.items (waiting_at place moment fires) old new);
      running = ap (map running_of) merges.running ∙ keeps.running;
      started = subst (AllByRecursion (IsStarted rules now)) (sym merges.running) started_now;
      bound_rows = omega arith;
      rows = omega arith;
      within = (let were_within = keeps.within in omega arith);
      starts = merges.jobs ∙ keeps.starts;
    }

-- ---- a start

pub queue_start : (rules : List Rule) (h : List Happened) (going : List Running) (bound count number caller moment : ℕ) (def : TableDef) (first : Waiting) (others : List Waiting) (q q' : Queue) (was now : Kept) (job : Task)
    → IsPlainCourse rules (start number (plain_id first.place first.fired.number) ∷ h) → number ≡ count + 1 → q.waiting.items ≡ first ∷ others → plain_action rules (as_firing first) ≡ plain_id first.place first.fired.number
    → StartsFirst caller moment def q was first others q' now job → Queues rules h going bound count q
    → Queues rules (start number (plain_id first.place first.fired.number) ∷ h) (record { number = number; caller = caller; action = plain_id first.place first.fired.number } ∷ going) bound (count + 1) q'
queue_start rules h going bound count number caller moment def first others q q' was now job c numbered waits named starts keeps =
    let action = plain_id first.place first.fired.number in
    let newest : Started = record { number = q.jobs + 1; caller = caller; place = first.place; rule = first.fired.number; rows = length first.fired.rows } in
    let here : Running = record { number = number; caller = caller; action = action } in
    let later = start number action ∷ h in
    let were = subst (AllByRecursion (IsWaiting rules h)) waits keeps.waiting in
    let is_number : q.jobs + 1 ≡ number = ap (λ n. n + 1) keeps.starts ∙ sym numbered in
    let pending_were : in_state is_pending rules h ≡ first_of rules first ∷ map (first_of rules) others = keeps.pending ∙ ap (map (first_of rules)) waits in
    let is_first : action ≡ (first_of rules first).action = sym named ∙ sym (first_named rules first c.plain) in
    let own : length first.fired.rows ≡ length (rows_of rules h action) = sym (length-map first.fired.rows (row_by rules (as_firing first))) ∙ ap length (sym were.0.0) ∙ ap (λ one. length (rows_of rules h one)) named in
    let rows_were : q.rows ≡ length first.fired.rows + waiting_rows others + started_rows q.running.items = keeps.rows ∙ ap (λ ws. waiting_rows ws + started_rows q.running.items) waits in
    let rows_wait : waiting_rows q'.waiting.items ≡ waiting_rows others = ap waiting_rows starts.waiting in
    let rows_run : started_rows q'.running.items ≡ started_rows q.running.items + (length first.fired.rows + 0) = ap started_rows starts.running ∙ started_joined q.running.items (newest ∷ []) in
    let rows_now = starts.rows in
    record {
      pending = start_pending rules number action h c.course (first_of rules first) (map (first_of rules) others) pending_were is_first ∙ ap (map (first_of rules)) (sym starts.waiting);
      waiting = subst (AllByRecursion (IsWaiting rules later)) (sym starts.waiting) were.1;
      running = ap (map running_of) starts.running ∙ map-append running_of q.running.items (newest ∷ [])
          ∙ ap₂ (λ old n. old ++ record { number = n; caller = caller; action = action } ∷ []) keeps.running is_number ∙ sym (reverse-append (here ∷ []) going);
      started = subst (AllByRecursion (IsStarted rules later)) (sym starts.running) (all_append (IsStarted rules later) q.running.items (newest ∷ []) keeps.started ((own, were.0.1), tt));
      bound_rows = starts.bound ∙ keeps.bound_rows;
      rows = omega arith;
      within = (let were_within = keeps.within in let bound_same = starts.bound in omega arith);
      starts = starts.jobs ∙ ap (λ n. n + 1) keeps.starts;
    }

-- ---- a finish

pub queue_finish : (rules : List Rule) (h : List Happened) (going : List Running) (bound count number at : ℕ) (s : Started) (q q' : Queue) → NumbersRise q.running.items → place_from 0 q.running.items number ≡ Some at → Stops q at q' s
    → Queues rules h going bound count q → Queues rules (finish number ∷ h) (stopped number going) bound count q'
queue_finish rules h going bound count number at s q q' rise found stops keeps =
    let later = finish number ∷ h in
    let cut = cut_at q.running.items number at rise found in
    let is : s ≡ cut.one = stops.is ∙ cut_is q.running.items number at cut in
    let left : q'.running.items ≡ cut.front ++ cut.back = stops.running ∙ removed q.running.items number at cut in
    let were = subst (AllByRecursion (IsStarted rules h)) cut.split keeps.started in
    let stay : AllByRecursion (IsStarted rules later) (cut.front ++ cut.back) = without (IsStarted rules h) cut.front cut.one cut.back were in
    let rows_were : started_rows q.running.items ≡ started_rows cut.front + (cut.one.rows + started_rows cut.back) = ap started_rows cut.split ∙ started_joined cut.front (cut.one ∷ cut.back) in
    let rows_left : started_rows q'.running.items ≡ started_rows cut.front + started_rows cut.back = ap started_rows left ∙ started_joined cut.front cut.back in
    let rows_wait : waiting_rows q'.waiting.items ≡ waiting_rows q.waiting.items = ap waiting_rows stops.waiting in
    let own : s.rows ≡ cut.one.rows = ap (λ (t : Started). t.rows) is in
    let all_were = keeps.rows in
    let all_now = stops.rows in
    record {
      pending = finish_pending rules number h ∙ keeps.pending ∙ ap (map (first_of rules)) (sym stops.waiting);
      waiting = subst (AllByRecursion (IsWaiting rules later)) (sym stops.waiting) keeps.waiting;
      running = ap (map running_of) stops.running ∙ stopped_run going q.running.items number at rise keeps.running found;
      started = subst (AllByRecursion (IsStarted rules later)) (sym left) stay;
      bound_rows = stops.bound ∙ keeps.bound_rows;
      rows = omega arith;
      within = (let were_within = keeps.within in let bound_same = stops.bound in omega arith);
      starts = stops.jobs ∙ keeps.starts;
    }

-- a started action has no more rows than all actions
started_at_most : (ss : List Started) (at : ℕ) → (get_or ss at no_started).rows ≤ started_rows ss
started_at_most [] at = omega arith
started_at_most (s ∷ ss) zero = omega arith
started_at_most (s ∷ ss) (suc at) = let rest = started_at_most ss at in omega arith

pub rows_at_most : (rules : List Rule) (h : List Happened) (going : List Running) (bound count at : ℕ) (q : Queue) → Queues rules h going bound count q → (get_or q.running.items at no_started).rows ≤ q.rows
rows_at_most rules h going bound count at q keeps = let own = started_at_most q.running.items at in let all = keeps.rows in omega arith

-- ---- what is next

pub first_due_then : (rules : List Rule) (h : List Happened) (going : List Running) (bound count : ℕ) (w : Waiting) (ws : List Waiting) (moment : ℕ) (q : Queue) → IsPlainCourse rules h → AllByRecursion IsAtOnce rules → q.waiting.items ≡ w ∷ ws → AllByRecursion (BindsBy moment) h
    → Queues rules h going bound count q → next rules h moment ≡ Some (first_of rules w)
first_due_then rules h going bound count w ws moment q c at_once waits binds keeps = next_plain rules h moment (first_of rules w) (map (first_of rules) ws) c at_once (keeps.pending ∙ ap (map (first_of rules)) waits) binds

-- where nothing waits nothing is next, now or later
pub record NoneNext (rules : List Rule) (h : List Happened) (moment : ℕ) : Type 0 where
  pub next_one : next rules h moment ≡ None
  pub due_one : first_due rules (due_at rules h moment) ≡ None
  pub pending_one : first_due rules (in_state is_pending rules h) ≡ None

pub none_next : (rules : List Rule) (h : List Happened) (going : List Running) (bound count moment : ℕ) (q : Queue) → q.waiting.items ≡ [] → Queues rules h going bound count q → NoneNext rules h moment
none_next rules h going bound count moment q waits keeps =
    let none : in_state is_pending rules h ≡ [] = keeps.pending ∙ ap (map (first_of rules)) waits in
    record {
      next_one = next_none rules h moment none;
      due_one = ap (λ those. first_due rules (filter (λ a. nat_le (due_of rules a) moment) those)) none;
      pending_one = ap (first_due rules) none;
    }

-- so a start is answered that none is pending
pub none_said : (f : Fixed) (past : List Entry) (going : List Running) (bound count caller moment : ℕ) (q : Queue) → q.waiting.items ≡ [] → Queues f.rules (happened f past) going bound count q
    → said_start f past caller moment (next f.rules (happened f past) moment) ≡ refused none_pending
none_said f past going bound count caller moment q waits keeps =
    let none = none_next f.rules (happened f past) going bound count moment q waits keeps in
    ap (said_start f past caller moment) none.next_one ∙ ap (said_in_hand f past) none.due_one ∙ ap (said_later f) none.pending_one

-- ---- the counts

module _ (f : Fixed) (past : List Entry) where
  -- the rows of the actions that wait
  waiting_sum : (ws : List Waiting) → AllByRecursion IsPlainRule f.rules → AllByRecursion (IsWaiting f.rules (happened f past)) ws → waiting_rows ws ≡ rows_of_all f past (map (λ (a : BoundRow). a.action) (map (first_of f.rules) ws))
  waiting_sum [] plain all = refl
  waiting_sum (w ∷ ws) plain all =
      let own : length w.fired.rows ≡ length (rows_of f.rules (happened f past) (first_of f.rules w).action) =
      sym (length-map w.fired.rows (row_by f.rules (as_firing w))) ∙ ap length (sym all.0.0) ∙ ap (λ action. length (rows_of f.rules (happened f past) action)) (sym (first_named f.rules w plain)) in
      ap₂ (λ one other. one + other) own (waiting_sum ws plain all.1)

  -- the rows of jobs
  abbrev job_rows : List Running → ℕ
  job_rows going = rows_of_all f past (map (λ (j : Running). j.action) going)

  jobs_joined : (one other : List Running) → job_rows (one ++ other) ≡ job_rows one + job_rows other
  jobs_joined [] other = omega arith
  jobs_joined (j ∷ js) other = let rest = jobs_joined js other in omega arith

  jobs_turned : (going : List Running) → job_rows (reverse going) ≡ job_rows going
  jobs_turned [] = refl
  jobs_turned (j ∷ js) =
      let rest = jobs_turned js in
      let split = ap job_rows (reverse-append (j ∷ []) js) ∙ jobs_joined (reverse js) (j ∷ []) in
      omega arith

  started_sum : (ss : List Started) → AllByRecursion (IsStarted f.rules (happened f past)) ss → started_rows ss ≡ job_rows (map running_of ss)
  started_sum [] all = refl
  started_sum (s ∷ ss) all = ap₂ (λ one other. one + other) all.0.0 (started_sum ss all.1)

pub queue_counts : (f : Fixed) (past : List Entry) (q : Queue) → AllByRecursion IsPlainRule f.rules → Queues f.rules (happened f past) (jobs past) (bound_count f past) (job_count past) q
    → record { pending = length q.waiting.items; running = length q.running.items; rows = q.rows } ≡ counts f past
queue_counts f past q plain keeps =
    let waiting = in_state is_pending f.rules (happened f past) in
    let many_wait : length q.waiting.items ≡ length waiting = sym (length-map q.waiting.items (first_of f.rules)) ∙ ap length (sym keeps.pending) in
    let many_run : length q.running.items ≡ length (jobs past) = sym (length-map q.running.items running_of) ∙ ap length keeps.running ∙ length-reverse (jobs past) in
    let rows_wait : waiting_rows q.waiting.items ≡ rows_of_all f past (map (λ (a : BoundRow). a.action) waiting) =
    waiting_sum f past q.waiting.items plain keeps.waiting ∙ ap (λ those. rows_of_all f past (map (λ (a : BoundRow). a.action) those)) (sym keeps.pending) in
    let rows_run : started_rows q.running.items ≡ job_rows f past (jobs past) = started_sum f past q.running.items keeps.started ∙ ap (job_rows f past) keeps.running ∙ jobs_turned f past (jobs past) in
    ap₂ (λ p r. counted p r q.rows) many_wait many_run ∙ ap (counted (length waiting) (length (jobs past))) (keeps.rows ∙ ap₂ (λ one other. one + other) rows_wait rows_run)
  where
    counted : (p r n : ℕ) → Counts
    counted p r n = record { pending = p; running = r; rows = n }
