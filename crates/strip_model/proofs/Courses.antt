-- What happened in a history is a course of events, and its jobs are running actions of this course.
use Rattle.std.proofs.Common.{◌≡◌, ℕ, ◌+◌, ◌<◌, ◌≤◌, Bool, true, false, not, ◌==◌, cond, List, [], ◌∷◌, ◌++◌, map, filter, length, Some, refl, sym, ap, ap₂, ◌∙◌, subst, arith, append_assoc}
use Rattle.std.specs.Prelude.{find}
use Rattle.std.specs.List.{AllByRecursion, flat_map}
use Rattle.std.proofs.lemmas.List.{length-append, length-map}
use borrow.Author.Tests.{eqb-true, eq-eqb}
use Rattle.strip_value.specs.declared.actions.ActionId.{ActionId}
use Rattle.strip_value.specs.declared.actions.Bound.{Bound}
use Rattle.strip_value.specs.declared.actions.FiredRule.{FiredRule}
use Rattle.strip_value.specs.declared.changes.Change.{Change}
use Rattle.strip_value.specs.declared.rules.Rule.{Rule}
use Rattle.strip_value.specs.Table.{Keyed}
use Rattle.strip_value.proofs.Lists.{all_weaker, all_filter}
use Rattle.strip_meaning.specs.Effect.{run}
use Rattle.strip_meaning.specs.Firing.{fired}
use Rattle.strip_meaning.specs.Actions.{Happened, commit, start, finish, give_back, kept, BoundRow, rows_of_rule, as_bound, all_rows, actions, pending, running, state_of, is_pending, next}
use Rattle.strip_meaning.specs.Course.{starts, IsBefore, Fires, IsIn, Course, IsPlainRule, Stays, IsPlainCourse, firings_at}
use Rattle.strip_meaning.proofs.Behind.{AllBehind, all_cut, behind_filter}
use Rattle.strip_meaning.proofs.ActionLaws.{other_action, Listed}
use Rattle.strip_meaning.proofs.States.{next_is, is_in, start_takes_pending, commit_state, start_this, start_other, finish_other}
use Rattle.strip_meaning.proofs.PlainActions.{first_row, commit_actions, BindsBy}
use Rattle.strip_model.specs.declared.entries.Entry.{Entry}
use Rattle.strip_model.specs.declared.entries.Entry.TheVariants.{Begin, Did, Commit, Undo, Start, Finish}
use Rattle.strip_model.specs.History.{acts, holds, base, changes, latest, job_count, Running, jobs}
use Rattle.strip_model.specs.Derived.{Fixed, beginning, with_fired, fired_from, fired_at, happened, bound_count}
use Rattle.strip_model.specs.Legal.{Legal}
use Rattle.strip_model.specs.Says.{row_count}

-- ---- what happened, in its order

-- nothing was given back
pub stays_all : (f : Fixed) (past : List Entry) → AllByRecursion Stays (happened f past)
stays_all f [] = tt
stays_all f (Begin c s w r ∷ past) = stays_all f past
stays_all f (Did c s a reply ∷ past) = stays_all f past
stays_all f (Commit c s m ∷ past) = (tt, stays_all f past)
stays_all f (Undo c s ∷ past) = stays_all f past
stays_all f (Start c n m a d r ∷ past) = (tt, stays_all f past)
stays_all f (Finish c n ∷ past) = (tt, stays_all f past)

-- commits stand before each place from the length on, and no later than each moment from the latest on
pub all_before : (f : Fixed) (past : List Entry) (place moment : ℕ) → length past ≤ place → latest past ≤ moment → AllByRecursion (IsBefore place moment) (happened f past)
all_before f [] place moment short early = tt
all_before f (Begin c s w r ∷ past) place moment short early = all_before f past place moment (omega arith) early
all_before f (Did c s a reply ∷ past) place moment short early = all_before f past place moment (omega arith) early
all_before f (Commit c s m ∷ past) place moment short early =
    ((omega arith, omega arith), all_before f past place moment (omega arith) (omega arith))
all_before f (Undo c s ∷ past) place moment short early = all_before f past place moment (omega arith) early
all_before f (Start c n m a d r ∷ past) place moment short early = (tt, all_before f past place moment (omega arith) (omega arith))
all_before f (Finish c n ∷ past) place moment short early = (tt, all_before f past place moment (omega arith) early)

before_by : (place moment : ℕ) (e : Happened) → IsBefore place moment e → BindsBy moment e
before_by place moment (commit p m rows) before = before.1
before_by place moment (start n action) before = tt
before_by place moment (finish n) before = tt
before_by place moment (give_back n) before = tt

-- rows were bound no later than each moment from the latest on
pub binds_then : (f : Fixed) (past : List Entry) (moment : ℕ) → latest past ≤ moment → AllByRecursion (BindsBy moment) (happened f past)
binds_then f past moment early =
    all_weaker (IsBefore (length past) moment) (BindsBy moment) (before_by (length past) moment) (happened f past) (all_before f past (length past) moment (omega arith) early)

pub binds_by : (f : Fixed) (past : List Entry) → AllByRecursion (BindsBy (latest past)) (happened f past)
binds_by f past = binds_then f past (latest past) (omega arith)

-- as many actions were started as the history has starts
pub starts_are : (f : Fixed) (past : List Entry) → starts (happened f past) ≡ job_count past
starts_are f [] = refl
starts_are f (Begin c s w r ∷ past) = starts_are f past
starts_are f (Did c s a reply ∷ past) = starts_are f past
starts_are f (Commit c s m ∷ past) = starts_are f past
starts_are f (Undo c s ∷ past) = starts_are f past
starts_are f (Start c n m a d r ∷ past) = ap (λ count. count + 1) (starts_are f past)
starts_are f (Finish c n ∷ past) = starts_are f past

-- ---- what rules bind at a commit

fires_lower : (low more count : ℕ) (rows : List FiredRule) → low ≤ more → Fires more count rows → Fires low count rows
fires_lower low more count [] le fires = tt
fires_lower low more count (r ∷ rs) le fires = (omega arith, fires.1, fires.2, fires.3)

fires_with : (number count : ℕ) (bounds : List Bound) (others : List FiredRule) → number < count → Fires (number + 1) count others → Fires number count (with_fired number bounds others)
fires_with number count [] others lt fires = fires_lower number (number + 1) count others (omega arith) fires
fires_with number count (b ∷ bs) others lt fires = (omega arith, lt, omega arith, fires)

-- rules bind rows by rising number, each at least one
pub fires_from : (number count : ℕ) (rules : List Rule) (before after : List Keyed) (changed : List Change) → number + length rules ≤ count → Fires number count (fired_from number rules before after changed)
fires_from number count [] before after changed le = tt
fires_from number count (rule ∷ rules) before after changed le =
    fires_with number count (fired rule before after changed) (fired_from (number + 1) rules before after changed) (omega arith)
    (fires_from (number + 1) count rules before after changed (omega arith))

pub fires_at : (f : Fixed) (past : List Entry) (session : ℕ) → Fires 0 (length f.rules) (fired_at f past session)
fires_at f past session =
    let before = base (beginning f) past in
    fires_from 0 (length f.rules) f.rules before (run (holds past session) before (acts past session)).tables (changes (beginning f) past session) (omega arith)

rows_counted : (rules : List Rule) (past : List Happened) (place moment : ℕ) (rows : List FiredRule) → length (flat_map (rows_of_rule rules past place moment) rows) ≡ row_count rows
rows_counted rules past place moment [] = refl
rows_counted rules past place moment (r ∷ rs) =
    length-append (rows_of_rule rules past place moment r) (flat_map (rows_of_rule rules past place moment) rs)
    ∙ ap₂ (λ one other. one + other) (length-map r.rows (as_bound rules past place moment r.number)) (rows_counted rules past place moment rs)

-- a commit adds the rows that it binds, and no other entry adds any
pub bound_count_commit : (f : Fixed) (past : List Entry) (c s m : ℕ) → bound_count f (Commit c s m ∷ past) ≡ bound_count f past + row_count (fired_at f past s)
bound_count_commit f past c s m =
    length-append (all_rows f.rules (happened f past)) (flat_map (rows_of_rule f.rules (kept (happened f past)) (length past) m) (fired_at f past s))
    ∙ ap (λ more. bound_count f past + more) (rows_counted f.rules (kept (happened f past)) (length past) m (fired_at f past s))

abbrev pub BindsNone : Entry → Type 0
BindsNone (Commit c s m) = ⊥
BindsNone _ = Unit {0}

pub bound_count_stays : (f : Fixed) (e : Entry) (past : List Entry) → BindsNone e → bound_count f (e ∷ past) ≡ bound_count f past
bound_count_stays f (Begin c s w r) past none = refl
bound_count_stays f (Did c s a reply) past none = refl
bound_count_stays f (Commit c s m) past none = absurd none
bound_count_stays f (Undo c s) past none = refl
bound_count_stays f (Start c n m a d r) past none = refl
bound_count_stays f (Finish c n) past none = refl

-- ---- the numbers of jobs

-- a job's number is no more than this
abbrev pub NumberedTo : ℕ → Running → Type 0
NumberedTo count j = j.number ≤ count

-- a job has a lower number than one that was started later
abbrev pub Falls : Running → Running → Type 0
Falls j k = k.number < j.number

-- the numbers are those of starts
pub jobs_numbered : (f : Fixed) (past : List Entry) → Legal f past → AllByRecursion (NumberedTo (job_count past)) (jobs past)
jobs_numbered f [] legal = tt
jobs_numbered f (Begin c s w r ∷ past) legal = jobs_numbered f past legal.1
jobs_numbered f (Did c s a reply ∷ past) legal = jobs_numbered f past legal.1
jobs_numbered f (Commit c s m ∷ past) legal = jobs_numbered f past legal.1
jobs_numbered f (Undo c s ∷ past) legal = jobs_numbered f past legal.1
jobs_numbered f (Start c n m a d r ∷ past) legal =
    (omega (arith, legal.0.number_next), all_weaker (NumberedTo (job_count past)) (NumberedTo (job_count past + 1)) (λ j le. omega arith) (jobs past) (jobs_numbered f past legal.1))
jobs_numbered f (Finish c n ∷ past) legal = all_filter (NumberedTo (job_count past)) (λ j. not (j.number == n)) (jobs past) (jobs_numbered f past legal.1)

-- and fall from the newest on
pub jobs_fall : (f : Fixed) (past : List Entry) → Legal f past → AllBehind Falls (jobs past)
jobs_fall f [] legal = tt
jobs_fall f (Begin c s w r ∷ past) legal = jobs_fall f past legal.1
jobs_fall f (Did c s a reply ∷ past) legal = jobs_fall f past legal.1
jobs_fall f (Commit c s m ∷ past) legal = jobs_fall f past legal.1
jobs_fall f (Undo c s ∷ past) legal = jobs_fall f past legal.1
jobs_fall f (Start c n m a d r ∷ past) legal =
    let newest : n ≡ job_count past + 1 = legal.0.number_next in
    (all_weaker (NumberedTo (job_count past)) (λ k. k.number < n) (λ k le. omega arith) (jobs past) (jobs_numbered f past legal.1), jobs_fall f past legal.1)
jobs_fall f (Finish c n ∷ past) legal = behind_filter Falls (λ j. not (j.number == n)) (jobs past) (jobs_fall f past legal.1)

-- ---- a course of events

-- the job's action is there, and is running with its number
abbrev pub Runs : List Rule → List Happened → Running → Type 0
Runs rules happened j = IsIn rules happened j.action (running j.number)

-- what is so of the jobs is so of the one that is found, and it has the number
found_job : (P : Running → Type 0) (number : ℕ) (running_jobs : List Running) (job : Running) → AllByRecursion P running_jobs → find (λ j. j.number == number) running_jobs ≡ Some job → P job × (job.number ≡ number)
found_job P number [] job all e = absurd (cc)
found_job P number (j ∷ js) job all e = by_test (j.number == number) refl e (found_job P number js job all.1)
  where
    by_test : (b : Bool) → (j.number == number) ≡ b → cond b (Some j) (find (λ k. k.number == number) js) ≡ Some job
        → (find (λ k. k.number == number) js ≡ Some job → P job × (job.number ≡ number)) → P job × (job.number ≡ number)
    by_test true t e rest = let same : j ≡ job = cc in (subst P same all.0, ap (λ (k : Running). k.number) (sym same) ∙ eqb-true j.number number t)
    by_test false t e rest = rest e

-- what each element that passes a test is, given what it was
passed : {A : Type 0} (P Q : A → Type 0) (test : A → Bool) → ((x : A) → test x ≡ true → P x → Q x) → (xs : List A) → AllByRecursion P xs → AllByRecursion Q (filter test xs)
passed P Q test step [] all = tt
passed P Q test step (x ∷ xs) all = by_test (test x) refl (passed P Q test step xs all.1)
  where
    by_test : (b : Bool) → test x ≡ b → AllByRecursion Q (filter test xs) → AllByRecursion Q (cond b (x ∷ filter test xs) (filter test xs))
    by_test true e rest = (step x e all.0, rest)
    by_test false e rest = rest

-- the next action is there
pub next_listed : (rules : List Rule) (past : List Happened) (moment : ℕ) (first : BoundRow) → next rules past moment ≡ Some first → Listed (actions rules past) first.action
next_listed rules past moment first e =
    next_is rules past moment first (λ a. Listed (actions rules past) a.action)
    (all_filter (λ a. Listed (actions rules past) a.action) (is_in is_pending past) (actions rules past)
    (all_cut (λ a. Listed (actions rules past) a.action) (actions rules past) (λ before x after e. record { front = before; one = x; back = after; split = e; is = refl }))) e

-- jobs run on where rows are bound
commit_runs : (rules : List Rule) (place moment : ℕ) (rows : List FiredRule) (past : List Happened) → IsPlainCourse rules (commit place moment rows ∷ past) → (j : Running) → Runs rules past j → Runs rules (commit place moment rows ∷ past) j
commit_runs rules place moment rows past c j r =
    let new = map (first_row rules) (firings_at place moment rows) in
    (r.0, r.1, r.2 ++ new, commit_actions rules place moment rows past c ∙ ap (λ old. old ++ new) r.3 ∙ append_assoc r.1 (r.0 ∷ r.2) new, r.4, commit_state place moment rows past j.action ∙ r.5)

-- where an action is started, it runs, and so do those that ran
start_runs : (rules : List Rule) (number caller : ℕ) (action : ActionId) (past : List Happened) → Course rules (start number action ∷ past) → Runs rules (start number action ∷ past) (record { number = number; caller = caller; action = action })
start_runs rules number caller action past c =
    let first = c.0.1.1 in
    let there = next_listed rules past c.0.1.0 first c.0.1.2 in
    (there.one, there.front, there.back, there.split, there.is ∙ c.0.1.3, start_this rules number action past c)

start_leaves : (rules : List Rule) (number : ℕ) (action : ActionId) (past : List Happened) → Course rules (start number action ∷ past) → (j : Running) → Runs rules past j → Runs rules (start number action ∷ past) j
start_leaves rules number action past c j r =
    let waits = start_takes_pending rules past number action c.0 in
    let apart = other_action action j.action (λ e. let runs = r.5 in let same : state_of past j.action ≡ pending = ap (state_of past) (sym e) ∙ waits in cc) in
    (r.0, r.1, r.2, r.3, r.4, start_other rules number action past c j.action apart ∙ r.5)

-- where a number is finished, the others run on
finish_leaves : (rules : List Rule) (number : ℕ) (action : ActionId) (past : List Happened) → Course rules (finish number ∷ past) → state_of past action ≡ running number
    → (j : Running) → not (j.number == number) ≡ true → Runs rules past j → Runs rules (finish number ∷ past) j
finish_leaves rules number action past c ends j other r =
    let apart = other_action action j.action (λ e.
    let runs = r.5 in
    let here : state_of past j.action ≡ running number = ap (state_of past) (sym e) ∙ ends in
    let same : j.number ≡ number = cc in
    let passes = eq-eqb j.number number same in
    cc) in
    (r.0, r.1, r.2, r.3, r.4, finish_other rules number past c action j.action ends apart ∙ r.5)

-- a course, and jobs that run in it
pub record Going (rules : List Rule) (past : List Happened) (going : List Running) : Type 0 where
  pub course : IsPlainCourse rules past
  pub run : AllByRecursion (Runs rules past) going

-- one more event of such a course
one_more : (rules : List Rule) (e : Happened) (past : List Happened) → Course rules (e ∷ past) → Stays e → IsPlainCourse rules past → IsPlainCourse rules (e ∷ past)
one_more rules e past course stays c = record { course = course; plain = c.plain; stays = (stays, c.stays) }

going_commit : (rules : List Rule) (place moment : ℕ) (rows : List FiredRule) (past : List Happened) (going : List Running) → AllByRecursion (IsBefore place moment) past → Fires 0 (length rules) rows → Going rules past going → Going rules (commit place moment rows ∷ past) going
going_commit rules place moment rows past going before fires g =
    let c = one_more rules (commit place moment rows) past ((before, fires), g.course.course) tt g.course in
    record { course = c; run = all_weaker (Runs rules past) (Runs rules (commit place moment rows ∷ past)) (commit_runs rules place moment rows past c) going g.run }

going_start : (rules : List Rule) (number caller moment : ℕ) (action : ActionId) (first : BoundRow) (past : List Happened) (going : List Running) → number ≡ starts past + 1 → next rules past moment ≡ Some first → first.action ≡ action
    → Going rules past going → Going rules (start number action ∷ past) (record { number = number; caller = caller; action = action } ∷ going)
going_start rules number caller moment action first past going numbered is_next is g =
    let course : Course rules (start number action ∷ past) = ((numbered, (moment, first, is_next, is)), g.course.course) in
    record {
      course = one_more rules (start number action) past course tt g.course;
      run = (
        start_runs rules number caller action past course,
        all_weaker (Runs rules past) (Runs rules (start number action ∷ past)) (start_leaves rules number action past course) going g.run,
      );
    }

going_finish : (rules : List Rule) (number : ℕ) (job : Running) (past : List Happened) (going : List Running) → find (λ j. j.number == number) going ≡ Some job
    → Going rules past going → Going rules (finish number ∷ past) (filter (λ j. not (j.number == number)) going)
going_finish rules number job past going e g =
    let found = found_job (Runs rules past) number going job g.run e in
    let ends : IsIn rules past job.action (running number) = subst (λ n. IsIn rules past job.action (running n)) found.1 found.0 in
    let course : Course rules (finish number ∷ past) = ((job.action, ends), g.course.course) in
    record {
      course = one_more rules (finish number) past course tt g.course;
      run = passed (Runs rules past) (Runs rules (finish number ∷ past)) (λ j. not (j.number == number)) (finish_leaves rules number job.action past course ends.5) going g.run;
    }

-- what happened in a legal history is a course, and the jobs run in it
pub going_of : (f : Fixed) (past : List Entry) → AllByRecursion IsPlainRule f.rules → Legal f past → Going f.rules (happened f past) (jobs past)
going_of f [] plain legal = record { course = record { course = tt; plain = plain; stays = tt }; run = tt }
going_of f (Begin c s w r ∷ past) plain legal = going_of f past plain legal.1
going_of f (Did c s a reply ∷ past) plain legal = going_of f past plain legal.1
going_of f (Commit c s m ∷ past) plain legal =
    let in_time : latest past ≤ m = legal.0.2 in
    going_commit f.rules (length past) m (fired_at f past s) (happened f past) (jobs past) (all_before f past (length past) m (omega arith) in_time) (fires_at f past s) (going_of f past plain legal.1)
going_of f (Undo c s ∷ past) plain legal = going_of f past plain legal.1
going_of f (Start c n m a d r ∷ past) plain legal =
    going_start f.rules n c m a legal.0.first (happened f past) (jobs past) (legal.0.number_next ∙ ap (λ count. count + 1) (sym (starts_are f past))) legal.0.is_next (sym legal.0.named) (going_of f past plain legal.1)
going_of f (Finish c n ∷ past) plain legal = going_finish f.rules n legal.0.job (happened f past) (jobs past) legal.0.is_running (going_of f past plain legal.1)

pub course_of : (f : Fixed) (past : List Entry) → AllByRecursion IsPlainRule f.rules → Legal f past → IsPlainCourse f.rules (happened f past)
course_of f past plain legal = (going_of f past plain legal).course

-- each job is a running action with its number
pub jobs_run : (f : Fixed) (past : List Entry) → AllByRecursion IsPlainRule f.rules → Legal f past → AllByRecursion (λ (j : Running). IsIn f.rules (happened f past) j.action (running j.number)) (jobs past)
jobs_run f past plain legal = (going_of f past plain legal).run
