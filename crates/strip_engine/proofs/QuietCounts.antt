-- Where the counts say that none is pending and none is running, nothing waits and nothing runs: so the derived tables that
-- are kept have the rows of their queries.
use Rattle.std.proofs.Common.{◌≡◌, ◌==◌, ℕ, Bool, true, false, not, ◌||◌, cond, List, [], ◌∷◌, filter, length, Some, refl, sym, ap, ◌∙◌, arith}
use Rattle.std.specs.List.{list_any}
use borrow.Author.Tests.{eqb-true, eq-eqb}
use Rattle.strip_value.specs.declared.actions.ActionId.{ActionId}
use Rattle.strip_value.specs.declared.actions.Counts.{Counts}
use Rattle.strip_meaning.specs.Actions.{BoundRow, State, actions, finished, is_finish_of, is_pending, is_running, kept, number_of, pending, running, same_action, state_by, state_of}
use Rattle.strip_meaning.proofs.States.{number_running}
use Rattle.strip_model.specs.Counted.{counts}
use Rattle.strip_model.specs.declared.entries.Entry.{Entry}
use Rattle.strip_model.specs.declared.entries.Entry.TheVariants.{Begin, Did, Commit, Undo, Start, Finish}
use Rattle.strip_model.specs.Derived.{Fixed, happened}
use Rattle.strip_model.specs.History.{Running, jobs, stopped}
use Rattle.strip_model.specs.Legal.{Legal}
use Rattle.strip_engine.specs.Quiet.{IsQuiet, QuietWhere}
use Rattle.strip_engine.specs.Built.{IsBuilt}
use Rattle.strip_engine.specs.State.{State as Seen, fixed, past}
use Rattle.strip_engine.proofs.QuietTables.{quiet_tables_are_queries}

-- ---- an action that runs has a job

-- one of the jobs has the number
abbrev has_job : ℕ → List Running → Bool
has_job number going = list_any (λ (j : Running). j.number == number) going

-- where another number is stopped, it has it still
job_stays : (number other : ℕ) (going : List Running) → (other == number) ≡ false → has_job number going ≡ true → has_job number (stopped other going) ≡ true
job_stays number other [] apart has = has
job_stays number other (j ∷ going) apart has = by_tests (j.number == other) (j.number == number) refl refl has (job_stays number other going apart)
  where
    by_tests : (stops is : Bool) → (j.number == other) ≡ stops → (j.number == number) ≡ is → (is || has_job number going) ≡ true → (has_job number going ≡ true → has_job number (stopped other going) ≡ true)
        → has_job number (cond (not stops) (j ∷ stopped other going) (stopped other going)) ≡ true
    by_tests true true s t has rest =
        let one = eqb-true j.number other s in
        let two = eqb-true j.number number t in
        let same : other ≡ number = sym one ∙ two in
        let equal = eq-eqb other number same in
        absurd (cc)
    by_tests true false s t has rest = rest has
    by_tests false true s t has rest = ap (λ b. b || has_job number (stopped other going)) t
    by_tests false false s t has rest = ap (λ b. b || has_job number (stopped other going)) t ∙ rest has

-- a number with which an action was started and which isn't finished is that of a job
started_job : (f : Fixed) (past : List Entry) (action : ActionId) (number : ℕ) → number_of (kept (happened f past)) action ≡ Some number → list_any (is_finish_of number) (kept (happened f past)) ≡ false → has_job number (jobs past) ≡ true
started_job f [] action number e goes = absurd (cc)
started_job f (Begin c s w r ∷ past) action number e goes = started_job f past action number e goes
started_job f (Did c s a reply ∷ past) action number e goes = started_job f past action number e goes
started_job f (Commit c s m ∷ past) action number e goes = started_job f past action number e goes
started_job f (Undo c s ∷ past) action number e goes = started_job f past action number e goes
started_job f (Start c n m a d r ∷ past) action number e goes = by_test (same_action a action) e (λ e. started_job f past action number e goes)
  where
    by_number : (b : Bool) → has_job number (jobs past) ≡ true → (b || has_job number (jobs past)) ≡ true
    by_number true has = refl
    by_number false has = has

    by_test : (b : Bool) → cond b (Some n) (number_of (kept (happened f past)) action) ≡ Some number
        → (number_of (kept (happened f past)) action ≡ Some number → has_job number (jobs past) ≡ true) → ((n == number) || has_job number (jobs past)) ≡ true
    by_test true e rest = let same : n ≡ number = cc in ap (λ b. b || has_job number (jobs past)) (eq-eqb n number same)
    by_test false e rest = by_number (n == number) (rest e)
started_job f (Finish c n ∷ past) action number e goes = by_test (n == number) refl goes (started_job f past action number e)
  where
    by_test : (b : Bool) → (n == number) ≡ b → (b || list_any (is_finish_of number) (kept (happened f past))) ≡ false
        → (list_any (is_finish_of number) (kept (happened f past)) ≡ false → has_job number (jobs past) ≡ true) → has_job number (stopped n (jobs past)) ≡ true
    by_test true t goes rest = absurd (cc)
    by_test false t goes rest = job_stays number n (jobs past) t (rest goes)

-- so the number of an action that runs is that of a job
running_job : (f : Fixed) (past : List Entry) (action : ActionId) (number : ℕ) → state_of (happened f past) action ≡ running number → has_job number (jobs past) ≡ true
running_job f past action number runs = by_test (list_any (is_finish_of number) (kept (happened f past))) refl (sym (ap (state_by (kept (happened f past))) started) ∙ runs)
  where
    started : number_of (kept (happened f past)) action ≡ Some number
    started = number_running (happened f past) action number runs

    by_test : (b : Bool) → list_any (is_finish_of number) (kept (happened f past)) ≡ b → cond b (finished number) (running number) ≡ running number → has_job number (jobs past) ≡ true
    by_test true t e = absurd (cc)
    by_test false t e = started_job f past action number started t

-- and where there is no job, no action runs
none_runs : (f : Fixed) (past : List Entry) (action : ActionId) → jobs past ≡ [] → is_running (state_of (happened f past) action) ≡ false
none_runs f past action none = by_state (state_of (happened f past) action) refl
  where
    by_state : (s : State) → state_of (happened f past) action ≡ s → is_running s ≡ false
    by_state pending e = refl
    by_state (running number) e =
        let has = running_job f past action number e in
        let lacks : has_job number (jobs past) ≡ false = ap (has_job number) none in
        absurd (cc)
    by_state (finished number) e = refl

-- ---- nothing waits and nothing runs

-- where none of these waits and no action runs, none of them does either
none_of_both : (state : BoundRow → State) (those : List BoundRow) → length (filter (λ a. is_pending (state a)) those) ≡ 0 → ((a : BoundRow) → is_running (state a) ≡ false) → list_any (λ a. is_pending (state a) || is_running (state a)) those ≡ false
none_of_both state [] none idle = refl
none_of_both state (a ∷ those) none idle = by_test (is_pending (state a)) none (λ none. none_of_both state those none idle)
  where
    by_test : (b : Bool) → length (cond b (a ∷ filter (λ b. is_pending (state b)) those) (filter (λ b. is_pending (state b)) those)) ≡ 0
        → (length (filter (λ b. is_pending (state b)) those) ≡ 0 → list_any (λ b. is_pending (state b) || is_running (state b)) those ≡ false)
        → ((b || is_running (state a)) || list_any (λ b. is_pending (state b) || is_running (state b)) those) ≡ false
    by_test true none rest = absurd (omega arith)
    by_test false none rest = ap (λ b. b || list_any (λ (b : BoundRow). is_pending (state b) || is_running (state b)) those) (idle a) ∙ rest none

no_jobs : (going : List Running) → length going ≡ 0 → going ≡ []
no_jobs [] e = refl
no_jobs (j ∷ going) e = absurd (omega arith)

-- where the counts say so, all is quiet
pub counts_quiet : (f : Fixed) (past : List Entry) → (counts f past).pending ≡ 0 → (counts f past).running ≡ 0 → IsQuiet f past
counts_quiet f past waits runs =
    ap not (none_of_both (λ a. state_of (happened f past) a.action) (actions f.rules (happened f past)) waits (λ a. none_runs f past a.action (no_jobs (jobs past) runs)))

-- so each derived table that is kept has the rows of its query
pub quiet_where : (s : Seen) (told : Counts) → IsBuilt (fixed s) → Legal (fixed s) (past s) → told ≡ counts (fixed s) (past s) → QuietWhere s told
quiet_where s told built legal counted waits runs id some declared =
    let quiet = counts_quiet (fixed s) (past s) (ap (λ (n : Counts). n.pending) (sym counted) ∙ waits) (ap (λ (n : Counts). n.running) (sym counted) ∙ runs) in
    quiet_tables_are_queries (fixed s) (past s) id built legal quiet some declared
