-- What starts and finishes of the engine's tests leave.
use Rattle.std.proofs.Common.{◌≡◌, ℕ, cond, get_or, List, [], ◌∷◌, Option, Some, None, IfSome, Result, Ok, Err, refl, sym, ap, ◌∙◌, subst}
use Rattle.std.specs.Prelude.{IfOk, OnOk}
use borrow.Author.Tests.{eq-eqb}
use Rattle.std.proofs.lemmas.List.{reverse-append}
use Rattle.std.specs.declared.alloc.AllocError.{AllocError}
use Rattle.strip_meaning.specs.Actions.{BoundRow, due_at, first_due, in_state, is_pending, next, rows_of}
use Rattle.strip_meaning.specs.Contents.{contents, no_function}
use Rattle.strip_model.specs.declared.entries.Entry.{Entry}
use Rattle.strip_model.specs.declared.entries.Entry.TheVariants.{Finish}
use Rattle.strip_model.specs.Derived.{Fixed, happened}
use Rattle.strip_model.specs.History.{Running, live}
use Rattle.strip_model.specs.Legal.{job_of}
use Rattle.strip_model.specs.Says.{Task, late, said_finish, said_in_hand, said_later, said_start, start_entry, taken, task_of}
use Rattle.strip_engine.specs.declared.answers.FinishError.{FinishError}
use Rattle.strip_engine.specs.declared.answers.FinishError.TheVariants as finish_error
use Rattle.strip_engine.specs.declared.answers.FinishFault.{FinishFault}
use Rattle.strip_engine.specs.declared.answers.Taken.{Taken}
use Rattle.strip_engine.specs.declared.answers.Taken.TheVariants as one_taken
use Rattle.strip_script.specs.EngineTests.{Gives, IsInOrder}
use Rattle.strip_engine.specs.Calls.{Finishes, HasContent, Refuses, Starts}
use Rattle.strip_engine.specs.State.{State, fixed, past, with_entry}

-- no session is live
abbrev IsResting : State → Type 0
IsResting s = live (past s) ≡ []

-- ---- one entry more

newest : (s : State) (e : Entry) → past (with_entry s (Some e)) ≡ e ∷ past s
newest s e = reverse-append s.history (e ∷ [])

idle_with : (s new : State) (e : Entry) → new ≡ with_entry s (Some e) → live (e ∷ past s) ≡ live (past s) → IsResting s → IsResting new
idle_with s new e added same idle = subst IsResting (sym added) (ap live (newest s e) ∙ same ∙ idle)

-- ---- starts

module _ (s new : State) (caller moment : ℕ) where
  abbrev f : Fixed
  f = fixed s

  abbrev p : List Entry
  p = past s

  abbrev now : ℕ
  now = late p moment

  started : (first : BoundRow) (job : Task) → new ≡ with_entry s (Some (start_entry now (task_of f p caller first))) → task_of f p caller first ≡ job → IsInOrder new job
  started first job added is =
      let task = task_of f p caller first in
      let e = start_entry now task in
      let content : HasContent f (e ∷ p) task = subst (λ b. IfSome (cond b (Some (record { number = task.number; caller = caller; action = first.action })) (job_of p task.number)) (λ (j : Running). task.content ≡ contents f.defs (get_or f.functions j.action.function no_function) (rows_of f.rules (happened f p) j.action))) (sym (eq-eqb task.number task.number refl)) refl in
      subst (IsInOrder new) is (subst (λ (t : State). IsInOrder t task) (sym added) (subst (λ q. HasContent f q task) (sym (newest s e)) content))

  -- where a start gives a job it is in order
  start_gives : (job : Task) (n : Option BoundRow) → (said_start f p caller now n).answer ≡ taken job → new ≡ with_entry s (said_start f p caller now n).entry → IsInOrder new job
  start_gives job (Some first) answered added = started first job added (let same : task_of f p caller first ≡ job = cc in same)
  start_gives job None answered added = by_due (first_due f.rules (due_at f.rules (happened f p) now)) answered
    where
      by_pending : (o : Option BoundRow) → (said_later f o).answer ≡ taken job → IsInOrder new job
      by_pending None e = cc
      by_pending (Some first) e = cc

      by_due : (o : Option BoundRow) → (said_in_hand f p o).answer ≡ taken job → IsInOrder new job
      by_due None e = by_pending (first_due f.rules (in_state is_pending f.rules (happened f p))) e
      by_due (Some first) e = cc

  -- else the engine is as it was

  none_later : (o : Option BoundRow) → new ≡ with_entry s (said_later f o).entry → new ≡ s
  none_later None added = added
  none_later (Some first) added = added

  none_in_hand : (o : Option BoundRow) → new ≡ with_entry s (said_in_hand f p o).entry → new ≡ s
  none_in_hand None added = none_later (first_due f.rules (in_state is_pending f.rules (happened f p))) added
  none_in_hand (Some first) added = added

  pub start_gives_next : (r : Result Taken AllocError) → Starts s caller moment new r → IfOk r (Gives new)
  start_gives_next (Err e) a = tt
  start_gives_next (Ok (one_taken.Job job)) a = start_gives job (next f.rules (happened f p) now) a.answered a.added
  start_gives_next (Ok (one_taken.NotDue n)) a = tt
  start_gives_next (Ok (one_taken.InHand n)) a = tt
  start_gives_next (Ok one_taken.Empty) a = tt

  start_idle : (n : Option BoundRow) → new ≡ with_entry s (said_start f p caller now n).entry → IsResting s → IsResting new
  start_idle (Some first) added idle = idle_with s new (start_entry now (task_of f p caller first)) added refl idle
  start_idle None added idle = subst IsResting (sym (none_in_hand (first_due f.rules (due_at f.rules (happened f p) now)) added)) idle

  pub start_leaves_idle : (r : Result Taken AllocError) → Starts s caller moment new r → IsResting s → OnOk r (IsResting new)
  start_leaves_idle (Err e) a idle = tt
  start_leaves_idle (Ok (one_taken.Job job)) a idle = start_idle (next f.rules (happened f p) now) a.added idle
  start_leaves_idle (Ok (one_taken.NotDue n)) a idle = start_idle (next f.rules (happened f p) now) a.added idle
  start_leaves_idle (Ok (one_taken.InHand n)) a idle = start_idle (next f.rules (happened f p) now) a.added idle
  start_leaves_idle (Ok one_taken.Empty) a idle = start_idle (next f.rules (happened f p) now) a.added idle

-- ---- finishes

module _ (s : State) (job : Task) (new : State) where
  finish_idle : (j : Option Running) → new ≡ with_entry s (said_finish job.number j).entry → IsResting s → IsResting new
  finish_idle None added idle = subst IsResting (sym added) idle
  finish_idle (Some j) added idle = idle_with s new (Finish j.caller job.number) added refl idle

  fault_idle : (why : FinishError) → Refuses s job new why → IsResting s → IsResting new
  fault_idle (finish_error.NotRunning n) a idle = finish_idle (job_of (past s) job.number) a.added idle
  fault_idle (finish_error.Blocked n t) a idle = absurd a
  fault_idle finish_error.Memory a idle = subst IsResting (sym a) idle

  pub finish_leaves_idle : (r : Result Unit FinishFault) → Finishes s job new r → IsResting s → IsResting new
  finish_leaves_idle (Ok nothing) a idle = finish_idle (job_of (past s) job.number) a.added idle
  finish_leaves_idle (Err fault) a idle = fault_idle fault.why a.0 idle
