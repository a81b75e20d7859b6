-- A start and a finish: the history stays legal, and no session becomes live.
use Rattle.std.proofs.Common.{◌≡◌, ℕ, not, List, [], ◌∷◌, Option, Some, None, refl, ap, ap₂, ◌∙◌, arith}
use Rattle.std.specs.List.{list_all}
use Rattle.std.proofs.lemmas.List.{reverse-append}
use Rattle.strip_meaning.specs.Actions.{BoundRow, due_at, due_of, first_due, in_state, is_pending, next}
use Rattle.strip_model.specs.declared.entries.Entry.{Entry}
use Rattle.strip_model.specs.declared.entries.Entry.TheVariants.{Finish}
use Rattle.strip_model.specs.History.{Live, Running, holds, jobs, live}
use Rattle.strip_model.specs.Derived.{Fixed, happened}
use Rattle.strip_model.specs.Legal.{Legal, holds_one, job_of, written}
use Rattle.strip_model.specs.Says.{Said, in_hand, late, none_pending, not_due, refused, said_finish, said_in_hand, said_later, said_start, says, start_entry, taken, task_of, to_finish, to_start, twin_number}
use Rattle.strip_model.proofs.HistoryLaws.{latest_in_time}
use Rattle.strip_setup.specs.Catalog.{Catalog}
use Rattle.strip_engine.specs.State.{State, fixed, past, with_entry}
use Rattle.strip_script.specs.Script.{Stage, with_said}

-- ---- a start

-- what is so of each answer that gives no job, and of the job that is next, is so of what is said
module _ (f : Fixed) (before : List Entry) (caller moment : ℕ) (Q : Said → Type 0) (none : Q (refused none_pending)) (later : (next : ℕ) → Q (refused (not_due next))) (twin : (number : ℕ) → Q (refused (in_hand number)))
    (new : (first : BoundRow) → next f.rules (happened f before) moment ≡ Some first → Q (record { answer = taken (task_of f before caller first); entry = Some (start_entry moment (task_of f before caller first)) })) where
  of_later : (o : Option BoundRow) → Q (said_later f o)
  of_later None = none
  of_later (Some first) = later (due_of f.rules first)

  of_due : (o : Option BoundRow) → Q (said_in_hand f before o)
  of_due None = of_later (first_due f.rules (in_state is_pending f.rules (happened f before)))
  of_due (Some first) = twin (twin_number (jobs before) first.action)

  pub of_start : (o : Option BoundRow) → next f.rules (happened f before) moment ≡ o → Q (said_start f before caller moment o)
  of_start None e = of_due (first_due f.rules (due_at f.rules (happened f before) moment))
  of_start (Some first) e = new first e

-- the entry of a start may follow
pub started_legally : (f : Fixed) (before : List Entry) (caller moment : ℕ) (first : BoundRow) → next f.rules (happened f before) (late before moment) ≡ Some first → Legal f before → Legal f (start_entry (late before moment) (task_of f before caller first) ∷ before)
started_legally f before caller moment first e legal =
    let in_time = latest_in_time f before legal in (
      record {
        number_next = refl;
        early = omega arith;
        later = omega arith;
        first = first;
        is_next = e;
        named = refl;
        due_then = refl;
        counted = refl;
      },
      legal,
    )

pub start_legal : (f : Fixed) (before : List Entry) (caller moment : ℕ) → Legal f before → Legal f (with_said before (says f before (to_start caller moment)).entry)
start_legal f before caller moment legal =
    of_start f before caller (late before moment) (λ said. Legal f (with_said before said.entry)) legal (λ n. legal) (λ n. legal) (λ first e. started_legally f before caller moment first e legal) (next f.rules (happened f before) (late before moment)) refl

pub start_none : (f : Fixed) (before : List Entry) (caller moment : ℕ) → live before ≡ [] → live (with_said before (says f before (to_start caller moment)).entry) ≡ []
start_none f before caller moment none =
    of_start f before caller (late before moment) (λ said. live (with_said before said.entry) ≡ []) none (λ n. none) (λ n. none) (λ first e. none) (next f.rules (happened f before) (late before moment)) refl

-- ---- a finish

module _ (f : Fixed) (before : List Entry) (number : ℕ) (P : List Entry → Type 0) (old : P before) (new : (job : Running) → job_of before number ≡ Some job → P (Finish job.caller number ∷ before)) where
  pub of_finish : (o : Option Running) → job_of before number ≡ o → P (with_said before (said_finish number o).entry)
  of_finish None e = old
  of_finish (Some job) e = new job e

pub finish_legal : (f : Fixed) (before : List Entry) (number : ℕ) → live before ≡ [] → Legal f before → Legal f (with_said before (says f before (to_finish number)).entry)
finish_legal f before number none legal =
    of_finish f before number (Legal f) legal (λ job e. (
      record {
        job = job;
        is_running = e;
        called = refl;
        free = ap (list_all (λ (l : Live). not (holds_one (holds before l.session) (written f job.action)))) none;
      },
      legal,
    )) (job_of before number) refl

pub finish_none : (f : Fixed) (before : List Entry) (number : ℕ) → live before ≡ [] → live (with_said before (says f before (to_finish number)).entry) ≡ []
finish_none f before number none = of_finish f before number (λ p. live p ≡ []) none (λ job e. none) (job_of before number) refl

-- ---- what an answer adds

-- the stage that an engine stands for
abbrev pub shown : State → Stage
shown s = record { most = s.bound_rows; catalog = s.catalog; past = past s }

with_newest : (old : State) (o : Option Entry) → shown (with_entry old o) ≡ record (shown old) { past = with_said (past old) o }
with_newest old None = refl
with_newest old (Some entry) = ap (λ (p : List Entry). record (shown old) { past = p }) (reverse-append old.history (entry ∷ []))

-- after an answer just its history went on
pub stage_with : (old new : State) (o : Option Entry) → new ≡ with_entry old o → shown new ≡ record (shown old) { past = with_said (past old) o }
stage_with old new o is = ap shown is ∙ with_newest old o

-- the catalog stays
pub catalog_with : (old new : State) (o : Option Entry) → new ≡ with_entry old o → new.catalog ≡ old.catalog
catalog_with old new o is = ap (λ (s : Stage). s.catalog) (stage_with old new o is)

-- where what never changes is as before, the stage has just another history
pub stage_went : (old new : State) (went : List Entry) → new.catalog ≡ old.catalog → fixed new ≡ fixed old → past new ≡ went → shown new ≡ record (shown old) { past = went }
stage_went old new went same same_fixed is =
    ap₂ (λ (c : Catalog) (f : Fixed). record { most = f.most; catalog = c; past = past new }) same same_fixed ∙ ap (λ (p : List Entry). record (shown old) { past = p }) is
