-- What each call of the engine answers, and the engine after it.
use Rattle.std.specs.Prelude.{◌≡◌, ℕ, List, [], get_or, IfSome, Result, Ok, Err}
use Rattle.std.specs.declared.alloc.AllocError.{AllocError}
use Rattle.strip_value.specs.declared.acts.Act.{Act}
use Rattle.strip_value.specs.declared.acts.Reply.{Reply}
use Rattle.strip_meaning.specs.Actions.{rows_of}
use Rattle.strip_meaning.specs.Contents.{contents, no_function}
use Rattle.strip_model.specs.declared.entries.Entry.{Entry}
use Rattle.strip_model.specs.Derived.{Fixed, happened}
use Rattle.strip_model.specs.Legal.{job_of}
use Rattle.strip_model.specs.Says.{Call, to_begin, to_act, to_commit, to_undo, to_start, to_finish, Answer, opened, replied, fired, undone, spent, no_session, taken, none_pending, not_running, Task, says}
use Rattle.strip_model.specs.Says as said
use Rattle.strip_setup.specs.Catalog.{Catalog}
use Rattle.strip_engine.specs.declared.answers.ActFault.{ActFault}
use Rattle.strip_engine.specs.declared.answers.ActFault.TheVariants as act_fault
use Rattle.strip_engine.specs.declared.answers.BeginError.{BeginError}
use Rattle.strip_engine.specs.declared.answers.BeginError.TheVariants as begin_error
use Rattle.strip_engine.specs.declared.answers.CommitError.{CommitError}
use Rattle.strip_engine.specs.declared.answers.CommitError.TheVariants as commit_error
use Rattle.strip_engine.specs.declared.answers.Fired.{Fired}
use Rattle.strip_engine.specs.declared.answers.FinishError.{FinishError}
use Rattle.strip_engine.specs.declared.answers.FinishError.TheVariants as finish_error
use Rattle.strip_engine.specs.declared.answers.FinishFault.{FinishFault}
use Rattle.strip_engine.specs.declared.answers.Taken.{Taken}
use Rattle.strip_engine.specs.declared.answers.Taken.TheVariants as one_taken
use Rattle.strip_engine.specs.declared.answers.NoSession.{NoSession}
use Rattle.strip_engine.specs.State.{State, fixed, past, with_entry}

-- an engine is made with its catalog and limits, and an empty history; else the catalog comes back
abbrev pub IsNew : Catalog → ℕ → Result State (Catalog × AllocError) → Type 0
IsNew catalog bound_rows (Ok engine) = engine ≡ record { catalog = catalog; bound_rows = bound_rows; history = [] }
IsNew catalog bound_rows (Err refused) = refused.0 ≡ catalog

-- the call has this answer by what the engine says after its history, and just that entry was added
pub record Answers (old : State) (call : Call) (answer : Answer) (new : State) : Type 0 where
  pub answered : (says (fixed old) (past old) call).answer ≡ answer
  pub added : new ≡ with_entry old (says (fixed old) (past old) call).entry

-- a begin; with no live session nothing stands in its way
abbrev pub BeginsSession : State → ℕ → List ℕ → List ℕ → State → Result ℕ BeginError → Type 0
BeginsSession old caller write read new (Ok session) = Answers old (to_begin caller write read) (opened session) new
BeginsSession old caller write read new (Err (begin_error.Twice session)) = ⊥
BeginsSession old caller write read new (Err (begin_error.Blocked session table)) = ⊥
BeginsSession old caller write read new (Err begin_error.Memory) = new ≡ old

-- an act; a refusal is a reply
abbrev pub Acts : State → ℕ → Act → State → Result Reply ActFault → Type 0
Acts old session act new (Ok reply) = Answers old (to_act session act) (replied reply) new
Acts old session act new (Err (act_fault.NoSession missing)) = Answers old (to_act session act) (no_session missing) new
Acts old session act new (Err act_fault.Memory) = new ≡ old

-- a commit
abbrev pub Commits : State → ℕ → ℕ → State → Result Fired CommitError → Type 0
Commits old session moment new (Ok bound) = Answers old (to_commit session moment) (fired bound.firings bound.rows) new
Commits old session moment new (Err (commit_error.NoSession missing)) = Answers old (to_commit session moment) (no_session missing) new
Commits old session moment new (Err (commit_error.Spent total)) = Answers old (to_commit session moment) (spent total) new
Commits old session moment new (Err commit_error.Memory) = new ≡ old

-- an undo, which takes no memory
abbrev pub Undoes : State → ℕ → State → Result Unit NoSession → Type 0
Undoes old session new (Ok nothing) = Answers old (to_undo session) undone new
Undoes old session new (Err none) = Answers old (to_undo session) (no_session none.session) new

-- a start; without a job nothing is added
abbrev pub Starts : State → ℕ → ℕ → State → Result Taken AllocError → Type 0
Starts old caller moment new (Ok (one_taken.Job job)) = Answers old (to_start caller moment) (taken job) new
Starts old caller moment new (Ok (one_taken.NotDue next)) = Answers old (to_start caller moment) (said.not_due next) new
Starts old caller moment new (Ok (one_taken.InHand number)) = Answers old (to_start caller moment) (said.in_hand number) new
Starts old caller moment new (Ok one_taken.Empty) = Answers old (to_start caller moment) none_pending new
Starts old caller moment new (Err none) = new ≡ old

-- where the job is running, it has the content of its action
abbrev pub HasContent : Fixed → List Entry → Task → Type 0
HasContent f past job =
    IfSome (job_of past job.number) (λ j. job.content ≡ contents f.defs (get_or f.functions j.action.function no_function) (rows_of f.rules (happened f past) j.action))

abbrev pub Refuses : State → Task → State → FinishError → Type 0
Refuses old job new (finish_error.NotRunning number) = Answers old (to_finish job.number) (not_running number) new
Refuses old job new (finish_error.Blocked session table) = ⊥
Refuses old job new finish_error.Memory = new ≡ old

-- a finish; with no live session nothing stands in its way but that the number isn't running. A refused one hands the job
-- back
abbrev pub Finishes : State → Task → State → Result Unit FinishFault → Type 0
Finishes old job new (Ok finished) = Answers old (to_finish job.number) said.done new
Finishes old job new (Err fault) = Refuses old job new fault.why × (fault.done ≡ job)
