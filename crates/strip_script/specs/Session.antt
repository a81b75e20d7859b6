-- What the functions of a script do to its engine and to the jobs that it keeps.
use Rattle.std.specs.Prelude.{◌≡◌, ℕ, Bool, true, false, List, [], ◌∷◌, ◌++◌, get_or, remove, Result, Ok, Err}
use Rattle.std.specs.declared.alloc.AllocError.{AllocError}
use Rattle.std.specs.declared.alloc.Global.{Global}
use Rattle.std.specs.declared.vec.Vec.{Vec}
use Rattle.strip_value.specs.declared.acts.Act.{Act}
use Rattle.strip_model.specs.History.{live}
use Rattle.strip_engine.specs.State.{State, fixed, past, with_entry}
use Rattle.strip_engine.specs.Calls.{Answers}
use Rattle.strip_model.specs.Says.{Answer, Task, opened, not_running, taken, says, to_finish, to_start, to_undo}
use Rattle.strip_model.specs.Says as said
use Rattle.strip_script.specs.declared.alone.Outcome.{Outcome}
use Rattle.strip_script.specs.Keeping.{no_task}
use Rattle.strip_script.specs.Script.{begin_for, done_alone, start_text}

-- an act in a transaction of its own
abbrev pub ActsAlone : State → Act → State → Result Outcome AllocError → Type 0
ActsAlone old act new (Ok outcome) =
    (outcome ≡ (done_alone (fixed old) (past old) act).outcome)
    × (past new ≡ (done_alone (fixed old) (past old) act).past)
    × (fixed new ≡ fixed old)
    × (live (past new) ≡ [])
ActsAlone old act new (Err none) = Unit {0}

-- the begin of a transaction that does the act
abbrev pub BeginsFor : State → Act → State → Result ℕ AllocError → Type 0
BeginsFor old act new (Ok session) = Answers old (begin_for act) (opened session) new
BeginsFor old act new (Err none) = Unit {0}

-- the undo of a live session
abbrev pub UndoesLive : State → ℕ → State → Type 0
UndoesLive old session new = Answers old (to_undo session) said.undone new

-- the job at a place is finished and kept no more; or it isn't running, and is kept
abbrev pub FinishesJob : State → List Task → ℕ → State → List Task → Bool → Type 0
FinishesJob old kept at new left true = Answers old (to_finish (get_or kept at no_task).number) said.done new × (left ≡ remove kept at)
FinishesJob old kept at new left false =
    Answers old (to_finish (get_or kept at no_task).number) (not_running (get_or kept at no_task).number) new × (left ≡ remove kept at ++ get_or kept at no_task ∷ [])

-- the jobs with one that was started, if one was
abbrev pub with_job : List Task → Answer → List Task
with_job kept (taken job) = kept ++ job ∷ []
with_job kept _ = kept

-- an action is started, and its job kept
pub record StartsJob (old : State) (kept : List Task) (new : State) (now : List Task) (text : Vec ℕ Global) : Type 0 where
  pub told : text.items ≡ start_text (fixed old) (says (fixed old) (past old) (to_start 0 0)).answer
  pub added : new ≡ with_entry old (says (fixed old) (past old) (to_start 0 0)).entry
  pub jobs : now ≡ with_job kept (says (fixed old) (past old) (to_start 0 0)).answer
