-- What an answer of the code is: the step that the definition has.
use Rattle.std.proofs.Common.{◌≡◌, ℕ, true, false, get_or, List, Option, Some, None, Result, Ok, Err, refl, sym, ap, ◌∙◌, subst}
use Rattle.std.specs.Prelude.{IfOk}
use Rattle.std.specs.declared.alloc.AllocError.{AllocError}
use Rattle.strip_model.specs.declared.entries.Entry.{Entry}
use Rattle.strip_model.specs.History.{Running as RunningJob}
use Rattle.strip_model.specs.Legal.{job_of}
use Rattle.strip_model.specs.Says.{Task, not_running, said_finish, says, to_finish, to_start}
use Rattle.strip_model.specs.Says as said_of
use Rattle.strip_model.specs.Texts.{line_of_finished, line_of_not_running}
use Rattle.strip_engine.specs.State.{fixed, past}
use Rattle.strip_script.specs.declared.database.Database.{Database}
use Rattle.strip_script.specs.declared.script.Answer.{Answer}
use Rattle.strip_script.specs.declared.script.Stage.TheVariants.{Running}
use Rattle.strip_script.specs.Keeping.{job_place, no_task}
use Rattle.strip_script.specs.Script.{Stage, Step, finish_said, refusing, start_step, with_said}
use Rattle.strip_script.specs.Session.{FinishesJob, StartsJob}
use Rattle.strip_script.specs.Stages.{IsIdle, IsRefused, IsStep, IsSteady, stage_of}
use Rattle.strip_script.proofs.JobLaws.{shown, stage_with}
use Rattle.strip_script.proofs.KeepingLaws.{no_place, not_kept}

pub if_ok : {A : Type 0} (P Q : A → Type 0) (r : Result A AllocError) → ((a : A) → P a → Q a) → IfOk r P → IfOk r Q
if_ok P Q (Ok a) so is = so a is
if_ok P Q (Err e) so is = tt

-- an answer of a database that stands for the stage of a step
pub running_step : (database : Database) (step : Step) (a : Answer) → a.text.items ≡ step.text → a.refused ≡ step.refused → shown database.engine ≡ step.stage → IsIdle database → a.script ≡ Running database → IsStep step a
running_step database step a text refused stands idle standing = record {
  text = text;
  refused = refused;
  stage = ap stage_of standing ∙ stands;
  steady = subst IsSteady (sym standing) idle;
}

-- a refusal of a database is the step that refuses at its stage
refused_step : (database : Database) (number : ℕ) (stage : Stage) (step : Step) (a : Answer)
    → step ≡ refusing stage (line_of_not_running number) → shown database.engine ≡ stage → IsIdle database → IsRefused database number a → IsStep step a
refused_step database number stage step a is stands idle said =
    running_step database step a (said.text ∙ sym (ap (λ (s : Step). s.text) is)) (said.refused ∙ sym (ap (λ (s : Step). s.refused) is)) (stands ∙ sym (ap (λ (s : Step). s.stage) is)) idle said.script

-- what is said of a number that isn't running, and of one that is
module _ (stage : Stage) (number : ℕ) where
  refused_said : (o : Option RunningJob) (m : ℕ) → (said_finish number o).answer ≡ not_running m
      → (finish_said stage number (said_finish number o) ≡ refusing stage (line_of_not_running number)) × (with_said stage.past (said_finish number o).entry ≡ stage.past)
  refused_said None m e = (refl, refl)
  refused_said (Some job) m e = absurd (cc)

  done_said : (o : Option RunningJob) → (said_finish number o).answer ≡ said_of.done
      → finish_said stage number (said_finish number o) ≡ record { text = line_of_finished number; refused = false; stage = record stage { past = with_said stage.past (said_finish number o).entry } }
  done_said None e = absurd (cc)
  done_said (Some job) e = refl

-- the number isn't kept
pub not_kept_step : (database : Database) (number : ℕ) (a : Answer) → IsIdle database → job_place 0 database.jobs.items number ≡ None → IsRefused database number a
    → IsStep (finish_said (shown database.engine) number (says (fixed database.engine) (past database.engine) (to_finish number))) a
not_kept_step database number a idle none said =
    let stage = shown database.engine in
    let missing = not_kept (fixed database.engine) (past database.engine) database.jobs.items number (no_place database.jobs.items number none) idle.keeping in
    refused_step database number stage (finish_said stage number (says (fixed database.engine) (past database.engine) (to_finish number))) a (ap (λ o. finish_said stage number (said_finish number o)) missing) refl idle said

-- it is kept, and isn't running
pub refused_job_step : (old database : Database) (at number : ℕ) (a : Answer) → (get_or old.jobs.items at no_task).number ≡ number → FinishesJob old.engine old.jobs.items at database.engine database.jobs.items false → IsIdle database → IsRefused database number a
    → IsStep (finish_said (shown old.engine) number (says (fixed old.engine) (past old.engine) (to_finish number))) a
refused_job_step old database at number a is finishes idle said =
    let stage = shown old.engine in
    let f = fixed old.engine in
    let before = past old.engine in
    let m = (get_or old.jobs.items at no_task).number in
    let parts = refused_said stage m (job_of before m) m finishes.0.answered in
    refused_step database number stage (finish_said stage number (says f before (to_finish number))) a
    (subst (λ n. finish_said stage n (says f before (to_finish n)) ≡ refusing stage (line_of_not_running n)) is parts.0)
    (stage_with old.engine database.engine (says f before (to_finish m)).entry finishes.0.added ∙ ap (λ (p : List Entry). record stage { past = p }) parts.1)
    idle said

-- it was running, and is finished
pub finished_step : (old database : Database) (at number : ℕ) (a : Answer) → (get_or old.jobs.items at no_task).number ≡ number → FinishesJob old.engine old.jobs.items at database.engine database.jobs.items true → IsIdle database
    → a.text.items ≡ line_of_finished (get_or old.jobs.items at no_task).number → a.refused ≡ false → a.script ≡ Running database
    → IsStep (finish_said (shown old.engine) number (says (fixed old.engine) (past old.engine) (to_finish number))) a
finished_step old database at number a is finishes idle text refused standing =
    let stage = shown old.engine in
    let f = fixed old.engine in
    let before = past old.engine in
    let m = (get_or old.jobs.items at no_task).number in
    let said = done_said stage m (job_of before m) finishes.0.answered in
    let entry = (says f before (to_finish m)).entry in
    let here : finish_said stage number (says f before (to_finish number)) ≡ record { text = line_of_finished m; refused = false; stage = record stage { past = with_said before entry } } =
    sym (ap (λ n. finish_said stage n (says f before (to_finish n))) is) ∙ said in
    running_step database (finish_said stage number (says f before (to_finish number))) a (text ∙ sym (ap (λ (s : Step). s.text) here)) (refused ∙ sym (ap (λ (s : Step). s.refused) here))
    (stage_with old.engine database.engine entry finishes.0.added ∙ sym (ap (λ (s : Step). s.stage) here)) idle standing

-- an action was started, or wasn't
pub started_step : (old database : Database) (a : Answer) → StartsJob old.engine old.jobs.items database.engine database.jobs.items a.text → IsIdle database
    → a.refused ≡ false → a.script ≡ Running database → IsStep (start_step (shown old.engine) (says (fixed old.engine) (past old.engine) (to_start 0 0))) a
started_step old database a starts idle refused standing =
    let said = says (fixed old.engine) (past old.engine) (to_start 0 0) in
    running_step database (start_step (shown old.engine) said) a starts.told refused (stage_with old.engine database.engine said.entry starts.added) idle standing
