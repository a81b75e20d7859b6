-- After each call that a script makes its database is between transactions, and the jobs that it keeps are those that run.
use Rattle.std.specs.declared.alloc.Global.{Global}
use Rattle.std.specs.declared.vec.Vec.{Vec}
use Rattle.std.proofs.Common.{◌≡◌, ℕ, ◌+◌, Bool, true, false, get_or, List, [], ◌∷◌, ◌++◌, length, Option, Some, None, refl, sym, ap, ◌∙◌, subst}
use Rattle.std.specs.List.{AllByRecursion, remove}
use Rattle.strip_value.specs.declared.acts.Act.{Act}
use Rattle.strip_value.specs.declared.acts.Act.TheVariants as act
use Rattle.strip_meaning.specs.Course.{IsPlainRule}
use Rattle.strip_model.specs.declared.entries.Entry.{Entry}
use Rattle.strip_model.specs.declared.entries.Entry.TheVariants.{Begin, Did, Undo}
use Rattle.strip_model.specs.Derived.{Fixed, happened}
use Rattle.strip_model.specs.History.{Running, begins, job_count, live}
use Rattle.strip_model.specs.Legal.{Legal, Names, job_of, reply_of}
use Rattle.strip_model.specs.Says.{Said, Task, chosen, late, not_running, read_besides, said_finish, says, task_of, to_act, to_finish, to_start}
use Rattle.strip_model.specs.Says as said_of
use Rattle.strip_meaning.specs.Actions.{due_of, next, rows_of}
use Rattle.strip_meaning.specs.Effect.{has_id, tables_asked}
use Rattle.strip_engine.specs.State.{fixed, past}
use Rattle.strip_engine.proofs.KeeperRules.{rules_plain}
use Rattle.strip_script.specs.Keeping.{IsJob, Keeping, no_task}
use Rattle.strip_script.specs.declared.database.Database.{Database}
use Rattle.strip_script.specs.Script.{Stage, after_call, done_alone, ended_for, fixed_at, with_said}
use Rattle.strip_script.specs.Session.{FinishesJob, StartsJob, with_job}
use Rattle.strip_script.specs.Stages.{IsIdle, IsSound}
use Rattle.strip_script.proofs.AloneLaws.{alone_ends, alone_legal, begun, commit_entry, did, ends, legal_begun, legal_committed, legal_did, legal_undone, session}
use Rattle.strip_script.proofs.JobLaws.{finish_legal, finish_none, of_start, shown, stage_with, start_legal, start_none, started_legally}
use Rattle.strip_script.proofs.KeepingLaws.{keeping_finished, keeping_moved, keeping_same, keeping_started}
use Rattle.strip_script.proofs.MovedStages.{moved_sound}

-- ---- a history that goes on

-- no rule of a script is unique
plain_here : (database : Database) → IsIdle database → AllByRecursion IsPlainRule (fixed database.engine).rules
plain_here database idle = rules_plain (fixed database.engine) idle.sound.built

-- a database is still between transactions where its history went on legally to no live session, and the jobs that run are kept
moved : (old new : Database) (went : List Entry) → shown new.engine ≡ record (shown old.engine) { past = went } → IsIdle old
    → Legal (fixed old.engine) went → live went ≡ [] → Keeping (fixed old.engine) went new.jobs.items → IsIdle new
moved old new went is idle legal none keeping = record {
  sound = subst IsSound (sym is) (moved_sound (shown old.engine) went idle.closed legal none idle.sound);
  closed = ap (λ (s : Stage). s.catalog.closed) is ∙ idle.closed;
  keeping = subst (λ (s : Stage). Keeping (fixed_at s) s.past new.jobs.items) (sym is) keeping;
}

-- ---- an act

module _ (f : Fixed) (before : List Entry) (write read : List ℕ) (one : Act) (none : live before ≡ []) (kept : List Task) (plain : AllByRecursion IsPlainRule f.rules) (legal : Legal f before) (names : Names (length f.defs) one) (keeping : Keeping f before kept) where
  keeping_begun : Keeping f (begun f before write read one none) kept
  keeping_begun = keeping_same f plain (Begin 0 (begins before + 1) (chosen (has_id write) 0 (length f.defs)) (chosen (read_besides write read) 0 (length f.defs))) before kept refl refl (legal_begun f before write read one none legal) keeping

  keeping_did : Keeping f (did f before write read one none) kept
  keeping_did = keeping_same f plain (Did 0 (session f before write read one none) one (reply_of f (begun f before write read one none) (session f before write read one none) one)) (begun f before write read one none) kept refl refl (legal_did f before write read one none legal names) keeping_begun

  keeping_with : Keeping f (ended_for f (after_call f (begun f before write read one none) (to_act (session f before write read one none) one)) (session f before write read one none) (reply_of f (begun f before write read one none) (session f before write read one none) one)).past kept
  keeping_with =
      ends f before write read one none (λ p. Keeping f p kept)
      (keeping_same f plain (Undo 0 (session f before write read one none)) (did f before write read one none) kept refl refl (legal_undone f before write read one none legal names) keeping_did)
      (λ within. keeping_same f plain (commit_entry f before write read one none) (did f before write read one none) kept refl refl (legal_committed f before write read one none legal names within) keeping_did)

keeping_alone : (f : Fixed) (before : List Entry) (one : Act) (kept : List Task) → live before ≡ [] → AllByRecursion IsPlainRule f.rules → Legal f before → Names (length f.defs) one → Keeping f before kept → Keeping f (done_alone f before one).past kept
keeping_alone f before (act.Put table row) kept none plain legal names keeping = keeping_with f before (table ∷ []) [] (act.Put table row) none kept plain legal names keeping
keeping_alone f before (act.Show table) kept none plain legal names keeping = keeping_with f before [] (table ∷ []) (act.Show table) none kept plain legal names keeping
keeping_alone f before (act.Insert table rows) kept none plain legal names keeping = absurd names
keeping_alone f before (act.Update table sets filter) kept none plain legal names keeping = absurd names
keeping_alone f before (act.Delete table filter) kept none plain legal names keeping = absurd names
keeping_alone f before (act.Select query) kept none plain legal names keeping = keeping_with f before [] (tables_asked query.entries) (act.Select query) none kept plain legal names keeping

pub act_idle : (old new : Database) (one : Act) → Names (length old.engine.catalog.tables) one → IsIdle old → new.jobs.items ≡ old.jobs.items
    → shown new.engine ≡ record (shown old.engine) { past = (done_alone (fixed old.engine) (past old.engine) one).past } → IsIdle new
act_idle old new one names idle jobs is =
    let f = fixed old.engine in
    let before = past old.engine in
    moved old new (done_alone f before one).past is idle (alone_legal f before one idle.sound.none names idle.sound.legal) (alone_ends f before one idle.sound.none)
    (subst (Keeping f (done_alone f before one).past) (sym jobs) (keeping_alone f before one old.jobs.items idle.sound.none (plain_here old idle) idle.sound.legal names idle.keeping))

-- ---- a start

-- the jobs with what is said to a start
abbrev Kept : Fixed → List Entry → List Task → Said → Type 0
Kept f before kept said = Keeping f (with_said before said.entry) (with_job kept said.answer)

keeping_start : (f : Fixed) (before : List Entry) (kept : List Task) → AllByRecursion IsPlainRule f.rules → Legal f before → Keeping f before kept → Kept f before kept (says f before (to_start 0 0))
keeping_start f before kept plain legal keeping =
    of_start f before 0 (late before 0) (Kept f before kept) keeping (λ n. keeping) (λ n. keeping)
    (λ first e. keeping_started f plain 0 (job_count before + 1) (late before 0) first.action (due_of f.rules first) (length (rows_of f.rules (happened f before) first.action)) before kept (task_of f before 0 first)
    (started_legally f before 0 0 first e legal) refl refl keeping)
    (next f.rules (happened f before) (late before 0)) refl

pub start_idle : (old new : Database) (text : Vec ℕ Global) → IsIdle old → StartsJob old.engine old.jobs.items new.engine new.jobs.items text → IsIdle new
start_idle old new text idle starts =
    let f = fixed old.engine in
    let before = past old.engine in
    let said = says f before (to_start 0 0) in
    moved old new (with_said before said.entry) (stage_with old.engine new.engine said.entry starts.added) idle (start_legal f before 0 0 idle.sound.legal) (start_none f before 0 0 idle.sound.none)
    (subst (Keeping f (with_said before said.entry)) (sym starts.jobs) (keeping_start f before old.jobs.items (plain_here old idle) idle.sound.legal idle.keeping))

-- ---- a finish

module _ (f : Fixed) (before : List Entry) (kept : List Task) (at : ℕ) (plain : AllByRecursion IsPlainRule f.rules) (keeping : Keeping f before kept) where
  abbrev number : ℕ
  number = (get_or kept at no_task).number

  keeping_done : (o : Option Running) → (said_finish number o).answer ≡ said_of.done → Keeping f (with_said before (said_finish number o).entry) (remove kept at)
  keeping_done None e = absurd (cc)
  keeping_done (Some job) e = keeping_finished f plain job.caller number before kept at refl keeping

  keeping_refused : IsJob f before (get_or kept at no_task) → (o : Option Running) → (said_finish number o).answer ≡ not_running number → Keeping f (with_said before (said_finish number o).entry) (remove kept at ++ get_or kept at no_task ∷ [])
  keeping_refused is None e = keeping_moved f before kept at is keeping
  keeping_refused is (Some job) e = absurd (cc)

pub finish_idle : (old new : Database) (at : ℕ) (b : Bool) → IsJob (fixed old.engine) (past old.engine) (get_or old.jobs.items at no_task) → IsIdle old → FinishesJob old.engine old.jobs.items at new.engine new.jobs.items b → IsIdle new
finish_idle old new at true is idle finishes =
    let f = fixed old.engine in
    let before = past old.engine in
    let kept = old.jobs.items in
    let n = (get_or kept at no_task).number in
    let said = says f before (to_finish n) in
    moved old new (with_said before said.entry) (stage_with old.engine new.engine said.entry finishes.0.added) idle (finish_legal f before n idle.sound.none idle.sound.legal) (finish_none f before n idle.sound.none)
    (subst (Keeping f (with_said before said.entry)) (sym finishes.1) (keeping_done f before kept at (plain_here old idle) idle.keeping (job_of before n) finishes.0.answered))
finish_idle old new at false is idle finishes =
    let f = fixed old.engine in
    let before = past old.engine in
    let kept = old.jobs.items in
    let n = (get_or kept at no_task).number in
    let said = says f before (to_finish n) in
    moved old new (with_said before said.entry) (stage_with old.engine new.engine said.entry finishes.0.added) idle (finish_legal f before n idle.sound.none idle.sound.legal) (finish_none f before n idle.sound.none)
    (subst (Keeping f (with_said before said.entry)) (sym finishes.1) (keeping_refused f before kept at (plain_here old idle) idle.keeping is (job_of before n) finishes.0.answered))
