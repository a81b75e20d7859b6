-- What the engine answers to a call after a history, and the entry that it adds, if any.
use Rattle.std.specs.Prelude.{ℕ, zero, suc, ◌+◌, ◌^◌, min, max, Bool, not, ◌&&◌, ◌==◌, if◌then◌else◌, nat_lt, List, [], ◌∷◌, ◌++◌, length, find, get_or, Option, Some, None}
use Rattle.strip_value.specs.declared.actions.ActionId.{ActionId}
use Rattle.strip_value.specs.declared.actions.Content.{Content}
use Rattle.strip_value.specs.declared.actions.FiredRule.{FiredRule}
use Rattle.strip_value.specs.declared.acts.Act.{Act}
use Rattle.strip_value.specs.declared.acts.Reply.{Reply}
use Rattle.strip_meaning.specs.Effect.{has_id}
use Rattle.strip_meaning.specs.Actions.{BoundRow, due_at, due_of, first_due, in_state, is_pending, next, rows_of, twins}
use Rattle.strip_meaning.specs.Contents.{contents, no_function}
use Rattle.strip_model.specs.declared.entries.Entry.{Entry}
use Rattle.strip_model.specs.declared.entries.Entry.TheVariants.{Begin, Did, Commit, Undo, Start, Finish}
use Rattle.strip_model.specs.History.{Live, Running, begins, live, latest, job_count, jobs}
use Rattle.strip_model.specs.Derived.{Fixed, bound_count, fired_at, happened}
use Rattle.strip_model.specs.Legal.{reply_of, job_of}

-- the calls: a begin by a caller with the tables to write and to read, an act, a commit at a moment, an undo, a start by a
-- caller at a moment, a finish of a number
pub data Call : Type 0 where
  to_begin : ℕ → List ℕ → List ℕ → Call
  to_act : ℕ → Act → Call
  to_commit : ℕ → ℕ → Call
  to_undo : ℕ → Call
  to_start : ℕ → ℕ → Call
  to_finish : ℕ → Call

-- an action that was started: its number, who started it, when it was due, how many bound rows it has, and what it is to do
pub record Task : Type 0 where
  pub number : ℕ
  pub caller : ℕ
  pub action : ActionId
  pub due : ℕ
  pub rows : ℕ
  pub content : List Content

-- the answers
pub data Answer : Type 0 where
  -- the session
  opened : ℕ → Answer
  replied : Reply → Answer
  -- how many rules bound rows, and how many rows
  fired : ℕ → ℕ → Answer
  -- the rows bound would be this many, more than the limit
  spent : ℕ → Answer
  undone : Answer
  -- the session isn't live
  no_session : ℕ → Answer
  taken : Task → Answer
  -- all pending actions are due later, the first at this moment
  not_due : ℕ → Answer
  -- each action that is due has a running twin, that of the first being this number
  in_hand : ℕ → Answer
  -- no action is pending
  none_pending : Answer
  done : Answer
  -- the number isn't running
  not_running : ℕ → Answer

pub record Said : Type 0 where
  pub answer : Answer
  pub entry : Option Entry

abbrev pub refused : Answer → Said
refused answer = record { answer = answer; entry = None }

-- the numbers that pass, of `count` from `from` on
abbrev pub chosen : (ℕ → Bool) → ℕ → ℕ → List ℕ
chosen passes from zero = []
chosen passes from (suc count) = (if passes from then from ∷ [] else []) ++ chosen passes (from + 1) count

-- the tables to read are those asked for that aren't to be written
abbrev pub read_besides : List ℕ → List ℕ → ℕ → Bool
read_besides write read id = has_id read id && not (has_id write id)

-- a moment counts as at most 2 ^ 63, and as no less than those before
abbrev pub late : List Entry → ℕ → ℕ
late past moment = max (min moment (2 ^ 63)) (latest past)

-- the live session of a number
abbrev pub live_session : List Entry → ℕ → Option Live
live_session past session = find (λ l. l.session == session) (live past)

abbrev pub said_act : Fixed → List Entry → ℕ → Act → Option Live → Said
said_act f past session act None = refused (no_session session)
said_act f past session act (Some l) = record {
  answer = replied (reply_of f past session act);
  entry = Some (Did l.caller session act (reply_of f past session act));
}

-- ---- a commit

-- all rows that rules bind
abbrev pub row_count : List FiredRule → ℕ
row_count [] = 0
row_count (f ∷ fs) = length f.rows + row_count fs

-- the commit stands where the rows bound so far and those that it binds pass no limit
abbrev pub said_within : Fixed → List FiredRule → Entry → ℕ → Said
said_within f fires entry total =
    if nat_lt f.most total then refused (spent total) else record { answer = fired (length fires) (row_count fires); entry = Some entry }

abbrev pub said_commit : Fixed → List Entry → ℕ → ℕ → Option Live → Said
said_commit f past session moment None = refused (no_session session)
said_commit f past session moment (Some l) =
    let entry = Commit l.caller session (late past moment) in
    said_within f (fired_at f past session) entry (bound_count f (entry ∷ past))

abbrev pub said_undo : ℕ → Option Live → Said
said_undo session None = refused (no_session session)
said_undo session (Some l) = record { answer = undone; entry = Some (Undo l.caller session) }

-- ---- a start

-- the action as it is handed out
abbrev pub task_of : Fixed → List Entry → ℕ → BoundRow → Task
task_of f past caller first =
    let rows = rows_of f.rules (happened f past) first.action in
    record {
      number = job_count past + 1;
      caller = caller;
      action = first.action;
      due = due_of f.rules first;
      rows = length rows;
      content = contents f.defs (get_or f.functions first.action.function no_function) rows;
    }

abbrev pub start_entry : ℕ → Task → Entry
start_entry moment task = Start task.caller task.number moment task.action task.due task.rows

-- the number of the running twin of an action
abbrev pub twin_number : List Running → ActionId → ℕ
twin_number [] action = 0
twin_number (j ∷ js) action = if twins j.action action then j.number else twin_number js action

-- no action can be taken: some are due and have a running twin, or all are due later, or none is pending
abbrev pub said_later : Fixed → Option BoundRow → Said
said_later f None = refused none_pending
said_later f (Some first) = refused (not_due (due_of f.rules first))

abbrev pub said_in_hand : Fixed → List Entry → Option BoundRow → Said
said_in_hand f past None = said_later f (first_due f.rules (in_state is_pending f.rules (happened f past)))
said_in_hand f past (Some first) = refused (in_hand (twin_number (jobs past) first.action))

abbrev pub said_start : Fixed → List Entry → ℕ → ℕ → Option BoundRow → Said
said_start f past caller moment None = said_in_hand f past (first_due f.rules (due_at f.rules (happened f past) moment))
said_start f past caller moment (Some first) =
    let task = task_of f past caller first in
    record { answer = taken task; entry = Some (start_entry moment task) }

-- ---- a finish

abbrev pub said_finish : ℕ → Option Running → Said
said_finish number None = refused (not_running number)
said_finish number (Some job) = record { answer = done; entry = Some (Finish job.caller number) }

-- ---- all calls

abbrev pub says : Fixed → List Entry → Call → Said
says f past (to_begin caller write read) = record {
  answer = opened (begins past + 1);
  entry = Some (Begin caller (begins past + 1) (chosen (has_id write) 0 (length f.defs)) (chosen (read_besides write read) 0 (length f.defs)));
}
says f past (to_act session act) = said_act f past session act (live_session past session)
says f past (to_commit session moment) = said_commit f past session moment (live_session past session)
says f past (to_undo session) = said_undo session (live_session past session)
says f past (to_start caller moment) =
    said_start f past caller (late past moment) (next f.rules (happened f past) (late past moment))
says f past (to_finish number) = said_finish number (job_of past number)
