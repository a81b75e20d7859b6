-- The answer to a script: what each of its pieces is answered, one after another.
use Rattle.std.specs.Prelude.{ℕ, ◌+◌, Bool, true, false, not, ◌||◌, ◌&&◌, if◌then◌else◌, List, [], ◌∷◌, ◌++◌, codes, get_or, Option, Some, None, Result, Ok, Err}
use Rattle.std.specs.List.{list_all}
use Rattle.strip_value.specs.declared.acts.Act.{Act}
use Rattle.strip_value.specs.declared.acts.Act.TheVariants as act
use Rattle.strip_value.specs.declared.acts.Reply.{Reply}
use Rattle.strip_value.specs.declared.acts.Reply.TheVariants.{Rows, Count, Refused}
use Rattle.strip_value.specs.declared.pieces.Piece.{Piece}
use Rattle.strip_value.specs.declared.pieces.Piece.TheVariants as piece
use Rattle.strip_value.specs.declared.rules.Function.{Function}
use Rattle.strip_value.specs.declared.tables.TableDef.{TableDef}
use Rattle.strip_value.specs.Pieces.{is_blank, pieces}
use Rattle.strip_ast.specs.declared.deeds.Deed.{Deed}
use Rattle.strip_ast.specs.declared.deeds.Deed.TheVariants as deed
use Rattle.strip_ast.specs.declared.faults.ParseError.{ParseError}
use Rattle.strip_ast.specs.declared.statements.Statement.{Statement}
use Rattle.strip_ast.specs.declared.statements.Statement.TheVariants as st
use Rattle.strip_parse.specs.Parsed.{parsed}
use Rattle.strip_setup.specs.declared.errors.SetupError.{SetupError}
use Rattle.strip_setup.specs.Adds.{with_statement}
use Rattle.strip_setup.specs.Catalog.{Catalog, nothing}
use Rattle.strip_setup.specs.Resolve.{act_of}
use Rattle.strip_catalog.specs.Refusals.{refusal}
use Rattle.strip_meaning.specs.Contents.{no_function}
use Rattle.strip_meaning.specs.Effect.{tables_asked}
use Rattle.strip_model.specs.declared.entries.Entry.{Entry}
use Rattle.strip_model.specs.History.{begins}
use Rattle.strip_model.specs.Derived.{Fixed}
use Rattle.strip_model.specs.Legal.{reply_of}
use Rattle.strip_model.specs.Says.{Call, to_begin, to_act, to_commit, to_undo, to_start, to_finish, spent, taken, not_due, in_hand, done, Said, Task, says}
use Rattle.strip_model.specs.Says.{Answer as SaysAnswer}
use Rattle.strip_model.specs.Texts.{line_of_reply, line_of_spent, line_of_job, line_of_not_due, line_of_in_hand, line_of_empty, line_of_finished, line_of_not_running}
use Rattle.strip_engine.specs.State.{fixed_of}
use Rattle.strip_script.specs.declared.alone.Outcome.{Outcome}
use Rattle.strip_script.specs.declared.alone.Outcome.TheVariants.{Replied, Overspent}
use Rattle.strip_script.specs.Built.{is_built, is_late}
use Rattle.strip_script.specs.Refusals.{line_of_error, line_of_fault, line_of_not_built, line_of_not_ready, line_of_oversize, line_of_unended}

-- ---- an act in a transaction of its own

-- the history, newest entry first, with what the engine says to a call
abbrev pub with_said : List Entry → Option Entry → List Entry
with_said past None = past
with_said past (Some entry) = entry ∷ past

abbrev pub after_call : Fixed → List Entry → Call → List Entry
after_call f past call = with_said past (says f past call).entry

abbrev pub is_refusal : Reply → Bool
is_refusal (Rows rows) = false
is_refusal (Count n) = false
is_refusal (Refused cause) = true

-- the begin of a transaction that does the act; one that is not built names no table
abbrev pub begin_for : Act → Call
begin_for (act.Put table row) = to_begin 0 (table ∷ []) []
begin_for (act.Select query) = to_begin 0 [] (tables_asked query.entries)
begin_for (act.Show table) = to_begin 0 [] (table ∷ [])
begin_for _ = to_begin 0 [] []

-- how a transaction of one act ended, and the history after it, newest entry first
pub record Done : Type 0 where
  pub outcome : Outcome
  pub past : List Entry

abbrev pub undone : Fixed → List Entry → ℕ → Outcome → Done
undone f did session outcome = record { outcome = outcome; past = after_call f did (to_undo session) }

-- a commit that is refused is followed by an undo
abbrev pub committed : Fixed → List Entry → ℕ → Reply → Option Entry → SaysAnswer → Done
committed f did session reply entry (spent total) = undone f did session (Overspent total)
committed f did session reply entry _ = record { outcome = Replied reply; past = with_said did entry }

-- a refused act is undone, any other committed at moment 0
abbrev pub ended_for : Fixed → List Entry → ℕ → Reply → Done
ended_for f did session reply =
    let said = says f did (to_commit session 0) in
    if is_refusal reply then undone f did session (Replied reply) else committed f did session reply said.entry said.answer

-- begin, act, and the end that the reply asks for
abbrev pub done_alone : Fixed → List Entry → Act → Done
done_alone f past one =
    let session = begins past + 1 in
    let begun = after_call f past (begin_for one) in
    let reply = reply_of f begun session one in
    ended_for f (after_call f begun (to_act session one)) session reply

-- ---- the stages

-- how far the script has come: the most rows that rules may bind, what is declared, and the history, newest entry first, in which
-- nothing stands before `ready`
pub record Stage : Type 0 where
  pub most : ℕ
  pub catalog : Catalog
  pub past : List Entry

-- a script of which nothing was read
abbrev pub opening : ℕ → Stage
opening most = record { most = most; catalog = nothing; past = [] }

-- what doesn't change behind `ready`
abbrev pub fixed_at : Stage → Fixed
fixed_at stage = fixed_of stage.catalog stage.most

-- the text of a reply, whether it refuses, and the stage after it
pub record Step : Type 0 where
  pub text : List ℕ
  pub refused : Bool
  pub stage : Stage

-- a refusal changes nothing
abbrev pub refusing : Stage → List ℕ → Step
refusing stage text = record { text = text; refused = true; stage = stage }

-- ---- the setup

-- a statement of the setup changes what is declared, or is refused
abbrev pub declare_step : Stage → Statement → Option SetupError → Step
declare_step stage statement None =
    record { text = codes "ok\n"; refused = false; stage = record stage { catalog = with_statement stage.catalog statement } }
declare_step stage statement (Some error) = refusing stage (line_of_error error)

-- ---- an act

abbrev pub outcome_text : List TableDef → Outcome → List ℕ
outcome_text defs (Replied reply) = line_of_reply defs reply
outcome_text defs (Overspent total) = line_of_spent total

abbrev pub is_refused_outcome : Outcome → Bool
is_refused_outcome (Replied reply) = is_refusal reply
is_refused_outcome (Overspent total) = true

abbrev pub acted : Stage → Done → Step
acted stage ended = record {
  text = outcome_text stage.catalog.tables ended.outcome;
  refused = is_refused_outcome ended.outcome;
  stage = record stage { past = ended.past };
}

-- what the act stands for, in a transaction of its own, unless it is refused
abbrev pub act_step : Stage → Deed → Option SetupError → Step
act_step stage d None = acted stage (done_alone (fixed_at stage) stage.past (act_of stage.catalog.tables d))
act_step stage d (Some error) = refusing stage (line_of_error error)

-- ---- an action

-- a job by its function's name
abbrev pub job_line : List Function → Task → List ℕ
job_line functions task = line_of_job (get_or functions task.action.function no_function).name task.number task.action.key task.due task.rows

abbrev pub start_text : Fixed → SaysAnswer → List ℕ
start_text f (taken task) = job_line f.functions task
start_text f (not_due next) = line_of_not_due next
start_text f (in_hand number) = line_of_in_hand number
start_text f _ = line_of_empty

-- what is said to a start
abbrev pub start_step : Stage → Said → Step
start_step stage said = record {
  text = start_text (fixed_at stage) said.answer;
  refused = false;
  stage = record stage { past = with_said stage.past said.entry };
}

-- what is said to the finish of a number
abbrev pub finish_step : Stage → ℕ → Option Entry → SaysAnswer → Step
finish_step stage number entry done =
    record { text = line_of_finished number; refused = false; stage = record stage { past = with_said stage.past entry } }
finish_step stage number entry _ = refusing stage (line_of_not_running number)

abbrev pub finish_said : Stage → ℕ → Said → Step
finish_said stage number said = finish_step stage number said.entry said.answer

-- ---- a statement

-- what a deed that is built is answered
abbrev pub deed_step : Stage → Deed → Step
deed_step stage deed.Start = start_step stage (says (fixed_at stage) stage.past (to_start 0 0))
deed_step stage (deed.Finish number) = finish_said stage number (says (fixed_at stage) stage.past (to_finish number))
deed_step stage d = act_step stage d (refusal stage.catalog (st.Deed None d))

-- what a statement that is built is answered
abbrev pub built_step : Stage → Statement → Step
built_step stage (st.Deed caller d) = deed_step stage d
built_step stage statement = declare_step stage statement (refusal stage.catalog statement)

-- one that comes too early is refused, whether it is built or not, and then one that isn't built
abbrev pub timely_step : Stage → Statement → Step
timely_step stage statement =
    if is_late statement && not stage.catalog.closed then refusing stage line_of_not_ready
    else if is_built stage.catalog statement then built_step stage statement
    else refusing stage line_of_not_built

-- bytes that are no statement are refused at any time
abbrev pub parsed_step : Stage → Result Statement ParseError → Step
parsed_step stage (Err fault) = refusing stage (line_of_fault fault)
parsed_step stage (Ok statement) = timely_step stage statement

-- no reply
abbrev pub silent : Stage → Step
silent stage = record { text = []; refused = false; stage = stage }

-- blanks have no reply
abbrev pub statement_step : Stage → List ℕ → Step
statement_step stage bytes = if list_all is_blank bytes then silent stage else parsed_step stage (parsed bytes)

-- what a piece is answered; one that is too long is refused unread, and so is the rest behind the last `;`
unfoldable pub step : Stage → Piece → Step
step stage (piece.Statement bytes) = statement_step stage bytes
step stage (piece.TooLong from len) = refusing stage (line_of_oversize len)
step stage (piece.Rest bytes) = refusing stage line_of_unended
step stage piece.End = silent stage

-- ---- the script

-- the stage after pieces were answered
abbrev pub stage_after : Stage → List Piece → Stage
stage_after stage [] = stage
stage_after stage (p ∷ ps) = stage_after (step stage p).stage ps

-- the text of the replies to these pieces
abbrev pub replies : Stage → List Piece → List ℕ
replies stage [] = []
replies stage (p ∷ ps) = (step stage p).text ++ replies (step stage p).stage ps

-- some reply refuses
abbrev pub refuses : Stage → List Piece → Bool
refuses stage [] = false
refuses stage (p ∷ ps) = (step stage p).refused || refuses (step stage p).stage ps

-- the answer to the bytes of a script where rules may bind so many rows, and whether some reply refuses
unfoldable pub answer : ℕ → List ℕ → List ℕ
answer most bytes = replies (opening most) (pieces bytes)

unfoldable pub is_refused : ℕ → List ℕ → Bool
is_refused most bytes = refuses (opening most) (pieces bytes)
