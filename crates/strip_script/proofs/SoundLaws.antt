-- At each stage of a script the engine serves what is declared, the history is legal, and no session is live.
use Rattle.std.proofs.Common.{◌≡◌, ℕ, Bool, true, false, not, ◌&&◌, cond, List, [], ◌∷◌, Option, Some, None, Result, Ok, Err, refl, sym, subst, arith}
use Rattle.std.specs.List.{list_all}
use Rattle.strip_value.specs.declared.pieces.Piece.{Piece}
use Rattle.strip_value.specs.declared.pieces.Piece.TheVariants as piece
use Rattle.strip_value.specs.Pieces.{is_blank}
use Rattle.strip_ast.specs.declared.deeds.Deed.{Deed}
use Rattle.strip_ast.specs.declared.deeds.Deed.TheVariants as deed
use Rattle.strip_ast.specs.declared.faults.ParseError.{ParseError}
use Rattle.strip_ast.specs.declared.statements.Statement.{Statement}
use Rattle.strip_ast.specs.declared.statements.Statement.TheVariants as st
use Rattle.strip_parse.specs.Parsed.{parsed}
use Rattle.strip_parse.proofs.InGrammar.{in_grammar}
use Rattle.strip_setup.specs.declared.errors.SetupError.{SetupError}
use Rattle.strip_setup.specs.declared.errors.SetupError.TheVariants.{Closed}
use Rattle.strip_setup.specs.Adds.{with_statement}
use Rattle.strip_setup.specs.Catalog.{Catalog, refused_if}
use Rattle.strip_setup.specs.Resolve.{act_of}
use Rattle.strip_catalog.specs.Accepted.{HasText}
use Rattle.strip_catalog.specs.Refusals.{refusal}
use Rattle.strip_catalog.proofs.Causes.{no_other_cause}
use Rattle.strip_model.specs.declared.entries.Entry.{Entry}
use Rattle.strip_model.specs.Legal.{Legal}
use Rattle.strip_model.specs.Says.{Answer, says, to_finish, to_start}
use Rattle.strip_model.specs.Says as said
use Rattle.strip_engine.specs.State.{fixed_of}
use Rattle.strip_engine.proofs.Asked.{asked_names}
use Rattle.strip_script.specs.Built.{is_built, is_built_deed, is_late}
use Rattle.strip_script.specs.Refusals.{line_of_not_built, line_of_not_ready}
use Rattle.strip_script.specs.Script.{Stage, act_step, built_step, declare_step, deed_step, done_alone, finish_step, fixed_at, opening, parsed_step, refusing, silent, stage_after, start_step, statement_step, step, timely_step, with_said}
use Rattle.strip_script.specs.Stages.{IsActing, IsSound}
use Rattle.strip_script.proofs.ActAsked.{act_asked}
use Rattle.strip_script.proofs.AloneLaws.{alone_ends, alone_legal}
use Rattle.strip_script.proofs.BuiltStays.{built_stays, declared_stays}
use Rattle.strip_script.proofs.JobLaws.{finish_legal, finish_none, start_legal, start_none}
use Rattle.strip_script.proofs.MovedStages.{moved_sound}

-- nothing is declared, and nothing has happened
pub opening_sound : (most : ℕ) → IsSound (opening most)
opening_sound most = record {
  declared = record { statements = []; accepted = tt; is = refl };
  built = record {
    few = omega arith;
    each = tt;
    kept = tt;
    once = refl;
    all = λ id e. absurd (cc);
    functions = refl;
    rules = refl;
  };
  legal = tt;
  none = refl;
  clean = λ unclosed. refl;
}

-- ---- the setup

not_closed : (b : Bool) → refused_if b Closed ≡ None → b ≡ false
not_closed true none = cc
not_closed false none = refl

-- a statement of the setup is accepted only where the setup isn't closed
pub still_open : (catalog : Catalog) (statement : Statement) → is_late statement ≡ false → refusal catalog statement ≡ None → catalog.closed ≡ false
still_open catalog (st.Table name columns key rows) early none = not_closed catalog.closed (no_other_cause catalog (st.Table name columns key rows) none).0
still_open catalog (st.Stream name table marked) early none = not_closed catalog.closed (no_other_cause catalog (st.Stream name table marked) none).0
still_open catalog (st.Derive name query) early none = not_closed catalog.closed (no_other_cause catalog (st.Derive name query) none).0
still_open catalog (st.Function name steps) early none = not_closed catalog.closed (no_other_cause catalog (st.Function name steps) none).0
still_open catalog (st.Rule name table events conditions evaluate function manner) early none =
    not_closed catalog.closed (no_other_cause catalog (st.Rule name table events conditions evaluate function manner) none).0
still_open catalog (st.Maintain name how manner) early none = not_closed catalog.closed (no_other_cause catalog (st.Maintain name how manner) none).0
still_open catalog st.Ready early none = not_closed catalog.closed (no_other_cause catalog st.Ready none).0
still_open catalog (st.At moment) early none = cc
still_open catalog (st.Deed caller d) early none = cc

declare_sound : (stage : Stage) (statement : Statement) → is_late statement ≡ false → is_built stage.catalog statement ≡ true → HasText statement → IsSound stage
    → IsSound (declare_step stage statement (refusal stage.catalog statement)).stage
declare_sound stage statement early built text sound = by_refusal (refusal stage.catalog statement) refl
  where
    by_refusal : (o : Option SetupError) → refusal stage.catalog statement ≡ o → IsSound (declare_step stage statement o).stage
    by_refusal None e =
        let empty : stage.past ≡ [] = sound.clean (still_open stage.catalog statement early e) in
        record {
          declared = declared_stays stage.catalog statement sound.declared early text e;
          built = built_stays stage.catalog stage.most statement sound.declared sound.built early built text e;
          legal = subst (Legal (fixed_of (with_statement stage.catalog statement) stage.most)) (sym empty) tt;
          none = sound.none;
          clean = λ unclosed. empty;
        }
    by_refusal (Some error) e = sound

-- ---- acts

act_sound : (stage : Stage) (d : Deed) → IsActing d → stage.catalog.closed ≡ true → IsSound stage → IsSound (act_step stage d (refusal stage.catalog (st.Deed None d))).stage
act_sound stage d acts closed sound = by_refusal (refusal stage.catalog (st.Deed None d)) refl
  where
    by_refusal : (o : Option SetupError) → refusal stage.catalog (st.Deed None d) ≡ o → IsSound (act_step stage d o).stage
    by_refusal None e =
        let one = act_of stage.catalog.tables d in
        moved_sound stage (done_alone (fixed_at stage) stage.past one).past closed
        (alone_legal (fixed_at stage) stage.past one sound.none (asked_names stage.catalog.tables one (act_asked stage.catalog d acts e)) sound.legal)
        (alone_ends (fixed_at stage) stage.past one sound.none)
        sound
    by_refusal (Some error) e = sound

-- ---- actions

start_sound : (stage : Stage) → stage.catalog.closed ≡ true → IsSound stage → IsSound (start_step stage (says (fixed_at stage) stage.past (to_start 0 0))).stage
start_sound stage closed sound =
    moved_sound stage (with_said stage.past (says (fixed_at stage) stage.past (to_start 0 0)).entry) closed
    (start_legal (fixed_at stage) stage.past 0 0 sound.legal)
    (start_none (fixed_at stage) stage.past 0 0 sound.none)
    sound

finish_by : (stage : Stage) (number : ℕ) (entry : Option Entry) (answer : Answer) → IsSound stage → IsSound (record stage { past = with_said stage.past entry }) → IsSound (finish_step stage number entry answer).stage
finish_by stage number entry said.done sound ended = ended
finish_by stage number entry _ sound ended = sound

finish_sound : (stage : Stage) (number : ℕ) → stage.catalog.closed ≡ true → IsSound stage
    → IsSound (finish_step stage number (says (fixed_at stage) stage.past (to_finish number)).entry (says (fixed_at stage) stage.past (to_finish number)).answer).stage
finish_sound stage number closed sound =
    let answer = says (fixed_at stage) stage.past (to_finish number) in
    finish_by stage number answer.entry answer.answer sound
    (moved_sound stage (with_said stage.past answer.entry) closed
    (finish_legal (fixed_at stage) stage.past number sound.none sound.legal)
    (finish_none (fixed_at stage) stage.past number sound.none)
    sound)

-- ---- all statements

deed_sound : (stage : Stage) (d : Deed) → is_built_deed stage.catalog d ≡ true → stage.catalog.closed ≡ true → IsSound stage → IsSound (deed_step stage d).stage
deed_sound stage deed.Start built closed sound = start_sound stage closed sound
deed_sound stage (deed.Finish number) built closed sound = finish_sound stage number closed sound
deed_sound stage (deed.Put table row) built closed sound = act_sound stage (deed.Put table row) tt closed sound
deed_sound stage (deed.Select query) built closed sound = act_sound stage (deed.Select query) tt closed sound
deed_sound stage (deed.Show table) built closed sound = act_sound stage (deed.Show table) tt closed sound
deed_sound stage _ built closed sound = absurd (cc)

-- a statement that isn't too early
built_sound : (stage : Stage) (statement : Statement) → HasText statement → is_built stage.catalog statement ≡ true → (is_late statement && not stage.catalog.closed) ≡ false
    → IsSound stage → IsSound (built_step stage statement).stage
built_sound stage (st.Deed None d) text built time sound = deed_sound stage d built (closed stage.catalog.closed time) sound
  where
    closed : (b : Bool) → not b ≡ false → b ≡ true
    closed true e = refl
    closed false e = cc
built_sound stage (st.Deed (Some caller) d) text built time sound = absurd (cc)
built_sound stage (st.Table name columns key rows) text built time sound = declare_sound stage (st.Table name columns key rows) refl built text sound
built_sound stage (st.Stream name table marked) text built time sound = declare_sound stage (st.Stream name table marked) refl built text sound
built_sound stage (st.Derive name query) text built time sound = declare_sound stage (st.Derive name query) refl built text sound
built_sound stage (st.Function name steps) text built time sound = declare_sound stage (st.Function name steps) refl built text sound
built_sound stage (st.Rule name table events conditions evaluate function manner) text built time sound =
    declare_sound stage (st.Rule name table events conditions evaluate function manner) refl built text sound
built_sound stage (st.Maintain name how manner) text built time sound = declare_sound stage (st.Maintain name how manner) refl built text sound
built_sound stage st.Ready text built time sound = declare_sound stage st.Ready refl built text sound
built_sound stage (st.At moment) text built time sound = absurd (cc)

timely_sound : (stage : Stage) (statement : Statement) → HasText statement → IsSound stage → IsSound (timely_step stage statement).stage
timely_sound stage statement text sound = by_time (is_late statement && not stage.catalog.closed) refl
  where
    by_form : (is_late statement && not stage.catalog.closed) ≡ false → (b : Bool) → is_built stage.catalog statement ≡ b → IsSound (cond b (built_step stage statement) (refusing stage line_of_not_built)).stage
    by_form time true built = built_sound stage statement text built time sound
    by_form time false built = sound

    by_time : (b : Bool) → (is_late statement && not stage.catalog.closed) ≡ b
        → IsSound (cond b (refusing stage line_of_not_ready) (cond (is_built stage.catalog statement) (built_step stage statement) (refusing stage line_of_not_built))).stage
    by_time true time = sound
    by_time false time = by_form time (is_built stage.catalog statement) refl

parsed_sound : (stage : Stage) (r : Result Statement ParseError) → ((statement : Statement) → r ≡ Ok statement → HasText statement) → IsSound stage → IsSound (parsed_step stage r).stage
parsed_sound stage (Err fault) text sound = sound
parsed_sound stage (Ok statement) text sound = timely_sound stage statement (text statement refl) sound

-- what is parsed has a text
pub parsed_text : (bytes : List ℕ) (statement : Statement) → parsed bytes ≡ Ok statement → HasText statement
parsed_text bytes statement is =
    let (tokens, cut, tree) = in_grammar bytes statement is in
    (bytes, tokens, cut, tree)

statement_sound : (stage : Stage) (bytes : List ℕ) → IsSound stage → IsSound (statement_step stage bytes).stage
statement_sound stage bytes sound = by_test (list_all is_blank bytes)
  where
    by_test : (b : Bool) → IsSound (cond b (silent stage) (parsed_step stage (parsed bytes))).stage
    by_test true = sound
    by_test false = parsed_sound stage (parsed bytes) (parsed_text bytes) sound

pub step_sound : (stage : Stage) (p : Piece) → IsSound stage → IsSound (step stage p).stage
unfolding step
step_sound stage (piece.Statement bytes) sound = statement_sound stage bytes sound
step_sound stage (piece.TooLong from len) sound = sound
step_sound stage (piece.Rest bytes) sound = sound
step_sound stage piece.End sound = sound

pub stages_sound : (stage : Stage) (ps : List Piece) → IsSound stage → IsSound (stage_after stage ps)
stages_sound stage [] sound = sound
stages_sound stage (p ∷ ps) sound = stages_sound (step stage p).stage ps (step_sound stage p sound)
