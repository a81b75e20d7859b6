-- The state of a run: the pieces answered so far, and what was written.
use Rattle.std.proofs.Common.{◌≡◌, ℕ, ◌≤◌, Bool, true, false, ◌||◌, List, [], ◌∷◌, ◌++◌, length, Option, Ok, Err, refl, sym, ap, ◌∙◌, subst, append_assoc, append-nil, arith, ◌⊎◌, inl, inr}
use Rattle.std.specs.Io.KnownBytes.{Appends, IsAtEnd}
use Rattle.std.proofs.KnownBytes.{Appends-trans, Appends-nil}
use Rattle.strip_value.specs.declared.pieces.Piece.{Piece}
use Rattle.strip_value.specs.declared.pieces.Piece.TheVariants.{End}
use Rattle.strip_value.specs.Pieces.{pieces}
use Rattle.strip_outside.specs.Faults.{Rose}
use Rattle.strip_outside.specs.Bytes.{WritesAll}
use Rattle.strip_lines.specs.declared.errors.ReadError.{ReadError}
use Rattle.strip_lines.specs.declared.errors.ReadError.TheVariants as read
use Rattle.strip_lines.specs.Answers.{Outcome}
use Rattle.strip_lines.specs.Reading.{Reading, fresh, ended, whole_statements}
use Rattle.strip_lines.proofs.ReadingLaws.{coming-fresh, ended-fresh}
use Rattle.strip_lines.proofs.TextLaws.{IsPiece-from_not_end}
use Rattle.strip_lines.proofs.RunLaws.{Run, Run-none, Run-piece, Run-kept, Run-end, Run-fault, Run-too_much}
use Rattle.strip_script.specs.declared.run.RunError.TheVariants.{Write, Memory}
use Rattle.strip_script.specs.Runs.{AreFirst, Runs, Counts, run_error}
use Rattle.strip_script.specs.declared.script.Answer.{Answer}
use Rattle.strip_script.specs.declared.script.Stage.{Stage as CodeStage}
use Rattle.strip_script.specs.Script.{Stage, opening, step, stage_after, replies, refuses, answer, is_refused}
use Rattle.strip_script.specs.Stages.{stage_of, IsSteady, IsStep}

pub record InRun (most limit : ℕ) (reader : Reading) (left_before left_now : Option (List ℕ)) (in_before in_now : ℕ) (written_before written_now : Option (List ℕ)) (out_before out_now : ℕ) (script : CodeStage) (refused : Bool) : Type 0 where
  pub answered : List Piece
  pub run : Run (fresh limit) reader left_before left_now answered
  pub appended : Appends written_before written_now (replies (opening most) answered)
  pub standing : stage_of script ≡ stage_after (opening most) answered
  pub steady : IsSteady script
  pub refusing : refused ≡ refuses (opening most) answered
  pub in_same : in_now ≡ in_before
  pub out_kept : out_before ≤ out_now

-- what pieces are answered, and then others
pub replies_split : (stage : Stage) (ps qs : List Piece) → replies stage (ps ++ qs) ≡ replies stage ps ++ replies (stage_after stage ps) qs
replies_split stage [] qs = refl
replies_split stage (p ∷ ps) qs =
    ap (λ text. (step stage p).text ++ text) (replies_split (step stage p).stage ps qs)
    ∙ sym (append_assoc (step stage p).text (replies (step stage p).stage ps) (replies (stage_after (step stage p).stage ps) qs))

-- one piece more
pub replies-append : (stage : Stage) (ps : List Piece) (p : Piece) → replies stage (ps ++ p ∷ []) ≡ replies stage ps ++ (step (stage_after stage ps) p).text
replies-append stage ps p = replies_split stage ps (p ∷ []) ∙ ap (λ text. replies stage ps ++ text) (append-nil (step (stage_after stage ps) p).text)

or_assoc : (a b c : Bool) → (a || (b || c)) ≡ ((a || b) || c)
or_assoc true b c = refl
or_assoc false b c = refl

or_false : (a : Bool) → (a || false) ≡ a
or_false true = refl
or_false false = refl

pub refuses-append : (stage : Stage) (ps : List Piece) (p : Piece) → refuses stage (ps ++ p ∷ []) ≡ (refuses stage ps || (step (stage_after stage ps) p).refused)
refuses-append stage [] p = or_false (step stage p).refused
refuses-append stage (q ∷ qs) p =
    ap (λ b. (step stage q).refused || b) (refuses-append (step stage q).stage qs p)
    ∙ or_assoc (step stage q).refused (refuses (step stage q).stage qs) (step (stage_after (step stage q).stage qs) p).refused

pub stage_after-append : (stage : Stage) (ps : List Piece) (p : Piece) → stage_after stage (ps ++ p ∷ []) ≡ (step (stage_after stage ps) p).stage
stage_after-append stage [] p = refl
stage_after-append stage (q ∷ qs) p = stage_after-append (step stage q).stage qs p

-- no piece yet
pub InRun-none : (most : ℕ) (stage script : CodeStage) (limit : ℕ) (reader : Reading) (left : Option (List ℕ)) (ins : ℕ) (written : Option (List ℕ)) (outs : ℕ)
    → script ≡ stage → stage_of stage ≡ opening most → IsSteady stage → reader ≡ fresh limit → InRun most limit reader left left ins ins written written outs outs script false
InRun-none most stage script limit reader left ins written outs is opens steady begun =
    subst (λ r. InRun most limit r left left ins ins written written outs outs script false) (sym begun) (record {
      answered = [];
      run = Run-none (fresh limit) left refl (omega arith);
      appended = Appends-nil written;
      standing = ap stage_of is ∙ opens;
      steady = subst IsSteady (sym is) steady;
      refusing = refl;
      in_same = refl;
      out_kept = omega arith;
    })

-- the text that a piece adds to the replies
one_more : (most : ℕ) (script : CodeStage) (answered : List Piece) (piece : Piece) (a : Answer) → stage_of script ≡ stage_after (opening most) answered → IsStep (step (stage_of script) piece) a
    → replies (opening most) answered ++ a.text.items ≡ replies (opening most) (answered ++ piece ∷ [])
one_more most script answered piece a standing is_step =
    ap (λ text. replies (opening most) answered ++ text) (is_step.text ∙ ap (λ s. (step s piece).text) standing) ∙ sym (replies-append (opening most) answered piece)

-- a piece was read, answered, and the answer written whole
pub InRun-piece : (most limit : ℕ) (old new : Reading) (left left1 left2 : Option (List ℕ)) (ins in1 in2 : ℕ) (written written1 written2 : Option (List ℕ)) (outs out1 out2 : ℕ)
    (script : CodeStage) (refused : Bool) (piece : Piece) (a : Answer) (text : List ℕ) → (piece ≡ End → ⊥)
    → InRun most limit old left left1 ins in1 written written1 outs out1 script refused → Outcome old new left1 left2 in1 in2 (Ok piece)
    → IsStep (step (stage_of script) piece) a → Appends written1 written2 text → text ≡ a.text.items → out1 ≤ out2
    → InRun most limit new left left2 ins in2 written written2 outs out2 a.script (refused || a.refused)
InRun-piece most limit old new left left1 left2 ins in1 in2 written written1 written2 outs out1 out2 script refused piece a text other inside outcome is_step wrote whole kept = record {
  answered = inside.answered ++ piece ∷ [];
  run = Run-piece (fresh limit) old new left left1 left2 in1 in2 inside.answered piece (IsPiece-from_not_end piece other) inside.run outcome;
  appended = subst (Appends written written2) (one_more most script inside.answered piece a inside.standing is_step)
      (Appends-trans written written1 written2 (replies (opening most) inside.answered) a.text.items inside.appended (subst (Appends written1 written2) whole wrote));
  standing = is_step.stage ∙ ap (λ s. (step s piece).stage) inside.standing ∙ sym (stage_after-append (opening most) inside.answered piece);
  steady = is_step.steady;
  refusing = ap (λ r. r || a.refused) inside.refusing ∙ ap (λ r. refuses (opening most) inside.answered || r) (is_step.refused ∙ ap (λ s. (step s piece).refused) inside.standing)
      ∙ sym (refuses-append (opening most) inside.answered piece);
  in_same = outcome.faults ∙ inside.in_same;
  out_kept = omega (arith, kept, inside.out_kept);
}

-- what a run has answered are first pieces of the bytes that the source gave
pub Run-first : (limit : ℕ) (reader : Reading) (left left1 : Option (List ℕ)) (answered : List Piece) (run : Run (fresh limit) reader left left1 answered)
    → AreFirst answered run.given left1
Run-first limit reader left left1 answered run =
    let by_case : (d : Bool) → reader.done ≡ d → AreFirst answered run.given left1 = λ d.
    elim d as (λ v. reader.done ≡ v → AreFirst answered run.given left1) [
      | true ↦ (λ done. record {
        others = [];
        among = inr ((sym (coming-fresh limit run.given) ∙ run.to_come done ∙ sym (append-nil answered), run.at_end done));
      })
      | false ↦ (λ going. record {
        others = ended reader [];
        among = inl (sym (ended-fresh limit run.given) ∙ ap (ended (fresh limit)) (sym (append-nil run.given)) ∙ run.whole going []);
      })
    ] in
    by_case reader.done refl

Run-within : (limit : ℕ) (reader : Reading) (left left1 : Option (List ℕ)) (answered : List Piece) (run : Run (fresh limit) reader left left1 answered) → length run.given ≤ limit
Run-within limit reader left left1 answered run = omega (arith, run.counted, run.same_limit, run.within)

-- the script has ended
pub InRun-end : (most limit : ℕ) (old new : Reading) (left left1 left2 : Option (List ℕ)) (ins in1 in2 : ℕ) (written written1 : Option (List ℕ)) (outs out1 : ℕ)
    (script : CodeStage) (refused : Bool)
    → InRun most limit old left left1 ins in1 written written1 outs out1 script refused → Outcome old new left1 left2 in1 in2 (Ok End)
    → (old.taken ≤ old.limit → old.done ≡ true → (new ≡ old) × (left2 ≡ left1))
    → Runs most limit left left2 written written1 (Ok (record { refused = refused }))
unfolding answer is_refused
InRun-end most limit old new left left1 left2 ins in1 in2 written written1 outs out1 script refused inside outcome again =
    let over = Run-end (fresh limit) old new left left1 left2 in1 in2 inside.answered inside.run outcome again in
    let all : inside.answered ≡ pieces over.given = sym over.all ∙ coming-fresh limit over.given in
    record {
      given = over.given;
      wrote = replies (opening most) inside.answered;
      consumed = over.consumed;
      appended = inside.appended;
      told = record {
        answered = ap (replies (opening most)) all;
        refused = inside.refusing ∙ ap (refuses (opening most)) all;
        at_end = over.at_end;
        within = omega (arith, over.within);
      };
    }

-- fewer pieces are first pieces too
AreFirst-fewer : (all answered others : List Piece) (given : List ℕ) (left : Option (List ℕ)) → all ≡ answered ++ others → AreFirst all given left → AreFirst answered given left
AreFirst-fewer all answered others given left split firsts =
    let longer : all ++ firsts.others ≡ answered ++ (others ++ firsts.others) = ap (λ l. l ++ firsts.others) split ∙ append_assoc answered others firsts.others in
    let by_case : (whole_statements given ≡ all ++ firsts.others) ⊎ ((pieces given ≡ all ++ firsts.others) × IsAtEnd left) → AreFirst answered given left = λ either.
    elim either [
      | inl among ↦ record { others = others ++ firsts.others; among = inl (among ∙ longer) }
      | inr among ↦ record { others = others ++ firsts.others; among = inr ((among.0 ∙ longer, among.1)) }
    ] in
    by_case firsts.among

-- memory was wanting after these were answered
Run-lacked : (most limit : ℕ) (reader : Reading) (left left1 : Option (List ℕ)) (written written1 : Option (List ℕ)) (all answered others : List Piece)
    → Run (fresh limit) reader left left1 all → all ≡ answered ++ others → Appends written written1 (replies (opening most) answered)
    → Runs most limit left left1 written written1 (Err Memory)
Run-lacked most limit reader left left1 written written1 all answered others run first wrote = record {
  given = run.given;
  wrote = replies (opening most) answered;
  consumed = run.consumed;
  appended = wrote;
  told = record {
    pieces = answered;
    first = AreFirst-fewer all answered others run.given left1 first (Run-first limit reader left left1 all run);
    answered = refl;
    within = Run-within limit reader left left1 all run;
  };
}

-- a read failed
pub InRun-failed : (most limit : ℕ) (old new : Reading) (left left1 left2 : Option (List ℕ)) (ins in1 in2 : ℕ) (written written1 : Option (List ℕ)) (outs out1 : ℕ)
    (script : CodeStage) (refused : Bool) (error : ReadError)
    → InRun most limit old left left1 ins in1 written written1 outs out1 script refused → Outcome old new left1 left2 in1 in2 (Err error)
    → Runs most limit left left2 written written1 (Err (run_error error))
InRun-failed most limit old new left left1 left2 ins in1 in2 written written1 outs out1 script refused read.Fault inside outcome =
    let stopped = Run-fault (fresh limit) old new left left1 left2 in1 in2 inside.answered inside.run outcome in
    let all : inside.answered ≡ whole_statements stopped.given = sym stopped.whole ∙ ended-fresh limit stopped.given in
    record {
      given = stopped.given;
      wrote = replies (opening most) inside.answered;
      consumed = stopped.consumed;
      appended = inside.appended;
      told = record { answered = ap (replies (opening most)) all; within = omega (arith, stopped.within) };
    }
InRun-failed most limit old new left left1 left2 ins in1 in2 written written1 outs out1 script refused (read.TooMuch passed_limit) inside outcome =
    let passed = Run-too_much (fresh limit) old new left left1 left2 in1 in2 passed_limit inside.answered inside.run outcome in
    let all : inside.answered ≡ whole_statements passed.bytes = sym passed.whole ∙ ended-fresh limit passed.bytes in
    record {
      given = passed.bytes ++ passed.past ∷ [];
      wrote = replies (opening most) inside.answered;
      consumed = passed.consumed;
      appended = inside.appended;
      told = (
        outcome.answer.0 ∙ inside.run.same_limit,
        record { bytes = passed.bytes; past = passed.past; split = refl; full = omega (arith, passed.full); answered = ap (replies (opening most)) all },
      );
    }
InRun-failed most limit old new left left1 left2 ins in1 in2 written written1 outs out1 script refused read.Memory inside outcome =
    let run = Run-kept (fresh limit) old new left left1 left2 inside.answered outcome.given inside.run outcome.consumed outcome.counted outcome.same_limit outcome.answer in
    Run-lacked most limit new left left2 written written1 inside.answered inside.answered [] run (sym (append-nil inside.answered)) inside.appended

pub InRun-failed_counts : (most limit : ℕ) (old new : Reading) (left left1 left2 : Option (List ℕ)) (ins in1 in2 : ℕ) (written written1 : Option (List ℕ)) (outs out1 : ℕ)
    (script : CodeStage) (refused : Bool) (error : ReadError)
    → InRun most limit old left left1 ins in1 written written1 outs out1 script refused → Outcome old new left1 left2 in1 in2 (Err error)
    → Counts ins in2 outs out1 (Err (run_error error))
InRun-failed_counts most limit old new left left1 left2 ins in1 in2 written written1 outs out1 script refused read.Fault inside outcome =
    subst (λ n. Rose n in2) inside.in_same outcome.faults
InRun-failed_counts most limit old new left left1 left2 ins in1 in2 written written1 outs out1 script refused (read.TooMuch passed_limit) inside outcome =
    outcome.faults ∙ inside.in_same
InRun-failed_counts most limit old new left left1 left2 ins in1 in2 written written1 outs out1 script refused read.Memory inside outcome =
    outcome.faults ∙ inside.in_same

-- there was no memory to answer a piece that was read
pub InRun-lacked : (most limit : ℕ) (old new : Reading) (left left1 left2 : Option (List ℕ)) (ins in1 in2 : ℕ) (written written1 : Option (List ℕ)) (outs out1 : ℕ)
    (script : CodeStage) (refused : Bool) (piece : Piece) → (piece ≡ End → ⊥)
    → InRun most limit old left left1 ins in1 written written1 outs out1 script refused → Outcome old new left1 left2 in1 in2 (Ok piece)
    → Runs most limit left left2 written written1 (Err Memory)
InRun-lacked most limit old new left left1 left2 ins in1 in2 written written1 outs out1 script refused piece other inside outcome =
    let run = Run-piece (fresh limit) old new left left1 left2 in1 in2 inside.answered piece (IsPiece-from_not_end piece other) inside.run outcome in
    Run-lacked most limit new left left2 written written1 (inside.answered ++ piece ∷ []) inside.answered (piece ∷ []) run refl inside.appended

-- the answer to a piece wasn't written whole
pub InRun-cut : {E : Type 0} → (most limit : ℕ) (old new : Reading) (left left1 left2 : Option (List ℕ)) (ins in1 in2 : ℕ) (written written1 written2 : Option (List ℕ)) (outs out1 : ℕ)
    (script : CodeStage) (refused : Bool) (piece : Piece) (a : Answer) (text : List ℕ) (fault : E) → (piece ≡ End → ⊥)
    → InRun most limit old left left1 ins in1 written written1 outs out1 script refused → Outcome old new left1 left2 in1 in2 (Ok piece)
    → IsStep (step (stage_of script) piece) a → WritesAll {E = E} written1 written2 text (Err fault) → text ≡ a.text.items
    → Runs most limit left left2 written written2 (Err Write)
InRun-cut most limit old new left left1 left2 ins in1 in2 written written1 written2 outs out1 script refused piece a text fault other inside outcome is_step cut whole =
    let run = Run-piece (fresh limit) old new left left1 left2 in1 in2 inside.answered piece (IsPiece-from_not_end piece other) inside.run outcome in
    record {
      given = run.given;
      wrote = replies (opening most) inside.answered ++ cut.0;
      consumed = run.consumed;
      appended = Appends-trans written written1 written2 (replies (opening most) inside.answered) cut.0 inside.appended cut.1.1;
      told = record {
        pieces = inside.answered ++ piece ∷ [];
        unwritten = cut.1.0;
        first = Run-first limit new left left2 (inside.answered ++ piece ∷ []) run;
        begun = sym (one_more most script inside.answered piece a inside.standing is_step)
            ∙ ap (λ t. replies (opening most) inside.answered ++ t) (sym whole ∙ cut.1.2) ∙ sym (append_assoc (replies (opening most) inside.answered) cut.0 cut.1.0);
        within = Run-within limit new left left2 (inside.answered ++ piece ∷ []) run;
      };
    }
