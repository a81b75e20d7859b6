-- Reading a whole source, from the calls on its reader.
use Rattle.std.proofs.Common.{◌≡◌, ℕ, ◌≤◌, List, [], ◌∷◌, ◌++◌, length, true, Option, Ok, Err, sym, ap, ◌∙◌, subst, arith, length-append}
use Rattle.std.proofs.KnownBytes.{Consumes-trans}
use Rattle.strip_value.specs.declared.pieces.Piece.{Piece}
use Rattle.strip_value.specs.declared.pieces.Piece.TheVariants.{Statement, TooLong, Rest, End}
use Rattle.strip_outside.specs.Faults.{Rose}
use Rattle.strip_lines.specs.declared.errors.ReadError.{ReadError}
use Rattle.strip_lines.specs.declared.errors.ReadError.TheVariants.{Fault, TooMuch, Memory}
use Rattle.strip_lines.specs.Reading.{Reading, fresh}
use Rattle.strip_lines.specs.Answers.{Outcome}
use Rattle.strip_lines.specs.Texts.{ReadsAll}
use Rattle.strip_lines.proofs.ReadingLaws.{coming-fresh}
use Rattle.strip_lines.proofs.RunLaws.{Run, IsPiece, Run-end}

-- what is not the end is a piece
pub IsPiece-from_not_end : (piece : Piece) → (piece ≡ End → ⊥) → IsPiece piece
IsPiece-from_not_end (Statement bytes) other = tt
IsPiece-from_not_end (TooLong from len) other = tt
IsPiece-from_not_end (Rest bytes) other = tt
IsPiece-from_not_end End other = other (cc)

-- the end was answered
pub ReadsAll-end : (limit : ℕ) (old new : Reading) (left left1 left2 : Option (List ℕ)) (before after after2 : ℕ) (list : List Piece)
    → Run (fresh limit) old left left1 list → after ≡ before → Outcome old new left1 left2 after after2 (Ok End)
    → (old.taken ≤ old.limit → old.done ≡ true → (new ≡ old) × (left2 ≡ left1)) → ReadsAll limit left left2 before after2 (Ok list)
ReadsAll-end limit old new left left1 left2 before after after2 list run same outcome again =
    let ended = Run-end (fresh limit) old new left left1 left2 after after2 list run outcome again in
    record {
      given = ended.given;
      consumed = ended.consumed;
      never_falls = omega (arith, same, outcome.never_falls);
      answer = (sym ended.all ∙ coming-fresh limit ended.given, omega (arith, ended.within), ended.at_end, outcome.faults ∙ same);
    }

-- a call failed
pub ReadsAll-failed : (limit : ℕ) (old new : Reading) (left left1 left2 : Option (List ℕ)) (before after after2 : ℕ) (list : List Piece) (error : ReadError)
    → Run (fresh limit) old left left1 list → after ≡ before → Outcome old new left1 left2 after after2 (Err error)
    → ReadsAll limit left left2 before after2 (Err error)
ReadsAll-failed limit old new left left1 left2 before after after2 list Fault run same outcome = record {
  given = run.given ++ outcome.given;
  consumed = Consumes-trans left left1 left2 run.given outcome.given run.consumed outcome.consumed;
  never_falls = omega (arith, same, outcome.never_falls);
  answer = (
    omega (arith, run.counted, run.same_limit, outcome.counted, outcome.same_limit, outcome.answer.0.within, length-append run.given outcome.given),
    subst (λ n. Rose n after2) same outcome.faults,
  );
}
ReadsAll-failed limit old new left left1 left2 before after after2 list (TooMuch most) run same outcome =
    let fills = outcome.answer.2 run.within in
    record {
      given = run.given ++ outcome.given;
      consumed = Consumes-trans left left1 left2 run.given outcome.given run.consumed outcome.consumed;
      never_falls = omega (arith, same, outcome.never_falls);
      answer = (
        outcome.answer.0 ∙ run.same_limit,
        omega (arith, run.counted, run.same_limit, fills.full, ap length fills.split, length-append fills.bytes (fills.past ∷ []), length-append run.given outcome.given),
        outcome.faults ∙ same,
      );
    }
ReadsAll-failed limit old new left left1 left2 before after after2 list Memory run same outcome = record {
  given = run.given ++ outcome.given;
  consumed = Consumes-trans left left1 left2 run.given outcome.given run.consumed outcome.consumed;
  never_falls = omega (arith, same, outcome.never_falls);
  answer = (
    omega (arith, run.counted, run.same_limit, outcome.counted, outcome.same_limit, outcome.answer.within, length-append run.given outcome.given),
    outcome.faults ∙ same,
  );
}

-- there was no memory for the list
pub ReadsAll-full : (limit : ℕ) (now : Reading) (left left1 : Option (List ℕ)) (before after : ℕ) (list : List Piece)
    → Run (fresh limit) now left left1 list → after ≡ before → ReadsAll limit left left1 before after (Err Memory)
ReadsAll-full limit now left left1 before after list run same = record {
  given = run.given;
  consumed = run.consumed;
  never_falls = omega (arith, same);
  answer = (omega (arith, run.counted, run.same_limit, run.within), same);
}
