-- Several calls of `next_statement` on one reader, for loops that make them.
use Rattle.std.proofs.Common.{◌≡◌, ℕ, ◌+◌, ◌-◌, ◌<◌, ◌≤◌, Bool, true, false, List, [], ◌∷◌, ◌++◌, length, Option, Ok, Err, sym, refl, ap, ◌∙◌, subst, append_assoc, append-nil, arith, length-append}
use Rattle.std.specs.Prelude.{if◌then◌else◌, MatchBool}
use Rattle.std.specs.Io.KnownBytes.{Consumes, IsAtEnd}
use Rattle.std.proofs.KnownBytes.{Consumes-trans, Consumes-nil}
use Rattle.strip_value.specs.declared.pieces.Piece.{Piece}
use Rattle.strip_value.specs.declared.pieces.Piece.TheVariants.{Statement, TooLong, Rest, End}
use Rattle.strip_lines.specs.declared.errors.ReadError.TheVariants.{Fault, TooMuch}
use Rattle.strip_lines.specs.Reading.{Reading, coming, ended, most_left}
use Rattle.strip_lines.specs.Answers.{IsNext, IsLastOf, IsKept, Outcome}
use Rattle.strip_lines.proofs.ReadingLaws.{coming-done}

-- calls that answered these pieces and no `TooMuch`: the bytes given in all of them, and what is still to come
pub record Run (start now : Reading) (left_before left_now : Option (List ℕ)) (answered : List Piece) : Type 0 where
  pub given : List ℕ
  pub consumed : Consumes left_before left_now given
  pub counted : now.taken ≡ start.taken + length given
  pub same_limit : now.limit ≡ start.limit
  pub within : now.taken ≤ now.limit
  pub next : now.done ≡ false → (more : List ℕ) → coming start (given ++ more) ≡ answered ++ coming now more
  pub whole : now.done ≡ false → (more : List ℕ) → ended start (given ++ more) ≡ answered ++ ended now more
  pub to_come : now.done ≡ true → coming start given ≡ answered
  pub at_end : now.done ≡ true → IsAtEnd left_now

-- no call yet
pub Run-none : (start : Reading) (left : Option (List ℕ)) → start.done ≡ false → start.taken ≤ start.limit → Run start start left left []
Run-none start left going within = record {
  given = [];
  consumed = Consumes-nil left;
  counted = omega arith;
  same_limit = refl;
  within = within;
  next = λ still more. refl;
  whole = λ still more. refl;
  to_come = λ done. cc;
  at_end = λ done. absurd (cc);
}

-- what has a piece to come has not ended
pub going_from : (reading : Reading) (more : List ℕ) (piece : Piece) (others : List Piece) → coming reading more ≡ piece ∷ others → reading.done ≡ false
going_from reading more piece others some =
    let by_case : (d : Bool) → reading.done ≡ d → reading.done ≡ false = λ d.
    elim d as (λ v. reading.done ≡ v → reading.done ≡ false) [ true ↦ (λ done. absurd (let none = coming-done reading done more in cc)) | false ↦ (λ going. going) ] in
    by_case reading.done refl

-- a piece that others may follow
pub Run-next : (start old new : Reading) (left left1 left2 : Option (List ℕ)) (answered : List Piece) (given : List ℕ) (piece : Piece)
    → Run start old left left1 answered → Consumes left1 left2 given → new.taken ≡ old.taken + length given → new.limit ≡ old.limit
    → IsNext old new given piece → Run start new left left2 (answered ++ piece ∷ [])
Run-next start old new left left1 left2 answered given piece run consumed counted limit is_next =
    let going = going_from old (given ++ []) piece (coming new []) (is_next.next []) in
    record {
      given = run.given ++ given;
      consumed = Consumes-trans left left1 left2 run.given given run.consumed consumed;
      counted = omega (arith, run.counted, counted, length-append run.given given);
      same_limit = limit ∙ run.same_limit;
      within = is_next.within;
      next = λ still more. ap (coming start) (append_assoc run.given given more) ∙ run.next going (given ++ more)
          ∙ ap (λ l. answered ++ l) (is_next.next more) ∙ sym (append_assoc answered (piece ∷ []) (coming new more));
      whole = λ still more. ap (ended start) (append_assoc run.given given more) ∙ run.whole going (given ++ more)
          ∙ ap (λ l. answered ++ l) (is_next.whole more) ∙ sym (append_assoc answered (piece ∷ []) (ended new more));
      to_come = λ done. let still = is_next.going in cc;
      at_end = λ done. absurd (let still = is_next.going in cc);
    }

-- a piece that is the last one
pub Run-last : (start old new : Reading) (left left1 left2 : Option (List ℕ)) (answered : List Piece) (given : List ℕ) (piece : Piece)
    → Run start old left left1 answered → Consumes left1 left2 given → new.taken ≡ old.taken + length given → new.limit ≡ old.limit
    → IsLastOf old new given left2 (piece ∷ []) → Run start new left left2 (answered ++ piece ∷ [])
Run-last start old new left left1 left2 answered given piece run consumed counted limit last =
    let going = going_from old given piece [] last.to_come in
    record {
      given = run.given ++ given;
      consumed = Consumes-trans left left1 left2 run.given given run.consumed consumed;
      counted = omega (arith, run.counted, counted, length-append run.given given);
      same_limit = limit ∙ run.same_limit;
      within = last.within;
      next = λ still more. let over = last.over in cc;
      whole = λ still more. let over = last.over in cc;
      to_come = λ done. run.next going given ∙ ap (λ l. answered ++ l) last.to_come;
      at_end = λ done. last.at_end going;
    }

-- an answer that is a piece, and not the end
abbrev pub IsPiece : Piece → Type 0
IsPiece (Statement bytes) = Unit {0}
IsPiece (TooLong from len) = Unit {0}
IsPiece (Rest bytes) = Unit {0}
IsPiece End = ⊥

-- one more call, which answered a piece
pub Run-piece : (start old new : Reading) (left left1 left2 : Option (List ℕ)) (before after : ℕ) (answered : List Piece) (piece : Piece)
    → IsPiece piece → Run start old left left1 answered → Outcome old new left1 left2 before after (Ok piece) → Run start new left left2 (answered ++ piece ∷ [])
Run-piece start old new left left1 left2 before after answered (Statement bytes) is_piece run outcome =
    Run-next start old new left left1 left2 answered outcome.given (Statement bytes) run outcome.consumed outcome.counted outcome.same_limit outcome.answer
Run-piece start old new left left1 left2 before after answered (TooLong from len) is_piece run outcome =
    let by_case : (d : Bool) → MatchBool d (IsLastOf old new outcome.given left2 (TooLong from len ∷ [])) (IsNext old new outcome.given (TooLong from len)) → Run start new left left2 (answered ++ TooLong from len ∷ []) = λ d.
    elim d as (λ v. MatchBool v (IsLastOf old new outcome.given left2 (TooLong from len ∷ [])) (IsNext old new outcome.given (TooLong from len)) → Run start new left left2 (answered ++ TooLong from len ∷ [])) [
      | true ↦ (λ last. Run-last start old new left left1 left2 answered outcome.given (TooLong from len) run outcome.consumed outcome.counted outcome.same_limit last)
      | false ↦ (λ next. Run-next start old new left left1 left2 answered outcome.given (TooLong from len) run outcome.consumed outcome.counted outcome.same_limit next)
    ] in
    by_case new.done outcome.answer
Run-piece start old new left left1 left2 before after answered (Rest bytes) is_piece run outcome =
    Run-last start old new left left1 left2 answered outcome.given (Rest bytes) run outcome.consumed outcome.counted outcome.same_limit outcome.answer
Run-piece start old new left left1 left2 before after answered End is_piece run outcome = absurd is_piece

-- what a run that came to the end has answered: all pieces of the bytes given
pub record Ended (start : Reading) (left_before left_now : Option (List ℕ)) (answered : List Piece) : Type 0 where
  pub given : List ℕ
  pub consumed : Consumes left_before left_now given
  pub all : coming start given ≡ answered
  pub at_end : IsAtEnd left_now
  pub within : start.taken + length given ≤ start.limit

-- one more call, which answered the end; after the end it asked for nothing
pub Run-end : (start old new : Reading) (left left1 left2 : Option (List ℕ)) (before after : ℕ) (answered : List Piece)
    → Run start old left left1 answered → Outcome old new left1 left2 before after (Ok End)
    → (old.taken ≤ old.limit → old.done ≡ true → (new ≡ old) × (left2 ≡ left1)) → Ended start left left2 answered
Run-end start old new left left1 left2 before after answered run outcome again =
    let by_case : (d : Bool) → old.done ≡ d → Ended start left left2 answered = λ d.
    elim d as (λ v. old.done ≡ v → Ended start left left2 answered) [
      | true ↦ (λ done. let same = again run.within done in record {
        given = run.given;
        consumed = subst (λ l. Consumes left l run.given) (sym same.1) run.consumed;
        all = run.to_come done;
        at_end = subst IsAtEnd (sym same.1) (run.at_end done);
        within = omega (arith, run.counted, run.same_limit, run.within);
      })
      | false ↦ (λ going. record {
        given = run.given ++ outcome.given;
        consumed = Consumes-trans left left1 left2 run.given outcome.given run.consumed outcome.consumed;
        all = run.next going outcome.given ∙ ap (λ l. answered ++ l) outcome.answer.to_come ∙ append-nil answered;
        at_end = outcome.answer.at_end going;
        within = omega (arith, run.counted, run.same_limit, outcome.counted, outcome.same_limit, outcome.answer.within, length-append run.given outcome.given);
      })
    ] in
    by_case old.done refl

-- one more call, which answered no piece and kept what was taken: the run can go on
pub Run-kept : (start old new : Reading) (left left1 left2 : Option (List ℕ)) (answered : List Piece) (given : List ℕ)
    → Run start old left left1 answered → Consumes left1 left2 given → new.taken ≡ old.taken + length given → new.limit ≡ old.limit
    → IsKept old new given → Run start new left left2 answered
Run-kept start old new left left1 left2 answered given run consumed counted limit kept = record {
  given = run.given ++ given;
  consumed = Consumes-trans left left1 left2 run.given given run.consumed consumed;
  counted = omega (arith, run.counted, counted, length-append run.given given);
  same_limit = limit ∙ run.same_limit;
  within = kept.within;
  next = λ still more. ap (coming start) (append_assoc run.given given more) ∙ run.next kept.was_going (given ++ more) ∙ ap (λ l. answered ++ l) (kept.same more);
  whole = λ still more. ap (ended start) (append_assoc run.given given more) ∙ run.whole kept.was_going (given ++ more) ∙ ap (λ l. answered ++ l) (kept.whole more);
  to_come = λ done. let still = kept.going in cc;
  at_end = λ done. absurd (let still = kept.going in cc);
}

-- what a run that met a fault has answered: every whole piece among the bytes given
pub record Stopped (start : Reading) (left_before left_now : Option (List ℕ)) (answered : List Piece) : Type 0 where
  pub given : List ℕ
  pub consumed : Consumes left_before left_now given
  pub whole : ended start given ≡ answered
  pub within : start.taken + length given ≤ start.limit

pub Run-fault : (start old new : Reading) (left left1 left2 : Option (List ℕ)) (before after : ℕ) (answered : List Piece)
    → Run start old left left1 answered → Outcome old new left1 left2 before after (Err Fault) → Stopped start left left2 answered
Run-fault start old new left left1 left2 before after answered run outcome = record {
  given = run.given ++ outcome.given;
  consumed = Consumes-trans left left1 left2 run.given outcome.given run.consumed outcome.consumed;
  whole = run.whole outcome.answer.0.was_going outcome.given ∙ ap (λ l. answered ++ l) outcome.answer.1 ∙ append-nil answered;
  within = omega (arith, run.counted, run.same_limit, outcome.counted, outcome.same_limit, outcome.answer.0.within, length-append run.given outcome.given);
}

-- what a run that passed the limit has answered: every whole piece among the bytes within it
pub record Passed (start : Reading) (left_before left_now : Option (List ℕ)) (answered : List Piece) : Type 0 where
  pub bytes : List ℕ
  pub past : ℕ
  pub consumed : Consumes left_before left_now (bytes ++ past ∷ [])
  pub whole : ended start bytes ≡ answered
  pub full : start.taken + length bytes ≡ start.limit

pub Run-too_much : (start old new : Reading) (left left1 left2 : Option (List ℕ)) (before after limit : ℕ) (answered : List Piece)
    → Run start old left left1 answered → Outcome old new left1 left2 before after (Err (TooMuch limit)) → Passed start left left2 answered
Run-too_much start old new left left1 left2 before after limit answered run outcome =
    let fills = outcome.answer.2 run.within in
    let taken : run.given ++ outcome.given ≡ (run.given ++ fills.bytes) ++ fills.past ∷ [] =
    ap (λ l. run.given ++ l) fills.split ∙ sym (append_assoc run.given fills.bytes (fills.past ∷ [])) in
    record {
      bytes = run.given ++ fills.bytes;
      past = fills.past;
      consumed = subst (Consumes left left2) taken (Consumes-trans left left1 left2 run.given outcome.given run.consumed outcome.consumed);
      whole = run.whole fills.was_going fills.bytes ∙ ap (λ l. answered ++ l) fills.answered ∙ append-nil answered;
      full = omega (arith, run.counted, run.same_limit, fills.full, length-append run.given fills.bytes);
    }

-- fewer pieces can still come after one was answered
pub most_left-next : (old new : Reading) (given : List ℕ) (piece : Piece) → new.limit ≡ old.limit → IsNext old new given piece → most_left new < most_left old
most_left-next old new given piece limit is_next =
    let going = going_from old (given ++ []) piece (coming new []) (is_next.next []) in
    let one : most_left old ≡ (old.limit - old.begun.from) + 1 = ap (λ d. if d then 0 else (old.limit - old.begun.from) + 1) going in
    let two : most_left new ≡ (new.limit - new.begun.from) + 1 = ap (λ d. if d then 0 else (new.limit - new.begun.from) + 1) is_next.going in
    omega (arith, one, two, limit, is_next.behind, is_next.among)

pub most_left-last : (old new : Reading) (given : List ℕ) (left : Option (List ℕ)) (piece : Piece) → IsLastOf old new given left (piece ∷ []) → most_left new < most_left old
most_left-last old new given left piece last =
    let going = going_from old given piece [] last.to_come in
    let one : most_left old ≡ (old.limit - old.begun.from) + 1 = ap (λ d. if d then 0 else (old.limit - old.begun.from) + 1) going in
    let two : most_left new ≡ 0 = ap (λ d. if d then 0 else (new.limit - new.begun.from) + 1) last.over in
    omega (arith, one, two)

pub most_left-falls : (old new : Reading) (left left1 : Option (List ℕ)) (before after : ℕ) (piece : Piece)
    → IsPiece piece → Outcome old new left left1 before after (Ok piece) → most_left new < most_left old
most_left-falls old new left left1 before after (Statement bytes) is_piece outcome = most_left-next old new outcome.given (Statement bytes) outcome.same_limit outcome.answer
most_left-falls old new left left1 before after (TooLong from len) is_piece outcome =
    let by_case : (d : Bool) → MatchBool d (IsLastOf old new outcome.given left1 (TooLong from len ∷ [])) (IsNext old new outcome.given (TooLong from len)) → most_left new < most_left old = λ d.
    elim d as (λ v. MatchBool v (IsLastOf old new outcome.given left1 (TooLong from len ∷ [])) (IsNext old new outcome.given (TooLong from len)) → most_left new < most_left old) [
      | true ↦ (λ last. most_left-last old new outcome.given left1 (TooLong from len) last)
      | false ↦ (λ next. most_left-next old new outcome.given (TooLong from len) outcome.same_limit next)
    ] in
    by_case new.done outcome.answer
most_left-falls old new left left1 before after (Rest bytes) is_piece outcome = most_left-last old new outcome.given left1 (Rest bytes) outcome.answer
most_left-falls old new left left1 before after End is_piece outcome = absurd is_piece
