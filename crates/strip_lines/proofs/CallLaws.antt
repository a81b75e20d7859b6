-- A call that has answered nothing yet, and its answers.
use Rattle.std.proofs.Common.{◌≡◌, ℕ, ◌+◌, ◌<◌, ◌≤◌, Bool, true, false, List, [], ◌∷◌, ◌++◌, length, Option, Ok, Err, sym, refl, ap, ◌∙◌, subst, append_assoc, append-nil, arith, length-append}
use Rattle.std.specs.Prelude.{if◌then◌else◌, MatchBool}
use Rattle.std.specs.Io.KnownBytes.{Consumes}
use Rattle.std.proofs.KnownBytes.{Consumes-trans, Consumes-nil}
use Rattle.strip_value.specs.declared.pieces.Piece.{Piece}
use Rattle.strip_value.specs.declared.pieces.Piece.TheVariants.{Statement, TooLong, Rest, End}
use Rattle.strip_value.specs.Pieces.{last_pieces}
use Rattle.strip_outside.specs.Faults.{Rose}
use Rattle.strip_lines.specs.declared.errors.ReadError.{ReadError}
use Rattle.strip_lines.specs.declared.errors.ReadError.TheVariants.{Fault, TooMuch, Memory}
use Rattle.strip_lines.specs.Reading.{Reading, coming, ended}
use Rattle.strip_lines.specs.Steps.{Looks, Takes, IsWhole, IsLast, told}
use Rattle.strip_lines.specs.Answers.{IsNext, IsLastOf, Answers, Outcome}
use Rattle.strip_lines.proofs.ReadingLaws.{coming-done, coming-looks, ended-looks, coming-takes, ended-takes, coming-looked, ended-looked}

-- the bytes given so far were taken, and the same pieces are to come
pub record Progress (old now : Reading) (left_before left_now : Option (List ℕ)) (before after : ℕ) : Type 0 where
  pub given : List ℕ
  pub consumed : Consumes left_before left_now given
  pub counted : now.taken ≡ old.taken + length given
  pub same_limit : now.limit ≡ old.limit
  pub began : old.done ≡ false
  pub going : now.done ≡ false
  pub within : now.taken ≤ now.limit
  pub same_from : now.begun.from ≡ old.begun.from
  pub faults : after ≡ before
  pub next : (more : List ℕ) → coming old (given ++ more) ≡ coming now more
  pub whole : (more : List ℕ) → ended old (given ++ more) ≡ ended now more

-- as the call begins
pub Progress-none : (old : Reading) (left : Option (List ℕ)) (faults : ℕ) → old.done ≡ false → old.taken ≤ old.limit → Progress old old left left faults faults
Progress-none old left faults going within = record {
  given = [];
  consumed = Consumes-nil left;
  counted = omega arith;
  same_limit = refl;
  began = going;
  going = going;
  within = within;
  same_from = refl;
  faults = refl;
  next = λ more. refl;
  whole = λ more. refl;
}

-- only the segment that has begun and the bytes that wait were changed
abbrev pub LookedThrough : Reading → Reading → Type 0
LookedThrough old new = new ≡ record old { begun = new.begun; waiting = new.waiting }

-- no `;` was found among the bytes taken
pub Progress-looked : (old mid new : Reading) (left left1 : Option (List ℕ)) (before after : ℕ) → Progress old mid left left1 before after
    → LookedThrough mid new → Looks mid.begun new.begun mid.waiting new.waiting [] → new.begun.from ≡ mid.begun.from
    → Progress old new left left1 before after
Progress-looked old mid new left left1 before after p same looks from =
    let taken : new.taken ≡ mid.taken = ap (λ r. r.taken) same in
    let limit : new.limit ≡ mid.limit = ap (λ r. r.limit) same in
    let done : new.done ≡ false = ap (λ r. r.done) same ∙ p.going in
    record {
      given = p.given;
      consumed = p.consumed;
      counted = taken ∙ p.counted;
      same_limit = limit ∙ p.same_limit;
      began = p.began;
      going = done;
      within = omega (arith, p.within, taken, limit);
      same_from = from ∙ p.same_from;
      faults = p.faults;
      next = λ more. p.next more ∙ coming-looks mid new [] p.going done looks more;
      whole = λ more. p.whole more ∙ ended-looks mid new [] looks more;
    }

-- bytes were taken
pub Progress-taken : (old mid new : Reading) (left left1 left2 : Option (List ℕ)) (before after after2 : ℕ) → Progress old mid left left1 before after
    → mid.waiting ≡ [] → Takes mid new left1 left2 after after2 (Ok true)
    → Progress old new left left2 before after2
Progress-taken old mid new left left1 left2 before after after2 p looked takes =
    let more_taken : new.taken ≡ mid.taken + length new.waiting = ap (λ r. r.taken) takes.0 in
    let limit : new.limit ≡ mid.limit = ap (λ r. r.limit) takes.0 in
    record {
      given = p.given ++ new.waiting;
      consumed = Consumes-trans left left1 left2 p.given new.waiting p.consumed takes.2;
      counted = omega (arith, more_taken, p.counted, length-append p.given new.waiting);
      same_limit = limit ∙ p.same_limit;
      began = p.began;
      going = ap (λ r. r.done) takes.0 ∙ p.going;
      within = omega (arith, takes.3, limit);
      same_from = ap (λ r. r.begun.from) takes.0 ∙ p.same_from;
      faults = takes.4 ∙ p.faults;
      next = λ more. ap (coming old) (append_assoc p.given new.waiting more) ∙ p.next (new.waiting ++ more)
          ∙ coming-takes mid (mid.taken + length new.waiting) new.waiting looked more ∙ ap (λ r. coming r more) (sym takes.0);
      whole = λ more. ap (ended old) (append_assoc p.given new.waiting more) ∙ p.whole (new.waiting ++ more)
          ∙ ended-takes mid (mid.taken + length new.waiting) new.waiting looked more ∙ ap (λ r. ended r more) (sym takes.0);
    }

-- a whole piece is answered
pub Answers-whole : (old new : Reading) (given : List ℕ) (left : Option (List ℕ)) (piece : Piece) → IsWhole piece → IsNext old new given piece
    → Answers old new given left (Ok piece)
Answers-whole old new given left (Statement bytes) whole next = next
Answers-whole old new given left (TooLong from len) whole next =
    subst (λ d. MatchBool d (IsLastOf old new given left (TooLong from len ∷ [])) (IsNext old new given (TooLong from len))) (sym next.going) next
Answers-whole old new given left (Rest bytes) whole next = absurd whole
Answers-whole old new given left End whole next = absurd whole

pub Outcome-found : (old mid new : Reading) (left left1 : Option (List ℕ)) (before after : ℕ) (piece : Piece) → Progress old mid left left1 before after
    → LookedThrough mid new → Looks mid.begun new.begun mid.waiting new.waiting (piece ∷ []) → IsWhole piece → mid.begun.from < new.begun.from
    → new.begun.from ≤ new.limit → Outcome old new left left1 before after (Ok piece)
Outcome-found old mid new left left1 before after piece p same looks whole behind among =
    let taken : new.taken ≡ mid.taken = ap (λ r. r.taken) same in
    let limit : new.limit ≡ mid.limit = ap (λ r. r.limit) same in
    let done : new.done ≡ false = ap (λ r. r.done) same ∙ p.going in
    record {
      given = p.given;
      consumed = p.consumed;
      counted = taken ∙ p.counted;
      same_limit = limit ∙ p.same_limit;
      never_falls = omega (arith, p.faults);
      faults = p.faults;
      answer = Answers-whole old new p.given left1 piece whole (record {
        going = done;
        within = omega (arith, p.within, taken, limit);
        next = λ more. p.next more ∙ coming-looks mid new (piece ∷ []) p.going done looks more;
        whole = λ more. p.whole more ∙ ended-looks mid new (piece ∷ []) looks more;
        behind = omega (arith, behind, p.same_from);
        among = among;
      });
    }

-- there was no memory for a piece, and all stays
pub Outcome-memory : (old mid new : Reading) (left left1 : Option (List ℕ)) (before after : ℕ) → Progress old mid left left1 before after
    → new ≡ mid → Outcome old new left left1 before after (Err Memory)
Outcome-memory old mid new left left1 before after p same = record {
  given = p.given;
  consumed = p.consumed;
  counted = ap (λ r. r.taken) same ∙ p.counted;
  same_limit = ap (λ r. r.limit) same ∙ p.same_limit;
  never_falls = omega (arith, p.faults);
  faults = p.faults;
  answer = record {
    was_going = p.began;
    going = ap (λ r. r.done) same ∙ p.going;
    within = subst (λ r. r.taken ≤ r.limit) (sym same) p.within;
    same = λ more. p.next more ∙ ap (λ r. coming r more) (sym same);
    whole = λ more. p.whole more ∙ ap (λ r. ended r more) (sym same);
  };
}

-- the last piece is answered
pub Answers-last : (old new : Reading) (given : List ℕ) (left : Option (List ℕ)) (piece : Piece) → IsLast piece → IsLastOf old new given left (told piece)
    → Answers old new given left (Ok piece)
Answers-last old new given left (Statement bytes) is_last last = absurd is_last
Answers-last old new given left (TooLong from len) is_last last =
    subst (λ d. MatchBool d (IsLastOf old new given left (TooLong from len ∷ [])) (IsNext old new given (TooLong from len))) (sym last.over) last
Answers-last old new given left (Rest bytes) is_last last = last
Answers-last old new given left End is_last last = last

pub Outcome-last : (old mid same new : Reading) (left left1 left2 : Option (List ℕ)) (before after after2 : ℕ) (piece : Piece) → Progress old mid left left1 before after
    → mid.waiting ≡ [] → Takes mid same left1 left2 after after2 (Ok false)
    → told piece ≡ last_pieces same.begun.from same.begun.bytes → IsLast piece → new ≡ record same { begun = new.begun; done = true }
    → Outcome old new left left2 before after2 (Ok piece)
Outcome-last old mid same new left left1 left2 before after after2 piece p looked takes is_told is_last finished =
    let kept : same ≡ mid = takes.0 in
    let taken : new.taken ≡ mid.taken = ap (λ r. r.taken) finished ∙ ap (λ r. r.taken) kept in
    let limit : new.limit ≡ mid.limit = ap (λ r. r.limit) finished ∙ ap (λ r. r.limit) kept in
    let done : new.done ≡ true = ap (λ r. r.done) finished in
    record {
      given = p.given ++ [];
      consumed = Consumes-trans left left1 left2 p.given [] p.consumed takes.1;
      counted = omega (arith, taken, p.counted, ap length (append-nil p.given));
      same_limit = limit ∙ p.same_limit;
      never_falls = omega (arith, takes.3, p.faults);
      faults = takes.3 ∙ p.faults;
      answer = Answers-last old new (p.given ++ []) left2 piece is_last (record {
        over = done;
        within = omega (arith, p.within, taken, limit);
        to_come = p.next [] ∙ coming-looked mid p.going looked ∙ ap (λ r. last_pieces r.begun.from r.begun.bytes) (sym kept) ∙ sym is_told;
        none = coming-done new done;
        at_end = λ going. takes.2;
      });
    }

-- no whole piece is among the bytes given, since all of them were looked at
pub Progress-answered : (old mid : Reading) (left left1 : Option (List ℕ)) (before after : ℕ) → (p : Progress old mid left left1 before after)
    → mid.waiting ≡ [] → ended old p.given ≡ []
Progress-answered old mid left left1 before after p looked =
    ap (ended old) (sym (append-nil p.given)) ∙ p.whole [] ∙ ended-looked mid looked

-- a read failed, or gave the byte past the limit
pub Outcome-failed : (old mid new : Reading) (left left1 left2 : Option (List ℕ)) (before after after2 : ℕ) (error : ReadError) → Progress old mid left left1 before after
    → mid.waiting ≡ [] → Takes mid new left1 left2 after after2 (Err error)
    → Outcome old new left left2 before after2 (Err error)
Outcome-failed old mid new left left1 left2 before after after2 Fault p looked takes = record {
  given = p.given;
  consumed = subst (λ l. Consumes left l p.given) (sym takes.1) p.consumed;
  counted = ap (λ r. r.taken) takes.0 ∙ p.counted;
  same_limit = ap (λ r. r.limit) takes.0 ∙ p.same_limit;
  never_falls = omega (arith, takes.3, p.faults);
  faults = subst (λ n. Rose n after2) p.faults takes.2;
  answer = (
    record {
      was_going = p.began;
      going = ap (λ r. r.done) takes.0 ∙ p.going;
      within = subst (λ r. r.taken ≤ r.limit) (sym takes.0) p.within;
      same = λ more. p.next more ∙ ap (λ r. coming r more) (sym takes.0);
      whole = λ more. p.whole more ∙ ap (λ r. ended r more) (sym takes.0);
    },
    Progress-answered old mid left left1 before after p looked,
    ap (λ r. ended r []) takes.0 ∙ ended-looked mid looked,
  );
}
Outcome-failed old mid new left left1 left2 before after after2 (TooMuch limit) p looked takes =
    let byte = takes.1.0 in
    let taken : new.taken ≡ mid.limit + 1 = ap (λ r. r.taken) takes.0 in
    record {
      given = p.given ++ byte ∷ [];
      consumed = Consumes-trans left left1 left2 p.given (byte ∷ []) p.consumed takes.1.1;
      counted = omega (arith, taken, takes.2, p.counted, length-append p.given (byte ∷ []));
      same_limit = ap (λ r. r.limit) takes.0 ∙ p.same_limit;
      never_falls = omega (arith, takes.4, p.faults);
      faults = takes.4 ∙ p.faults;
      answer = (
        takes.3 ∙ p.same_limit,
        omega (arith, taken, takes.3),
        λ within. record {
          was_going = p.began;
          bytes = p.given;
          past = byte;
          split = refl;
          full = omega (arith, takes.2, p.counted, p.same_limit);
          answered = Progress-answered old mid left left1 before after p looked;
        },
      );
    }
Outcome-failed old mid new left left1 left2 before after after2 Memory p looked takes = absurd takes

-- after the end, or the byte past the limit, nothing is asked for
pub Outcome-end : (old : Reading) (left : Option (List ℕ)) (faults : ℕ) → old.done ≡ true → old.taken ≤ old.limit
    → Outcome old old left left faults faults (Ok End)
Outcome-end old left faults done within = record {
  given = [];
  consumed = Consumes-nil left;
  counted = omega arith;
  same_limit = refl;
  never_falls = omega arith;
  faults = refl;
  answer = record {
    over = done;
    within = within;
    to_come = coming-done old done [];
    none = coming-done old done;
    at_end = λ going. cc;
  };
}

-- where no byte past the limit came, those that were taken are within it
pub taken_within : (over : Bool) (limit count taken most : ℕ) → (if over then limit + 1 else count) ≡ taken → limit ≡ most → over ≡ false → count ≤ limit → taken ≤ most
taken_within over limit count taken most is_taken is_most none within =
    let counted : count ≡ taken = ap (λ o. if o then limit + 1 else count) (sym none) ∙ is_taken in
    omega (arith, counted, is_most, within)
