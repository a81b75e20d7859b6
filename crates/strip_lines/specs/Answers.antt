-- What a call of `next_statement` answers, by the bytes that the source gave in it.
use Rattle.std.specs.Prelude.{◌≡◌, ℕ, ◌+◌, ◌<◌, ◌≤◌, true, false, List, [], ◌∷◌, ◌++◌, length, Option, Result, Ok, Err, MatchBool}
use Rattle.std.specs.Io.KnownBytes.{Consumes, IsAtEnd}
use Rattle.strip_value.specs.declared.pieces.Piece.{Piece}
use Rattle.strip_value.specs.declared.pieces.Piece.TheVariants.{Statement, TooLong, Rest, End}
use Rattle.strip_outside.specs.Faults.{Rose}
use Rattle.strip_lines.specs.declared.errors.ReadError.{ReadError}
use Rattle.strip_lines.specs.declared.errors.ReadError.TheVariants.{Fault, TooMuch, Memory}
use Rattle.strip_lines.specs.Reading.{Reading, coming, ended}

-- a piece that others may follow: it is the first of those that were to come, and the next one begins behind it
pub record IsNext (old new : Reading) (given : List ℕ) (piece : Piece) : Type 0 where
  pub going : new.done ≡ false
  pub within : new.taken ≤ new.limit
  pub next : (more : List ℕ) → coming old (given ++ more) ≡ piece ∷ coming new more
  pub whole : (more : List ℕ) → ended old (given ++ more) ≡ piece ∷ ended new more
  pub behind : old.begun.from < new.begun.from
  pub among : new.begun.from ≤ new.limit

-- the source is at its end: these were the last pieces to come, and none comes after them, whatever follows
pub record IsLastOf (old new : Reading) (given : List ℕ) (left : Option (List ℕ)) (last : List Piece) : Type 0 where
  pub over : new.done ≡ true
  pub within : new.taken ≤ new.limit
  pub to_come : coming old given ≡ last
  pub none : (more : List ℕ) → coming new more ≡ []
  pub at_end : old.done ≡ false → IsAtEnd left

-- no piece, but what was taken is kept: the same pieces are to come, and the same whole ones weren't answered yet
pub record IsKept (old new : Reading) (given : List ℕ) : Type 0 where
  pub was_going : old.done ≡ false
  pub going : new.done ≡ false
  pub within : new.taken ≤ new.limit
  pub same : (more : List ℕ) → coming old (given ++ more) ≡ coming new more
  pub whole : (more : List ℕ) → ended old (given ++ more) ≡ ended new more

-- the bytes given fill the limit and go on one byte past it, and no whole piece ends among those within it
pub record FillsLimit (old : Reading) (given : List ℕ) : Type 0 where
  pub was_going : old.done ≡ false
  pub bytes : List ℕ
  pub past : ℕ
  pub split : given ≡ bytes ++ past ∷ []
  pub full : old.taken + length bytes ≡ old.limit
  pub answered : ended old bytes ≡ []

-- the answer, by cases; bytes past the limit that came in an earlier call are answered again
abbrev pub Answers : Reading → Reading → List ℕ → Option (List ℕ) → Result Piece ReadError → Type 0
Answers old new given left (Ok (Statement bytes)) = IsNext old new given (Statement bytes)
Answers old new given left (Ok (TooLong from len)) =
    MatchBool new.done (IsLastOf old new given left (TooLong from len ∷ [])) (IsNext old new given (TooLong from len))
Answers old new given left (Ok (Rest bytes)) = IsLastOf old new given left (Rest bytes ∷ [])
Answers old new given left (Ok End) = IsLastOf old new given left []
Answers old new given left (Err Fault) = IsKept old new given × (ended old given ≡ []) × (ended new [] ≡ [])
Answers old new given left (Err (TooMuch limit)) =
    (limit ≡ old.limit) × (limit < new.taken) × (old.taken ≤ old.limit → FillsLimit old given)
Answers old new given left (Err Memory) = IsKept old new given

-- the source's count of faults rises at a fault, and else stays
abbrev pub CountsRead : ℕ → ℕ → Result Piece ReadError → Type 0
CountsRead before now (Ok piece) = now ≡ before
CountsRead before now (Err Fault) = Rose before now
CountsRead before now (Err (TooMuch limit)) = now ≡ before
CountsRead before now (Err Memory) = now ≡ before

-- a call: the bytes that the source gave in it, each of them counted, and the answer
pub record Outcome (old new : Reading) (left_before left_now : Option (List ℕ)) (before now : ℕ) (result : Result Piece ReadError) : Type 0 where
  pub given : List ℕ
  pub consumed : Consumes left_before left_now given
  pub counted : new.taken ≡ old.taken + length given
  pub same_limit : new.limit ≡ old.limit
  pub never_falls : before ≤ now
  pub faults : CountsRead before now result
  pub answer : Answers old new given left_now result

-- a call that answers this at once, and asks the source for nothing
abbrev pub AnswersAgain : {S : Type 0} → Reading → Reading → S → S → Result Piece ReadError → Result Piece ReadError → Type 0
AnswersAgain old new source_before source_now result again = (result ≡ again) × (new ≡ old) × (source_now ≡ source_before)
