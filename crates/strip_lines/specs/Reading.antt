-- How far the reading of a text of statements has come, and which pieces are still to come.
use Rattle.std.specs.Prelude.{ℕ, ◌+◌, ◌-◌, Bool, false, List, [], ◌∷◌, ◌++◌, length, if◌then◌else◌}
use Rattle.strip_value.specs.declared.pieces.Piece.{Piece}
use Rattle.strip_value.specs.Pieces.{segments_of, whole_piece, pieces_from}

-- a segment that has begun: the bytes of the source before it, its own so far, and whether they end inside quotes;
-- of a segment that is too long for a statement a zero may stand for each byte past the limit
pub record Segment : Type 0 where
  pub from : ℕ
  pub bytes : List ℕ
  pub quoted : Bool

-- the most bytes that may be taken, how many were taken, the segment that has begun, the bytes taken that weren't
-- looked at yet, and whether the end was answered
pub record Reading : Type 0 where
  pub limit : ℕ
  pub taken : ℕ
  pub begun : Segment
  pub waiting : List ℕ
  pub done : Bool

-- nothing was taken yet
abbrev pub fresh : ℕ → Reading
fresh limit =
    record { limit = limit; taken = 0; begun = record { from = 0; bytes = []; quoted = false }; waiting = []; done = false }

-- segments whose first one has begun with these bytes
abbrev pub begun_with : List ℕ → List (List ℕ) → List (List ℕ)
begun_with bytes [] = bytes ∷ []
begun_with bytes (s ∷ segments) = (bytes ++ s) ∷ segments

-- the segment that has begun, as these bytes go on, and those that follow it
abbrev pub segments_on : Segment → List ℕ → List (List ℕ)
segments_on begun bytes = begun_with begun.bytes (segments_of begun.quoted bytes)

-- the pieces of every segment but the last, which no `;` has ended
abbrev pub whole_pieces : ℕ → List (List ℕ) → List Piece
whole_pieces from [] = []
whole_pieces from (s ∷ []) = []
whole_pieces from (s ∷ t ∷ segments) = whole_piece from s ∷ whole_pieces (from + length s + 1) (t ∷ segments)

-- the pieces of a text that a `;` has ended
unfoldable pub whole_statements : List ℕ → List Piece
whole_statements bytes = whole_pieces 0 (segments_of false bytes)

-- the pieces still to come where `more` is what the source still gives before it ends
unfoldable pub coming : Reading → List ℕ → List Piece
coming reading more =
    if reading.done then [] else pieces_from reading.begun.from (segments_on reading.begun (reading.waiting ++ more))

-- the whole pieces among the bytes taken and `more` that weren't answered yet
unfoldable pub ended : Reading → List ℕ → List Piece
ended reading more = whole_pieces reading.begun.from (segments_on reading.begun (reading.waiting ++ more))

-- the most pieces that can still come: each begins behind the one before, within the limit
abbrev pub most_left : Reading → ℕ
most_left reading = if reading.done then 0 else (reading.limit - reading.begun.from) + 1
