-- What the parts of a call do: the next `;` is looked for, bytes are taken, the end is answered.
use Rattle.std.specs.Prelude.{◌≡◌, ℕ, ◌+◌, ◌<◌, ◌≤◌, Bool, true, false, List, [], ◌∷◌, ◌++◌, length, take, drop, Option, None, Some, Result, Ok, Err}
use Rattle.std.specs.Io.KnownBytes.{Consumes, IsAtEnd}
use Rattle.strip_value.specs.declared.pieces.Piece.{Piece}
use Rattle.strip_value.specs.declared.pieces.Piece.TheVariants.{Statement, TooLong, Rest, End}
use Rattle.strip_value.specs.Pieces.{segments_of, pieces_from}
use Rattle.strip_outside.specs.Faults.{Rose}
use Rattle.strip_lines.specs.declared.errors.ReadError.{ReadError}
use Rattle.strip_lines.specs.declared.errors.ReadError.TheVariants.{Fault, TooMuch, Memory}
use Rattle.strip_lines.specs.Reading.{Segment, Reading, begun_with, segments_on, whole_pieces}

-- the pieces that an answer gives: none at the end
abbrev pub told : Piece → List Piece
told End = []
told (Statement bytes) = Statement bytes ∷ []
told (TooLong from len) = TooLong from len ∷ []
told (Rest bytes) = Rest bytes ∷ []

-- a piece that a `;` has ended
abbrev pub IsWhole : Piece → Type 0
IsWhole (Statement bytes) = Unit {0}
IsWhole (TooLong from len) = Unit {0}
IsWhole (Rest bytes) = ⊥
IsWhole End = ⊥

-- what the end of the source can give
abbrev pub IsLast : Piece → Type 0
IsLast (Statement bytes) = ⊥
IsLast (TooLong from len) = Unit {0}
IsLast (Rest bytes) = Unit {0}
IsLast End = Unit {0}

-- two segments so far that give the same pieces: as long as each other, and equal where a statement can be that long
pub record IsLike (a b : List ℕ) : Type 0 where
  pub same_length : length a ≡ length b
  pub same_bytes : length a ≤ 65536 → a ≡ b

-- the first segment of the bytes has `run` of them; behind these `quoted` says whether quotes are open
pub record EndsAt (before : Bool) (bytes : List ℕ) (run : ℕ) (quoted : Bool) : Type 0 where
  pub within : run ≤ length bytes
  pub first : (more : List ℕ) → segments_of before (bytes ++ more) ≡ begun_with (take run bytes) (segments_of quoted (drop run bytes ++ more))
  pub ending : run < length bytes → (quoted ≡ false) × (drop run bytes ≡ 59 ∷ drop (run + 1) bytes)

-- what looking through the bytes taken does: it finds these pieces, and what is to come is still to come
pub record Looks (old new : Segment) (before now : List ℕ) (found : List Piece) : Type 0 where
  pub next : (more : List ℕ) → pieces_from old.from (segments_on old (before ++ more)) ≡ found ++ pieces_from new.from (segments_on new (now ++ more))
  pub whole : (more : List ℕ) → whole_pieces old.from (segments_on old (before ++ more)) ≡ found ++ whole_pieces new.from (segments_on new (now ++ more))
  pub no_more_bytes : new.from + length new.bytes + length now ≤ old.from + length old.bytes + length before

-- the next whole piece, or none and nothing left to look at; at want of memory all stays
abbrev pub Cuts : {E : Type 0} → Segment → Segment → List ℕ → List ℕ → Result (Option Piece) E → Type 0
Cuts old new before now (Ok (Some piece)) = Looks old new before now (piece ∷ []) × IsWhole piece × (old.from < new.from)
Cuts old new before now (Ok None) = Looks old new before now [] × (now ≡ []) × (new.from ≡ old.from)
Cuts old new before now (Err e) = (new ≡ old) × (now ≡ before)

-- what a read into an empty room of at most so many bytes does; a fault gives none
abbrev pub Fills : {E : Type 0} → List ℕ → ℕ → Option (List ℕ) → Option (List ℕ) → ℕ → ℕ → Result ℕ E → Type 0
Fills room most left_before left_now before now (Ok n) =
    Consumes left_before left_now room × (length room ≡ n) × (n ≤ most) × (n ≡ 0 → 0 < most → IsAtEnd left_now) × (now ≡ before)
Fills room most left_before left_now before now (Err fault) = (room ≡ []) × (left_now ≡ left_before) × Rose before now × (before ≤ now)

-- what a read of one byte tells: whether the source gave one
abbrev pub TellsEnd : {E : Type 0} → Option (List ℕ) → Option (List ℕ) → ℕ → ℕ → Result Bool E → Type 0
TellsEnd left_before left_now before now (Ok true) = Consumes left_before left_now [] × IsAtEnd left_now × (now ≡ before)
TellsEnd left_before left_now before now (Ok false) = ((byte : ℕ) × Consumes left_before left_now (byte ∷ [])) × (now ≡ before)
TellsEnd left_before left_now before now (Err fault) = (left_now ≡ left_before) × Rose before now × (before ≤ now)

-- what taking bytes does where all that were taken were looked at: some came, or the end did, or the byte past the limit
abbrev pub Takes : Reading → Reading → Option (List ℕ) → Option (List ℕ) → ℕ → ℕ → Result Bool ReadError → Type 0
Takes old new left_before left_now before now (Ok true) =
    (new ≡ record old { taken = old.taken + length new.waiting; waiting = new.waiting })
    × (0 < length new.waiting)
    × Consumes left_before left_now new.waiting
    × (new.taken ≤ old.limit)
    × (now ≡ before)
Takes old new left_before left_now before now (Ok false) =
    (new ≡ old) × Consumes left_before left_now [] × IsAtEnd left_now × (now ≡ before)
Takes old new left_before left_now before now (Err Fault) =
    (new ≡ old) × (left_now ≡ left_before) × Rose before now × (before ≤ now)
Takes old new left_before left_now before now (Err (TooMuch limit)) =
    (new ≡ record old { taken = old.limit + 1 })
    × ((byte : ℕ) × Consumes left_before left_now (byte ∷ []))
    × (old.taken ≡ old.limit)
    × (limit ≡ old.limit)
    × (now ≡ before)
Takes old new left_before left_now before now (Err Memory) = ⊥
