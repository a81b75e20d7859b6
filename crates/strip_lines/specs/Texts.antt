-- What reading a whole source answers.
use Rattle.std.specs.Prelude.{◌≡◌, ℕ, ◌+◌, ◌≤◌, List, length, Option, Result, Ok, Err}
use Rattle.std.specs.Io.KnownBytes.{Consumes, IsAtEnd}
use Rattle.strip_value.specs.declared.pieces.Piece.{Piece}
use Rattle.strip_value.specs.Pieces.{pieces}
use Rattle.strip_outside.specs.Faults.{Rose}
use Rattle.strip_lines.specs.declared.errors.ReadError.{ReadError}
use Rattle.strip_lines.specs.declared.errors.ReadError.TheVariants.{Fault, TooMuch, Memory}

-- by cases: the pieces of the bytes given, all of them, where the source is at its end within the limit
abbrev pub GivesAll : ℕ → List ℕ → Option (List ℕ) → ℕ → ℕ → Result (List Piece) ReadError → Type 0
GivesAll limit given left before now (Ok list) = (list ≡ pieces given) × (length given ≤ limit) × IsAtEnd left × (now ≡ before)
GivesAll limit given left before now (Err Fault) = (length given ≤ limit) × Rose before now
GivesAll limit given left before now (Err (TooMuch most)) = (most ≡ limit) × (length given ≡ limit + 1) × (now ≡ before)
GivesAll limit given left before now (Err Memory) = (length given ≤ limit) × (now ≡ before)

-- the bytes that the source gave, and what was made of them
pub record ReadsAll (limit : ℕ) (left_before left_now : Option (List ℕ)) (before now : ℕ) (result : Result (List Piece) ReadError) : Type 0 where
  pub given : List ℕ
  pub consumed : Consumes left_before left_now given
  pub never_falls : before ≤ now
  pub answer : GivesAll limit given left_now before now result
