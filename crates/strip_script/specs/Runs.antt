-- What a run of a script answers and writes, by the bytes that the source gave in it.
use Rattle.std.specs.Prelude.{◌≡◌, ℕ, ◌≤◌, List, [], ◌∷◌, ◌++◌, ◌⊎◌, length, Option, Result, Ok, Err}
use Rattle.std.specs.Io.KnownBytes.{Consumes, Appends, IsAtEnd}
use Rattle.strip_value.specs.declared.pieces.Piece.{Piece}
use Rattle.strip_value.specs.Pieces.{pieces}
use Rattle.strip_lines.specs.declared.errors.ReadError.{ReadError}
use Rattle.strip_lines.specs.declared.errors.ReadError.TheVariants.{Fault}
use Rattle.strip_lines.specs.declared.errors.ReadError.TheVariants as read
use Rattle.strip_lines.specs.Reading.{whole_statements}
use Rattle.strip_outside.specs.Faults.{Rose}
use Rattle.strip_script.specs.declared.run.Ended.{Ended}
use Rattle.strip_script.specs.declared.run.RunError.{RunError}
use Rattle.strip_script.specs.declared.run.RunError.TheVariants.{Write, Read, TooMuch, Memory}
use Rattle.strip_script.specs.Script.{opening, replies, answer, is_refused}

-- these are first pieces of the bytes given: of those that a `;` has ended, or all where the source is at its end
pub record AreFirst (answered : List Piece) (given : List ℕ) (left : Option (List ℕ)) : Type 0 where
  pub others : List Piece
  pub among : (whole_statements given ≡ answered ++ others) ⊎ ((pieces given ≡ answered ++ others) × IsAtEnd left)

-- the source was read to its end within the limit, the answer to its bytes was written, and `refused` says whether a
-- reply refuses
pub record RanToEnd (most limit : ℕ) (given wrote : List ℕ) (left : Option (List ℕ)) (ended : Ended) : Type 0 where
  pub answered : wrote ≡ answer most given
  pub refused : ended.refused ≡ is_refused most given
  pub at_end : IsAtEnd left
  pub within : length given ≤ limit

-- a read failed: just the replies to the pieces that ended among the bytes given were written
pub record ReadFailed (most limit : ℕ) (given wrote : List ℕ) : Type 0 where
  pub answered : wrote ≡ replies (opening most) (whole_statements given)
  pub within : length given ≤ limit

-- the source gave a byte past the limit: just the replies to the pieces that ended within it were written
pub record GaveTooMuch (most limit : ℕ) (given wrote : List ℕ) : Type 0 where
  pub bytes : List ℕ
  pub past : ℕ
  pub split : given ≡ bytes ++ past ∷ []
  pub full : length bytes ≡ limit
  pub answered : wrote ≡ replies (opening most) (whole_statements bytes)

-- memory was wanting: the replies to some first pieces were written whole
pub record LackedMemory (most limit : ℕ) (given wrote : List ℕ) (left : Option (List ℕ)) : Type 0 where
  pub pieces : List Piece
  pub first : AreFirst pieces given left
  pub answered : wrote ≡ replies (opening most) pieces
  pub within : length given ≤ limit

-- a write failed: a beginning of the replies to some first pieces was written
pub record WriteFailed (most limit : ℕ) (given wrote : List ℕ) (left : Option (List ℕ)) : Type 0 where
  pub pieces : List Piece
  pub unwritten : List ℕ
  pub first : AreFirst pieces given left
  pub begun : replies (opening most) pieces ≡ wrote ++ unwritten
  pub within : length given ≤ limit

-- what a run was given and wrote, by its result
abbrev pub Told : ℕ → ℕ → List ℕ → List ℕ → Option (List ℕ) → Result Ended RunError → Type 0
Told most limit given wrote left (Ok ended) = RanToEnd most limit given wrote left ended
Told most limit given wrote left (Err Read) = ReadFailed most limit given wrote
Told most limit given wrote left (Err Write) = WriteFailed most limit given wrote left
Told most limit given wrote left (Err (TooMuch passed)) = (passed ≡ limit) × GaveTooMuch most limit given wrote
Told most limit given wrote left (Err Memory) = LackedMemory most limit given wrote left

-- a run where rules may bind so many rows: all the bytes that the source gave in it, and all that were written
pub record Runs (most limit : ℕ) (left_before left_now written_before written_now : Option (List ℕ)) (result : Result Ended RunError) : Type 0 where
  pub given : List ℕ
  pub wrote : List ℕ
  pub consumed : Consumes left_before left_now given
  pub appended : Appends written_before written_now wrote
  pub told : Told most limit given wrote left_now result

-- the count of faults of the source rises at a failed read, and stays where none failed; that of the sink rises at a failed write, and
-- nothing is said of it elsewhere
abbrev pub Counts : ℕ → ℕ → ℕ → ℕ → Result Ended RunError → Type 0
Counts in_before in_now out_before out_now (Ok ended) = in_now ≡ in_before
Counts in_before in_now out_before out_now (Err Read) = Rose in_before in_now
Counts in_before in_now out_before out_now (Err Write) = (in_now ≡ in_before) × Rose out_before out_now
Counts in_before in_now out_before out_now (Err (TooMuch passed)) = in_now ≡ in_before
Counts in_before in_now out_before out_now (Err Memory) = in_now ≡ in_before

-- an error of reading, as an error of the run
abbrev pub run_error : ReadError → RunError
run_error Fault = Read
run_error (read.TooMuch passed) = TooMuch passed
run_error read.Memory = Memory
