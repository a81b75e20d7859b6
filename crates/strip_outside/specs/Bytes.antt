-- What a call does to the bytes that a source has left and a sink has written, where these are told.
-- `Consumes before now given`: the bytes left begin with `given` and lose them.
-- `Appends before now taken`: the bytes written grow by `taken`.
-- Both, and `IsAtEnd`, say nothing where nothing is told.
use Rattle.std.specs.Prelude.{◌≡◌, ℕ, ◌<◌, List, ◌++◌, length, take, Option, Result, Ok, Err}
use Rattle.std.specs.Io.KnownBytes.{Consumes, Appends, IsAtEnd}

-- a read that gave n bytes moved them from what is left to the beginning of the room; one that gave none to a room
-- that isn't empty is the end
pub record Gave (before now : Option (List ℕ)) (room : List ℕ) (n : ℕ) : Type 0 where
  pub moved : Consumes before now (take n room)
  pub ended : n ≡ 0 → 0 < length room → IsAtEnd now

-- what a read does to the bytes that are left; a fault leaves them as they were
abbrev pub Reads : {E : Type 0} → Option (List ℕ) → Option (List ℕ) → List ℕ → Result ℕ E → Type 0
Reads before now room (Ok n) = Gave before now room n
Reads before now room (Err fault) = now ≡ before

-- what a write does to the bytes that are written: it appends those that it took; a fault leaves them as they were
abbrev pub Writes : {E : Type 0} → Option (List ℕ) → Option (List ℕ) → List ℕ → Result ℕ E → Type 0
Writes before now piece (Ok n) = Appends before now (take n piece)
Writes before now piece (Err fault) = now ≡ before

-- what several writes of one piece do: all of it is appended, or at a fault some first bytes of it
abbrev pub WritesAll : {E : Type 0} → Option (List ℕ) → Option (List ℕ) → List ℕ → Result Unit E → Type 0
WritesAll before now piece (Ok done) = Appends before now piece
WritesAll before now piece (Err fault) =
    (wrote : List ℕ) × ((rest : List ℕ) × Appends before now wrote × (piece ≡ wrote ++ rest))
