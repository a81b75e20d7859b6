-- What a source and a sink in memory are, as contracts see them, and what a call of each answers.
use Rattle.std.specs.Prelude.{◌++◌, ◌&&◌, if◌then◌else◌, nat_lt, ◌≡◌, ◌==◌, ℕ, min, max, Bool, true, false, List, length, take, drop, Result, Ok, Err}
use Rattle.std.specs.List.{list_any}
use Rattle.strip_outside.specs.Faults.{raised}

-- the source: the bytes still to come, the reads that failed, the reads that were made, the most bytes that a read
-- gives, and the numbers of the reads that fail
pub record SourceState : Type 0 where
  pub left : List ℕ
  pub faults : ℕ
  pub calls : ℕ
  pub cut : ℕ
  pub failing : List ℕ

-- the sink: the bytes written, the writes that failed, the writes that were made, the most bytes that a write takes,
-- the numbers of the writes that fail, and of those that take nothing
pub record SinkState : Type 0 where
  pub written : List ℕ
  pub faults : ℕ
  pub calls : ℕ
  pub cut : ℕ
  pub failing : List ℕ
  pub still : List ℕ

-- the most bytes of one call: a cut of 0 counts as 1
abbrev pub most : ℕ → ℕ
most cut = max cut 1

-- whether a list of calls has this one
abbrev pub has_call : List ℕ → ℕ → Bool
has_call listed call = list_any (λ one. one == call) listed

-- what a read of a source in memory answers, and the source after it
abbrev pub MemoryRead : {E : Type 0} → SourceState → SourceState → ℕ → Result ℕ E → Type 0
MemoryRead old new room (Ok n) =
    (has_call old.failing (raised old.calls) ≡ false)
    × (n ≡ min (most old.cut) (min room (length old.left)))
    × (new ≡ record old { left = drop n old.left; calls = raised old.calls })
MemoryRead old new room (Err fault) =
    (has_call old.failing (raised old.calls) ≡ true)
    × (new ≡ record old { faults = raised old.faults; calls = raised old.calls })

-- how many bytes of a piece of this length the sink takes at its next write: none where that write is listed as still
abbrev pub takes : SinkState → ℕ → ℕ
takes sink len = if has_call sink.still (raised sink.calls) then 0 else min (most sink.cut) len

-- the count of faults after a write that took n bytes of a piece of this length: to take none of some is a fault
abbrev pub faults_after : ℕ → ℕ → ℕ → ℕ
faults_after faults len n = if (n == 0) && nat_lt 0 len then raised faults else faults

-- what a write to a sink in memory answers, and the sink after it; a fault may also come of want of memory
abbrev pub MemoryWrite : {E : Type 0} → SinkState → SinkState → List ℕ → Result ℕ E → Type 0
MemoryWrite old new piece (Ok n) =
    (has_call old.failing (raised old.calls) ≡ false)
    × (n ≡ takes old (length piece))
    × (new ≡ record old { written = old.written ++ take n piece; faults = faults_after old.faults (length piece) n; calls = raised old.calls })
MemoryWrite old new piece (Err fault) =
    new ≡ record old { faults = raised old.faults; calls = raised old.calls }
