-- What a call does to a count of faults.
use Rattle.std.specs.Prelude.{◌≡◌, ℕ, ◌+◌, ◌-◌, ◌^◌, ◌<◌, ◌≤◌, min, List, length, Result, Ok, Err}
use Rattle.strip_outside.specs.declared.faults.OpenError.{OpenError}
use Rattle.strip_outside.specs.declared.faults.OpenError.TheVariants.{Fault, Memory}

-- a count raised by one: at the greatest u64 it stands still
abbrev pub raised : ℕ → ℕ
raised count = min (count + 1) (2 ^ 64 - 1)

-- a count rose: a count that stands still at the greatest u64 counts as risen
abbrev pub Rose : ℕ → ℕ → Type 0
Rose before now = raised before ≤ now

-- a call that answered its one error where the count rose, and else left the count as it was
abbrev pub CountsFault : {A E : Type 0} → ℕ → ℕ → Result A E → Type 0
CountsFault before now (Ok answer) = now ≡ before
CountsFault before now (Err fault) = Rose before now

-- a write is a fault only where the count of its sink rose; to take nothing of a piece with bytes is a fault too
abbrev pub CountsWrite : {E : Type 0} → ℕ → ℕ → List ℕ → Result ℕ E → Type 0
CountsWrite before now piece (Ok n) = n ≡ 0 → 0 < length piece → Rose before now
CountsWrite before now piece (Err fault) = Rose before now

-- an opening is a fault only where the count of the files rose
abbrev pub CountsOpening : {A : Type 0} → ℕ → ℕ → Result A OpenError → Type 0
CountsOpening before now (Ok feed) = Unit {0}
CountsOpening before now (Err Fault) = Rose before now
CountsOpening before now (Err Memory) = Unit {0}

-- taking a feed back with faults raises the count of the files
abbrev pub CountsFeed : ℕ → ℕ → ℕ → Type 0
CountsFeed before now feed_faults = 0 < feed_faults → Rose before now
