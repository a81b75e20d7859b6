-- The status with which the program ends, and what it says of the input and the output.
use Rattle.std.specs.Prelude.{◌≡◌, ℕ, ◌^◌, ◌==◌, Bool, false, if◌then◌else◌, nat_lt, List, [], ◌∷◌, codes, String, string_bytes, length, Option, Result, Ok, Err}
use Rattle.std.specs.Str.{bytes_eq}
use Rattle.std.specs.declared.alloc.Global.{Global}
use Rattle.strip_script.specs.declared.run.Ended.{Ended}
use Rattle.strip_script.specs.declared.run.RunError.{RunError}
use Rattle.strip_script.specs.declared.run.RunError.TheVariants.{Write, Read, TooMuch, Memory}
use Rattle.strip_script.specs.Runs.{Runs, Counts}

-- the most bytes of a source
abbrev pub most_bytes : ℕ
most_bytes = 134217728

-- the most rows that rules may bind
abbrev pub most_bound : ℕ
most_bound = 2 ^ 60

-- the words are `script` alone
abbrev pub asks_script : List (String Global) → Bool
asks_script [] = false
asks_script (word ∷ []) = bytes_eq (string_bytes word) (codes "script")
asks_script (word ∷ other ∷ others) = false

-- the status of a run
abbrev pub status_of : Result Ended RunError → ℕ
status_of (Ok ended) = if ended.refused then 1 else 0
status_of (Err Read) = 3
status_of (Err Write) = 4
status_of (Err Memory) = 5
status_of (Err (TooMuch most)) = 7

-- a script was run, and this is its status: 7 exactly where the source gave more bytes than a source may have
pub record RanScript (left_before left_now : Option (List ℕ)) (in_before in_now : ℕ) (written_before written_now : Option (List ℕ)) (out_before out_now : ℕ) (status : ℕ) : Type 0 where
  pub result : Result Ended RunError
  pub run : Runs most_bound most_bytes left_before left_now written_before written_now result
  pub counts : Counts in_before in_now out_before out_now result
  pub is : status ≡ status_of result
  pub past_limit : (status == 7) ≡ nat_lt most_bytes (length run.given)
