-- A history, oldest entry first, and the entries of one caller in it.
use Rattle.std.specs.Prelude.{◌≡◌, ℕ, ◌+◌, List, [], ◌∷◌, ◌++◌, length, ◌==◌, nat_lt, if◌then◌else◌}

module _ {E : Type 0} where
  -- the history begins with what was seen
  abbrev pub StartsWith : List E → List E → Type 0
  StartsWith history seen = (rest : List E) × (history ≡ seen ++ rest)

  -- of two histories, of which one begins the other, the longer
  abbrev pub longer : List E → List E → List E
  longer xs ys = if nat_lt (length xs) (length ys) then ys else xs

  -- and the shorter
  abbrev pub shorter : List E → List E → List E
  shorter xs ys = if nat_lt (length xs) (length ys) then xs else ys

  -- each entry with its place, from the place `at` on
  abbrev pub numbered : ℕ → List E → List (ℕ × E)
  numbered at [] = []
  numbered at (e ∷ es) = (at, e) ∷ numbered (at + 1) es

  -- the entries of the caller c, each with its place, where the first entry has the place `at`
  abbrev pub entries_from : (E → ℕ) → ℕ → ℕ → List E → List (ℕ × E)
  entries_from caller c at [] = []
  entries_from caller c at (e ∷ es) = if caller e == c then (at, e) ∷ entries_from caller c (at + 1) es else entries_from caller c (at + 1) es

  -- the entries of the caller c in a history, each with its place
  abbrev pub entries_of : (E → ℕ) → ℕ → List E → List (ℕ × E)
  entries_of caller c history = entries_from caller c 0 history

  -- the entry stands at this place of the history
  abbrev pub StandsAt : List E → ℕ → E → Type 0
  StandsAt history place entry = (before : List E) × StartsWith history (before ++ entry ∷ []) × (place ≡ length before)
