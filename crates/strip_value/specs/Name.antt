-- What a name is, and what `Name::of` answers.
use Rattle.std.specs.Prelude.{◌≡◌, ℕ, Bool, not, ◌&&◌, ◌||◌, ◌==◌, nat_le, nat_lt, List, length, slice_index, IsTrue, ◌≢◌, true, Result, Ok, Err}
use Rattle.std.specs.List.{list_all}
use Rattle.strip_value.specs.declared.errors.NameError.{NameError}
use Rattle.strip_value.specs.declared.errors.NameError.TheVariants.{BadName, Memory}

-- `0` to `9`
abbrev pub is_digit : ℕ → Bool
is_digit b = nat_le 48 b && nat_le b 57

-- `a` to `z`, `0` to `9` or `_`
abbrev pub is_word_byte : ℕ → Bool
is_word_byte b = (nat_le 97 b && nat_le b 122) || is_digit b || b == 95

-- 1 to 40 bytes of words, the first no digit
abbrev pub is_name : List ℕ → Bool
is_name bytes = nat_lt 0 (length bytes) && nat_le (length bytes) 40 && list_all is_word_byte bytes && not (is_digit (slice_index bytes 0))

-- the name of these bytes, or that they are none
abbrev pub IsNameOf : List ℕ → Result (List ℕ) NameError → Type 0
IsNameOf bytes (Ok name) = (name ≡ bytes) × IsTrue (is_name bytes)
IsNameOf bytes (Err BadName) = is_name bytes ≢ true
IsNameOf bytes (Err Memory) = Unit {0}
