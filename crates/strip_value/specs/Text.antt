-- What a text is, and what `Text::of` answers.
use Rattle.std.specs.Prelude.{◌≡◌, ℕ, ◌<◌, ◌≤◌, List, length, Result, Ok, Err}
use Rattle.std.specs.Str.{IsUtf8, IsValidUpTo}
use Rattle.strip_value.specs.declared.errors.TextError.{TextError}
use Rattle.strip_value.specs.declared.errors.TextError.TheVariants.{NotUtf8, TooLong, Memory}

-- UTF-8 of at most 255 bytes
abbrev pub IsText : List ℕ → Type 0
IsText bytes = IsUtf8 bytes × (length bytes ≤ 255)

-- the text of these bytes, or why they are none
abbrev pub IsTextOf : List ℕ → Result (List ℕ) TextError → Type 0
IsTextOf bytes (Ok text) = (text ≡ bytes) × IsText bytes
IsTextOf bytes (Err (NotUtf8 at)) = IsValidUpTo bytes at
IsTextOf bytes (Err (TooLong len)) = IsUtf8 bytes × (len ≡ length bytes) × (255 < length bytes)
IsTextOf bytes (Err Memory) = Unit {0}
