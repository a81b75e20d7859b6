-- The text of values and rows.
use Rattle.std.specs.Prelude.{ℕ, List, [], ◌∷◌, ◌++◌, ◌==◌, if◌then◌else◌, codes}
use Rattle.std.specs.Fmt.{signed_decimal}
use Rattle.strip_value.specs.declared.values.Value.{Value}
use Rattle.strip_value.specs.declared.values.Value.TheVariants.{Int, Text}

-- the bytes, each quote twice
abbrev pub doubled : List ℕ → List ℕ
doubled [] = []
doubled (c ∷ cs) = (if c == 39 then 39 ∷ 39 ∷ [] else c ∷ []) ++ doubled cs

-- the bytes between quotes, each quote among them twice
abbrev pub quoted : List ℕ → List ℕ
quoted bytes = codes "'" ++ doubled bytes ++ codes "'"

-- a number in decimal; a text between quotes
abbrev pub value_text : Value → List ℕ
value_text (Int n) = signed_decimal n
value_text (Text t) = quoted t

-- the values, each after a comma and a blank
abbrev pub following_text : List Value → List ℕ
following_text [] = []
following_text (v ∷ vs) = codes ", " ++ value_text v ++ following_text vs

-- the values with a comma and a blank between
abbrev pub values_text : List Value → List ℕ
values_text [] = []
values_text (v ∷ vs) = value_text v ++ following_text vs

-- a row as a tuple
unfoldable pub tuple_text : List Value → List ℕ
tuple_text row = codes "(" ++ values_text row ++ codes ")"
