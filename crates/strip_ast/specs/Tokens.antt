-- How bytes are cut into tokens, and at which byte none can be cut.
use Rattle.std.specs.Prelude.{◌≡◌, ℕ, zero, suc, ◌<◌, ◌≤◌, ◌+◌, ◌-◌, ◌*◌, Bool, true, false, not, ◌&&◌, ◌||◌, ◌==◌, nat_le, nat_lt, slice_index, List, [], ◌∷◌, ◌++◌, length, take, Option, Some, None, Result, Ok, Err, is_some, if◌then◌else◌}
use Rattle.std.specs.List.{list_all, list_any, prefix_len}
use Rattle.std.specs.Str.{is_utf8}
use Rattle.std.specs.declared.alloc.Global.{Global}
use Rattle.std.specs.declared.vec.Vec.{Vec}
use Rattle.strip_value.specs.Name.{is_digit, is_word_byte}
use Rattle.strip_value.specs.Pieces.{is_blank}
use Rattle.strip_ast.specs.declared.marks.Mark.{Mark as OneMark}
use Rattle.strip_ast.specs.declared.faults.Why.{Why}
use Rattle.strip_ast.specs.declared.faults.Why.TheVariants.{NoToken, TooLong}
use Rattle.strip_ast.specs.declared.faults.ParseError.{ParseError}
use Rattle.strip_ast.specs.declared.faults.ParseFail.{ParseFail}
use Rattle.strip_ast.specs.declared.faults.ParseFail.TheVariants.{Fault, Memory}
use Rattle.strip_ast.specs.declared.token_types.Token.{Token}
use Rattle.strip_ast.specs.declared.token_types.Token.TheVariants.{Mark, Name, Number, Text}
use Rattle.strip_ast.specs.declared.token_types.Placed.{Placed}
use Rattle.strip_ast.specs.declared.cutting.CutFail.{CutFail}
use Rattle.strip_ast.specs.declared.cutting.CutFail.TheVariants as fail
use Rattle.strip_ast.specs.Marks.{keyword_of, symbol_of, mark_text}

-- `a` to `z` or `_`
abbrev pub begins_word : ℕ → Bool
begins_word c = is_word_byte c && not (is_digit c)

-- one or more bytes of words, the first no digit
abbrev pub is_word : List ℕ → Bool
is_word bytes = nat_lt 0 (length bytes) && list_all is_word_byte bytes && not (is_digit (slice_index bytes 0))

-- a word that is no keyword and has at most 32 bytes
abbrev pub is_grammar_name : List ℕ → Bool
is_grammar_name word = is_word word && nat_le (length word) 32 && not (is_some (keyword_of word))

-- a word is a keyword, or a name
abbrev pub keyword_or_name : Option OneMark → List ℕ → Result Token Why
keyword_or_name (Some mark) word = Ok (Mark mark)
keyword_or_name None word = if nat_le (length word) 32 then Ok (Name word) else Err TooLong

abbrev pub word_token : List ℕ → Result Token Why
word_token word = keyword_or_name (keyword_of word) word

-- the number that digits write, behind digits whose number is known
abbrev pub number_from : ℕ → List ℕ → ℕ
number_from n [] = n
number_from n (d ∷ ds) = number_from (n * 10 + (d - 48)) ds

abbrev pub number_token : List ℕ → Result Token Why
number_token digits = if nat_le (length digits) 38 then Ok (Number (number_from 0 digits)) else Err TooLong

-- what stands between the quotes, each doubled one once
abbrev pub text_token : List ℕ → Result Token Why
text_token value =
    if list_any (λ c. c == 10) value || not (is_utf8 value) then Err NoToken else (if nat_le (length value) 255 then Ok (Text value) else Err TooLong)

-- whether a quote is pending after a byte, which is a quote or not
abbrev pub pending_after : Bool → Bool → Bool
pending_after pending quote = quote && not pending

-- the value and the length of a text that goes on with this byte
abbrev pub text_with : Bool → Bool → ℕ → Option (List ℕ × ℕ) → Option (List ℕ × ℕ)
text_with true false c rest = Some ([], 0)
text_with false true c None = None
text_with false true c (Some (value, len)) = Some (value, len + 1)
text_with _ _ c None = None
text_with _ _ c (Some (value, len)) = Some (c ∷ value, len + 1)

-- the value of a text, and how many bytes it has from here on; `pending` says that a quote came just before,
-- which ends the text unless another follows; nothing where the text isn't closed
abbrev pub text_from : Bool → List ℕ → Option (List ℕ × ℕ)
text_from false [] = None
text_from true [] = Some ([], 0)
text_from pending (c ∷ cs) = text_with pending (c == 39) c (text_from (pending_after pending (c == 39)) cs)

-- what was read of a text before the rest of it
abbrev pub text_behind : List ℕ → ℕ → Option (List ℕ × ℕ) → Option (List ℕ × ℕ)
text_behind value len None = None
text_behind value len (Some (more, count)) = Some (value ++ more, len + count)

-- what bytes begin with: a blank, a token and its length, or why no token can be cut from them
pub data Start : Type 0 where
  blank : Start
  cut : Token → ℕ → Start
  refused : Why → Start

abbrev pub sized : ℕ → Result Token Why → Start
sized len (Ok token) = cut token len
sized len (Err why) = refused why

abbrev pub text_start : Option (List ℕ × ℕ) → Start
text_start None = refused NoToken
text_start (Some (value, len)) = sized (len + 1) (text_token value)

abbrev pub symbol_start : Option OneMark → Start
symbol_start None = refused NoToken
symbol_start (Some mark) = cut (Mark mark) (length (mark_text mark))

abbrev pub run_start : ℕ → List ℕ → (List ℕ → Result Token Why) → Start
run_start len bytes token_of = sized len (token_of (take len bytes))

abbrev pub begins_with : (ℕ → Bool) → List ℕ → Bool
begins_with p [] = false
begins_with p (c ∷ cs) = p c

-- what stands at the front of bytes that begin with no blank
unfoldable pub token_at : List ℕ → Start
token_at [] = refused NoToken
token_at (c ∷ cs) =
    if begins_word c then run_start (prefix_len is_word_byte (c ∷ cs)) (c ∷ cs) word_token else (if is_digit c then run_start (prefix_len is_digit (c ∷ cs)) (c ∷ cs) number_token else (if c == 39 then text_start (text_from false cs) else symbol_start (symbol_of (c ∷ cs))))

-- what the bytes begin with
abbrev pub front : List ℕ → Start
front bytes = if begins_with is_blank bytes then blank else token_at bytes

-- how many bytes behind the first one belong to the token
abbrev pub skipped : Start → ℕ
skipped (cut token len) = len - 1
skipped _ = 0

-- a token before those that follow
abbrev pub with_token : ℕ → Token → Result (List Placed) ParseError → Result (List Placed) ParseError
with_token at token (Ok rest) = Ok (record { at = at; token = token } ∷ rest)
with_token at token (Err fault) = Err fault

abbrev pub with_start : ℕ → Start → Result (List Placed) ParseError → Result (List Placed) ParseError
with_start at blank rest = rest
with_start at (cut token len) rest = with_token at token rest
with_start at (refused why) rest = Err (record { at = at; why = why })

-- the tokens of bytes that begin at a place, `skip` of them being the rest of a token; or the first fault
abbrev pub tokens_from : ℕ → ℕ → List ℕ → Result (List Placed) ParseError
tokens_from skip at [] = Ok []
tokens_from zero at (c ∷ cs) = with_start at (front (c ∷ cs)) (tokens_from (skipped (front (c ∷ cs))) (at + 1) cs)
tokens_from (suc skip) at (c ∷ cs) = tokens_from skip (at + 1) cs

-- all tokens of the bytes, each with the place where it begins; or the first fault
unfoldable pub tokens_of : List ℕ → Result (List Placed) ParseError
tokens_of bytes = tokens_from 0 0 bytes

-- what `tokens` answers
abbrev pub AreTokensOf : List ℕ → Result (List Placed) ParseFail → Type 0
AreTokensOf bytes (Ok found) = tokens_of bytes ≡ Ok found
AreTokensOf bytes (Err (Fault fault)) = tokens_of bytes ≡ Err fault
AreTokensOf bytes (Err Memory) = Unit {0}

-- what the making of a token of known bytes answers
abbrev pub IsTokenOf : Result Token Why → Result Token CutFail → Type 0
IsTokenOf wanted (Ok token) = wanted ≡ Ok token
IsTokenOf wanted (Err (fail.Refused why)) = wanted ≡ Err why
IsTokenOf wanted (Err fail.Memory) = Unit {0}

-- the value of a text is held in a vector
abbrev pub IsText : Option (List ℕ × ℕ) → Option (Vec ℕ Global × ℕ) → Type 0
IsText wanted None = wanted ≡ None
IsText wanted (Some (value, len)) = wanted ≡ Some (value.items, len)

-- the text has no more bytes than there are
abbrev pub IsWithin : Option (Vec ℕ Global × ℕ) → ℕ → Type 0
IsWithin None bound = Unit {0}
IsWithin (Some (value, len)) bound = len ≤ bound

-- what the cutting of one token answers
abbrev pub IsCut : Start → Result (Token × ℕ) CutFail → Type 0
IsCut start (Ok (token, len)) = start ≡ cut token len
IsCut start (Err (fail.Refused why)) = start ≡ refused why
IsCut start (Err fail.Memory) = Unit {0}

-- a token has at least one byte, and no more than there are
abbrev pub HasSize : List ℕ → ℕ → Type 0
HasSize bytes len = (0 < len) × (len ≤ length bytes)

abbrev pub placed_at : ℕ → Token → Placed
placed_at at token = record { at = at; token = token }

-- what was found before what follows
abbrev pub behind_found : List Placed → Result (List Placed) ParseError → Result (List Placed) ParseError
behind_found found (Ok rest) = Ok (found ++ rest)
behind_found found (Err fault) = Err fault
