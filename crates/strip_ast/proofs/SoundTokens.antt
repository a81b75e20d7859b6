-- What is in tokens that bytes are cut into: names of the grammar, numbers of at most 38 digits, and texts.
use Rattle.std.proofs.Common.{◌≡◌, ℕ, zero, suc, ◌+◌, ◌-◌, ◌*◌, ◌<◌, ◌≤◌, ◌^◌, ◌==◌, ◌||◌, ◌&&◌, nat_le, not, Bool, true, false, List, [], ◌∷◌, length, take, Option, Some, None, Result, Ok, Err, if◌then◌else◌, lit<, leb-true, pow-suc, add-zero, arith, refl, subst}
use Rattle.std.specs.List.{AllByRecursion, list_all, list_any, prefix_len}
use Rattle.std.specs.Str.{is_utf8}
use Rattle.strip_value.specs.Name.{is_digit, is_word_byte}
use Rattle.strip_value.specs.Pieces.{is_blank}
use Rattle.strip_ast.specs.declared.faults.Why.{Why}
use Rattle.strip_ast.specs.declared.faults.Why.TheVariants.{NoToken, TooLong}
use Rattle.strip_ast.specs.declared.faults.ParseError.{ParseError}
use Rattle.strip_ast.specs.declared.marks.Mark.{Mark}
use Rattle.strip_ast.specs.declared.token_types.Token.{Token}
use Rattle.strip_ast.specs.declared.token_types.Token.TheVariants as token
use Rattle.strip_ast.specs.declared.token_types.Placed.{Placed}
use Rattle.strip_ast.specs.Marks.{keyword_of, symbol_of}
use Rattle.strip_ast.specs.Tokens.{Start, cut, refused, blank, sized, text_start, symbol_start, run_start, token_at, front, skipped, with_start, tokens_from, tokens_of, begins_word, is_word, is_grammar_name, keyword_or_name, word_token, number_from, number_token, text_token, text_from}
use Rattle.strip_ast.proofs.CutLemmas.{both_true, word_run, digit_run, power_room}

-- what is in a token that bytes can be cut into
abbrev pub SoundToken : Token → Type 0
SoundToken (token.Mark a) = Unit {0}
SoundToken (token.Name a) = is_grammar_name a ≡ true
SoundToken (token.Number n) = n < 10 ^ 38
SoundToken (token.Text t) = text_token t ≡ Ok (token.Text t)

-- a token at its place that bytes can be cut into
abbrev pub sound_placed : Placed → Type 0
sound_placed p = SoundToken p.token

-- tokens that bytes can be cut into
abbrev pub SoundTokens : List Placed → Type 0
SoundTokens ts = AllByRecursion sound_placed ts

-- ---- what was cut is sound

-- what a start holds is sound
abbrev SoundStart : Start → Type 0
SoundStart (cut a len) = SoundToken a
SoundStart _ = Unit {0}

-- what an answer holds is sound
abbrev SoundAnswer : Result Token Why → Type 0
SoundAnswer (Ok a) = SoundToken a
SoundAnswer (Err why) = Unit {0}

sized_sound : (len : ℕ) (answer : Result Token Why) → SoundAnswer answer → SoundStart (sized len answer)
sized_sound len (Ok a) sound = sound
sized_sound len (Err why) sound = tt

name_sound : (word : List ℕ) (short : Bool) → is_word word ≡ true → keyword_of word ≡ None → nat_le (length word) 32 ≡ short → SoundAnswer (if short then Ok (token.Name word) else Err TooLong)
name_sound word true is none short = rw (is, short, none) refl
name_sound word false is none short = tt

word_sound : (word : List ℕ) (keyword : Option Mark) → is_word word ≡ true → keyword_of word ≡ keyword → SoundAnswer (keyword_or_name keyword word)
word_sound word (Some a) is found = tt
word_sound word None is found = name_sound word (nat_le (length word) 32) is found refl

-- one digit more
digit_below : (n d i : ℕ) → n < 10 ^ i → is_digit d ≡ true → n * 10 + (d - 48) < 10 ^ suc i
digit_below n d i below is =
    let bounds = both_true (nat_le 48 d) (nat_le d 57) is in
    let high : d ≤ 57 = leb-true _ _ bounds.1 in
    omega (arith, pow-suc 10 i)

number_below : (n i : ℕ) (ds : List ℕ) → n < 10 ^ i → list_all is_digit ds ≡ true → number_from n ds < 10 ^ (i + length ds)
number_below n i [] below is = rw add-zero below
number_below n i (d ∷ ds) below is =
    let parts = both_true (is_digit d) (list_all is_digit ds) is in
    let place : i + suc (length ds) ≡ suc i + length ds = omega arith in
    rw place (number_below (n * 10 + (d - 48)) (suc i) ds (digit_below n d i below parts.0) parts.1)

number_sound : (digits : List ℕ) (short : Bool) → list_all is_digit digits ≡ true → nat_le (length digits) 38 ≡ short → SoundAnswer (if short then Ok (token.Number (number_from 0 digits)) else Err TooLong)
number_sound digits true is short =
    let start : 0 < 10 ^ 0 = lit< tt in
    let place : 0 + length digits ≡ length digits = omega arith in
    let below : number_from 0 digits < 10 ^ length digits = rw place at (number_below 0 0 digits start is) in
    power_room (number_from 0 digits) (length digits) below (leb-true _ _ short)
number_sound digits false is short = tt

value_sound : (value : List ℕ) (bad short : Bool) → (list_any (λ c. c == 10) value || not (is_utf8 value)) ≡ bad → nat_le (length value) 255 ≡ short → SoundAnswer (if bad then Err NoToken else (if short then Ok (token.Text value) else Err TooLong))
value_sound value true short is fits = tt
value_sound value false true is fits = rw (is, fits) refl
value_sound value false false is fits = tt

text_sound : (found : Option (List ℕ × ℕ)) → SoundStart (text_start found)
text_sound None = tt
text_sound (Some (value, len)) = sized_sound (len + 1) (text_token value) (value_sound value (list_any (λ c. c == 10) value || not (is_utf8 value)) (nat_le (length value) 255) refl refl)

symbol_sound : (found : Option Mark) → SoundStart (symbol_start found)
symbol_sound None = tt
symbol_sound (Some a) = tt

byte_sound : (c : ℕ) (cs : List ℕ) (word digit quote : Bool) → begins_word c ≡ word → SoundStart (if word then run_start (prefix_len is_word_byte (c ∷ cs)) (c ∷ cs) word_token else (if digit then run_start (prefix_len is_digit (c ∷ cs)) (c ∷ cs) number_token else (if quote then text_start (text_from false cs) else symbol_start (symbol_of (c ∷ cs)))))
byte_sound c cs true digit quote is =
    let word = take (prefix_len is_word_byte (c ∷ cs)) (c ∷ cs) in
    sized_sound (prefix_len is_word_byte (c ∷ cs)) (word_token word) (word_sound word (keyword_of word) (word_run (c ∷ cs) is) refl)
byte_sound c cs false true quote is =
    let digits = take (prefix_len is_digit (c ∷ cs)) (c ∷ cs) in
    sized_sound (prefix_len is_digit (c ∷ cs)) (number_token digits) (number_sound digits (nat_le (length digits) 38) (digit_run (c ∷ cs)) refl)
byte_sound c cs false false true is = text_sound (text_from false cs)
byte_sound c cs false false false is = symbol_sound (symbol_of (c ∷ cs))

token_at_sound : (bytes : List ℕ) → SoundStart (token_at bytes)
unfolding token_at
token_at_sound [] = tt
token_at_sound (c ∷ cs) = byte_sound c cs (begins_word c) (is_digit c) (c == 39) refl

front_sound : (bytes : List ℕ) (gap : Bool) → SoundStart (if gap then blank else token_at bytes)
front_sound bytes true = tt
front_sound bytes false = token_at_sound bytes

-- a start before what follows
start_sound : (at : ℕ) (s : Start) (rest : Result (List Placed) ParseError) (ts : List Placed) → SoundStart s → ((us : List Placed) → rest ≡ Ok us → SoundTokens us) → with_start at s rest ≡ Ok ts → SoundTokens ts
start_sound at blank rest ts sound more is = more ts is
start_sound at (cut a len) (Ok us) ts sound more is =
    let same : record { at = at; token = a } ∷ us ≡ ts = cc in
    subst SoundTokens same (sound, more us refl)
start_sound at (cut a len) (Err fault) ts sound more is = cc
start_sound at (refused why) rest ts sound more is = cc

sound_from : (skip at : ℕ) (bytes : List ℕ) (ts : List Placed) → tokens_from skip at bytes ≡ Ok ts → SoundTokens ts
sound_from skip at [] [] is = tt
sound_from skip at [] (t ∷ ts) is = cc
sound_from zero at (c ∷ cs) ts is = start_sound at (front (c ∷ cs)) (tokens_from (skipped (front (c ∷ cs))) (at + 1) cs) ts (front_sound (c ∷ cs) (is_blank c)) (sound_from (skipped (front (c ∷ cs))) (at + 1) cs) is
sound_from (suc skip) at (c ∷ cs) ts is = sound_from skip (at + 1) cs ts is

-- whatever bytes are cut: the tokens are sound
pub tokens_sound : (bytes : List ℕ) (ts : List Placed) → tokens_of bytes ≡ Ok ts → SoundTokens ts
unfolding tokens_of
tokens_sound bytes ts is = sound_from 0 0 bytes ts is
