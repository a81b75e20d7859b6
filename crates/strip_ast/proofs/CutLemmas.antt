-- What the cutting of tokens needs: powers of ten, and UTF-8 as a test.
use Rattle.std.proofs.Common.{◌≡◌, ℕ, zero, suc, ◌+◌, ◌-◌, ◌*◌, ◌^◌, ◌<◌, ◌≤◌, Bool, true, false, not, ◌&&◌, nat_lt, IsTrue, List, [], ◌∷◌, ◌++◌, length, take, drop, Result, Ok, Err, arith, refl, sym, ap, add-zero, append_assoc, length-drop, get_or, ◌∙◌}
use Rattle.std.proofs.Math.Nat.{pow-le-pow_right}
use Rattle.std.proofs.lemmas.Bool.Decides.{nat_tests}
use Rattle.std.proofs.lemmas.List.{take_all}
use Rattle.std.proofs.lemmas.Str.{IsUtf8-from_is_utf8, is_utf8-from_IsUtf8}
use Rattle.std.specs.Str.{is_utf8, IsValidUpTo}
use Rattle.strip_value.specs.Text.{IsText}
use Rattle.strip_value.specs.Pieces.{is_blank}
use Rattle.strip_ast.specs.declared.faults.Why.{Why}
use Rattle.strip_ast.specs.declared.faults.ParseError.{ParseError}
use Rattle.strip_ast.specs.declared.token_types.Token.{Token}
use Rattle.strip_ast.specs.declared.token_types.Placed.{Placed}
use Rattle.strip_ast.specs.Tokens.{tokens_from, token_at, begins_with, with_token, behind_found, placed_at, cut, refused, blank, front, is_word, begins_word, HasSize}
use Rattle.strip_value.specs.Name.{is_digit, is_word_byte}
use Rattle.std.specs.List.{list_all, prefix_len}

-- one more digit makes no number of more than 38 digits
pub digit_room : (n i len : ℕ) → n < 10 ^ i → i < len → len ≤ 38 → n * 10 + 9 < 10 ^ 38
digit_room n i len below within few =
    let positive : zero < 10 = omega arith in
    let few_more : i ≤ 37 = omega arith in
    let power : 10 ^ i ≤ 10 ^ 37 = pow-le-pow_right positive few_more in
    omega arith

pub utf8_yes : (bytes : List ℕ) → IsText bytes → is_utf8 bytes ≡ true
utf8_yes bytes text = is_utf8-from_IsUtf8 bytes text.0

pub utf8_no : (bytes : List ℕ) (at : ℕ) → IsValidUpTo bytes at → is_utf8 bytes ≡ false
utf8_no bytes at valid = by_test (is_utf8 bytes) refl
  where
    by_test : (b : Bool) → is_utf8 bytes ≡ b → b ≡ false
    by_test false e = refl
    by_test true e =
        let whole : take (length bytes) bytes ≡ bytes = take_all (length bytes) bytes (omega arith) in
        absurd (valid.longest (length bytes) valid.short (rw whole (IsUtf8-from_is_utf8 bytes e)))

-- no number of at most 38 digits is greater
pub power_room : (n i : ℕ) → n < 10 ^ i → i ≤ 38 → n < 10 ^ 38
power_room n i below few =
    let positive : zero < 10 = omega arith in
    let power : 10 ^ i ≤ 10 ^ 38 = pow-le-pow_right positive few in
    omega arith

-- the rest of a token is passed over
pub tokens_from_skip : (skip at : ℕ) (bytes : List ℕ) → tokens_from skip at bytes ≡ tokens_from 0 (at + skip) (drop skip bytes)
tokens_from_skip zero at bytes = rw add-zero refl
tokens_from_skip (suc skip) at [] = refl
tokens_from_skip (suc skip) at (c ∷ cs) =
    let place : at + suc skip ≡ (at + 1) + skip = omega arith in
    rw place (tokens_from_skip skip (at + 1) cs)

-- a token, and then what follows it
pub cut_step : (at : ℕ) (bytes : List ℕ) (token : Token) (len : ℕ) → 0 < len → len ≤ length bytes → begins_with is_blank bytes ≡ false → token_at bytes ≡ cut token len → tokens_from 0 at bytes ≡ with_token at token (tokens_from 0 (at + len) (drop len bytes))
cut_step at [] token len some within solid is = absurd (omega arith)
cut_step at (c ∷ cs) token zero some within solid is = absurd (omega arith)
cut_step at (c ∷ cs) token (suc len) some within solid is =
    let front_is : front (c ∷ cs) ≡ cut token (suc len) = rw solid is in
    let less : suc len - 1 ≡ len = omega arith in
    let place : (at + 1) + len ≡ at + suc len = omega arith in
    rw front_is (rw less (ap (with_token at token) (rw (← place) (tokens_from_skip len (at + 1) cs))))

pub blank_step : (at : ℕ) (c : ℕ) (cs : List ℕ) → is_blank c ≡ true → tokens_from 0 at (c ∷ cs) ≡ tokens_from 0 (at + 1) cs
blank_step at c cs is =
    let front_is : front (c ∷ cs) ≡ blank = rw is refl in
    rw front_is refl

pub refused_step : (at : ℕ) (bytes : List ℕ) (why : Why) → 0 < length bytes → begins_with is_blank bytes ≡ false → token_at bytes ≡ refused why → tokens_from 0 at bytes ≡ Err (record { at = at; why = why })
refused_step at [] why some solid is = absurd (omega arith)
refused_step at (c ∷ cs) why some solid is =
    let front_is : front (c ∷ cs) ≡ refused why = rw solid is in
    rw front_is refl

pub behind_found_token : (found : List Placed) (at : ℕ) (token : Token) (rest : Result (List Placed) ParseError) → behind_found found (with_token at token rest) ≡ behind_found (found ++ placed_at at token ∷ []) rest
behind_found_token found at token (Ok rest) = ap Ok (sym (append_assoc found (placed_at at token ∷ []) rest))
behind_found_token found at token (Err fault) = refl

pub ruleset cuts = (blank_step, cut_step, refused_step, behind_found_token)

run_passes_next : (p : ℕ → Bool) (c : ℕ) (cs : List ℕ) (b : Bool) → p c ≡ b → list_all p (take (prefix_len p cs) cs) ≡ true → list_all p (take (prefix_len p (c ∷ cs)) (c ∷ cs)) ≡ true
run_passes_next p c cs false is more = rw is refl
run_passes_next p c cs true is more =
    let one_more : 1 + prefix_len p cs ≡ suc (prefix_len p cs) = omega arith in
    rw is (rw one_more (rw is more))

-- the bytes up to the first one that doesn't pass
pub run_passes : (p : ℕ → Bool) (bytes : List ℕ) → list_all p (take (prefix_len p bytes) bytes) ≡ true
run_passes p [] = refl
run_passes p (c ∷ cs) = run_passes_next p c cs (p c) refl (run_passes p cs)

pub both_true : (a b : Bool) → (a && b) ≡ true → (a ≡ true) × (b ≡ true)
both_true true true is = (refl, refl)
both_true true false is = (refl, is)
both_true false b is = cc

whole_word : (c : ℕ) (cs : List ℕ) → not (is_digit c) ≡ true → list_all is_word_byte (c ∷ cs) ≡ true → is_word (c ∷ cs) ≡ true
whole_word c cs solid passes =
    let some : nat_lt 0 (length (c ∷ cs)) ≡ true = grind (arith, nat_tests) in
    rw some (rw passes solid)

-- a run of bytes of words is a word, where it doesn't begin with a digit
pub word_run : (bytes : List ℕ) → IsTrue (begins_with begins_word bytes) → IsTrue (is_word (take (prefix_len is_word_byte bytes) bytes))
word_run [] is = cc
word_run (c ∷ cs) is =
    let parts : (is_word_byte c ≡ true) × (not (is_digit c) ≡ true) = both_true _ _ is in
    let one_more : 1 + prefix_len is_word_byte cs ≡ suc (prefix_len is_word_byte cs) = omega arith in
    let run : list_all is_word_byte (c ∷ take (prefix_len is_word_byte cs) cs) ≡ true = rw parts.0 (run_passes is_word_byte cs) in
    (rw parts.0 (rw one_more (whole_word c _ parts.1 run)))

-- a run of digits is all digits
pub digit_run : (bytes : List ℕ) → IsTrue (list_all is_digit (take (prefix_len is_digit bytes) bytes))
digit_run bytes = (run_passes is_digit bytes)

-- a run that begins with a byte that passes isn't empty
pub run_some : (p : ℕ → Bool) (bytes : List ℕ) → IsTrue (begins_with p bytes) → 0 < prefix_len p bytes
run_some p [] is = cc
run_some p (c ∷ cs) is = rw is (omega arith)

pub word_run_some : (bytes : List ℕ) → IsTrue (begins_with begins_word bytes) → 0 < prefix_len is_word_byte bytes
word_run_some [] is = cc
word_run_some (c ∷ cs) is =
    let byte : is_word_byte c ≡ true = (both_true _ _ is).0 in
    rw byte (omega arith)

-- one token more was found
pub token_step : (bytes left behind : List ℕ) (found more : List Placed) (token : Token) (len : ℕ) → tokens_from 0 0 bytes ≡ behind_found found (tokens_from 0 (length bytes - length left) left) → length left ≤ length bytes → HasSize left len → begins_with is_blank left ≡ false → token_at left ≡ cut token len → more ≡ found ++ placed_at (length bytes - length left) token ∷ [] → behind ≡ drop len left → (tokens_from 0 0 bytes ≡ behind_found more (tokens_from 0 (length bytes - length behind) behind)) × (length behind ≤ length bytes)
token_step bytes left behind found more token len so_far within size solid is pushed rest =
    let at = length bytes - length left in
    let cut_here = cut_step at left token len size.0 size.1 solid is in
    let shorter : length behind + len ≡ length left = rw rest (simp length-drop (omega (arith, size.1))) in
    let place : at + len ≡ length bytes - length behind = omega arith in
    let joined = behind_found_token found at token (tokens_from 0 (at + len) (drop len left)) in
    (so_far ∙ ap (behind_found found) cut_here ∙ joined ∙ ap (λ m. behind_found m (tokens_from 0 (at + len) (drop len left))) (sym pushed) ∙ ap (λ ts. behind_found more (tokens_from 0 (at + len) ts)) (sym rest) ∙ ap (λ n. behind_found more (tokens_from 0 n behind)) place, omega arith)

pub solid_at : (bytes : List ℕ) → 0 < length bytes → is_blank (get_or bytes 0 0) ≡ false → begins_with is_blank bytes ≡ false
solid_at [] some is = absurd (omega arith)
solid_at (c ∷ cs) some is = is
