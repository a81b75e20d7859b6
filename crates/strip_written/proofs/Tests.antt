-- What the tests of lengths, levels and limits say.
use Rattle.std.proofs.Common.{◌≡◌, ℕ, zero, suc, ◌+◌, ◌<◌, ◌≤◌, ◌^◌, Bool, true, false, not, ◌&&◌, ◌||◌, ◌==◌, nat_le, nat_lt, List, length, Result, Ok, Err, ℤ, pos, negsuc, neg_ℤ, if◌then◌else◌, refl, sym, ◌∙◌, ap, subst, arith}
use Rattle.std.specs.Prelude.{nat_abs}
use Rattle.std.specs.List.{list_any}
use Rattle.std.specs.Str.{is_utf8}
use Rattle.std.proofs.lemmas.Bool.{lt-ltb, ltb-true, le-ltb, ltb-false, le-leb, leb-true}
use Rattle.strip_ast.specs.declared.faults.Why.{Why}
use Rattle.strip_ast.specs.declared.faults.Why.TheVariants.{NoToken, TooLong}
use Rattle.strip_ast.specs.declared.token_types.Token.{Token}
use Rattle.strip_ast.specs.declared.token_types.Token.TheVariants as token
use Rattle.strip_ast.specs.Tokens.{text_token}
use Rattle.strip_acts.specs.Writable.{has_digits, is_line, opened}

pub both_yes : (a b : Bool) → a ≡ true → b ≡ true → (a && b) ≡ true
both_yes true b is is' = is'
both_yes false b is is' = cc

-- ---- parentheses

-- nothing stands below the lowest level
pub opened_lowest : (n i : ℕ) → opened (nat_lt n 0) i ≡ i
opened_lowest n i = ap (λ b. opened b i) (le-ltb n 0 (omega arith))

-- nor below its own
pub opened_own : (n i : ℕ) → opened (nat_lt n n) i ≡ i
opened_own n i = ap (λ b. opened b i) (le-ltb n n (omega arith))

pub opened_least : (b : Bool) (i : ℕ) → i ≤ opened b i
opened_least true i = omega arith
opened_least false i = omega arith

pub opened_most : (b : Bool) (i : ℕ) → opened b i ≤ i + 1
opened_most true i = omega arith
opened_most false i = omega arith

opened_tests : (n low high i : ℕ) (a b : Bool) → nat_lt n low ≡ a → nat_lt n high ≡ b → low ≤ high → opened a i ≤ opened b i
opened_tests n low high i false b is_a is_b below = opened_least b i
opened_tests n low high i true true is_a is_b below = omega arith
opened_tests n low high i true false is_a is_b below =
    let one : n < low = ltb-true n low is_a in
    let two : high ≤ n = ltb-false n high is_b in
    absurd (omega (arith, one, two, below))

-- where an operand of the higher level needs no parenthesis, none is needed of the lower
pub opened_falls : (n low high i : ℕ) → low ≤ high → opened (nat_lt n low) i ≤ opened (nat_lt n high) i
opened_falls n low high i below = opened_tests n low high i (nat_lt n low) (nat_lt n high) refl refl below

-- ---- texts

line_by : (t : List ℕ) (any utf8 short : Bool) → (let found : Result Token Why = if any || not utf8 then Err NoToken else (if short then Ok (token.Text t) else Err TooLong) in found ≡ Ok (token.Text t)) → (utf8 && (short && not any)) ≡ true
line_by t true utf8 short is = cc
line_by t false true true is = refl
line_by t false true false is = cc
line_by t false false short is = cc

by_line : (t : List ℕ) (any utf8 short : Bool) → (utf8 && (short && not any)) ≡ true → (let found : Result Token Why = if any || not utf8 then Err NoToken else (if short then Ok (token.Text t) else Err TooLong) in found ≡ Ok (token.Text t))
by_line t false true true is = refl
by_line t true true true is = cc
by_line t any true false is = cc
by_line t any false short is = cc

-- a text that is a token is a line of UTF-8
pub text_line : (t : List ℕ) → text_token t ≡ Ok (token.Text t) → is_line t ≡ true
text_line t is = line_by t (list_any (λ c. c == 10) t) (is_utf8 t) (nat_le (length t) 255) is

-- and the other way round
pub line_text : (t : List ℕ) → is_line t ≡ true → text_token t ≡ Ok (token.Text t)
line_text t is = by_line t (list_any (λ c. c == 10) t) (is_utf8 t) (nat_le (length t) 255) is

-- ---- numbers

pub digits_natural : (n : ℕ) → n < 10 ^ 38 → has_digits (pos n) ≡ true
digits_natural n below = lt-ltb n (10 ^ 38) below

pub digits_negative : (n : ℕ) → n < 10 ^ 38 → has_digits (neg_ℤ (pos n)) ≡ true
digits_negative zero below = lt-ltb 0 (10 ^ 38) below
digits_negative (suc n) below = lt-ltb (suc n) (10 ^ 38) below

pub natural_digits : (n : ℕ) → has_digits (pos n) ≡ true → n < 10 ^ 38
natural_digits n is = ltb-true n (10 ^ 38) is

pub negative_digits : (n : ℕ) → has_digits (negsuc n) ≡ true → suc n < 10 ^ 38
negative_digits n is = ltb-true (suc n) (10 ^ 38) is
