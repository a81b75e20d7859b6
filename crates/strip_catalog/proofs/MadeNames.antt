-- The names of what is made of a derived table are names.
use Rattle.std.proofs.Common.{◌≡◌, ℕ, suc, ◌+◌, ◌≤◌, Bool, true, false, not, ◌&&◌, List, [], ◌∷◌, ◌++◌, length, codes, nat_le, nat_lt, slice_index, sym, ap, ap₂, ◌∙◌, refl, arith, length-append}
use Rattle.std.specs.List.{list_all}
use Rattle.std.proofs.lemmas.Bool.Decides.{nat_tests}
use Rattle.std.proofs.lemmas.List.{append-nil}
use Rattle.std.proofs.lemmas.List.Folds.{list_all-append}
use Rattle.strip_value.specs.Name.{is_digit, is_name, is_word_byte}
use Rattle.strip_setup.specs.Maintain.{function_name, rule_name}
use Rattle.strip_catalog.specs.Sums.{bound_name}

all_four : (a b c d : Bool) → a ≡ true → b ≡ true → c ≡ true → d ≡ true → (a && b && c && d) ≡ true
all_four a b c d ea eb ec ed = cc

third : (a b c d : Bool) → (a && b && c && d) ≡ true → c ≡ true
third false b c d e = cc
third true false c d e = cc
third true true false d e = cc
third true true true d e = refl

-- a name consists of words
words_of : (name : List ℕ) → is_name name ≡ true → list_all is_word_byte name ≡ true
words_of name e = third (nat_lt 0 (length name)) (nat_le (length name) 40) (list_all is_word_byte name) (not (is_digit (slice_index name 0))) e

-- words that are longer by at most 8 and begin with no digit are a name
longer : (byte : ℕ) (front name back : List ℕ) → not (is_digit byte) ≡ true → list_all is_word_byte (byte ∷ front) ≡ true → list_all is_word_byte back ≡ true → suc (length front) + length back ≤ 8 → is_name name ≡ true → length name ≤ 32
    → is_name ((byte ∷ front) ++ (name ++ back)) ≡ true
longer byte front name back letter fronts backs short named le =
    let len : length ((byte ∷ front) ++ (name ++ back)) ≡ suc (length front) + length (name ++ back) = length-append (byte ∷ front) (name ++ back) in
    let inner : length (name ++ back) ≡ length name + length back = length-append name back in
    let some : nat_lt 0 (length ((byte ∷ front) ++ (name ++ back))) ≡ true = grind (arith, nat_tests) in
    let few : nat_le (length ((byte ∷ front) ++ (name ++ back))) 40 ≡ true = grind (arith, nat_tests) in
    let behind : list_all is_word_byte (name ++ back) ≡ true = list_all-append is_word_byte name back ∙ ap₂ (λ a b. a && b) (words_of name named) backs in
    let all : list_all is_word_byte ((byte ∷ front) ++ (name ++ back)) ≡ true = list_all-append is_word_byte (byte ∷ front) (name ++ back) ∙ ap₂ (λ a b. a && b) fronts behind in
    all_four (nat_lt 0 (length ((byte ∷ front) ++ (name ++ back)))) (nat_le (length ((byte ∷ front) ++ (name ++ back))) 40) (list_all is_word_byte ((byte ∷ front) ++ (name ++ back))) (not (is_digit byte)) some few all letter

pub function_is_name : (name : List ℕ) → is_name name ≡ true → length name ≤ 32 → is_name (function_name name) ≡ true
function_is_name name named le = ap is_name (ap (λ bytes. codes "keep_" ++ bytes) (sym (append-nil name))) ∙ longer 107 (codes "eep_") name [] refl refl refl (omega arith) named le

pub rule_is_name : (name : List ℕ) → is_name name ≡ true → length name ≤ 32 → is_name (rule_name name) ≡ true
rule_is_name name named le = longer 107 (codes "eep_") name (codes "_1") refl refl refl (omega arith) named le

pub bound_is_name : (name : List ℕ) → is_name name ≡ true → length name ≤ 32 → is_name (bound_name name) ≡ true
bound_is_name name named le = ap is_name (ap (λ bytes. codes "delta_" ++ bytes) (sym (append-nil name))) ∙ longer 100 (codes "elta_") name [] refl refl refl (omega arith) named le
