-- The names of entries are names.
use Rattle.std.proofs.Common.{◌≡◌, ℕ, ◌+◌, ◌<◌, ◌≤◌, ◌^◌, Bool, true, false, not, ◌&&◌, List, ◌++◌, length, codes, nat_le, nat_lt, Result, Err, refl, sym, ap, subst, ◌∙◌, arith, length-append}
use Rattle.std.specs.Fmt.{decimal}
use Rattle.std.specs.List.{list_all}
use Rattle.std.proofs.lemmas.Bool.Decides.{nat_tests}
use Rattle.std.proofs.lemmas.List.Folds.{list_all-append}
use Rattle.strip_value.specs.declared.errors.NameError.{NameError}
use Rattle.strip_value.specs.declared.errors.NameError.TheVariants.{BadName}
use Rattle.strip_value.specs.Name.{IsNameOf, is_digit, is_name, is_word_byte}
use Rattle.strip_setup.proofs.Numbered.{numbered_is_name}

middle : (a b c d : Bool) → (a && b && c && d) ≡ true → (b ≡ true) × (c ≡ true)
middle true true true d e = (refl, refl)
middle true true false d e = cc
middle true false true d e = cc
middle true false false d e = cc
middle false true true d e = cc
middle false true false d e = cc
middle false false true d e = cc
middle false false false d e = cc

all_four : (a b c : Bool) → a ≡ true → b ≡ true → c ≡ true → (a && b && c && not (is_digit 101)) ≡ true
all_four a b c a_is b_is c_is = cc

at_most : (n m : ℕ) → nat_le n m ≡ true → n ≤ m
at_most n m e = grind (arith, nat_tests, e)

-- digits that make a name behind `item_` make one behind `e`
behind_e : (ds : List ℕ) → is_name (codes "item_" ++ ds) ≡ true → is_name (codes "e" ++ ds) ≡ true
behind_e ds named =
    let item = codes "item_" ++ ds in
    let parts = middle (nat_lt 0 (length item)) (nat_le (length item) 40) (list_all is_word_byte item) (not (is_digit 105)) named in
    let longer : length item ≡ 5 + length ds = length-append (codes "item_") ds in
    let short : length item ≤ 40 = at_most (length item) 40 parts.0 in
    let words : list_all is_word_byte ds ≡ true = sym (list_all-append is_word_byte (codes "item_") ds) ∙ parts.1 in
    let len : length (codes "e" ++ ds) ≡ 1 + length ds = length-append (codes "e") ds in
    let some : nat_lt 0 (length (codes "e" ++ ds)) ≡ true = grind (arith, nat_tests) in
    let few : nat_le (length (codes "e" ++ ds)) 40 ≡ true = grind (arith, nat_tests) in
    let all : list_all is_word_byte (codes "e" ++ ds) ≡ true = list_all-append is_word_byte (codes "e") ds ∙ words in
    all_four (nat_lt 0 (length (codes "e" ++ ds))) (nat_le (length (codes "e" ++ ds)) 40) (list_all is_word_byte (codes "e" ++ ds)) some few all

pub alias_is_name : (n : ℕ) → n < 2 ^ 64 → is_name (codes "e" ++ decimal n) ≡ true
alias_is_name n small = behind_e (decimal n) (numbered_is_name n small)

pub never_bad : (n : ℕ) (bytes : List ℕ) (result : Result (List ℕ) NameError) → n < 2 ^ 64 → bytes ≡ codes "e" ++ decimal n → IsNameOf bytes result → result ≡ Err BadName → ⊥
never_bad n bytes result small is of bad = subst (λ r. IsNameOf bytes r) bad of (ap is_name is ∙ alias_is_name n small)
