-- Items by their numbers, and the names of items that have none.
use Rattle.std.proofs.Common.{◌≡◌, ℕ, suc, ◌+◌, ◌<◌, ◌≤◌, ◌^◌, Bool, true, not, ◌&&◌, List, [], ◌∷◌, ◌++◌, length, map, drop, get_or, drop-cons, codes, sym, ap, ◌∙◌, subst, arith, Result, Err, nat_le, nat_lt, ◌%◌, ap₂, append_assoc, length-append}
use Rattle.std.specs.Fmt.{decimal}
use Rattle.std.specs.List.{enumerate_from, list_all}
use Rattle.std.proofs.lemmas.Bool.Decides.{nat_tests}
use Rattle.std.proofs.lemmas.Fmt.{decimal_by_steps, length-decimal-le}
use Rattle.std.proofs.lemmas.List.Folds.{list_all-append}
use Rattle.strip_value.specs.declared.errors.NameError.{NameError}
use Rattle.strip_value.specs.declared.errors.NameError.TheVariants.{BadName}
use Rattle.strip_value.specs.Name.{IsNameOf, is_digit, is_name, is_word_byte}

-- ---- a loop that counts from 1

pub one_numbered : {A B : Type 0} (f : ℕ × A → B) (made now : List B) (xs : List A) (i n : ℕ) (x : A) (y : B) → i < length xs → x ≡ get_or xs i x → n ≡ i + 1 → y ≡ f (n, x) → now ≡ made ++ y ∷ []
    → now ++ map f (enumerate_from (i + 1 + 1) (drop (i + 1) xs)) ≡ made ++ map f (enumerate_from (i + 1) (drop i xs))
one_numbered f made now xs i n x y within is counted made_is now_is =
    let next : drop i xs ≡ get_or xs i x ∷ drop (suc i) xs = drop-cons xs i x within in
    let place : i + 1 ≡ suc i = omega arith in
    let rest = map f (enumerate_from (i + 1 + 1) (drop (i + 1) xs)) in
    ap (λ ys. ys ++ rest) (now_is ∙ ap (λ z. made ++ z ∷ []) (made_is ∙ ap (λ m. f (m, x)) counted))
    ∙ append_assoc made (f (i + 1, x) ∷ []) rest
    ∙ ap (λ ys. made ++ ys) (ap (λ left. f (i + 1, x) ∷ map f (enumerate_from (i + 1 + 1) left)) (ap (λ m. drop m xs) place))
    ∙ ap (λ z. made ++ map f (enumerate_from (i + 1) (z ∷ drop (suc i) xs))) is
    ∙ ap (λ left. made ++ map f (enumerate_from (i + 1) left)) (sym next)

-- ---- `item_` and a number

word_digit : (d : ℕ) → d < 10 → is_word_byte (48 + d) ≡ true
word_digit d small = grind (arith, nat_tests)

are_words : (n : ℕ) → n < 2 ^ 64 → list_all is_word_byte (decimal n) ≡ true
are_words = decimal_by_steps (λ n ds. list_all is_word_byte ds ≡ true) one more
  where
    one : (n : ℕ) → n < 10 → list_all is_word_byte ((48 + n) ∷ []) ≡ true
    one n small = ap (λ b. b && true) (word_digit n small)

    more : (n : ℕ) (ds : List ℕ) → 10 ≤ n → list_all is_word_byte ds ≡ true → list_all is_word_byte (ds ++ ((48 + n % 10) ∷ [])) ≡ true
    more n ds big words =
        let last : list_all is_word_byte ((48 + n % 10) ∷ []) ≡ true = one (n % 10) (omega arith) in
        list_all-append is_word_byte ds ((48 + n % 10) ∷ []) ∙ ap₂ (λ a b. a && b) words last

pub numbered_is_name : (n : ℕ) → n < 2 ^ 64 → is_name (codes "item_" ++ decimal n) ≡ true
numbered_is_name n small = of_digits (decimal n) (length-decimal-le 20 n (omega arith) (omega arith) small) (are_words n small)
  where
    all_four : (a b c : Bool) → a ≡ true → b ≡ true → c ≡ true → (a && b && c && not (is_digit 105)) ≡ true
    all_four a b c ea eb ec = cc

    of_digits : (ds : List ℕ) → length ds ≤ 20 → list_all is_word_byte ds ≡ true → is_name (codes "item_" ++ ds) ≡ true
    of_digits ds short words =
        let len : length (codes "item_" ++ ds) ≡ 5 + length ds = length-append (codes "item_") ds in
        let some : nat_lt 0 (length (codes "item_" ++ ds)) ≡ true = grind (arith, nat_tests) in
        let few : nat_le (length (codes "item_" ++ ds)) 40 ≡ true = grind (arith, nat_tests) in
        let all : list_all is_word_byte (codes "item_" ++ ds) ≡ true = list_all-append is_word_byte (codes "item_") ds ∙ words in
        all_four (nat_lt 0 (length (codes "item_" ++ ds))) (nat_le (length (codes "item_" ++ ds)) 40) (list_all is_word_byte (codes "item_" ++ ds)) some few all

pub never_bad : (n : ℕ) (bytes : List ℕ) (result : Result (List ℕ) NameError) → n < 2 ^ 64 → bytes ≡ codes "item_" ++ decimal n → IsNameOf bytes result → result ≡ Err BadName → ⊥
never_bad n bytes result small is of bad = subst (λ r. IsNameOf bytes r) bad of (ap is_name is ∙ numbered_is_name n small)
