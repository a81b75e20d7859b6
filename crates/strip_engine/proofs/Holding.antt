-- The choice of the tables that a transaction holds.
use Rattle.std.proofs.Common.{◌≡◌, ℕ, zero, suc, ◌+◌, ◌-◌, ◌<◌, Bool, true, false, ◌&&◌, cond, List, [], ◌∷◌, ◌++◌, refl, sym, ap, ◌∙◌, append_assoc, arith}
use Rattle.strip_meaning.specs.Effect.{has_id}
use Rattle.strip_model.specs.Says.{chosen, read_besides}

-- tests that agree choose alike
pub chosen_agree : (p q : ℕ → Bool) → ((id : ℕ) → p id ≡ q id) → (from count : ℕ) → chosen p from count ≡ chosen q from count
chosen_agree p q same from zero = refl
chosen_agree p q same from (suc count) =
    let rest = chosen_agree p q same (from + 1) count in
    let here = same from in
    ap (λ b. cond b (from ∷ []) [] ++ chosen p (from + 1) count) here ∙ ap (λ ids. cond (q from) (from ∷ []) [] ++ ids) rest

and_true : (b : Bool) → (b && true) ≡ b
and_true true = refl
and_true false = refl

-- what is asked for beside nothing
pub chosen_all : (asked : List ℕ) (count : ℕ) → chosen (read_besides [] asked) 0 count ≡ chosen (has_id asked) 0 count
chosen_all asked count = chosen_agree (read_besides [] asked) (has_id asked) (λ id. and_true (has_id asked id)) 0 count

-- one number more, chosen or not
pub chosen_step : (p : ℕ → Bool) (ids new all : List ℕ) (at count : ℕ) (b : Bool) → p at ≡ b → at < count → new ≡ ids ++ cond b (at ∷ []) [] → ids ++ chosen p at (count - at) ≡ all → new ++ chosen p (at + 1) (count - (at + 1)) ≡ all
chosen_step p ids new all at count b test lt grown before =
    let rest = chosen p (at + 1) (count - (at + 1)) in
    let more : count - at ≡ suc (count - (at + 1)) = omega arith in
    let opened : chosen p at (count - at) ≡ cond b (at ∷ []) [] ++ rest = ap (chosen p at) more ∙ ap (λ t. cond t (at ∷ []) [] ++ rest) test in
    ap (λ xs. xs ++ rest) grown ∙ append_assoc ids (cond b (at ∷ []) []) rest ∙ sym (ap (λ xs. ids ++ xs) opened) ∙ before
