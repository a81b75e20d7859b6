-- A status of 7 and the bytes that the source gave.
use Rattle.std.proofs.Common.{◌≡◌, ℕ, ◌<◌, ◌≤◌, ◌==◌, Bool, true, false, nat_lt, List, [], ◌∷◌, length, Option, Result, Ok, Err, refl, sym, ap, ◌∙◌, arith, length-append}
use Rattle.std.proofs.lemmas.Bool.Decides.{nat_tests}
use Rattle.std.specs.Prelude.{if◌then◌else◌}
use Rattle.strip_script.specs.declared.run.Ended.{Ended}
use Rattle.strip_script.specs.declared.run.RunError.{RunError}
use Rattle.strip_script.specs.declared.run.RunError.TheVariants.{Write, Read, TooMuch, Memory}
use Rattle.strip_script.specs.Runs.{Told}
use Rattle.strip.specs.Statuses.{status_of}

not_past : (limit n : ℕ) → n ≤ limit → nat_lt limit n ≡ false
not_past limit n within = grind (arith, nat_tests)

is_past : (limit n : ℕ) → limit < n → nat_lt limit n ≡ true
is_past limit n past = grind (arith, nat_tests)

-- 7 exactly where the source gave more bytes than the limit
pub past_limit : (most limit : ℕ) (given wrote : List ℕ) (left : Option (List ℕ)) (result : Result Ended RunError)
    → Told most limit given wrote left result → (status_of result == 7) ≡ nat_lt limit (length given)
past_limit most limit given wrote left (Ok ended) told =
    let by_case : (b : Bool) → ((if b then 1 else 0) == 7) ≡ false = λ b. elim b as (λ v. ((if v then 1 else 0) == 7) ≡ false) [ true ↦ refl | false ↦ refl ] in
    by_case ended.refused ∙ sym (not_past limit (length given) told.within)
past_limit most limit given wrote left (Err Read) told = sym (not_past limit (length given) told.within)
past_limit most limit given wrote left (Err Write) told = sym (not_past limit (length given) told.within)
past_limit most limit given wrote left (Err Memory) told = sym (not_past limit (length given) told.within)
past_limit most limit given wrote left (Err (TooMuch passed)) told =
    sym (is_past limit (length given) (omega (arith, told.1.full, ap length told.1.split, length-append told.1.bytes (told.1.past ∷ []))))
