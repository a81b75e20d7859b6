-- What a call does that gives or takes a part of some bytes: for the proofs of this crate.
use Rattle.std.proofs.Common.{◌≡◌, ℕ, ◌+◌, ◌-◌, ◌<◌, ◌≤◌, min, List, ◌++◌, length, take, drop, Option, Some, sym, ap, subst, ◌∙◌, arith, length-drop, take-append-drop}
use Rattle.std.proofs.lemmas.List.{drop-drop, drop_all, take_all}
use Rattle.std.proofs.Math.Seq.{take-add}
use Rattle.std.specs.Io.KnownBytes.{Appends}
use Rattle.strip_outside.specs.Bytes.{Gave}
use Rattle.strip_outside.proofs.ByteLemmas.{Appends-join}

-- a slice from `at` on, as the code takes it
pub slice_from : (at : ℕ) (xs : List ℕ) → take (length xs - at) (drop at xs) ≡ drop at xs
slice_from at xs = let len = length-drop at xs in take_all (length xs - at) (drop at xs) (omega (arith, len))

-- a copy of the first bytes that are left, as many as a limit, the room and the bytes allow
pub Gave-front : (bytes room : List ℕ) (at n limit : ℕ) → take n room ≡ take n (drop at bytes)
    → n ≡ min limit (min (length room) (length (drop at bytes))) → 0 < limit
    → Gave (Some (drop at bytes)) (Some (drop (at + n) bytes)) room n
Gave-front bytes room at n limit same count some = record {
  moved = sym (ap (λ l. take n room ++ l) (sym (drop-drop n at bytes)) ∙ ap (λ l. l ++ drop n (drop at bytes)) same ∙ take-append-drop n (drop at bytes));
  ended = λ none some_room. let len = length-drop at bytes in drop_all (at + n) bytes (omega (arith, none, some_room, len, count, some));
}

-- the state of a loop that has written the first bytes of a piece, up to `at`
pub record HasWritten (before now : Option (List ℕ)) (faults_before faults_now : ℕ) (piece : List ℕ) (at : ℕ) : Type 0 where
  pub never_fell : faults_before ≤ faults_now
  pub appended : Appends before now (take at piece)
  pub within : at ≤ length piece

-- one more write
pub Appends-more : (before mid now : Option (List ℕ)) (piece : List ℕ) (at n : ℕ)
    → Appends before mid (take at piece) → Appends mid now (take n (take (length piece - at) (drop at piece))) → Appends before now (take (at + n) piece)
Appends-more before mid now piece at n one two =
    let rest : Appends mid now (take n (drop at piece)) = subst (λ l. Appends mid now (take n l)) (slice_from at piece) two in
    subst (Appends before now) (sym (take-add at n piece)) (Appends-join before mid now _ _ one rest)

-- the loop stopped at `at`: what it wrote is a beginning of the piece
pub stopped_at : (before now : Option (List ℕ)) (piece : List ℕ) (at : ℕ)
    → Appends before now (take at piece)
    → (wrote : List ℕ) × ((rest : List ℕ) × Appends before now wrote × (piece ≡ wrote ++ rest))
stopped_at before now piece at one = (take at piece, (drop at piece, one, sym (take-append-drop at piece)))
