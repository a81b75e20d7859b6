-- Lists that are made item by item.
use Rattle.std.proofs.Common.{◌≡◌, ℕ, ◌+◌, ◌<◌, List, ◌++◌, length, get_or, drop, append_assoc, refl, sym, ap, ◌∙◌}
use Rattle.std.specs.List.{flat_map}
use Rattle.std.proofs.lemmas.List.{drop_more}

-- what an item gives is put behind what is made, and the further items are left
pub made-more : {A B : Type 0} (of : A → List B) (xs : List A) (i : ℕ) (x : A) (made new all : List B) → i < length xs → x ≡ get_or xs i x → new ≡ made ++ of x → made ++ flat_map of (drop i xs) ≡ all → new ++ flat_map of (drop (i + 1) xs) ≡ all
made-more of xs i x made new all lt is new_is left =
    let more = drop_more xs i x lt in
    let rest : flat_map of (drop i xs) ≡ of x ++ flat_map of (drop (i + 1) xs) = rw (more, ← is) refl in
    rw (new_is, append_assoc) (ap (λ ys. made ++ ys) (sym rest) ∙ left)
