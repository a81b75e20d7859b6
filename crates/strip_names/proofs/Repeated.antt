-- Names that stand twice, found by going through a list.
use Rattle.std.proofs.Common.{◌≡◌, ℕ, ◌+◌, ◌<◌, true, false, List, length, get_or, take, reverse, map, filter, Some, refl, ◌∙◌}
use Rattle.std.specs.Str.{bytes_eq}
use Rattle.strip_setup.specs.Catalog.{first, has_name, stood_before}
use Rattle.strip_setup.proofs.Firsts.{with_earlier_from, with_earlier-more, list_any-reverse}

-- the names from a number on that stand before
abbrev pub repeated_from : List (List ℕ) → ℕ → List (List ℕ)
repeated_from names i = map (λ name. name.0) (filter stood_before (with_earlier_from names i))

-- the name of that number stands before, so it is the first of them
pub repeated-here : (names : List (List ℕ)) (i : ℕ) (x : List ℕ) → i < length names → x ≡ get_or names i x → has_name (take i names) x ≡ true → first (repeated_from names i) ≡ Some x
repeated-here names i x lt is stood =
    let more = with_earlier-more names i x lt is in
    let turned : has_name (reverse (take i names)) x ≡ true = list_any-reverse (λ other. bytes_eq other x) (take i names) ∙ stood in
    rw (more, turned) refl

-- it doesn't, so the further ones are left
pub repeated-past : (names : List (List ℕ)) (i : ℕ) (x : List ℕ) → i < length names → x ≡ get_or names i x → has_name (take i names) x ≡ false → repeated_from names i ≡ repeated_from names (i + 1)
repeated-past names i x lt is stood =
    let more = with_earlier-more names i x lt is in
    let turned : has_name (reverse (take i names)) x ≡ false = list_any-reverse (λ other. bytes_eq other x) (take i names) ∙ stood in
    rw (more, turned) refl
