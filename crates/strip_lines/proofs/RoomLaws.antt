-- The bytes in a room, from `at` to `end`.
use Rattle.std.proofs.Common.{◌≡◌, ℕ, ◌+◌, ◌-◌, ◌≤◌, min, List, length, take, drop, sym, ap, ◌∙◌, arith, length-take, length-drop}
use Rattle.std.proofs.lemmas.List.{drop-take, drop-drop}

-- the first bytes are taken off
pub taken_off : (bytes : List ℕ) (at end count : ℕ) (room : List ℕ) → at ≤ end → end ≤ 4096 → length bytes ≡ 4096
    → take (end - at) (drop at bytes) ≡ room → count ≤ length room
    → take (end - (at + count)) (drop (at + count) bytes) ≡ drop count room
taken_off bytes at end count room ordered within size is_room some =
    let len : length room ≡ min (end - at) (length bytes - at) =
    ap length (sym is_room) ∙ length-take (end - at) (drop at bytes) ∙ ap (min (end - at)) (length-drop at bytes) in
    let rest = end - (at + count) in
    let enough : count + rest ≡ end - at = omega (arith, len) in
    ap (take rest) (sym (drop-drop count at bytes))
    ∙ sym (drop-take count rest (drop at bytes))
    ∙ ap (λ n. drop count (take n (drop at bytes))) enough
    ∙ ap (drop count) is_room
