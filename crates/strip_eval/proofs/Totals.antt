-- What the items of a group come to, item by item.
use Rattle.std.proofs.Common.{◌≡◌, ℕ, zero, suc, ◌<◌, List, [], ◌∷◌, ◌++◌, length, map, take, set, get_or, refl, sym, ap, ap₂, ◌∙◌, arith}
use Rattle.std.specs.Prelude.{ℤ, pos, ◌+ℤ◌, FitsSigned}
use mir.Syntax.{w128}
use Rattle.std.proofs.lemmas.Int.{ints}
use Rattle.strip_value.specs.declared.values.Value.{Value}
use Rattle.strip_value.specs.declared.queries.Item.{Item}
use Rattle.strip_value.specs.Query.{sum_of}
use Rattle.strip_eval.specs.Groups.{IsBig, part_of, total_of, with_parts}

-- ---- adding a combination, from the first item on

-- the numbers of the items that are left are as they were
pub untouched : (items : List Item) (rows : List (List Value)) (totals : List ℤ) (at : ℕ) → get_or (with_parts (take at items) rows totals) at (pos 0) ≡ get_or totals at (pos 0)
untouched items rows totals zero = refl
untouched [] rows totals (suc at) = refl
untouched (item ∷ items) rows [] (suc at) = refl
untouched (item ∷ items) rows (total ∷ totals) (suc at) = untouched items rows totals at

-- what an item comes to
pub comes_to : (items : List Item) (rows : List (List Value)) (totals : List ℤ) (at : ℕ) (d : Item) → at < length items → length totals ≡ length items
    → get_or (with_parts items rows totals) at (pos 0) ≡ get_or totals at (pos 0) +ℤ part_of (get_or items at d).what rows
comes_to [] rows totals at d lt long = absurd (omega arith)
comes_to (item ∷ items) rows [] at d lt long = absurd (omega arith)
comes_to (item ∷ items) rows (total ∷ totals) zero d lt long = refl
comes_to (item ∷ items) rows (total ∷ totals) (suc at) d lt long = comes_to items rows totals at d (omega arith) (omega arith)

-- one item more
pub one_added : (items : List Item) (rows : List (List Value)) (totals : List ℤ) (at : ℕ) (d : Item) (n : ℤ) → at < length items → length totals ≡ length items
    → n ≡ get_or totals at (pos 0) +ℤ part_of (get_or items at d).what rows → set (with_parts (take at items) rows totals) at n ≡ with_parts (take (suc at) items) rows totals
one_added [] rows totals at d n lt long n_is = absurd (omega arith)
one_added (item ∷ items) rows [] at d n lt long n_is = absurd (omega arith)
one_added (item ∷ items) rows (total ∷ totals) zero d n lt long n_is = ap (λ m. m ∷ totals) n_is
one_added (item ∷ items) rows (total ∷ totals) (suc at) d n lt long n_is = ap (λ ms. (total +ℤ part_of item.what rows) ∷ ms) (one_added items rows totals at d n (omega arith) (omega arith) n_is)

pub kept_long : (items : List Item) (rows : List (List Value)) (totals : List ℤ) → length (with_parts items rows totals) ≡ length totals
kept_long [] rows totals = refl
kept_long (item ∷ items) rows [] = refl
kept_long (item ∷ items) rows (total ∷ totals) = ap suc (kept_long items rows totals)

pub big_fits : (n : ℤ) → IsBig n → FitsSigned w128 n
big_fits n big = omega (arith, ints)

-- ---- sums over the combinations of a group

sum_more : (ns : List ℤ) (n : ℤ) → sum_of (ns ++ n ∷ []) ≡ sum_of ns +ℤ n
sum_more [] n = omega (arith, ints)
sum_more (m ∷ ns) n = let rest = sum_more ns n in omega (arith, ints)

map_more : {A B : Type 0} (f : A → B) (xs : List A) (x : A) → map f (xs ++ x ∷ []) ≡ map f xs ++ f x ∷ []
map_more f [] x = refl
map_more f (y ∷ xs) x = ap (λ ys. f y ∷ ys) (map_more f xs x)

-- with one more combination
pub totals_more : (group : List (List (List Value))) (rows : List (List Value)) (items : List Item) → with_parts items rows (map (total_of group) items) ≡ map (total_of (group ++ rows ∷ [])) items
totals_more group rows [] = refl
totals_more group rows (item ∷ items) =
    let first : total_of group item +ℤ part_of item.what rows ≡ total_of (group ++ rows ∷ []) item = sym (ap sum_of (map_more (part_of item.what) group rows) ∙ sum_more (map (part_of item.what) group) (part_of item.what rows)) in
    ap₂ (λ n ns. n ∷ ns) first (totals_more group rows items)

-- over one combination
pub totals_first : (rows : List (List Value)) (items : List Item) → map (λ item. part_of item.what rows) items ≡ map (total_of (rows ∷ [])) items
totals_first rows [] = refl
totals_first rows (item ∷ items) =
    let first : part_of item.what rows ≡ total_of (rows ∷ []) item = omega (arith, ints) in
    ap₂ (λ n ns. n ∷ ns) first (totals_first rows items)
