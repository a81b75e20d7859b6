-- Columns that are set once, and items whose names stand once, found by going through a list.
use Rattle.std.proofs.Common.{◌≡◌, ℕ, ◌+◌, ◌<◌, ◌≤◌, ◌==◌, Bool, true, false, not, ◌&&◌, ◌||◌, List, [], ◌∷◌, map, filter, length, get_or, take, drop, reverse, Some, refl, sym, ap, ◌∙◌, arith}
use Rattle.std.specs.List.{list_all, list_any, scan}
use Rattle.std.specs.Str.{bytes_eq}
use Rattle.std.proofs.Math.Dec.{eqb-suc-zero}
use Rattle.std.proofs.lemmas.List.{at_drop_all, drop_more, get_or-map, length-map, take-map}
use Rattle.std.proofs.lemmas.List.Folds.{list_all-map}
use Rattle.strip_value.specs.declared.queries.Item.{Item}
use Rattle.strip_value.specs.declared.queries.Set.{Set}
use Rattle.strip_setup.specs.Catalog.{first, has_name, is_empty, repeated, stood_before}
use Rattle.strip_names.proofs.Repeated.{repeated_from, repeated-here, repeated-past}
use Rattle.strip_acts.specs.Suiting.{all_differ, all_once, is_among}

-- ---- columns that are set

abbrev pub set_columns : List Set → List ℕ
set_columns sets = map (λ s. s.column) sets

-- a column is among those of sets where not all of them are of another
pub among_sets : (sets : List Set) (column : ℕ)
    → is_among (set_columns sets) column ≡ not (list_all (λ (s : Set). not (s.column == column)) sets)
among_sets sets column = ap not (list_all-map (λ m. not (m == column)) (λ (s : Set). s.column) sets)

next_set : (sets : List Set) (i : ℕ) (x : Set) → i < length sets → x ≡ get_or sets i x → drop i sets ≡ x ∷ drop (i + 1) sets
next_set sets i x lt is = drop_more sets i x lt ∙ ap (λ (y : Set). y ∷ drop (i + 1) sets) (sym is)

by_test : (among rest : Bool) (b : Bool) → among ≡ b → (not among && rest) ≡ (not b && rest)
by_test among rest b is = ap (λ a. not a && rest) is

pub columns_again : (sets : List Set) (i : ℕ) (x : Set) → i < length sets → x ≡ get_or sets i x
    → is_among (set_columns (drop (i + 1) sets)) x.column ≡ true
    → all_differ (set_columns sets) ≡ all_differ (set_columns (drop i sets)) → all_differ (set_columns sets) ≡ false
columns_again sets i x lt is again whole =
    whole ∙ ap (λ (left : List Set). all_differ (set_columns left)) (next_set sets i x lt is)
    ∙ by_test (is_among (set_columns (drop (i + 1) sets)) x.column) (all_differ (set_columns (drop (i + 1) sets))) true again

pub columns_past : (sets : List Set) (i : ℕ) (x : Set) → i < length sets → x ≡ get_or sets i x
    → is_among (set_columns (drop (i + 1) sets)) x.column ≡ false
    → all_differ (set_columns sets) ≡ all_differ (set_columns (drop i sets))
    → all_differ (set_columns sets) ≡ all_differ (set_columns (drop (i + 1) sets))
columns_past sets i x lt is past whole =
    whole ∙ ap (λ (left : List Set). all_differ (set_columns left)) (next_set sets i x lt is)
    ∙ by_test (is_among (set_columns (drop (i + 1) sets)) x.column) (all_differ (set_columns (drop (i + 1) sets))) false past

pub columns_all : (sets : List Set) (i : ℕ) → length sets ≤ i
    → all_differ (set_columns sets) ≡ all_differ (set_columns (drop i sets)) → all_differ (set_columns sets) ≡ true
columns_all sets i end whole = whole ∙ at_drop_all (λ (left : List Set). all_differ (set_columns left)) sets i end

-- ---- names of items

abbrev pub names_of : List Item → List (List ℕ)
names_of items = map (λ item. item.name) items

-- a name is among those of items where one of them has it
pub named_among : (items : List Item) (name : List ℕ)
    → has_name (names_of items) name ≡ list_any (λ (item : Item). bytes_eq item.name name) items
named_among [] name = refl
named_among (item ∷ items) name = ap (λ b. bytes_eq item.name name || b) (named_among items name)

one_of : (names : List (List ℕ)) (x : List ℕ) → first names ≡ Some x → is_empty names ≡ false
one_of [] x e = cc
one_of (name ∷ names) x e = refl

name_at : (items : List Item) (i : ℕ) (x : Item) → i < length items → x ≡ get_or items i x
    → x.name ≡ get_or (names_of items) i x.name
name_at items i x lt is = ap (λ (item : Item). item.name) is ∙ sym (get_or-map (λ (item : Item). item.name) items i x x.name lt)

stood : (items : List Item) (i : ℕ) (name : List ℕ) (b : Bool) → has_name (names_of (take i items)) name ≡ b
    → has_name (take i (names_of items)) name ≡ b
stood items i name b e = ap (λ (names : List (List ℕ)). has_name names name) (take-map (λ (item : Item). item.name) i items) ∙ e

pub names_again : (items : List Item) (i : ℕ) (x : Item) → i < length items → x ≡ get_or items i x
    → has_name (names_of (take i items)) x.name ≡ true → repeated (names_of items) ≡ repeated_from (names_of items) i
    → all_once (names_of items) ≡ false
names_again items i x lt is again whole =
    let len = length-map items (λ (item : Item). item.name) in
    let here = repeated-here (names_of items) i x.name (omega (arith, len)) (name_at items i x lt is)
    (stood items i x.name true again) in
    ap is_empty whole ∙ one_of (repeated_from (names_of items) i) x.name here

pub names_past : (items : List Item) (i : ℕ) (x : Item) → i < length items → x ≡ get_or items i x
    → has_name (names_of (take i items)) x.name ≡ false → repeated (names_of items) ≡ repeated_from (names_of items) i
    → repeated (names_of items) ≡ repeated_from (names_of items) (i + 1)
names_past items i x lt is past whole =
    let len = length-map items (λ (item : Item). item.name) in
    whole ∙ repeated-past (names_of items) i x.name (omega (arith, len)) (name_at items i x lt is)
    (stood items i x.name false past)

pub names_all : (items : List Item) (i : ℕ) → length items ≤ i → repeated (names_of items) ≡ repeated_from (names_of items) i
    → all_once (names_of items) ≡ true
names_all items i end whole =
    let len = length-map items (λ (item : Item). item.name) in
    let names = names_of items in
    let before : List (List ℕ) = reverse (take i names) in
    let left : List (List ℕ) → List (List ℕ) = λ rest.
    map (λ name. name.0) (filter stood_before (scan (λ earlier x. x ∷ earlier) (λ earlier x. (x, earlier)) before rest)) in
    ap is_empty whole ∙ at_drop_all (λ rest. is_empty (left rest)) names i (omega (arith, len))

-- ---- empty lists

pub empty_is : {A : Type 0} (xs : List A) → (length xs == 0) ≡ is_empty xs
empty_is [] = refl
empty_is (x ∷ xs) = eqb-suc-zero (length xs)
