-- Group columns and totals, by the items that are left.
use Rattle.std.proofs.lemmas.List.Folds.{list_any-append}
use Rattle.std.proofs.Common.{◌≡◌, ◌||◌, ◌++◌, true, ap₂, ℕ, suc, ◌<◌, Bool, false, ◌&&◌, List, [], ◌∷◌, length, map, drop, get_or, drop-cons, refl, sym, ap, ◌∙◌, arith}
use Rattle.std.specs.List.{list_all, list_any}
use Rattle.strip_ast.specs.declared.rules.BoundTree.{BoundTree}
use Rattle.strip_setup.specs.Queries.{Scope, query_of}
use Rattle.strip_value.specs.declared.queries.Item.{Item}
use Rattle.strip_value.specs.declared.queries.Place.{Place}
use Rattle.strip_value.specs.declared.queries.What.{What}
use Rattle.strip_names.specs.Grouped.{are_keys_and_totals, has_misplaced, is_total}

abbrev pub whats : List Item → List What
whats items = map (λ (item : Item). item.what) items

pub all_mapped : (items : List Item) → list_all is_total (whats items) ≡ list_all (λ (item : Item). is_total item.what) items
all_mapped [] = refl
all_mapped (item ∷ items) = ap (λ b. is_total item.what && b) (all_mapped items)

-- where there are items, all of them decide
pub some_totals : (items : List Item) (b : Bool) → 0 < length items → b ≡ list_all (λ (item : Item). is_total item.what) items → b ≡ are_keys_and_totals [] (whats items)
some_totals [] b some is = absurd (omega arith)
some_totals (item ∷ items) b some is = is ∙ sym (all_mapped (item ∷ items))

-- where group columns are left, and no items
pub none_left : (places : List Place) (i : ℕ) (left : List Item) (b : Bool) → b ≡ are_keys_and_totals (drop i places) (whats left) → i < length places → length left < 1 → false ≡ b
none_left places i [] b is within empty =
    let next : drop i places ≡ get_or places i first ∷ drop (suc i) places = drop-cons places i first within in
    sym (is ∙ ap (λ rest. are_keys_and_totals rest []) next)
  where
    first : Place
    first = record { entry = 0; column = 0 }
none_left places i (item ∷ left) b is within empty = absurd (omega arith)

-- ---- misplaced items in queries that stand one after the other

first_holds : (a b c : Bool) → (a || b) ≡ c → a ≡ true → a ≡ c
first_holds true b c e is = e
first_holds false b c e is = cc

second_tells : (a b c : Bool) → (a || b) ≡ c → a ≡ false → b ≡ c
second_tells false b c e is = e
second_tells true b c e is = cc

module _ (scope bound_in : Scope) (conditions evaluate : List BoundTree) (same : bound_in ≡ scope) where
  abbrev pub misplaced : Scope → BoundTree → Bool
  misplaced s bound = has_misplaced (query_of s bound.query)

  both : (a b : Bool) → a ≡ list_any (misplaced bound_in) conditions → b ≡ list_any (misplaced bound_in) evaluate → (a || b) ≡ list_any (misplaced scope) (conditions ++ evaluate)
  both a b a_is b_is = ap₂ ◌||◌ a_is b_is ∙ sym (list_any-append (misplaced bound_in) conditions evaluate) ∙ ap (λ s. list_any (misplaced s) (conditions ++ evaluate)) same

  pub in_conditions : (a b : Bool) → a ≡ list_any (misplaced bound_in) conditions → b ≡ list_any (misplaced bound_in) evaluate → a ≡ true → a ≡ list_any (misplaced scope) (conditions ++ evaluate)
  in_conditions a b a_is b_is = first_holds a b (list_any (misplaced scope) (conditions ++ evaluate)) (both a b a_is b_is)

  pub in_evaluate : (a b : Bool) → a ≡ list_any (misplaced bound_in) conditions → b ≡ list_any (misplaced bound_in) evaluate → a ≡ false → b ≡ list_any (misplaced scope) (conditions ++ evaluate)
  in_evaluate a b a_is b_is = second_tells a b (list_any (misplaced scope) (conditions ++ evaluate)) (both a b a_is b_is)
