-- What a binary search among groups of rising keys finds.
use Rattle.std.proofs.Common.{◌≡◌, ℕ, suc, zero, ◌+◌, ◌<◌, ◌≤◌, List, [], ◌∷◌, length, get_or, take, drop, Result, Ok, Err, IfOk, IfErr, refl, sym, ap, ◌∙◌, subst, arith, length-take}
use Rattle.std.specs.List.{AllByRecursion, AllWithin}
use Rattle.std.specs.List.Sorted.{IsSearchInRange, IsBinarySearchResult, IsNonDecreasingBy}
use Rattle.std.specs.declared.cmp.Ordering.{Ordering}
use Rattle.std.specs.declared.cmp.Ordering.TheVariants.{Less, Equal, Greater}
use Rattle.std.specs.Ordering.{ordering_index}
use Rattle.std.proofs.Math.Seq.{split_at}
use Rattle.std.proofs.lemmas.List.{get_or-take, get_or-drop, take-append-drop, length-drop}
use Rattle.std.proofs.lemmas.List.Elements.{recursion_from_All}
use Rattle.strip_value.specs.declared.values.Value.{Value}
use Rattle.strip_value.specs.Order.{row_cmp, row_cmp_total}
use Rattle.strip_value.proofs.Orders.{row_cmp_equal}
use Rattle.strip_value.proofs.Lists.{all_at}
use Rattle.strip_eval.specs.declared.groups.Group.{Group}
use Rattle.strip_eval.specs.Groups.{GroupsRise, IsGroupAt, IsGroupGap, keys_of}

at_most_two : (o : Ordering) → ordering_index o ≤ 2
at_most_two Less = omega arith
at_most_two Equal = omega arith
at_most_two Greater = omega arith

-- a lower key compares no higher
index_of_lower : (low high key : List Value) (o : Ordering) → row_cmp high key ≡ o → row_cmp low high ≡ Less → ordering_index (row_cmp low key) ≤ ordering_index (row_cmp high key)
index_of_lower low high key Less e below =
    let low_less = ap ordering_index (row_cmp_total.trans low high key below e) in
    let high_less = ap ordering_index e in
    omega arith
index_of_lower low high key Equal e below =
    let low_less = ap ordering_index (sym (ap (row_cmp low) (row_cmp_equal high key e)) ∙ below) in
    let high_equal = ap ordering_index e in
    omega arith
index_of_lower low high key Greater e below =
    let most = at_most_two (row_cmp low key) in
    let high_greater = ap ordering_index e in
    omega arith

-- what is below all keys is below the key of each group
pub lower_of : (low : List Value) (groups : List Group) → AllByRecursion (λ other. row_cmp low other ≡ Less) (keys_of groups) → AllByRecursion (λ g. row_cmp low g.key ≡ Less) groups
lower_of low [] all = tt
lower_of low (g ∷ groups) all = (all.0, lower_of low groups all.1)

module _ (key : List Value) where
  abbrev order : Group → Ordering
  order g = row_cmp g.key key

  comparisons_rise : (groups : List Group) → GroupsRise groups → IsNonDecreasingBy (λ g. ordering_index (order g)) groups
  comparisons_rise [] rise i j d le lt = absurd (omega arith)
  comparisons_rise (g ∷ groups) rise zero zero d le lt = omega arith
  comparisons_rise (g ∷ groups) rise zero (suc j) d le lt =
      let below = all_at (λ h. row_cmp g.key h.key ≡ Less) groups j d (lower_of g.key groups rise.0) (omega arith) in
      index_of_lower g.key (get_or groups j d).key key (order (get_or groups j d)) refl below
  comparisons_rise (g ∷ groups) rise (suc i) zero d le lt = absurd (omega arith)
  comparisons_rise (g ∷ groups) rise (suc i) (suc j) d le lt = comparisons_rise groups rise.1 i j d (omega arith) (omega arith)

  found : (groups : List Group) (at : ℕ) (d : Group) → at < length groups → order (get_or groups at d) ≡ Equal → IsGroupAt groups key at
  found groups at d lt same = record {
    front = take at groups;
    group = get_or groups at d;
    back = drop (suc at) groups;
    split = split_at groups at d lt;
    place = omega (arith, length-take at groups);
    has_key = row_cmp_equal (get_or groups at d).key key same;
  }

  pub searched_found : (groups : List Group) (r : Result ℕ ℕ) → IsSearchInRange r (length groups) → IsBinarySearchResult order groups r → IfOk r (IsGroupAt groups key)
  searched_found [] (Ok at) in_range answer = let lt : at < 0 = in_range in absurd (omega arith)
  searched_found (g ∷ groups) (Ok at) in_range answer = found (g ∷ groups) at g in_range (answer g)
  searched_found groups (Err at) in_range answer = tt

  gap : (groups : List Group) (at : ℕ) → at ≤ length groups → AllWithin (λ g. order g ≡ Less) groups 0 at → AllWithin (λ g. order g ≡ Greater) groups at (length groups) → IsGroupGap groups key at
  gap groups at le below above = record {
    front = take at groups;
    back = drop at groups;
    split = sym (take-append-drop at groups);
    place = omega (arith, length-take at groups);
    below = recursion_from_All (λ g. order g ≡ Less) (take at groups) (λ k d lt.
        let within : k < at = omega (arith, length-take at groups) in
        subst (λ g. order g ≡ Less) (sym (get_or-take at groups k d within)) (below k d (omega arith) within));
    above = recursion_from_All (λ g. order g ≡ Greater) (drop at groups) (λ k d lt.
        let within : at + k < length groups = omega (arith, length-drop at groups) in
        subst (λ g. order g ≡ Greater) (sym (get_or-drop at groups k d)) (above (at + k) d (omega arith) within));
  }

  pub searched_gap : (groups : List Group) (r : Result ℕ ℕ) → GroupsRise groups → IsSearchInRange r (length groups) → IsBinarySearchResult order groups r → IfErr r (IsGroupGap groups key)
  searched_gap groups (Ok at) rise in_range answer = tt
  searched_gap groups (Err at) rise in_range answer =
      let parts = answer (comparisons_rise groups rise) in
      gap groups at in_range parts.0 parts.1
