-- A combination that is added to groups: to the group of its key, or as the first of a new one.
use Rattle.std.proofs.Common.{◌≡◌, ℕ, ◌<◌, false, cond, List, [], ◌∷◌, ◌++◌, map, refl, sym, ap, ap₂, ◌∙◌, subst, arith, set, get_or}
use Rattle.std.specs.List.{AllByRecursion, insert}
use Rattle.std.specs.List.Sorted.{IsPermutation}
use Rattle.std.specs.declared.cmp.Ordering.TheVariants.{Less, Greater}
use Rattle.std.specs.Ordering.{is_eq}
use Rattle.std.proofs.Math.Seq.{get_or-append_seam, set-append_seam, take-append_seam, drop-append_seam}
use Rattle.std.proofs.lemmas.List.{append-nil, map-append}
use Rattle.std.proofs.lemmas.List.Elements.{filter-append}
use Rattle.std.proofs.lemmas.List.Sorted.{IsPermutation-sym, IsPermutation-cons, IsPermutation-trans, IsPermutation-middle, IsPermutation-to_front, sum_by-IsPermutation}
use Rattle.std.proofs.lemmas.List.Sums.{sum_by-append, sum_by-cons}
use Rattle.strip_value.specs.declared.values.Value.{Value}
use Rattle.strip_value.specs.declared.queries.Item.{Item}
use Rattle.strip_value.specs.declared.queries.Place.{Place}
use Rattle.strip_value.specs.Order.{row_cmp}
use Rattle.strip_value.specs.Query.{distinct, group_key, group_of}
use Rattle.strip_value.proofs.KeyedLaws.{flipped, row_cmp_itself}
use Rattle.strip_value.proofs.Lists.{all_append, all_left, all_right, all_weaker}
use Rattle.strip_eval.specs.declared.groups.Group.{Group}
use Rattle.strip_eval.specs.Groups.{AreGroups, GroupsRise, HasTotals, IsGroupAt, IsGroupGap, Rise, keys_of, part_of, total_of, with_parts}
use Rattle.strip_eval.proofs.Distinct.{distinct_more, if_new, is_new, is_old, none_of, ties, ties_itself, times}
use Rattle.strip_eval.proofs.Search.{lower_of}
use Rattle.strip_eval.proofs.Totals.{totals_first, totals_more}

-- ---- rising keys, split at a group

keys_split : (front : List Group) (g : Group) (back : List Group) → keys_of (front ++ g ∷ back) ≡ keys_of front ++ g.key ∷ keys_of back
keys_split front g back = map-append (λ (h : Group). h.key) front (g ∷ back)

pub below_group : (front : List Group) (g : Group) (back : List Group) → GroupsRise (front ++ g ∷ back) → AllByRecursion (λ h. row_cmp h.key g.key ≡ Less) front
below_group [] g back rise = tt
below_group (f ∷ front) g back rise =
    ((all_right (λ h. row_cmp f.key h.key ≡ Less) front (g ∷ back) (lower_of f.key (front ++ g ∷ back) rise.0)).0, below_group front g back rise.1)

pub above_group : (front : List Group) (g : Group) (back : List Group) → GroupsRise (front ++ g ∷ back) → AllByRecursion (λ h. row_cmp g.key h.key ≡ Less) back
above_group [] g back rise = lower_of g.key back rise.0
above_group (f ∷ front) g back rise = above_group front g back rise.1

-- a group put between those below it and those above it
rise_keys : (low : List Value) (groups : List Group) → AllByRecursion (λ h. row_cmp low h.key ≡ Less) groups → AllByRecursion (λ key. row_cmp low key ≡ Less) (keys_of groups)
rise_keys low [] all = tt
rise_keys low (g ∷ groups) all = (all.0, rise_keys low groups all.1)

rise_between : (front : List Group) (g : Group) (back : List Group) → GroupsRise (front ++ back) → AllByRecursion (λ h. row_cmp h.key g.key ≡ Less) front
    → AllByRecursion (λ h. row_cmp h.key g.key ≡ Greater) back → GroupsRise (front ++ g ∷ back)
rise_between [] g back rise below above =
    (rise_keys g.key back (all_weaker (λ h. row_cmp h.key g.key ≡ Greater) (λ h. row_cmp g.key h.key ≡ Less) (λ h e. flipped h.key g.key Greater e) back above), rise)
rise_between (f ∷ front) g back rise below above =
    let others = lower_of f.key (front ++ back) rise.0 in
    let one = all_append (λ h. row_cmp f.key h.key ≡ Less) front (g ∷ back) (all_left (λ h. row_cmp f.key h.key ≡ Less) front back others) (below.0, all_right (λ h. row_cmp f.key h.key ≡ Less) front back others) in
    (rise_keys f.key (front ++ g ∷ back) one, rise_between front g back rise.1 below.1 above)

-- none of the groups has the key
none_below : (key : List Value) (groups : List Group) → AllByRecursion (λ g. is_eq (row_cmp key g.key) ≡ false) groups → times key (keys_of groups) ≡ 0
none_below key [] all = refl
none_below key (g ∷ groups) all =
    let first : ties key g.key ≡ 0 = ap (λ b. cond b 1 0) all.0 in
    let rest = none_below key groups all.1 in
    omega (arith, sum_by-cons (ties key) g.key (keys_of groups))

-- ---- the groups of the other keys

module _ (items : List Item) (places : List Place) (rows : List (List Value)) (all : List (List (List Value))) where
  abbrev key : List Value
  key = group_key places rows

  abbrev more : List (List (List Value))
  more = all ++ rows ∷ []

  -- the key is another one
  abbrev Apart : Group → Type 0
  Apart g = is_eq (row_cmp key g.key) ≡ false

  apart_below : (groups : List Group) → AllByRecursion (λ g. row_cmp g.key key ≡ Less) groups → AllByRecursion Apart groups
  apart_below groups below = all_weaker (λ g. row_cmp g.key key ≡ Less) Apart (λ g e. ap is_eq (flipped g.key key Less e)) groups below

  apart_above : (groups : List Group) → AllByRecursion (λ g. row_cmp g.key key ≡ Greater) groups → AllByRecursion Apart groups
  apart_above groups above = all_weaker (λ g. row_cmp g.key key ≡ Greater) Apart (λ g e. ap is_eq (flipped g.key key Greater e)) groups above

  group_more : (one : List Value) → group_of places more one ≡ group_of places all one ++ cond (is_eq (row_cmp key one)) (rows ∷ []) []
  group_more one = filter-append (λ rs. is_eq (row_cmp (group_key places rs) one)) all (rows ∷ [])

  others_stay : (groups : List Group) → AllByRecursion Apart groups → AllByRecursion (HasTotals items places all) groups → AllByRecursion (HasTotals items places more) groups
  others_stay [] apart totals = tt
  others_stay (g ∷ groups) apart totals =
      let same = group_more g.key ∙ ap (λ b. group_of places all g.key ++ cond b (rows ∷ []) []) apart.0 ∙ append-nil (group_of places all g.key) in
      (totals.0 ∙ sym (ap (λ group. map (total_of group) items) same), others_stay groups apart.1 totals.1)

  keys_more : distinct (map (group_key places) more) ≡ distinct (map (group_key places) all) ++ if_new key (distinct (map (group_key places) all))
  keys_more = ap distinct (map-append (group_key places) all (rows ∷ [])) ∙ distinct_more (map (group_key places) all) key

  -- the group of the combination's key, with one combination more
  own_more : (g new : Group) → g.key ≡ key → new.key ≡ key → new.totals.items ≡ with_parts items rows g.totals.items → HasTotals items places all g → HasTotals items places more new
  own_more g new g_key new_key parts totals =
      let group = group_of places all key in
      let here = group_more key ∙ ap (λ o. group ++ cond (is_eq o) (rows ∷ []) []) (row_cmp_itself key) in
      let old = totals ∙ ap (λ k. map (total_of (group_of places all k)) items) g_key in
      parts ∙ ap (with_parts items rows) old ∙ totals_more group rows items ∙ sym (ap (λ gs. map (total_of gs) items) (ap (group_of places more) new_key ∙ here))

  -- a new group
  own_first : (new : Group) → new.key ≡ key → new.totals.items ≡ map (λ item. part_of item.what rows) items → group_of places all key ≡ [] → HasTotals items places more new
  own_first new new_key parts none =
      let here = group_more key ∙ ap (λ o. group_of places all key ++ cond (is_eq o) (rows ∷ []) []) (row_cmp_itself key) ∙ ap (λ gs. gs ++ rows ∷ []) none in
      parts ∙ totals_first rows items ∙ sym (ap (λ gs. map (total_of gs) items) (ap (group_of places more) new_key ∙ here))

  -- ---- the groups after

  pub over_found : (front : List Group) (g : Group) (back : List Group) (new : Group) → g.key ≡ key → new.key ≡ g.key → new.totals.items ≡ with_parts items rows g.totals.items
      → AreGroups items places all (front ++ g ∷ back) → AreGroups items places more (front ++ new ∷ back)
  over_found front g back new g_key new_key parts are = record {
    rise = subst Rise (sym same) are.rise;
    keys = subst (λ ks. IsPermutation ks (distinct (map (group_key places) more))) (sym same) (subst (IsPermutation (keys_of (front ++ g ∷ back))) (sym kept) are.keys);
    totals = all_append (HasTotals items places more) front (new ∷ back) (others_stay front below (all_left (HasTotals items places all) front (g ∷ back) are.totals)) (own_more g new g_key (new_key ∙ g_key) parts here.0, others_stay back above here.1);
  }
    where
      same : keys_of (front ++ new ∷ back) ≡ keys_of (front ++ g ∷ back)
      same = keys_split front new back ∙ ap (λ k. keys_of front ++ k ∷ keys_of back) new_key ∙ sym (keys_split front g back)

      here : AllByRecursion (HasTotals items places all) (g ∷ back)
      here = all_right (HasTotals items places all) front (g ∷ back) are.totals

      below : AllByRecursion Apart front
      below = apart_below front (subst (λ k. AllByRecursion (λ h. row_cmp h.key k ≡ Less) front) g_key (below_group front g back are.rise))

      above : AllByRecursion Apart back
      above = all_weaker (λ h. row_cmp g.key h.key ≡ Less) Apart (λ h e. ap is_eq (subst (λ k. row_cmp k h.key ≡ Less) g_key e)) back (above_group front g back are.rise)

      there : 0 < times key (keys_of (front ++ g ∷ back))
      there =
          let split = ap (times key) (keys_split front g back) ∙ sum_by-append (ties key) (keys_of front) (g.key ∷ keys_of back) in
          let one : ties key g.key ≡ 1 = ap (ties key) g_key ∙ ties_itself key in
          omega (arith, sum_by-cons (ties key) g.key (keys_of back))

      kept : distinct (map (group_key places) more) ≡ distinct (map (group_key places) all)
      kept =
          let count : 0 < times key (distinct (map (group_key places) all)) = subst (λ n. 0 < n) (sym (sum_by-IsPermutation (ties key) (keys_of (front ++ g ∷ back)) (distinct (map (group_key places) all)) are.keys)) there in
          keys_more ∙ ap (λ ks. distinct (map (group_key places) all) ++ ks) (is_old key (distinct (map (group_key places) all)) count) ∙ append-nil (distinct (map (group_key places) all))

  pub into_gap : (front back : List Group) (new : Group) → AllByRecursion (λ g. row_cmp g.key key ≡ Less) front → AllByRecursion (λ g. row_cmp g.key key ≡ Greater) back → new.key ≡ key
      → new.totals.items ≡ map (λ item. part_of item.what rows) items → AreGroups items places all (front ++ back) → AreGroups items places more (front ++ new ∷ back)
  into_gap front back new below above new_key parts are = record {
    rise = rise_between front new back are.rise (subst (λ k. AllByRecursion (λ h. row_cmp h.key k ≡ Less) front) (sym new_key) below) (subst (λ k. AllByRecursion (λ h. row_cmp h.key k ≡ Greater) back) (sym new_key) above);
    keys = subst (λ ks. IsPermutation ks (distinct (map (group_key places) more))) (sym now) (subst (IsPermutation (keys_of front ++ key ∷ keys_of back)) (sym one_more) moved);
    totals = all_append (HasTotals items places more) front (new ∷ back) before (own_first new new_key parts (none_of places all key none), after);
  }
    where
      old : keys_of (front ++ back) ≡ keys_of front ++ keys_of back
      old = map-append (λ (h : Group). h.key) front back

      now : keys_of (front ++ new ∷ back) ≡ keys_of front ++ key ∷ keys_of back
      now = keys_split front new back ∙ ap (λ k. keys_of front ++ k ∷ keys_of back) new_key

      before : AllByRecursion (HasTotals items places more) front
      before = others_stay front (apart_below front below) (all_left (HasTotals items places all) front back are.totals)

      after : AllByRecursion (HasTotals items places more) back
      after = others_stay back (apart_above back above) (all_right (HasTotals items places all) front back are.totals)

      none : times key (distinct (map (group_key places) all)) ≡ 0
      none =
          let split = ap (times key) old ∙ sum_by-append (ties key) (keys_of front) (keys_of back) in
          let first = none_below key front (apart_below front below) in
          let second = none_below key back (apart_above back above) in
          sum_by-IsPermutation (ties key) (keys_of (front ++ back)) (distinct (map (group_key places) all)) are.keys ∙ omega arith

      one_more : distinct (map (group_key places) more) ≡ distinct (map (group_key places) all) ++ key ∷ []
      one_more = keys_more ∙ ap (λ ks. distinct (map (group_key places) all) ++ ks) (is_new key (distinct (map (group_key places) all)) none)

      moved : IsPermutation (keys_of front ++ key ∷ keys_of back) (distinct (map (group_key places) all) ++ key ∷ [])
      moved =
          let ks = distinct (map (group_key places) all) in
          let gone = IsPermutation-middle (keys_of front) key (keys_of back) in
          let same = IsPermutation-cons key (keys_of front ++ keys_of back) ks (subst (λ os. IsPermutation os ks) old are.keys) in
          let back_in = IsPermutation-sym (ks ++ key ∷ []) (key ∷ ks) (IsPermutation-to_front ks key) in
          IsPermutation-trans (keys_of front ++ key ∷ keys_of back) (key ∷ (keys_of front ++ keys_of back)) (ks ++ key ∷ []) gone
          (IsPermutation-trans (key ∷ (keys_of front ++ keys_of back)) (key ∷ ks) (ks ++ key ∷ []) same back_in)

  -- ---- after the search

  pub adds_found : (old : List Group) (at : ℕ) (was new : Group) → IsGroupAt old key at → was ≡ get_or old at was → new.key ≡ was.key → new.totals.items ≡ with_parts items rows was.totals.items
      → AreGroups items places all old → AreGroups items places more (set old at new)
  adds_found old at was new there was_is new_key parts are =
      let stands : was ≡ there.group = was_is ∙ ap (λ gs. get_or gs at was) there.split ∙ ap (λ n. get_or (there.front ++ there.group ∷ there.back) n was) (sym there.place) ∙ get_or-append_seam there.front there.group there.back was in
      let changed : set old at new ≡ there.front ++ new ∷ there.back = ap (λ gs. set gs at new) there.split ∙ ap (λ n. set (there.front ++ there.group ∷ there.back) n new) (sym there.place) ∙ set-append_seam there.front there.group there.back new in
      subst (AreGroups items places more) (sym changed)
      (over_found there.front there.group there.back new there.has_key (new_key ∙ ap (λ (g : Group). g.key) stands) (parts ∙ ap (λ (g : Group). with_parts items rows g.totals.items) stands)
      (subst (AreGroups items places all) there.split are))

  pub adds_gap : (old : List Group) (at : ℕ) (new : Group) → IsGroupGap old key at → new.key ≡ key → new.totals.items ≡ map (λ item. part_of item.what rows) items → AreGroups items places all old
      → AreGroups items places more (insert old at new)
  adds_gap old at new there new_key parts are =
      let parted = ap₂ (λ front back. front ++ new ∷ back) (take-append_seam there.front there.back) (drop-append_seam there.front there.back) in
      let changed : insert old at new ≡ there.front ++ new ∷ there.back = ap (λ gs. insert gs at new) there.split ∙ ap (λ n. insert (there.front ++ there.back) n new) (sym there.place) ∙ parted in
      subst (AreGroups items places more) (sym changed)
      (into_gap there.front there.back new there.below there.above new_key parts (subst (AreGroups items places all) there.split are))
