-- The groups of an entry's rows, row by row, and the rows that they give.
use Rattle.std.proofs.Common.{◌≡◌, suc, ◌+◌, ◌^◌, ◌<◌, ◌≤◌, Bool, true, false, cond, List, [], ◌∷◌, ◌++◌, length, map, filter, take, get_or, Option, Some, None, ◌-◌, refl, sym, ap, ap₂, ◌∙◌, subst, arith, append_assoc, length-append}
use Rattle.std.specs.Prelude.{pos}
use Rattle.std.specs.Ordering.{is_eq}
use Rattle.std.specs.List.{All, AllByRecursion}
use Rattle.std.specs.List.Sorted.{IsPermutation}
use Rattle.std.proofs.lemmas.Int.{ints}
use Rattle.std.proofs.lemmas.List.Elements.{recursion_from_All}
use Rattle.std.proofs.lemmas.List.Sorted.{IsPermutation-map, IsPermutation-sym, IsPermutation-trans}
use Rattle.strip_value.specs.declared.kinds.Kind.{Kind}
use Rattle.strip_value.specs.declared.values.Value.{Value}
use Rattle.strip_value.specs.declared.values.Value.TheVariants.{Int}
use Rattle.strip_value.specs.declared.expressions.Test.{Test}
use Rattle.strip_value.specs.declared.queries.Item.{Item}
use Rattle.strip_value.specs.declared.queries.Place.{Place}
use Rattle.strip_value.specs.declared.queries.Query.{Query}
use Rattle.strip_value.specs.declared.queries.What.{What}
use Rattle.strip_value.specs.declared.queries.What.TheVariants as what
use Rattle.strip_value.specs.declared.queries.Input.{Input}
use Rattle.strip_value.specs.Bounds.{Suits, SuitsGroup, SuitsItem, SuitsKinds}
use Rattle.strip_value.specs.Order.{row_cmp}
use Rattle.strip_value.specs.Query.{Environment, combinations, distinct, entry_rows, group_key, group_of, group_row, group_value, in_order, mean, rows_of, satisfies, sum_of}
use Rattle.strip_value.proofs.InOrder.{in_order_only, in_order_permutes, in_order_sorted}
use Rattle.strip_value.proofs.Lists.{all_append, all_filter, all_left}
use Rattle.strip_query.specs.Laws.{FitEntries}
use Rattle.strip_query.proofs.BoundLaws.{sums_stay_big}
use Rattle.strip_eval.specs.declared.groups.Group.{Group}
use Rattle.strip_eval.specs.Groups.{Adds, AreGroups, HasTotals, IsBig, StaysBig, keys_of, part_of, picked, picked_one, row_in, total_of, value_in, values_in, with_parts}
use Rattle.strip_eval.specs.Near.{EntriesFit, FitLists, SuitsRows}
use Rattle.strip_eval.specs.Reads.{HaveOne, rows_among}
use Rattle.strip_eval.proofs.Fits.{entries_fit, suits_next}
use Rattle.strip_eval.proofs.Totals.{totals_more}
use Rattle.strip_eval.proofs.Walked.{let_go}

-- ---- what items come to stays a `Big`

kept_length : {A : Type 0} (b : Bool) (x : A) (xs ys : List A) → length xs ≤ length ys → length (cond b (x ∷ xs) xs) ≤ suc (length ys)
kept_length true x xs ys le = omega arith
kept_length false x xs ys le = omega arith

filter_length : {A : Type 0} (test : A → Bool) (xs : List A) → length (filter test xs) ≤ length xs
filter_length test [] = omega arith
filter_length test (x ∷ xs) = kept_length (test x) x (filter test xs) xs (filter_length test xs)

no_sum : (e : What) (group : List (List (List Value))) → ((rows : List (List Value)) → part_of e rows ≡ pos 0) → sum_of (map (part_of e) group) ≡ pos 0
no_sum e [] none = refl
no_sum e (rows ∷ group) none = let first = none rows in let rest = no_sum e group none in omega (arith, ints)

counted : (group : List (List (List Value))) → sum_of (map (part_of what.Count) group) ≡ pos (length group)
counted [] = refl
counted (rows ∷ group) = let rest = counted group in omega (arith, ints)

big_total : (kinds : List (List Kind)) (places : List Place) (group : List (List (List Value))) (w : What) → SuitsItem kinds (Some places) w → AllByRecursion (FitEntries kinds) group
    → length group < 2 ^ 62 → IsBig (sum_of (map (part_of w) group))
big_total kinds places group (what.Plain e) suits fit few = let none = no_sum (what.Plain e) group (λ rows. refl) in omega (arith, ints)
big_total kinds places group (what.Sum e) suits fit few = let near = sums_stay_big kinds group e fit suits.0 suits.2 few in omega (arith, ints)
big_total kinds places group what.Count suits fit few = let count = counted group in omega (arith, ints)

big_totals : (kinds : List (List Kind)) (places : List Place) (group : List (List (List Value))) (items : List Item) → AllByRecursion (λ item. SuitsItem kinds (Some places) item.what) items
    → AllByRecursion (FitEntries kinds) group → length group < 2 ^ 62 → AllByRecursion IsBig (map (total_of group) items)
big_totals kinds places group [] suits fit few = tt
big_totals kinds places group (item ∷ items) suits fit few = (big_total kinds places group item.what suits.0 fit few, big_totals kinds places group items suits.1 fit few)

length_map : {A B : Type 0} (f : A → B) (xs : List A) → length (map f xs) ≡ length xs
length_map f [] = refl
length_map f (x ∷ xs) = ap suc (length_map f xs)

module _ (query : Query) (places : List Place) (kinds : List (List Kind)) (grouped : query.group ≡ Some places) (suits : SuitsKinds query kinds) where
  items_suit : AllByRecursion (λ item. SuitsItem kinds (Some places) item.what) query.items
  items_suit = recursion_from_All (λ item. SuitsItem kinds (Some places) item.what) query.items (subst (λ g. All (λ (item : Item). SuitsItem kinds g item.what) query.items) grouped suits.items_suit)

  stays_big : (rows : List (List Value)) (done : List (List (List Value))) → AllByRecursion (FitEntries kinds) done → FitEntries kinds rows → length done + 1 < 2 ^ 62 → (groups : List Group)
      → AllByRecursion (HasTotals query.items places done) groups → AllByRecursion (StaysBig query.items places rows) groups
  stays_big rows done fit one few [] totals = tt
  stays_big rows done fit one few (g ∷ groups) totals =
      let group = group_of places done g.key in
      let long : length g.totals.items ≡ length query.items = ap length totals.0 ∙ length_map (total_of group) query.items in
      let now : with_parts query.items rows g.totals.items ≡ map (total_of (group ++ rows ∷ [])) query.items = ap (with_parts query.items rows) totals.0 ∙ totals_more group rows query.items in
      let all = all_append (FitEntries kinds) group (rows ∷ []) (all_filter (FitEntries kinds) _ done fit) (one, tt) in
      let short : length (group ++ rows ∷ []) < 2 ^ 62 = omega (arith, length-append group (rows ∷ []), filter_length (λ rs. is_eq (row_cmp (group_key places rs) g.key)) done) in
      (λ own. (long, subst (AllByRecursion IsBig) (sym now) (big_totals kinds places (group ++ rows ∷ []) query.items items_suit all short)), stays_big rows done fit one few groups totals.1)

-- ---- row by row

-- the groups of the rows so far, and the rows that are left
pub record StillGroups (query : Query) (places : List Place) (all one left : List (List Value)) (groups : List Group) : Type 0 where
  pub done : List (List (List Value))
  pub are : AreGroups query.items places done groups
  pub rest : done ++ picked query.filter left ≡ picked query.filter all
  pub long : length done + length left ≤ length all
  pub alone : one ≡ []
  pub fit : (kinds : List (List Kind)) → FitLists kinds (all ∷ []) → FitLists kinds (left ∷ [])

one_picked : {A : Type 0} (b : Bool) (x : A) (xs : List A) → cond b (x ∷ xs) xs ≡ cond b (x ∷ []) [] ++ xs
one_picked true x xs = refl
one_picked false x xs = refl

at_most_one : {A : Type 0} (b : Bool) (x : A) → length (cond b (x ∷ []) []) ≤ 1
at_most_one true x = omega arith
at_most_one false x = omega arith

-- the first row fits, and the others do
first_fits : (kinds : List (List Kind)) (row : List Value) (rest : List (List Value)) → FitLists kinds ((row ∷ rest) ∷ []) → FitEntries kinds (row ∷ []) × FitLists kinds (rest ∷ [])
first_fits [] row rest fit = absurd fit
first_fits (ks ∷ []) row rest fit = ((fit.0.0, tt), (fit.0.1, tt))
first_fits (ks ∷ more ∷ kinds) row rest fit = absurd fit.1

picked_fit : (t : Test) (kinds : List (List Kind)) (rows : List (List Value)) → FitLists kinds (rows ∷ []) → AllByRecursion (FitEntries kinds) (picked t rows)
picked_fit t kinds rows fit = all_filter (FitEntries kinds) (satisfies t) (map (λ row. row ∷ []) rows) (alone_fit kinds rows fit)
  where
    alone_fit : (kinds : List (List Kind)) (rows : List (List Value)) → FitLists kinds (rows ∷ []) → AllByRecursion (FitEntries kinds) (map (λ row. row ∷ []) rows)
    alone_fit kinds [] fit = tt
    alone_fit kinds (row ∷ rows) fit = let parts = first_fits kinds row rows fit in (parts.0, alone_fit kinds rows parts.1)

module _ (query : Query) (places : List Place) (all one left : List (List Value)) (groups : List Group) (row : List Value) (rest pushed : List (List Value)) (so_far : StillGroups query places all one left groups) (left_is : left ≡ row ∷ rest) (pushed_is : pushed ≡ one ++ row ∷ []) where
  alone_is : pushed ≡ row ∷ []
  alone_is = pushed_is ∙ ap (λ rows. rows ++ row ∷ []) so_far.alone

  fit_here : (kinds : List (List Kind)) → FitLists kinds (all ∷ []) → FitLists kinds ((row ∷ rest) ∷ [])
  fit_here kinds fit = subst (λ rows. FitLists kinds (rows ∷ [])) left_is (so_far.fit kinds fit)

  -- what the next row asks
  pub next_suits : SuitsRows query [] (all ∷ []) → SuitsRows query pushed []
  next_suits suits = subst (λ rows. SuitsRows query rows []) (sym alone_is) (suits_next query [] row rest [] (suits.0, suits.1, fit_here suits.0 suits.2)).0

  pub next_big : query.group ≡ Some places → SuitsRows query [] (all ∷ []) → length all < 2 ^ 62 → AllByRecursion (StaysBig query.items places pushed) groups
  next_big grouped suits few =
      let kinds = suits.0 in
      let whole = subst (AllByRecursion (FitEntries kinds)) (sym so_far.rest) (picked_fit query.filter kinds all suits.2) in
      let fit = all_left (FitEntries kinds) so_far.done (picked query.filter left) whole in
      let room : length so_far.done + 1 < 2 ^ 62 = omega (arith, so_far.long, ap length left_is) in
      subst (λ rows. AllByRecursion (StaysBig query.items places rows) groups) (sym alone_is)
      (stays_big query places kinds grouped suits.1 (row ∷ []) so_far.done fit (first_fits kinds row rest (fit_here kinds suits.2)).0 room groups so_far.are.totals)

  -- and the groups with it
  pub groups_on : (now : List Group) (popped : List (List Value)) → Adds query.items places (picked_one query.filter pushed) groups now → popped ≡ take (length pushed - 1) pushed
      → StillGroups query places all popped rest now
  groups_on now popped adds popped_is = record {
    done = so_far.done ++ picked_one query.filter (row ∷ []);
    are = subst (λ rows. AreGroups query.items places (so_far.done ++ picked_one query.filter rows) now) alone_is (adds so_far.done so_far.are);
    rest = append_assoc so_far.done (picked_one query.filter (row ∷ [])) (picked query.filter rest)
        ∙ ap (λ rows. so_far.done ++ rows) (sym (one_picked (satisfies query.filter (row ∷ [])) (row ∷ []) (picked query.filter rest)))
        ∙ sym (ap (λ rows. so_far.done ++ picked query.filter rows) left_is) ∙ so_far.rest;
    long = omega (arith, so_far.long, ap length left_is, length-append so_far.done (picked_one query.filter (row ∷ [])), at_most_one (satisfies query.filter (row ∷ [])) (row ∷ []));
    alone = popped_is ∙ let_go [] pushed row alone_is;
    fit = λ kinds fit. (first_fits kinds row rest (fit_here kinds fit)).1;
  }

-- ---- the rows of the groups

value_of_total : (places : List Place) (key : List Value) (group : List (List (List Value))) (w : What) → value_in places key w (sum_of (map (part_of w) group)) ≡ group_value places key group w
value_of_total places key group (what.Plain e) = refl
value_of_total places key group (what.Sum e) = refl
value_of_total places key group what.Count = ap Int (counted group)

values_of_totals : (places : List Place) (key : List Value) (group : List (List (List Value))) (items : List Item)
    → values_in places key items (map (total_of group) items) ≡ map (λ item. group_value places key group item.what) items
values_of_totals places key group [] = refl
values_of_totals places key group (item ∷ items) = ap₂ (λ v vs. v ∷ vs) (value_of_total places key group item.what) (values_of_totals places key group items)

rows_of_all : (items : List Item) (places : List Place) (all : List (List (List Value))) (groups : List Group) → AllByRecursion (HasTotals items places all) groups
    → map (row_in items places) groups ≡ map (group_row items places all) (keys_of groups)
rows_of_all items places all [] totals = refl
rows_of_all items places all (g ∷ groups) totals =
    ap₂ (λ row rows. row ∷ rows) (ap (values_in places g.key items) totals.0 ∙ values_of_totals places g.key (group_of places all g.key) items) (rows_of_all items places all groups totals.1)

-- rows in another order have the same order
same_order : (one two : List (List Value)) → IsPermutation one two → in_order one ≡ in_order two
same_order one two moved =
    in_order_only two (in_order one) (IsPermutation-trans two one (in_order one) (IsPermutation-sym one two moved) (in_order_permutes one)) (in_order_sorted one)

only_combinations : (rows : List (List Value)) → combinations (rows ∷ []) ≡ map (λ row. row ∷ []) rows
only_combinations [] = refl
only_combinations (row ∷ rows) = ap (λ more. (row ∷ []) ∷ more) (only_combinations rows)

-- the rows of the groups of an only entry are those of the query
pub grouped_all : (query : Query) (places : List Place) (entry : List (List Value)) (entries : List (List (List Value))) (groups : List Group) → query.group ≡ Some places → length entries ≡ 1
    → entry ≡ get_or entries 0 entry → AreGroups query.items places (picked query.filter entry) groups → in_order (map (row_in query.items places) groups) ≡ in_order (rows_among query entries)
grouped_all query places entry [] groups grouped one entry_is are = absurd (omega arith)
grouped_all query places entry (e ∷ f ∷ entries) groups grouped one entry_is are = absurd (omega arith)
grouped_all query places entry (e ∷ []) groups grouped one entry_is are =
    let all = picked query.filter entry in
    let row = group_row query.items places all in
    let chosen : filter (satisfies query.filter) (combinations (e ∷ [])) ≡ all = ap (filter (satisfies query.filter)) (only_combinations e) ∙ sym (ap (picked query.filter) entry_is) in
    ap in_order (rows_of_all query.items places all groups are.totals)
    ∙ same_order (map row (keys_of groups)) (map row (distinct (map (group_key places) all))) (IsPermutation-map row (keys_of groups) (distinct (map (group_key places) all)) are.keys)
    ∙ ap in_order (sym (ap₂ (rows_of query.items) grouped chosen))

-- ---- queries that suit

pub suits_rows : (query : Query) (env : Environment) (lists : List (List (List Value))) → Suits query env → EntriesFit env query.entries lists → SuitsRows query [] lists
unfolding Suits
suits_rows query env lists suits fit = (suits.0, suits.2, entries_fit env query.entries lists suits.0 fit suits.1)

have_one : (kinds : List (List Kind)) (entries : List Input) (lists : List (List (List Value))) (group : Option (List Place)) → length lists ≡ length entries → SuitsGroup kinds entries group → HaveOne group lists
have_one kinds entries lists None long suits = tt
have_one kinds entries lists (Some places) long suits = long ∙ suits.0

pub one_entry : (query : Query) (env : Environment) (lists : List (List (List Value))) → Suits query env → lists ≡ map (entry_rows env) query.entries → HaveOne query.group lists
unfolding Suits
one_entry query env lists suits is = have_one suits.0 query.entries lists query.group (ap length is ∙ length_map (entry_rows env) query.entries) suits.2.group_suits

pub meant : (query : Query) (env : Environment) (lists : List (List (List Value))) → lists ≡ map (entry_rows env) query.entries → in_order (rows_among query lists) ≡ mean query env
unfolding mean
meant query env lists is = ap (λ ls. in_order (rows_among query ls)) is
