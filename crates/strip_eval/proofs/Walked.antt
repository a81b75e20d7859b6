-- The walk over combinations, row by row, and that it gives what the query chooses.
use Rattle.std.proofs.Common.{◌≡◌, ◌+◌, ◌-◌, Bool, true, false, cond, List, [], ◌∷◌, ◌++◌, length, map, filter, take, refl, sym, ap, ap₂, ◌∙◌, subst, arith, append_assoc, length-append, None}
use Rattle.std.proofs.lemmas.List.{append-nil, map-append}
use Rattle.std.proofs.lemmas.List.Elements.{filter-append}
use Rattle.std.specs.List.{flat_map}
use Rattle.std.proofs.Math.Seq.{take-append_seam}
use Rattle.strip_value.specs.declared.values.Value.{Value}
use Rattle.strip_value.specs.declared.queries.Query.{Query}
use Rattle.strip_value.specs.Query.{combinations, plain_row, rows_of, satisfies, with_each}
use Rattle.strip_eval.specs.Near.{SuitsRows}
use Rattle.strip_eval.specs.Reads.{rows_among}
use Rattle.strip_eval.specs.Walks.{rows_behind}
use Rattle.strip_eval.proofs.Fits.{suits_next}

-- the last row is let go
pub let_go : {A : Type 0} (xs all : List A) (x : A) → all ≡ xs ++ x ∷ [] → take (length all - 1) all ≡ xs
let_go xs all x is =
    let long : length xs + 1 ≡ length (xs ++ x ∷ []) = omega (arith, length-append xs (x ∷ [])) in
    let place : length all - 1 ≡ length xs = omega (arith, ap length is) in
    ap (λ n. take n all) place ∙ ap (take (length xs)) is ∙ take-append_seam xs (x ∷ [])

-- the rows so far, and those of the entry's rows that are left
pub record StillWalks (query : Query) (others : List (List (List Value))) (total first into chosen left : List (List Value)) : Type 0 where
  pub rows : into ++ flat_map (λ row. rows_behind query (chosen ++ row ∷ []) others) left ≡ total
  pub chosen_is : chosen ≡ first
  pub suits : SuitsRows query chosen (left ∷ others)

one_walked : (of : List Value → List (List Value)) (into now total : List (List Value)) (row : List Value) (rest : List (List Value)) → into ++ flat_map of (row ∷ rest) ≡ total → now ≡ into ++ of row
    → now ++ flat_map of rest ≡ total
one_walked of into now total row rest so_far is = ap (λ rows. rows ++ flat_map of rest) is ∙ append_assoc into (of row) (flat_map of rest) ∙ so_far

-- with the combinations of one more row
pub walks_on : (query : Query) (others : List (List (List Value))) (total first into chosen left : List (List Value)) (row : List Value) (rest pushed into_now walked popped : List (List Value))
    → StillWalks query others total first into chosen left → left ≡ row ∷ rest → pushed ≡ chosen ++ row ∷ [] → into_now ≡ into ++ rows_behind query pushed others → walked ≡ pushed
    → popped ≡ take (length walked - 1) walked → StillWalks query others total first into_now popped rest
walks_on query others total first into chosen left row rest pushed into_now walked popped so_far left_is pushed_is into_is walked_is popped_is =
    let of = λ (r : List Value). rows_behind query (chosen ++ r ∷ []) others in
    let back : popped ≡ chosen = popped_is ∙ let_go chosen walked row (walked_is ∙ pushed_is) in
    subst (λ c. StillWalks query others total first into_now c rest) (sym back) (record {
      rows = one_walked of into into_now total row rest (sym (ap (λ rows. into ++ flat_map of rows) left_is) ∙ so_far.rows) (into_is ∙ ap (λ p. into ++ rows_behind query p others) pushed_is);
      chosen_is = so_far.chosen_is;
      suits = (suits_next query chosen row rest others (subst (λ rows. SuitsRows query chosen (rows ∷ others)) left_is so_far.suits)).1;
    })

pub walks_in : (query : Query) (others : List (List (List Value))) (chosen left : List (List Value)) (row : List Value) (rest pushed : List (List Value)) → SuitsRows query chosen (left ∷ others)
    → left ≡ row ∷ rest → pushed ≡ chosen ++ row ∷ [] → SuitsRows query pushed others
walks_in query others chosen left row rest pushed suits left_is pushed_is =
    subst (λ p. SuitsRows query p others) (sym pushed_is) (suits_next query chosen row rest others (subst (λ rows. SuitsRows query chosen (rows ∷ others)) left_is suits)).0

-- ---- what the walk gives

module _ (query : Query) where
  -- the rows of the combinations that satisfy the filter
  abbrev rows_for : List (List (List Value)) → List (List Value)
  rows_for all = map (plain_row query.items) (filter (satisfies query.filter) all)

  rows_append : (some others : List (List (List Value))) → rows_for (some ++ others) ≡ rows_for some ++ rows_for others
  rows_append some others =
      ap (map (plain_row query.items)) (filter-append (satisfies query.filter) some others) ∙ map-append (plain_row query.items) (filter (satisfies query.filter) some) (filter (satisfies query.filter) others)

  one_row : (rows : List (List Value)) (b : Bool) → cond b (plain_row query.items rows ∷ []) [] ≡ map (plain_row query.items) (cond b (rows ∷ []) [])
  one_row rows true = refl
  one_row rows false = refl

  moved_in : (chosen : List (List Value)) (row : List Value) (all : List (List (List Value))) → map (λ rest. (chosen ++ row ∷ []) ++ rest) all ≡ map (λ rest. chosen ++ rest) (map (λ rest. row ∷ rest) all)
  moved_in chosen row [] = refl
  moved_in chosen row (rest ∷ all) = ap₂ (λ one more. one ∷ more) (append_assoc chosen (row ∷ []) rest) (moved_in chosen row all)

  each_behind : (chosen : List (List Value)) (others : List (List (List Value))) → ((c : List (List Value)) → rows_behind query c others ≡ rows_for (map (λ rest. c ++ rest) (combinations others)))
      → (rows : List (List Value)) → flat_map (λ row. rows_behind query (chosen ++ row ∷ []) others) rows ≡ rows_for (map (λ rest. chosen ++ rest) (with_each rows (combinations others)))
  each_behind chosen others behind [] = refl
  each_behind chosen others behind (row ∷ rows) =
      let own = map (λ (rest : List (List Value)). row ∷ rest) (combinations others) in
      let more = with_each rows (combinations others) in
      let first = behind (chosen ++ row ∷ []) ∙ ap rows_for (moved_in chosen row (combinations others)) in
      ap₂ (λ one rest. one ++ rest) first (each_behind chosen others behind rows)
      ∙ sym (ap rows_for (map-append (λ rest. chosen ++ rest) own more) ∙ rows_append (map (λ rest. chosen ++ rest) own) (map (λ rest. chosen ++ rest) more))

  all_behind : (entries : List (List (List Value))) (chosen : List (List Value)) → rows_behind query chosen entries ≡ rows_for (map (λ rest. chosen ++ rest) (combinations entries))
  all_behind [] chosen =
      one_row chosen (satisfies query.filter chosen) ∙ sym (ap (λ c. map (plain_row query.items) (cond (satisfies query.filter c) (c ∷ []) [])) (append-nil chosen))
  all_behind (rows ∷ others) chosen = each_behind chosen others (all_behind others) rows

  in_none : (all : List (List (List Value))) → map (λ rest. [] ++ rest) all ≡ all
  in_none [] = refl
  in_none (rows ∷ all) = ap (λ more. rows ∷ more) (in_none all)

  -- all rows of a query without groups
  pub walked_all : (entries : List (List (List Value))) → query.group ≡ None → rows_behind query [] entries ≡ rows_among query entries
  walked_all entries plain =
      all_behind entries [] ∙ ap rows_for (in_none (combinations entries)) ∙ sym (ap (λ group. rows_of query.items group (filter (satisfies query.filter) (combinations entries))) plain)
