-- The rows of the query of a derived table of the first form: one for each group that a row of the base table has, with the
-- totals of the group, by rising group.
use Rattle.std.proofs.Common.{◌≡◌, ℕ, suc, Bool, true, false, not, ◌||◌, cond, List, [], ◌∷◌, length, map, filter, Some, None, ℤ, pos, ◌+ℤ◌, refl, sym, ap, ap₂, ◌∙◌, subst}
use Rattle.std.specs.List.{AllByRecursion, list_any}
use Rattle.std.specs.Cmp.{Equal-is}
use Rattle.std.proofs.lemmas.Bool.{not-true}
use Rattle.std.proofs.lemmas.List.{length-map}
use borrow.Author.Tests.{eq-eqb}
use Rattle.std.specs.declared.cmp.Ordering.{Ordering}
use Rattle.std.specs.declared.cmp.Ordering.TheVariants.{Less, Equal, Greater}
use Rattle.std.specs.Ordering.{is_eq, ordering_then}
use Rattle.strip_value.specs.declared.expressions.Calc.TheVariants.{Column}
use Rattle.strip_value.specs.declared.expressions.Test.TheVariants.{True}
use Rattle.strip_value.specs.declared.queries.Item.{Item}
use Rattle.strip_value.specs.declared.queries.Place.{Place}
use Rattle.strip_value.specs.declared.values.Value.{Value}
use Rattle.strip_value.specs.declared.values.Value.TheVariants.{Int}
use Rattle.strip_value.specs.Order.{row_cmp, value_cmp}
use Rattle.strip_value.specs.Query.{combinations, distinct, group_key, group_of, group_row, in_order, mean, mean_now, number_of, put_in_order, rows_at, rows_of, satisfies, sum_of, value_at}
use Rattle.strip_value.specs.Table.{Keyed, Rises, column_of, has_key, key_of, placed, put_between, row_at, with_row}
use Rattle.strip_value.proofs.Lists.{all_filter, all_weaker, filter_all}
use Rattle.strip_value.proofs.Orders.{row_cmp_equal}
use Rattle.strip_value.proofs.KeyedLaws.{flipped, row_cmp_itself}
use Rattle.strip_meaning.specs.Sums.{any_total, row_of}
use Rattle.strip_add.proofs.SummedUp.{shown}
use Rattle.strip_add.proofs.LawProofs.{all_zero}
use Rattle.strip_meaning.proofs.Behind.{all_pass}
use Rattle.strip_add.proofs.KeyedAsMaps.{Sets, at_first, key_is, past_first, sets_row}
use Rattle.strip_engine.specs.declared.keepers.Keeper.{Keeper}
use Rattle.strip_meaning.specs.First.{Form, first_query}
use Rattle.strip_engine.specs.Keepers.{keeper_by}
use Rattle.strip_engine.specs.Quiet.{group_rows, group_totals}
use Rattle.strip_engine.proofs.QuietTotals.{all_in_order}

-- ---- rows with first values of their own, in row order

abbrev pub IsHeaded : List Value → Type 0
IsHeaded [] = ⊥
IsHeaded (v ∷ row) = Unit {0}

-- a row with another first value
pub record IsOther (row other : List Value) : Type 0 where
  pub headed : IsHeaded other
  pub apart : has_key (0 ∷ []) (key_of (0 ∷ []) row) other ≡ false

abbrev pub HeadsDiffer : List (List Value) → Type 0
HeadsDiffer [] = Unit {0}
HeadsDiffer (row ∷ rows) = IsHeaded row × AllByRecursion (IsOther row) rows × HeadsDiffer rows

first_decides : (o : Ordering) (more : Ordering) → is_eq (ordering_then o Equal) ≡ false → ordering_then o more ≡ ordering_then o Equal
first_decides Less more ne = refl
first_decides Equal more ne = cc
first_decides Greater more ne = refl

-- such rows are ordered as their first values are
as_keys : (row other : List Value) → IsHeaded row → IsOther row other → row_cmp row other ≡ row_cmp (key_of (0 ∷ []) row) (key_of (0 ∷ []) other)
as_keys [] other headed one = absurd headed
as_keys (a ∷ as_) [] headed one = absurd one.headed
as_keys (a ∷ as_) (b ∷ bs) headed one = first_decides (value_cmp a b) (row_cmp as_ bs) (by_order (value_cmp a b) refl)
  where
    by_order : (o : Ordering) → value_cmp a b ≡ o → is_eq (ordering_then o Equal) ≡ false
    by_order Less e = refl
    by_order Equal e =
        let same : b ∷ [] ≡ a ∷ [] = sym (row_cmp_equal (a ∷ []) (b ∷ []) (ap (λ o. ordering_then o Equal) e)) in
        let met : true ≡ false = sym (ap is_eq (row_cmp_itself (a ∷ []))) ∙ ap (λ k. is_eq (row_cmp k (a ∷ []))) (sym same) ∙ one.apart in
        cc
    by_order Greater e = refl

-- so a row is put among them by its first value
placed_same : (row : List Value) (rows : List (List Value)) → IsHeaded row → AllByRecursion (IsOther row) rows → put_in_order row rows ≡ placed (0 ∷ []) row rows
placed_same row [] headed all = refl
placed_same row (first ∷ rows) headed all =
    ap₂ (λ o more. put_between o row first rows more) (as_keys row first headed all.0) (placed_same row rows headed all.1)

put_same : (row : List Value) (rows : List (List Value)) → IsHeaded row → AllByRecursion (IsOther row) rows → put_in_order row rows ≡ with_row (0 ∷ []) rows row
put_same row rows headed all =
    placed_same row rows headed all
    ∙ sym (ap (placed (0 ∷ []) row) (filter_all (λ other. not (has_key (0 ∷ []) (key_of (0 ∷ []) row) other)) rows
    (all_weaker (IsOther row) (λ other. not (has_key (0 ∷ []) (key_of (0 ∷ []) row) other) ≡ true) (λ other one. ap not one.apart) rows all)))

-- in row order they rise by first value, and each first value has its row
pub record InOrder (rows : List (List Value)) : Type 0 where
  pub rises : Rises (0 ∷ []) (in_order rows)
  pub each : (key : List Value) → row_at (0 ∷ []) (in_order rows) key ≡ row_at (0 ∷ []) rows key

module _ (row : List Value) (rows : List (List Value)) (headed : IsHeaded row) (others : AllByRecursion (IsOther row) rows) (rest : InOrder rows) where
  row_sets : Sets (0 ∷ []) (in_order rows) (with_row (0 ∷ []) (in_order rows) row) (key_of (0 ∷ []) row) (Some row)
  row_sets = sets_row (0 ∷ []) (in_order rows) row rest.rises

  row_put : in_order (row ∷ rows) ≡ with_row (0 ∷ []) (in_order rows) row
  row_put = put_same row (in_order rows) headed (all_in_order (IsOther row) rows others)

  row_found : (key : List Value) (b : Bool) → has_key (0 ∷ []) key row ≡ b → row_at (0 ∷ []) (with_row (0 ∷ []) (in_order rows) row) key ≡ row_at (0 ∷ []) (row ∷ rows) key
  row_found key true h =
      subst (λ k. row_at (0 ∷ []) (with_row (0 ∷ []) (in_order rows) row) k ≡ Some row) (key_is (0 ∷ []) row key h) row_sets.here ∙ sym (at_first (0 ∷ []) row rows key h)
  row_found key false h = row_sets.others key h ∙ rest.each key ∙ sym (past_first (0 ∷ []) row rows key h)

  row_ordered : InOrder (row ∷ rows)
  row_ordered = record {
    rises = subst (Rises (0 ∷ [])) (sym row_put) row_sets.rises;
    each = λ key. ap (λ rs. row_at (0 ∷ []) rs key) row_put ∙ row_found key (has_key (0 ∷ []) key row) refl;
  }

pub ordered : (rows : List (List Value)) → HeadsDiffer rows → InOrder rows
ordered [] differ = record { rises = tt; each = λ key. refl }
ordered (row ∷ rows) differ = row_ordered row rows differ.0 differ.1 (ordered rows differ.2)

-- ---- the groups

-- one of the rows is this key
abbrev pub has_group : List (List Value) → List Value → Bool
has_group keys key = list_any (λ k. is_eq (row_cmp k key)) keys

-- a key of one value
abbrev pub IsSingle : List Value → Type 0
IsSingle (v ∷ []) = Unit {0}
IsSingle _ = ⊥

-- keys of one value each, each once
abbrev pub Once : List (List Value) → Type 0
Once [] = Unit {0}
Once (key ∷ keys) = IsSingle key × AllByRecursion (λ other. is_eq (row_cmp key other) ≡ false) keys × Once keys

once_filter : (test : List Value → Bool) (keys : List (List Value)) → Once keys → Once (filter test keys)
once_filter test [] once = tt
once_filter test (key ∷ keys) once = by_test (test key) (once_filter test keys once.2)
  where
    by_test : (b : Bool) → Once (filter test keys) → Once (cond b (key ∷ filter test keys) (filter test keys))
    by_test true rest = (once.0, all_filter (λ other. is_eq (row_cmp key other) ≡ false) test keys once.1, rest)
    by_test false rest = rest

distinct_once : (keys : List (List Value)) → AllByRecursion IsSingle keys → Once (distinct keys)
distinct_once [] all = tt
distinct_once (key ∷ keys) all =
    let test = λ (other : List Value). not (is_eq (row_cmp key other)) in (
      all.0,
      all_weaker (λ other. test other ≡ true) (λ other. is_eq (row_cmp key other) ≡ false) (λ other e. not-true (is_eq (row_cmp key other)) e) (filter test (distinct keys)) (all_pass test (distinct keys)),
      once_filter test (distinct keys) (distinct_once keys all.1),
    )

-- what is left out is a key that stands
has_left : (key k : List Value) (keys : List (List Value)) → is_eq (row_cmp key k) ≡ false → has_group (filter (λ other. not (is_eq (row_cmp key other))) keys) k ≡ has_group keys k
has_left key k [] ne = refl
has_left key k (other ∷ keys) ne = by_test (is_eq (row_cmp key other)) refl (has_left key k keys ne)
  where
    left : List (List Value)
    left = filter (λ one. not (is_eq (row_cmp key one))) keys

    by_test : (b : Bool) → is_eq (row_cmp key other) ≡ b → has_group left k ≡ has_group keys k → has_group (cond (not b) (other ∷ left) left) k ≡ (is_eq (row_cmp other k) || has_group keys k)
    by_test true e rest =
        let same : key ≡ other = row_cmp_equal key other ((Equal-is (row_cmp key other)).0 e) in
        rest ∙ sym (ap (λ b. b || has_group keys k) (ap (λ one. is_eq (row_cmp one k)) (sym same) ∙ ne))
    by_test false e rest = ap (λ b. is_eq (row_cmp other k) || b) rest

has_distinct : (keys : List (List Value)) (k : List Value) → has_group (distinct keys) k ≡ has_group keys k
has_distinct [] k = refl
has_distinct (key ∷ keys) k = by_test (is_eq (row_cmp key k)) refl (has_distinct keys k)
  where
    others : List (List Value)
    others = filter (λ other. not (is_eq (row_cmp key other))) (distinct keys)

    by_test : (b : Bool) → is_eq (row_cmp key k) ≡ b → has_group (distinct keys) k ≡ has_group keys k → (is_eq (row_cmp key k) || has_group others k) ≡ (is_eq (row_cmp key k) || has_group keys k)
    by_test true e rest = ap (λ b. b || has_group others k) e ∙ sym (ap (λ b. b || has_group keys k) e)
    by_test false e rest = ap (λ b. is_eq (row_cmp key k) || b) (has_left key k (distinct keys) e ∙ rest)

-- ---- a row for each group

module _ (totals : List Value → List ℤ) where
  abbrev made : List Value → List Value
  made key = row_of key (totals key)

  made_headed : (key : List Value) → IsSingle key → IsHeaded (made key)
  made_headed [] single = absurd single
  made_headed (v ∷ []) single = tt
  made_headed (v ∷ w ∷ more) single = absurd single

  made_key : (key : List Value) → IsSingle key → key_of (0 ∷ []) (made key) ≡ key
  made_key [] single = absurd single
  made_key (v ∷ []) single = refl
  made_key (v ∷ w ∷ more) single = absurd single

  made_others : (key : List Value) (keys : List (List Value)) → IsSingle key → AllByRecursion (λ other. is_eq (row_cmp key other) ≡ false) keys → Once keys → AllByRecursion (IsOther (made key)) (map made keys)
  made_others key [] single apart once = tt
  made_others key (other ∷ keys) single apart once = (
    record {
      headed = made_headed other once.0;
      apart = ap₂ (λ one two. is_eq (row_cmp one two)) (made_key other once.0) (made_key key single) ∙ turned (row_cmp key other) refl apart.0;
    },
    made_others key keys single apart.1 once.2,
  )
    where
      turned : (o : Ordering) → row_cmp key other ≡ o → is_eq (row_cmp key other) ≡ false → is_eq (row_cmp other key) ≡ false
      turned Less e ne = ap is_eq (flipped key other Less e)
      turned Equal e ne = let met : true ≡ false = sym (ap is_eq e) ∙ ne in cc
      turned Greater e ne = ap is_eq (flipped key other Greater e)

  made_differ : (keys : List (List Value)) → Once keys → HeadsDiffer (map made keys)
  made_differ [] once = tt
  made_differ (key ∷ keys) once = (made_headed key once.0, made_others key keys once.0 once.1 once.2, made_differ keys once.2)

  made_at : (keys : List (List Value)) (key : List Value) → Once keys → row_at (0 ∷ []) (map made keys) key ≡ cond (has_group keys key) (Some (made key)) None
  made_at [] key once = refl
  made_at (k ∷ keys) key once = by_test (is_eq (row_cmp k key)) refl (made_at keys key once.2)
    where
      by_test : (b : Bool) → is_eq (row_cmp k key) ≡ b → row_at (0 ∷ []) (map made keys) key ≡ cond (has_group keys key) (Some (made key)) None
          → row_at (0 ∷ []) (made k ∷ map made keys) key ≡ cond (is_eq (row_cmp k key) || has_group keys key) (Some (made key)) None
      by_test true e rest =
          let own : has_key (0 ∷ []) key (made k) ≡ true = ap (λ one. is_eq (row_cmp one key)) (made_key k once.0) ∙ e in
          let same : k ≡ key = sym (made_key k once.0) ∙ key_is (0 ∷ []) (made k) key own in
          at_first (0 ∷ []) (made k) (map made keys) key own ∙ ap (λ one. Some (made one)) same ∙ sym (ap (λ b. cond (b || has_group keys key) (Some (made key)) None) e)
      by_test false e rest =
          let own : has_key (0 ∷ []) key (made k) ≡ false = ap (λ one. is_eq (row_cmp one key)) (made_key k once.0) ∙ e in
          past_first (0 ∷ []) (made k) (map made keys) key own ∙ rest ∙ sym (ap (λ b. cond (b || has_group keys key) (Some (made key)) None) e)

-- ---- the query

map_alike : {A B : Type 0} (f g : A → B) (xs : List A) → AllByRecursion (λ x. f x ≡ g x) xs → map f xs ≡ map g xs
map_alike f g [] all = refl
map_alike f g (x ∷ xs) all = ap₂ (λ y ys. y ∷ ys) all.0 (map_alike f g xs all.1)

once_single : (keys : List (List Value)) → Once keys → AllByRecursion IsSingle keys
once_single [] once = tt
once_single (key ∷ keys) once = (once.0, once_single keys once.2)

-- totals of which one counts something
counted : (sum : ℤ) (n : ℕ) → any_total (sum ∷ pos (suc n) ∷ []) ≡ true
counted sum n = by_test (any_total (sum ∷ pos (suc n) ∷ [])) refl
  where
    by_test : (b : Bool) → any_total (sum ∷ pos (suc n) ∷ []) ≡ b → any_total (sum ∷ pos (suc n) ∷ []) ≡ true
    by_test true e = e
    by_test false e =
        let zeros : sum ∷ pos (suc n) ∷ [] ≡ pos 0 ∷ pos 0 ∷ [] = all_zero (sum ∷ pos (suc n) ∷ []) e in
        cc

module _ (form : Form) (id : ℕ) where
  abbrev k : Keeper
  k = keeper_by id (first_query form)

  abbrev places : List Place
  places = record { entry = 0; column = form.group } ∷ []

  abbrev items : List Item
  items = (first_query form).items

  abbrev alone : List (List Value) → List (List (List Value))
  alone rows = map (λ row. row ∷ []) rows

  -- its combinations are the rows of the base table
  combined : (rows : List (List Value)) → filter (satisfies True) (combinations (rows ∷ [])) ≡ alone rows
  combined [] = refl
  combined (row ∷ rows) = ap (λ more. (row ∷ []) ∷ more) (combined rows)

  -- its groups are those of the rows
  keys_are : (rows : List (List Value)) → map (group_key places) (alone rows) ≡ map (key_of (form.group ∷ [])) rows
  keys_are [] = refl
  keys_are (row ∷ rows) = ap (λ more. (column_of row form.group ∷ []) ∷ more) (keys_are rows)

  group_are : (rows : List (List Value)) (key : List Value) → group_of places (alone rows) key ≡ alone (group_rows k rows key)
  group_are [] key = refl
  group_are (row ∷ rows) key = by_test (has_key (form.group ∷ []) key row) (group_are rows key)
    where
      by_test : (b : Bool) → group_of places (alone rows) key ≡ alone (group_rows k rows key) → cond b ((row ∷ []) ∷ group_of places (alone rows) key) (group_of places (alone rows) key) ≡ alone (cond b (row ∷ group_rows k rows key) (group_rows k rows key))
      by_test true rest = ap (λ more. (row ∷ []) ∷ more) rest
      by_test false rest = rest

  values_are : (rows : List (List Value)) → map (λ (one : List (List Value)). number_of (value_at one (Column 0 form.value))) (alone rows) ≡ map (λ (row : List Value). number_of (column_of row form.value)) rows
  values_are [] = refl
  values_are (row ∷ rows) = ap (λ more. number_of (column_of row form.value) ∷ more) (values_are rows)

  -- the row of a group has its totals
  row_is : (rows : List (List Value)) (key : List Value) → IsSingle key → group_row items places (alone rows) key ≡ row_of key (group_totals k rows key)
  row_is rows [] one = absurd one
  row_is rows (v ∷ w ∷ more) one = absurd one
  row_is rows (v ∷ []) one =
      let group = group_rows k rows (v ∷ []) in
      ap₂ (λ b g. cond b v (Int (pos 0)) ∷ Int (sum_of (map (λ (one : List (List Value)). number_of (value_at one (Column 0 form.value))) g)) ∷ Int (pos (length g)) ∷ []) (eq-eqb form.group form.group refl) (group_are rows (v ∷ []))
      ∙ ap₂ (λ ns n. v ∷ Int (sum_of ns) ∷ Int (pos n) ∷ []) (values_are group) (length-map group (λ (row : List Value). row ∷ []))

  abbrev groups : List (List Value) → List (List Value)
  groups rows = map (key_of (form.group ∷ [])) rows

  groups_single : (rows : List (List Value)) → AllByRecursion IsSingle (groups rows)
  groups_single [] = tt
  groups_single (row ∷ rows) = (tt, groups_single rows)

  -- so these are its rows, before they are put in order
  rows_are : (rows : List (List Value)) → rows_of items (Some places) (alone rows) ≡ map (made (group_totals k rows)) (distinct (groups rows))
  rows_are rows =
      let once = distinct_once (groups rows) (groups_single rows) in
      ap (λ keys. map (group_row items places (alone rows)) (distinct keys)) (keys_are rows)
      ∙ map_alike (group_row items places (alone rows)) (made (group_totals k rows)) (distinct (groups rows))
      (all_weaker IsSingle (λ key. group_row items places (alone rows) key ≡ made (group_totals k rows) key) (row_is rows) (distinct (groups rows)) (once_single (distinct (groups rows)) once))

  query_is : (tables : List Keyed) → mean_now (first_query form) tables ≡ in_order (map (made (group_totals k (rows_at tables form.source))) (distinct (groups (rows_at tables form.source))))
  unfolding mean mean_now
  query_is tables = ap (λ all. in_order (rows_of items (Some places) all)) (combined (rows_at tables form.source)) ∙ ap in_order (rows_are (rows_at tables form.source))

  -- a group has totals that aren't zeros exactly where a row has it
  totals_where : (rows : List (List Value)) (key : List Value) → has_group (groups rows) key ≡ any_total (group_totals k rows key)
  totals_where [] key = refl
  totals_where (row ∷ rows) key = by_test (has_key (form.group ∷ []) key row) (totals_where rows key)
    where
      by_test : (b : Bool) → has_group (groups rows) key ≡ any_total (group_totals k rows key)
          → (b || has_group (groups rows) key) ≡ any_total (sum_of (map (λ (one : List Value). number_of (column_of one form.value)) (cond b (row ∷ group_rows k rows key) (group_rows k rows key))) ∷ pos (length (cond b (row ∷ group_rows k rows key) (group_rows k rows key))) ∷ [])
      by_test true rest = sym (counted (number_of (column_of row form.value) +ℤ sum_of (map (λ (one : List Value). number_of (column_of one form.value)) (group_rows k rows key))) (length (group_rows k rows key)))
      by_test false rest = rest

  -- a key that a row has is of one value
  group_single : (rows : List (List Value)) (key : List Value) → has_group (groups rows) key ≡ true → IsSingle key
  group_single [] key e = cc
  group_single (row ∷ rows) key e = by_test (has_key (form.group ∷ []) key row) refl e (group_single rows key)
    where
      by_test : (b : Bool) → has_key (form.group ∷ []) key row ≡ b → (b || has_group (groups rows) key) ≡ true → (has_group (groups rows) key ≡ true → IsSingle key) → IsSingle key
      by_test true h some rest = subst IsSingle (key_is (form.group ∷ []) row key h) tt
      by_test false h some rest = rest some

  -- the query's rows: they rise by group, and a group has its totals where one of them isn't zero
  pub record QueryRows (tables : List Keyed) : Type 0 where
    pub rises : Rises (0 ∷ []) (mean_now (first_query form) tables)
    pub each : (key : List Value) → row_at (0 ∷ []) (mean_now (first_query form) tables) key ≡ shown key (group_totals k (rows_at tables form.source) key)
    pub single : (key : List Value) → any_total (group_totals k (rows_at tables form.source) key) ≡ true → IsSingle key

  pub query_rows_are : (tables : List Keyed) → QueryRows tables
  query_rows_are tables =
      let rows = rows_at tables form.source in
      let keys = distinct (groups rows) in
      let once = distinct_once (groups rows) (groups_single rows) in
      let totals = group_totals k rows in
      let there = ordered (map (made totals) keys) (made_differ totals keys once) in
      record {
        rises = subst (Rises (0 ∷ [])) (sym (query_is tables)) there.rises;
        each = λ key.
            ap (λ rs. row_at (0 ∷ []) rs key) (query_is tables) ∙ there.each key ∙ made_at totals keys key once
            ∙ ap (λ b. cond b (Some (row_of key (totals key))) None) (has_distinct (groups rows) key ∙ totals_where rows key);
        single = λ key some. group_single rows key (totals_where rows key ∙ some);
      }
