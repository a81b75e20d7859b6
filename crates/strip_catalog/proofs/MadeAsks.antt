-- What is asked by the rule that is made of a derived table suits the tables, as what the table asks does.
use Rattle.std.proofs.Common.{◌≡◌, ℕ, ◌+◌, ◌<◌, ◌≤◌, ◌^◌, pos, Bool, true, false, ◌&&◌, cond, nat_le, nat_lt, List, [], ◌∷◌, ◌++◌, filter, get_or, length, map, Some, None, bytes_eq, refl, sym, ap, ◌∙◌, subst, arith}
use Rattle.std.specs.List.{list_all, list_any}
use Rattle.std.proofs.Math.Nat.{min-le_left}
use Rattle.std.proofs.lemmas.Bool.Decides.{nat_tests}
use Rattle.std.proofs.lemmas.List.{map-append}
use Rattle.strip_value.specs.declared.expressions.Calc.{Calc}
use Rattle.strip_value.specs.declared.expressions.Calc.TheVariants as calc
use Rattle.strip_value.specs.declared.kinds.Kind.{Kind}
use Rattle.strip_value.specs.declared.kinds.Kind.TheVariants as kind
use Rattle.strip_value.specs.declared.queries.Input.{Input}
use Rattle.strip_value.specs.declared.queries.Input.TheVariants as input
use Rattle.strip_value.specs.declared.queries.Item.{Item}
use Rattle.strip_value.specs.declared.queries.Query.{Query}
use Rattle.strip_value.specs.declared.queries.What.{What}
use Rattle.strip_value.specs.declared.queries.What.TheVariants as what
use Rattle.strip_value.specs.declared.tables.By.{By}
use Rattle.strip_value.specs.declared.tables.By.TheVariants as by
use Rattle.strip_value.specs.declared.tables.ColumnDef.{ColumnDef}
use Rattle.strip_value.specs.declared.tables.TableDef.{TableDef}
use Rattle.strip_value.specs.Bounds.{capped, magnitude_of}
use Rattle.strip_meaning.specs.Contents.{def_at}
use Rattle.strip_meaning.specs.Maintained.{Manner, coming, delta_query, delta_what, going, is_plain, keys_query, source_of, table_of_input}
use Rattle.strip_setup.specs.Catalog.{has_name, is_empty, repeated}
use Rattle.strip_setup.specs.Maintain.{made_rule, query_in}
use Rattle.strip_setup.specs.Queries.{execute_order, moved_columns}
use Rattle.strip_names.specs.Grouped.{is_total}
use Rattle.strip_names.specs.Limits.{most_columns}
use Rattle.strip_kinds.specs.Width.{least_wide}
use Rattle.strip_acts.specs.Laws.{AreApart}
use Rattle.strip_acts.specs.Suiting.{all_once, is_bounded, is_narrow, is_numeric, is_there, kinds_in, suits_filter, suits_input, suits_item, suits_sum, suits_value}
use Rattle.strip_acts.specs.Trees.{input_columns}
use Rattle.strip_acts.proofs.Lists.{long_map, map_twice, none_empty, none_of, none_repeated, not_repeated}
use Rattle.strip_acts.proofs.Naming.{are_both, at_most, below, both_true, is_so, neither}
use Rattle.strip_acts.proofs.QueryParts.{SuitsOver, in_parts, of_parts}
use Rattle.strip_catalog.specs.Laws.{AsksInRange, AsksRightly}
use Rattle.strip_catalog.specs.RuleQueries.{columns_in_rule, suits_in_rule, suits_input_in_rule}
use Rattle.strip_catalog.proofs.MoreColumns.{filter_still, sum_still, value_still}

-- ---- items for one row

-- a total of one row is as narrow as what is summed up
capped_narrow : (m : ℕ) → nat_lt m least_wide ≡ true → nat_lt (capped (0 + m)) least_wide ≡ true
capped_narrow m e =
    let less = min-le_left (0 + m) (2 ^ 127) in
    grind (arith, nat_tests)

coming_suits : (kinds : List (List Kind)) (e : Calc) → suits_sum kinds e ≡ true → suits_value kinds (coming e) ≡ true
coming_suits kinds e is =
    let numeric = both_true (is_numeric kinds e) (is_bounded kinds e && is_narrow kinds e) is in
    let bounded = both_true (is_bounded kinds e) (is_narrow kinds e) numeric.1 in
    are_both (is_numeric kinds e) (is_bounded kinds e && is_narrow kinds (coming e)) numeric.0
    (are_both (is_bounded kinds e) (is_narrow kinds (coming e)) bounded.0 (capped_narrow (magnitude_of kinds e) bounded.1))

going_suits : (kinds : List (List Kind)) (e : Calc) → suits_sum kinds e ≡ true → suits_value kinds (going e) ≡ true
going_suits kinds e is =
    let numeric = both_true (is_numeric kinds e) (is_bounded kinds e && is_narrow kinds e) is in
    let bounded = both_true (is_bounded kinds e) (is_narrow kinds e) numeric.1 in
    are_both (is_numeric kinds e) (is_bounded kinds e && is_narrow kinds (going e)) numeric.0
    (are_both (is_bounded kinds e) (is_narrow kinds (going e)) bounded.0 (capped_narrow (magnitude_of kinds e) bounded.1))

-- what comes or goes suits wherever a sum of it does
record IsSigned (signed : Calc → Calc) : Type 0 where
  suits : (kinds : List (List Kind)) (e : Calc) → suits_sum kinds e ≡ true → suits_value kinds (signed e) ≡ true

comes : IsSigned coming
comes = record { suits = coming_suits }

goes : IsSigned going
goes = record { suits = going_suits }

-- ---- names

module _ (test : Item → Bool) where
  abbrev names : List Item → List (List ℕ)
  names items = map (λ (item : Item). item.name) items

  still_none : (items : List Item) (name : List ℕ) → has_name (names items) name ≡ false → has_name (names (filter test items)) name ≡ false
  still_none [] name e = refl
  still_none (item ∷ items) name e =
      let both = neither (bytes_eq item.name name) (has_name (names items) name) e in
      by_test (test item) both.0 (still_none items name both.1)
    where
      by_test : (b : Bool) → bytes_eq item.name name ≡ false → has_name (names (filter test items)) name ≡ false → has_name (names (cond b (item ∷ filter test items) (filter test items))) name ≡ false
      by_test true one rest = none_of (bytes_eq item.name name) (has_name (names (filter test items)) name) one rest
      by_test false one rest = rest

  still_apart : (items : List Item) → AreApart (names items) → AreApart (names (filter test items))
  still_apart [] apart = tt
  still_apart (item ∷ items) apart = by_test (test item) (still_none items item.name apart.0) (still_apart items apart.1)
    where
      by_test : (b : Bool) → has_name (names (filter test items)) item.name ≡ false → AreApart (names (filter test items)) → AreApart (names (cond b (item ∷ filter test items) (filter test items)))
      by_test true none rest = (none, rest)
      by_test false none rest = rest

  -- some of the items have names of their own, if all have
  some_once : (items : List Item) → all_once (names items) ≡ true → all_once (names (filter test items)) ≡ true
  some_once items e =
      let apart = none_repeated (names items) (none_empty (repeated (names items)) e) in
      ap is_empty (not_repeated (names (filter test items)) (still_apart items apart))

  fewer : (items : List Item) → length (filter test items) ≤ length items
  fewer [] = omega arith
  fewer (item ∷ items) = by_test (test item) (fewer items)
    where
      by_test : (b : Bool) → length (filter test items) ≤ length items → length (cond b (item ∷ filter test items) (filter test items)) ≤ length (item ∷ items)
      by_test true less = omega (arith, less)
      by_test false less = omega (arith, less)

  still_few : (items : List Item) → nat_le (length items) most_columns ≡ true → nat_le (length (filter test items)) most_columns ≡ true
  still_few items e =
      let less = fewer items in
      let few = at_most (length items) most_columns e in
      grind (arith, nat_tests)

-- ---- a query over rows that moved, in place of a table

-- items that are all plain, and suit columns of these kinds
record ArePlain (kinds : List (List Kind)) (items : List Item) : Type 0 where
  suit : list_all (λ (item : Item). suits_item kinds item.what) items ≡ true
  plain : list_any (λ (item : Item). is_total item.what) items ≡ false

one_more_plain : (kinds : List (List Kind)) (item : Item) (items : List Item) → suits_item kinds item.what ≡ true → is_total item.what ≡ false → ArePlain kinds items → ArePlain kinds (item ∷ items)
one_more_plain kinds item items suits plain more = record {
  suit = are_both (suits_item kinds item.what) (list_all (λ (i : Item). suits_item kinds i.what) items) suits more.suit;
  plain = none_of (is_total item.what) (list_any (λ (i : Item). is_total i.what) items) plain more.plain;
}

module _ (own more : List Kind) where
  abbrev ones : List (List Kind)
  ones = own ∷ []

  abbrev others : List (List Kind)
  others = (own ++ more) ∷ []

  -- the items for one row are plain, and suit
  module _ (signed : Calc → Calc) (is : IsSigned signed) where
    abbrev delta_item : Item → Item
    delta_item item = record { name = item.name; what = delta_what signed item.what }

    delta_suits : (w : What) → suits_item ones w ≡ true → suits_item others (delta_what signed w) ≡ true
    delta_suits (what.Plain e) suits = value_still own more e suits
    delta_suits (what.Sum e) suits = is.suits others e (sum_still own more e suits)
    delta_suits what.Count suits = is.suits others (calc.Number (pos 1)) refl

    delta_plain : (w : What) → is_total (delta_what signed w) ≡ false
    delta_plain (what.Plain e) = refl
    delta_plain (what.Sum e) = refl
    delta_plain what.Count = refl

    deltas : (items : List Item) → list_all (λ (item : Item). suits_item ones item.what) items ≡ true → ArePlain others (map delta_item items)
    deltas [] e = record { suit = refl; plain = refl }
    deltas (item ∷ items) e =
        let both = both_true (suits_item ones item.what) (list_all (λ (i : Item). suits_item ones i.what) items) e in
        one_more_plain others (delta_item item) (map delta_item items) (delta_suits item.what both.0) (delta_plain item.what) (deltas items both.1)

  -- and so are those that are plain anyway
  abbrev is_plain_item : Item → Bool
  is_plain_item item = is_plain item.what

  plain_suits : (w : What) → is_plain w ≡ true → suits_item ones w ≡ true → (suits_item others w ≡ true) × (is_total w ≡ false)
  plain_suits (what.Plain e) is suits = (value_still own more e suits, refl)
  plain_suits (what.Sum e) is suits = cc
  plain_suits what.Count is suits = cc

  plains : (items : List Item) → list_all (λ (item : Item). suits_item ones item.what) items ≡ true → ArePlain others (filter is_plain_item items)
  plains [] e = record { suit = refl; plain = refl }
  plains (item ∷ items) e =
      let both = both_true (suits_item ones item.what) (list_all (λ (i : Item). suits_item ones i.what) items) e in
      by_test (is_plain item.what) refl both.0 (plains items both.1)
    where
      by_test : (b : Bool) → is_plain item.what ≡ b → suits_item ones item.what ≡ true → ArePlain others (filter is_plain_item items) → ArePlain others (cond b (item ∷ filter is_plain_item items) (filter is_plain_item items))
      by_test true is suits rest =
          let so = plain_suits item.what is suits in
          one_more_plain others item (filter is_plain_item items) so.0 so.1 rest
      by_test false is suits rest = rest

-- ---- the made rule

abbrev kinds_at : List TableDef → ℕ → List Kind
kinds_at tables id = map (λ (column : ColumnDef). column.kind) (def_at tables id).columns

-- the one table that a query of these entries reads
record IsOneTable (tables : List TableDef) (entries : List Input) : Type 0 where
  is : entries ≡ input.Table (table_of_input (get_or entries 0 input.Inserted)) ∷ []
  there : table_of_input (get_or entries 0 input.Inserted) < length tables

one_table : (tables : List TableDef) (entries : List Input) → length entries ≡ 1 → list_all (suits_input tables) entries ≡ true → IsOneTable tables entries
one_table tables [] one e = cc
one_table tables (a ∷ b ∷ entries) one e = absurd (omega (arith, one))
one_table tables (input.Table id ∷ []) one e = record { is = refl; there = below id (length tables) (both_true (is_there tables id) true e).0 }
one_table tables (input.Before id ∷ []) one e = cc
one_table tables (input.Inserted ∷ []) one e = cc
one_table tables (input.Deleted ∷ []) one e = cc
one_table tables (input.Old ∷ []) one e = cc
one_table tables (input.New ∷ []) one e = cc

module _ (tables : List TableDef) (query : Query) (asks : AsksRightly tables query) where
  abbrev on : ℕ
  on = source_of query

  abbrev own : List Kind
  own = kinds_at tables on

  -- the number of the change stands behind them
  abbrev moved : List (List Kind)
  moved = (own ++ kind.Big ∷ []) ∷ []

  parts : SuitsOver (suits_input tables) (input_columns tables) query
  parts = in_parts (suits_input tables) (input_columns tables) query asks.suits

  source : IsOneTable tables query.entries
  source = one_table tables query.entries asks.one parts.inputs

  read : kinds_in (map (input_columns tables) query.entries) ≡ own ∷ []
  read = ap (λ (entries : List Input). kinds_in (map (input_columns tables) entries)) source.is

  items_suit : list_all (λ (item : Item). suits_item (own ∷ []) item.what) query.items ≡ true
  items_suit = subst (λ kinds. list_all (λ (item : Item). suits_item kinds item.what) query.items ≡ true) read parts.items

  filter_suits : suits_filter (own ∷ []) query.filter ≡ true
  filter_suits = subst (λ kinds. suits_filter kinds query.filter ≡ true) read parts.filter

  -- rows that moved have these columns
  record IsMoved (from : Input) : Type 0 where
    stands : suits_input_in_rule tables from ≡ true
    columns : columns_in_rule tables on from ≡ moved_columns (Some (def_at tables on).columns)

  read_moved : (from : Input) → IsMoved from → kinds_in (columns_in_rule tables on from ∷ []) ≡ moved
  read_moved from is =
      ap (λ columns. kinds_in (columns ∷ [])) is.columns
      ∙ ap (λ (kinds : List Kind). kinds ∷ []) (map-append (λ (column : ColumnDef). column.kind) (def_at tables on).columns (execute_order ∷ []))

  over_moved : (from : Input) (items : List Item) → IsMoved from → nat_le (length items) most_columns ≡ true → all_once (map (λ (item : Item). item.name) items) ≡ true → ArePlain moved items
      → suits_in_rule tables on (record { items = items; entries = from ∷ []; filter = query.filter; group = None }) ≡ true
  over_moved from items is few once plain =
      let those = sym (read_moved from is) in
      of_parts (suits_input_in_rule tables) (columns_in_rule tables on) (record { items = items; entries = from ∷ []; filter = query.filter; group = None }) (record {
        inputs = are_both (suits_input_in_rule tables from) true is.stands refl;
        few = refl;
        narrow = few;
        once = once;
        items = subst (λ kinds. list_all (λ (item : Item). suits_item kinds item.what) items ≡ true) those plain.suit;
        filter = subst (λ kinds. suits_filter kinds query.filter ≡ true) those (filter_still own (kind.Big ∷ []) query.filter filter_suits);
        group = refl;
        placed = is_so (list_any (λ (item : Item). is_total item.what) items) plain.plain;
      })

  delta_asks : (signed : Calc → Calc) → IsSigned signed → (from : Input) → IsMoved from → suits_in_rule tables on (delta_query signed from query) ≡ true
  delta_asks signed is from moves =
      let delta_of : Item → Item = λ item. record { name = item.name; what = delta_what signed item.what } in
      over_moved from (map delta_of query.items) moves
      (ap (λ n. nat_le n most_columns) (long_map delta_of query.items) ∙ parts.narrow)
      (ap all_once (map_twice (λ (item : Item). item.name) delta_of query.items) ∙ parts.once)
      (deltas own (kind.Big ∷ []) signed is query.items items_suit)

  keys_ask : (from : Input) → IsMoved from → suits_in_rule tables on (keys_query from query) ≡ true
  keys_ask from moves =
      over_moved from (filter (λ (item : Item). is_plain item.what) query.items) moves
      (still_few (λ (item : Item). is_plain item.what) query.items parts.narrow)
      (some_once (λ (item : Item). is_plain item.what) query.items parts.once)
      (plains own (kind.Big ∷ []) query.items items_suit)

  inserted : IsMoved input.Inserted
  inserted = record { stands = refl; columns = refl }

  deleted : IsMoved input.Deleted
  deleted = record { stands = refl; columns = refl }

  old : IsMoved input.Old
  old = record { stands = refl; columns = refl }

  new : IsMoved input.New
  new = record { stands = refl; columns = refl }

module _ (tables : List TableDef) (table : TableDef) (asks : AsksRightly tables (query_in table)) (function : ℕ) (manner : Manner) where
  abbrev query : Query
  query = query_in table

  pub made_asks : (how : By) → AsksInRange tables (made_rule how table function manner)
  made_asks by.Sum = record {
    there = (source tables query asks).there;
    conditions = tt;
    evaluate = (
      delta_asks tables query asks coming comes input.Inserted (inserted tables query asks),
      (
        delta_asks tables query asks going goes input.Deleted (deleted tables query asks),
        (
          delta_asks tables query asks going goes input.Old (old tables query asks),
          (delta_asks tables query asks coming comes input.New (new tables query asks), tt),
        ),
      ),
    );
  }
  made_asks by.Key = record {
    there = (source tables query asks).there;
    conditions = tt;
    evaluate = (
      keys_ask tables query asks input.Inserted (inserted tables query asks),
      (
        keys_ask tables query asks input.Deleted (deleted tables query asks),
        (
          keys_ask tables query asks input.Old (old tables query asks),
          (keys_ask tables query asks input.New (new tables query asks), tt),
        ),
      ),
    );
  }
