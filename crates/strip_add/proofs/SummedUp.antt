-- What commits, starts and finishes make of a derived table, and how great its totals are.
use Rattle.std.proofs.Common.{◌≡◌, ℕ, ◌*◌, Bool, true, false, not, cond, List, [], ◌∷◌, ◌++◌, length, filter, get_or, replicate, Option, Some, None, is_some, refl, sym, ap, ap₂, ◌∙◌, subst, append-nil}
use Rattle.std.specs.List.{AllByRecursion, flat_map}
use Rattle.std.specs.Prelude.{ℤ, pos}
use Rattle.std.specs.declared.cmp.Ordering.{Ordering}
use Rattle.std.specs.declared.cmp.Ordering.TheVariants.{Less, Equal, Greater}
use Rattle.std.proofs.lemmas.List.Concat.{flat_map-append}
use borrow.Author.Tests.{eq-eqb, ne_eqb}
use Rattle.strip_value.specs.declared.actions.ActionId.{ActionId}
use Rattle.strip_value.specs.declared.actions.FiredRule.{FiredRule}
use Rattle.strip_value.specs.declared.rules.Function.{Function}
use Rattle.strip_value.specs.declared.rules.Rule.{Rule}
use Rattle.strip_value.specs.declared.rules.Step.TheVariants.{Add}
use Rattle.strip_value.specs.declared.tables.TableDef.{TableDef}
use Rattle.strip_value.specs.declared.values.Value.{Value}
use Rattle.strip_value.specs.Kinds.{FitsColumns}
use Rattle.strip_value.specs.Order.{row_cmp}
use Rattle.strip_value.specs.Table.{IsBelow, key_of, has_key, Rises, row_at, without, put_between, placed}
use Rattle.strip_value.proofs.KeyedLaws.{above_found}
use Rattle.strip_value.proofs.Lists.{all_append, all_left, all_right, all_filter}
use Rattle.strip_meaning.specs.Actions.{Happened, commit, start, finish, BoundRow, actions, rows_of, running, state_of, is_finished, in_state}
use Rattle.strip_meaning.specs.Contents.{def_at, added_rows, no_function, step_adds, action_adds, summed_up}
use Rattle.strip_meaning.specs.Course.{Course, IsPlainCourse}
use Rattle.strip_meaning.specs.Sums.{IsDerived, IsUnder, IsUpTo, any_total, has_total, applied, folded, keys_with_sums, plus, row_of, sums_at, summed, totals_at, totals_of, totals_or, zeros}
use Rattle.strip_meaning.proofs.Behind.{all_cut, all_flat, flat_alike}
use Rattle.strip_meaning.proofs.PlainActions.{commit_others, commit_rows_of}
use Rattle.strip_meaning.proofs.States.{is_in, start_finished, finished_then, finished_now}
use Rattle.strip_add.specs.Laws.{AllUnder}
use Rattle.strip_add.specs.Parts.{chosen, swept_row}
use Rattle.strip_add.proofs.KeyedAsMaps.{at_first, past_first, none_above, key_is, row_has_key, same_rows}
use Rattle.strip_add.proofs.SumLaws.{width, plus_assoc, plus_comm, plus_zeros, length_key, length_sums, key_of_row, totals_of_row, sums_append, sums_none, sums_up_to, folded_each, folded_rises}
use Rattle.strip_add.proofs.ApplyLaws.{kept_sum, applied_changed}
use Rattle.strip_add.proofs.LawProofs.{all_zero, any_zeros}

-- ---- rising rows of which a test keeps some

-- they rise too
keeps_rising : (columns : List ℕ) (test : List Value → Bool) (rows : List (List Value)) → Rises columns rows → Rises columns (filter test rows)
keeps_rising columns test [] rises = tt
keeps_rising columns test (row ∷ rows) rises = by_test (test row) (keeps_rising columns test rows rises.1)
  where
    by_test : (b : Bool) → Rises columns (filter test rows) → Rises columns (cond b (row ∷ filter test rows) (filter test rows))
    by_test true rest = (all_filter (IsBelow columns row) test rows rises.0, rest)
    by_test false rest = rest

-- a key has the row that it had, if it passes
row_at_kept : (def : TableDef) (rows : List (List Value)) (key : List Value) → Rises def.key rows → row_at def.key (filter (has_total def) rows) key ≡ swept_row def (row_at def.key rows key)
row_at_kept def [] key rises = refl
row_at_kept def (row ∷ rows) key rises = by_tests (has_total def row) (has_key def.key key row) refl refl (row_at_kept def rows key rises.1)
  where
    kept : List (List Value)
    kept = filter (has_total def) rows

    by_tests : (b h : Bool) → has_total def row ≡ b → has_key def.key key row ≡ h → row_at def.key kept key ≡ swept_row def (row_at def.key rows key)
        → row_at def.key (cond b (row ∷ kept) kept) key ≡ swept_row def (row_at def.key (row ∷ rows) key)
    by_tests true true t h rest = at_first def.key row kept key h ∙ sym (ap (swept_row def) (at_first def.key row rows key h) ∙ ap (λ b. cond b (Some row) None) t)
    by_tests false true t h rest =
        none_above def.key key kept (all_filter (λ r. row_cmp (key_of def.key r) key ≡ Greater) (has_total def) rows (above_found def.key key row rows (key_is def.key row key h) rises.0))
        ∙ sym (ap (swept_row def) (at_first def.key row rows key h) ∙ ap (λ b. cond b (Some row) None) t)
    by_tests true false t h rest = past_first def.key row kept key h ∙ rest ∙ sym (ap (swept_row def) (past_first def.key row rows key h))
    by_tests false false t h rest = rest ∙ sym (ap (swept_row def) (past_first def.key row rows key h))

-- ---- the rows of sums, but for rows of zeros

-- the row of a key with these totals, where one of them isn't zero
abbrev pub shown : List Value → List ℤ → Option (List Value)
shown key totals = cond (any_total totals) (Some (row_of key totals)) None

-- the sums of rows, as a derived table has them
abbrev pub kept_sums : TableDef → List (List Value) → List (List Value)
kept_sums def rows = filter (has_total def) (folded def rows)

module _ (def : TableDef) where
  -- a row of sums is kept where one of them isn't zero; a row of zeros never is
  swept_shown : (key : List Value) (totals : List ℤ) → length key ≡ length def.key → swept_row def (Some (row_of key totals)) ≡ shown key totals
  swept_shown key totals long = ap (λ t. cond (any_total t) (Some (row_of key totals)) None) (totals_of_row def key totals long)

  zeros_hidden : (key : List Value) → shown key (zeros def) ≡ None
  zeros_hidden key = ap (λ b. cond b (Some (row_of key (zeros def))) None) (any_zeros (width def))

  -- a key's totals are these, whether its row is shown or not
  shown_totals : (key : List Value) (totals : List ℤ) → length key ≡ length def.key → length totals ≡ width def → totals_or def (shown key totals) ≡ totals
  shown_totals key totals long wide = by_test (any_total totals) refl
    where
      by_test : (b : Bool) → any_total totals ≡ b → totals_or def (cond b (Some (row_of key totals)) None) ≡ totals
      by_test true e = totals_of_row def key totals long
      by_test false e = sym (all_zero totals e ∙ ap (λ n. replicate n (pos 0)) wide)

  -- a key that a row has is a whole key
  key_long : (rows : List (List Value)) (key row : List Value) → row_at def.key rows key ≡ Some row → length key ≡ length def.key
  key_long rows key row e = ap length (sym (row_has_key def.key rows key row e)) ∙ length_key def.key row

  -- the table's row of a key is that of the key's sums
  kept_each : (rows : List (List Value)) (key : List Value) → IsDerived def → row_at def.key (kept_sums def rows) key ≡ shown key (sums_at def rows key)
  kept_each rows key derived =
      row_at_kept def (folded def rows) key (folded_rises def rows derived) ∙ ap (swept_row def) (folded_each def rows key derived) ∙ by_row (row_at def.key rows key) refl
    where
      by_row : (o : Option (List Value)) → row_at def.key rows key ≡ o → swept_row def (cond (is_some o) (Some (row_of key (sums_at def rows key))) None) ≡ shown key (sums_at def rows key)
      by_row (Some row) e = swept_shown key (sums_at def rows key) (key_long rows key row e)
      by_row None e = sym (ap (shown key) (sums_none def rows key e) ∙ zeros_hidden key)

  -- sums added to such a table are the sums of all
  applied_each : (rows more : List (List Value)) (key : List Value) → IsDerived def → AllByRecursion (FitsColumns def.columns) rows
      → row_at def.key (applied def (kept_sums def rows) (folded def more)) key ≡ shown key (plus (sums_at def rows key) (sums_at def more key))
  applied_each rows more key derived fits =
      (applied_changed def (kept_sums def rows) (folded def more) derived (keeps_rising def.key (has_total def) (folded def rows) (folded_rises def rows derived))).each key
      ∙ ap (λ o. chosen (kept_sum def (kept_sums def rows)) o (row_at def.key (kept_sums def rows) key)) (folded_each def more key derived)
      ∙ by_row (row_at def.key more key) refl
    where
      by_row : (o : Option (List Value)) → row_at def.key more key ≡ o → chosen (kept_sum def (kept_sums def rows)) (cond (is_some o) (Some (row_of key (sums_at def more key))) None) (row_at def.key (kept_sums def rows) key) ≡ shown key (plus (sums_at def rows key) (sums_at def more key))
      by_row (Some row) e =
          let table = kept_sums def rows in
          let before = sums_at def rows key in
          let added = sums_at def more key in
          let long = key_long more key row e in
          let there : totals_at def table key ≡ before = ap (totals_or def) (kept_each rows key derived) ∙ shown_totals key before long (length_sums def rows key fits) in
          let sum : summed def table (row_of key added) ≡ row_of key (plus before added) =
          ap₂ (λ k totals. row_of k (plus (totals_at def table k) totals)) (key_of_row def.key key added derived.key_first long) (totals_of_row def key added long)
          ∙ ap (λ totals. row_of key (plus totals added)) there in
          ap (λ r. swept_row def (Some r)) sum ∙ swept_shown key (plus before added) long
      by_row None e =
          let before = sums_at def rows key in
          kept_each rows key derived
          ∙ ap (shown key) (sym (ap (plus before) (sums_none def more key e) ∙ plus_comm before (zeros def) ∙ plus_zeros def before (length_sums def rows key fits)))

  -- wherever the rows that are added stand among the others
  pub sums_added : (one more two : List (List Value)) → IsDerived def → AllByRecursion (FitsColumns def.columns) one → AllByRecursion (FitsColumns def.columns) more → AllByRecursion (FitsColumns def.columns) two
      → applied def (kept_sums def (one ++ two)) (folded def more) ≡ kept_sums def (one ++ (more ++ two))
  sums_added one more two derived fits_one fits_more fits_two =
      let Fits : List Value → Type 0 = FitsColumns def.columns in
      let old_rise = keeps_rising def.key (has_total def) (folded def (one ++ two)) (folded_rises def (one ++ two) derived) in
      let new_rise = keeps_rising def.key (has_total def) (folded def (one ++ (more ++ two))) (folded_rises def (one ++ (more ++ two)) derived) in
      same_rows def.key (applied def (kept_sums def (one ++ two)) (folded def more)) (kept_sums def (one ++ (more ++ two)))
      (applied_changed def (kept_sums def (one ++ two)) (folded def more) derived old_rise).rises new_rise (λ key.
      applied_each (one ++ two) more key derived (all_append Fits one two fits_one fits_two)
      ∙ ap (shown key) (ap (λ s. plus s (sums_at def more key)) (sums_append def one two key fits_two)
      ∙ plus_assoc (sums_at def one key) (sums_at def two key) (sums_at def more key)
      ∙ ap (plus (sums_at def one key)) (plus_comm (sums_at def two key) (sums_at def more key) ∙ sym (sums_append def more two key fits_two))
      ∙ sym (sums_append def one (more ++ two) key (all_append Fits more two fits_more fits_two)))
      ∙ sym (kept_each (one ++ (more ++ two)) key derived))

-- ---- what events make of a derived table

module _ (defs : List TableDef) (functions : List Function) (rules : List Rule) where
  -- a commit and a start leave it
  pub summed_up_at_commit : (place moment : ℕ) (fired : List FiredRule) (past : List Happened) (id : ℕ) → IsPlainCourse rules (commit place moment fired ∷ past) → summed_up defs functions rules (commit place moment fired ∷ past) id ≡ summed_up defs functions rules past id
  summed_up_at_commit place moment fired past id c =
      let now = action_adds defs functions rules (commit place moment fired ∷ past) id in
      let then = action_adds defs functions rules past id in
      ap (λ those. kept_sums (def_at defs id) (flat_map now those)) (commit_others rules place moment fired past c is_finished refl)
      ∙ ap (kept_sums (def_at defs id)) (flat_alike now then (in_state is_finished rules past) (all_filter (λ a. now a ≡ then a) (is_in is_finished past) (actions rules past)
      (all_cut (λ a. now a ≡ then a) (actions rules past) (λ before a after e.
      let function = get_or functions a.action.function no_function in
      ap (λ rows. flat_map (step_adds defs function rows id) function.steps) (commit_rows_of rules place moment fired past c before a after e)))))

  pub summed_up_at_start : (number : ℕ) (action : ActionId) (past : List Happened) (id : ℕ) → Course rules (start number action ∷ past) → summed_up defs functions rules (start number action ∷ past) id ≡ summed_up defs functions rules past id
  summed_up_at_start number action past id c = ap (λ those. kept_sums (def_at defs id) (flat_map (action_adds defs functions rules past id) those)) (start_finished rules number action past c)

  -- the action that is finished adds sums to one table
  module _ (number : ℕ) (past : List Happened) (c : Course rules (finish number ∷ past)) (before : List BoundRow) (a : BoundRow) (after : List BoundRow) (there : actions rules past ≡ before ++ a ∷ after) (runs : state_of past a.action ≡ running number)
      (table into : ℕ) (steps : (get_or functions a.action.function no_function).steps ≡ Add table into ∷ []) where
    -- what it adds is what its one step adds
    adds_are : (id : ℕ) → action_adds defs functions rules past id a ≡ step_adds defs (get_or functions a.action.function no_function) (rows_of rules past a.action) id (Add table into) ++ []
    adds_are id = ap (flat_map (step_adds defs (get_or functions a.action.function no_function) (rows_of rules past a.action) id)) steps

    -- its finish leaves the other tables
    pub summed_up_elsewhere : (id : ℕ) → (into ≡ id → ⊥) → summed_up defs functions rules (finish number ∷ past) id ≡ summed_up defs functions rules past id
    summed_up_elsewhere id other =
        let adds = action_adds defs functions rules past id in
        let front = filter (is_in is_finished past) before in
        let back = filter (is_in is_finished past) after in
        let function = get_or functions a.action.function no_function in
        let none : adds a ≡ [] = adds_are id ∙ ap (λ b. cond b (added_rows (def_at defs id) function table (rows_of rules past a.action)) [] ++ []) (ne_eqb into id other) in
        ap (λ those. kept_sums (def_at defs id) (flat_map adds those)) (finished_now rules number past c before a after there runs)
        ∙ ap (kept_sums (def_at defs id)) (flat_map-append adds front (a ∷ back) ∙ ap (λ rows. flat_map adds front ++ (rows ++ flat_map adds back)) none ∙ sym (flat_map-append adds front back))
        ∙ sym (ap (λ those. kept_sums (def_at defs id) (flat_map adds those)) (finished_then rules number past c before a after there runs))

    -- and adds its sums to this one
    pub summed_up_at_finish : IsDerived (def_at defs into) → AllByRecursion (λ b. AllByRecursion (FitsColumns (def_at defs into).columns) (action_adds defs functions rules past into b)) (actions rules past)
        → applied (def_at defs into) (summed_up defs functions rules past into) (folded (def_at defs into) (added_rows (def_at defs into) (get_or functions a.action.function no_function) table (rows_of rules past a.action))) ≡ summed_up defs functions rules (finish number ∷ past) into
    summed_up_at_finish derived fits =
        let def = def_at defs into in
        let adds = action_adds defs functions rules past into in
        let front = filter (is_in is_finished past) before in
        let back = filter (is_in is_finished past) after in
        let added = added_rows def (get_or functions a.action.function no_function) table (rows_of rules past a.action) in
        let here : adds a ≡ added = adds_are into ∙ ap (λ b. cond b added [] ++ []) (eq-eqb into into refl) ∙ append-nil added in
        let Fits : BoundRow → Type 0 = λ b. AllByRecursion (FitsColumns def.columns) (adds b) in
        let each = subst (AllByRecursion Fits) there fits in
        let fits_front = all_flat (FitsColumns def.columns) adds front (all_filter Fits (is_in is_finished past) before (all_left Fits before (a ∷ after) each)) in
        let fits_back = all_flat (FitsColumns def.columns) adds back (all_filter Fits (is_in is_finished past) after (all_right Fits before (a ∷ after) each).1) in
        ap (λ those. applied def (kept_sums def (flat_map adds those)) (folded def added)) (finished_then rules number past c before a after there runs)
        ∙ ap₂ (λ rows more. applied def (kept_sums def rows) (folded def more)) (flat_map-append adds front back) (sym here)
        ∙ sums_added def (flat_map adds front) (adds a) (flat_map adds back) derived fits_front (all_right Fits before (a ∷ after) each).0 fits_back
        ∙ ap (kept_sums def) (sym (flat_map-append adds front (a ∷ back)))
        ∙ sym (ap (λ those. kept_sums def (flat_map adds those)) (finished_now rules number past c before a after there runs))

-- ---- how great the totals are

-- what is so of a row and of each of others is so of each where it is put
pub all_placed : (P : List Value → Type 0) (columns : List ℕ) (row : List Value) (rows : List (List Value)) → P row → AllByRecursion P rows → AllByRecursion P (placed columns row rows)
all_placed P columns row [] here others = (here, tt)
all_placed P columns row (first ∷ rows) here others = by_order (row_cmp (key_of columns row) (key_of columns first)) (all_placed P columns row rows here others.1)
  where
    by_order : (o : Ordering) → AllByRecursion P (placed columns row rows) → AllByRecursion P (put_between o row first rows (placed columns row rows))
    by_order Less rest = (here, others)
    by_order Equal rest = (here, others)
    by_order Greater rest = (others.0, rest)

-- what is so of the row of sums of each key is so of each row
pub all_sums : (def : TableDef) (P : List Value → Type 0) (all rows : List (List Value)) → ((row : List Value) → P (row_of (key_of def.key row) (sums_at def all (key_of def.key row)))) → AllByRecursion P (keys_with_sums def all rows)
all_sums def P all [] each = tt
all_sums def P all (row ∷ rows) each =
    let sum = row_of (key_of def.key row) (sums_at def all (key_of def.key row)) in
    let others = keys_with_sums def all rows in
    all_placed P def.key sum (without def.key others (key_of def.key sum)) (each row)
    (all_filter P (λ r. not (has_key def.key (key_of def.key sum) r)) others (all_sums def P all rows each))

-- each total is at most as many times the bound as rows were added
pub sums_bounded : (def : TableDef) (bound : ℕ) (rows : List (List Value)) → AllUnder def bound rows → AllByRecursion (λ row. AllByRecursion (IsUpTo (bound * length rows)) (totals_of def row)) (kept_sums def rows)
sums_bounded def bound rows under =
    let IsBounded : List Value → Type 0 = λ row. AllByRecursion (IsUpTo (bound * length rows)) (totals_of def row) in
    all_filter IsBounded (has_total def) (folded def rows) (all_sums def IsBounded rows rows (λ row.
    let key = key_of def.key row in
    subst (AllByRecursion (IsUpTo (bound * length rows))) (sym (totals_of_row def key (sums_at def rows key) (length_key def.key row))) (sums_up_to def bound rows key under)))

-- so of a derived table, where each row that an action adds has totals under the bound
pub summed_up_bounded : (defs : List TableDef) (functions : List Function) (rules : List Rule) (happened : List Happened) (id bound : ℕ)
    → AllByRecursion (λ a. AllUnder (def_at defs id) bound (action_adds defs functions rules happened id a)) (actions rules happened)
    → AllByRecursion (λ row. AllByRecursion (IsUpTo (bound * length (flat_map (action_adds defs functions rules happened id) (in_state is_finished rules happened)))) (totals_of (def_at defs id) row)) (summed_up defs functions rules happened id)
summed_up_bounded defs functions rules happened id bound under =
    let def = def_at defs id in
    let adds = action_adds defs functions rules happened id in
    sums_bounded def bound (flat_map adds (in_state is_finished rules happened))
    (all_flat (λ row. AllByRecursion (IsUnder bound) (totals_of def row)) adds (in_state is_finished rules happened)
    (all_filter (λ a. AllUnder def bound (adds a)) (is_in is_finished happened) (actions rules happened) under))
