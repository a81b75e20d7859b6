-- What commits, starts and finishes make of the tables, and that the sums of a finished action can be added.
use Rattle.std.proofs.Common.{◌≡◌, ℕ, zero, suc, ◌+◌, ◌-◌, ◌*◌, ◌^◌, ◌<◌, ◌≤◌, ◌==◌, Bool, true, false, not, ◌&&◌, cond, List, [], ◌∷◌, length, map, filter, get_or, Option, Some, None, is_some, ℤ, refl, sym, ap, ap₂, ◌∙◌, subst, arith, append-nil, length-append}
use Rattle.std.specs.List.{AllByRecursion, flat_map}
use Rattle.std.proofs.Math.ListN.{get_or-map}
use Rattle.std.proofs.lemmas.Int.{ints}
use Rattle.std.proofs.lemmas.List.{length-map}
use Rattle.std.proofs.lemmas.List.Filters.{length-filter_both}
use borrow.Author.Tests.{eqb-true}
use Rattle.strip_value.specs.declared.actions.ActionId.{ActionId}
use Rattle.strip_value.specs.declared.actions.Content.TheVariants.{Totals}
use Rattle.strip_value.specs.declared.rules.Step.TheVariants.{Add}
use Rattle.strip_value.specs.declared.tables.TableDef.{TableDef}
use Rattle.strip_value.specs.declared.values.Value.{Value}
use Rattle.strip_value.specs.Kinds.{FitsColumns}
use Rattle.strip_value.specs.Table.{Keyed, has_key, key_of, row_at}
use Rattle.strip_value.proofs.KeyedLaws.{find_all}
use Rattle.strip_value.proofs.Lists.{all_filter, all_weaker}
use Rattle.strip_meaning.specs.Effect.{no_table, table_at, with_rows}
use Rattle.strip_meaning.specs.Sums.{IsUnder, IsUpTo, applied, folded, plus, sums_at, totals_at, totals_of, totals_or, zeros}
use Rattle.strip_meaning.specs.Actions.{Happened, finish, BoundRow, actions, all_rows, in_state, is_finished, rows_of, running, same_action, state_of}
use Rattle.strip_meaning.specs.Contents.{action_adds, added_rows, contents, def_at, no_function, step_adds, summed_up}
use Rattle.strip_meaning.specs.Course.{Course, IsIn, IsPlainCourse}
use Rattle.strip_meaning.specs.Maintained.{keep_function}
use Rattle.strip_meaning.proofs.Behind.{AllBehind, all_map, all_middle, all_since, behind_filter, filter_alike, filter_twice, flat_alike}
use Rattle.strip_meaning.proofs.ActionLaws.{Apart, actions_apart, in_action, other_action_back, same_action_equal}
use Rattle.strip_meaning.proofs.States.{is_in}
use Rattle.strip_add.specs.Laws.{AllUnder}
use Rattle.strip_add.specs.Parts.{IsUnderAfter}
use Rattle.strip_add.proofs.LawProofs.{folded_fit}
use Rattle.strip_add.proofs.SumLaws.{folded_rises, length_key, sums_up_to, totals_of_row, up_to_plus, up_to_zeros}
use Rattle.strip_add.proofs.SummedUp.{all_sums, summed_up_at_commit, summed_up_at_finish, summed_up_at_start, summed_up_bounded, summed_up_elsewhere}
use Rattle.strip_model.specs.declared.entries.Entry.{Entry}
use Rattle.strip_model.specs.declared.entries.Entry.TheVariants.{Commit, Start, Finish}
use Rattle.strip_model.specs.History.{base}
use Rattle.strip_model.specs.Derived.{Fixed, beginning, bound_count, fired_at, happened, tables, with_derived}
use Rattle.strip_model.specs.Legal.{Legal}
use Rattle.strip_engine.specs.Acting.{CanAdd}
use Rattle.strip_engine.specs.Keepers.{keeper_at, kept_def}
use Rattle.strip_engine.specs.Built.{IsBuilt}
use Rattle.strip_engine.proofs.Overlay.{Rows, derived_at, derived_defs, derived_same}
use Rattle.strip_engine.proofs.KeeperRules.{function_is, kept_first, kept_there}
use Rattle.strip_engine.proofs.BoundRows.{AddsTo, RowFits, TablesFit, action_known, added_are, added_own, base_fits, contents_of_rows, first_derived, plain_rows, rows_fit, rows_of_add}

-- ---- commits and starts leave the derived tables

-- the rows of derived tables that finished actions made
abbrev pub sums_of : Fixed → List Entry → ℕ → List (List Value)
sums_of f past = summed_up f.defs f.functions f.rules (happened f past)

pub sums_at_commit : (f : Fixed) (past : List Entry) (c s m : ℕ) → IsPlainCourse f.rules (happened f (Commit c s m ∷ past)) → (id : ℕ) → sums_of f (Commit c s m ∷ past) id ≡ sums_of f past id
sums_at_commit f past c s m course id =
    summed_up_at_commit f.defs f.functions f.rules (length past) m (fired_at f past s) (happened f past) id course

pub sums_at_start : (f : Fixed) (past : List Entry) (c n m : ℕ) (a : ActionId) (d r : ℕ) → Course f.rules (happened f (Start c n m a d r ∷ past)) → (id : ℕ) → sums_of f (Start c n m a d r ∷ past) id ≡ sums_of f past id
sums_at_start f past c n m a d r course id = summed_up_at_start f.defs f.functions f.rules n a (happened f past) id course

-- so a commit changes base tables alone, and a start nothing
pub commit_tables : (f : Fixed) (past : List Entry) (c s m : ℕ) → IsPlainCourse f.rules (happened f (Commit c s m ∷ past)) → tables f (Commit c s m ∷ past) ≡ with_derived 0 (sums_of f past) (base (beginning f) (Commit c s m ∷ past))
commit_tables f past c s m course =
    derived_same (sums_of f (Commit c s m ∷ past)) (sums_of f past) (sums_at_commit f past c s m course) 0 (base (beginning f) (Commit c s m ∷ past))

pub start_tables : (f : Fixed) (past : List Entry) (c n m : ℕ) (a : ActionId) (d r : ℕ) → Course f.rules (happened f (Start c n m a d r ∷ past)) → tables f (Start c n m a d r ∷ past) ≡ tables f past
start_tables f past c n m a d r course =
    derived_same (sums_of f (Start c n m a d r ∷ past)) (sums_of f past) (sums_at_start f past c n m a d r course) 0 (base (beginning f) past)

-- ---- what finished actions add

-- rows that can be added to a table, at most so many
pub record Addable (def : TableDef) (most : ℕ) (rows : List (List Value)) : Type 0 where
  pub fits : AllByRecursion (FitsColumns def.columns) rows
  pub small : AllUnder def (2 ^ 63) rows
  pub few : length rows ≤ most

plain_can : (def : TableDef) (rows : List BoundRow) → AllByRecursion (AddsTo def) rows → Addable def (length rows) (plain_rows rows)
plain_can def rows all = record {
  fits = all_map (FitsColumns def.columns) (λ (r : BoundRow). r.row) rows (all_weaker (AddsTo def) (λ r. FitsColumns def.columns r.row) (λ r one. one.fits) rows all);
  small = all_map (λ row. AllByRecursion (IsUnder (2 ^ 63)) (totals_of def row)) (λ (r : BoundRow). r.row) rows
      (all_weaker (AddsTo def) (λ r. AllByRecursion (IsUnder (2 ^ 63)) (totals_of def r.row)) (λ r one. one.small) rows all);
  few = omega (arith, length-map rows (λ (r : BoundRow). r.row));
}

-- each row is in one action at most
apart_rows : (a b : BoundRow) (rows : List BoundRow) → Apart a b → filter (in_action b.action) rows ≡ filter (in_action b.action) (filter (λ r. not (in_action a.action r)) rows)
apart_rows a b rows apart =
    sym (filter_twice (λ r. not (in_action a.action r)) (in_action b.action) rows
    ∙ filter_alike (λ r. not (in_action a.action r) && in_action b.action r) (in_action b.action) rows (all_since (λ r. (not (in_action a.action r) && in_action b.action r) ≡ in_action b.action r) rows (λ r. by_test r (in_action a.action r) refl)))
  where
    by_test : (r : BoundRow) (t : Bool) → in_action a.action r ≡ t → (not t && in_action b.action r) ≡ in_action b.action r
    by_test r true e = sym (ap (λ one. same_action one b.action) (same_action_equal r.action a.action e) ∙ other_action_back b.action a.action apart)
    by_test r false e = refl

in_one_action : (those : List BoundRow) (rows : List BoundRow) → AllBehind Apart those → length (flat_map (λ a. filter (in_action a.action) rows) those) ≤ length rows
in_one_action [] rows apart = omega arith
in_one_action (a ∷ those) rows apart =
    let here = in_action a.action in
    let others = filter (λ r. not (here r)) rows in
    let each = λ (among : List BoundRow) (b : BoundRow). filter (in_action b.action) among in
    let rest = in_one_action those others apart.1 in
    let same : flat_map (each rows) those ≡ flat_map (each others) those =
    flat_alike (each rows) (each others) those (all_weaker (Apart a) (λ b. each rows b ≡ each others b) (λ b one. apart_rows a b rows one) those apart.0) in
    let longer = ap length same in
    let both = length-filter_both here (λ r. not (here r)) (λ r. refl) rows in
    omega (arith, length-append (filter here rows) (flat_map (each rows) those))

flat_fewer : {A B C : Type 0} (f : A → List B) (g : A → List C) (xs : List A) → AllByRecursion (λ x. length (f x) ≤ length (g x)) xs → length (flat_map f xs) ≤ length (flat_map g xs)
flat_fewer f g [] all = omega arith
flat_fewer f g (x ∷ xs) all =
    let here = all.0 in
    let rest = flat_fewer f g xs all.1 in
    omega (arith, length-append (f x) (flat_map f xs), length-append (g x) (flat_map g xs))

-- ---- how great the sums are

up_to_more : (m n : ℕ) → m ≤ n → (sums : List ℤ) → AllByRecursion (IsUpTo m) sums → AllByRecursion (IsUpTo n) sums
up_to_more m n le sums all = all_weaker (IsUpTo m) (IsUpTo n) (λ x up. (omega (arith, ints, up.0), omega (arith, ints, up.1))) sums all

-- of a table whose rows have such totals each key has
totals_up_to : (def : TableDef) (m : ℕ) (rows : List (List Value)) (key : List Value) → AllByRecursion (λ row. AllByRecursion (IsUpTo m) (totals_of def row)) rows → AllByRecursion (IsUpTo m) (totals_at def rows key)
totals_up_to def m rows key all = by_row (row_at def.key rows key) refl
  where
    by_row : (o : Option (List Value)) → row_at def.key rows key ≡ o → AllByRecursion (IsUpTo m) (totals_or def o)
    by_row (Some row) e = find_all (λ row. AllByRecursion (IsUpTo m) (totals_of def row)) (has_key def.key key) rows row all e
    by_row None e = up_to_more 0 m (omega arith) (zeros def) (up_to_zeros (length def.columns - length def.key))

-- and so have sums of so many rows
folded_up_to : (def : TableDef) (rows : List (List Value)) → AllUnder def (2 ^ 63) rows → AllByRecursion (λ row. AllByRecursion (IsUpTo (2 ^ 63 * length rows)) (totals_of def row)) (folded def rows)
folded_up_to def rows under =
    all_sums def (λ row. AllByRecursion (IsUpTo (2 ^ 63 * length rows)) (totals_of def row)) rows rows (λ row.
    let key = key_of def.key row in
    subst (AllByRecursion (IsUpTo (2 ^ 63 * length rows))) (sym (totals_of_row def key (sums_at def rows key) (length_key def.key row))) (sums_up_to def (2 ^ 63) rows key under))

-- sums of 2^60 rows each stay numbers of kind `big` together
sums_under : (m n : ℕ) (one two : List ℤ) → m ≤ 2 ^ 60 → n ≤ 2 ^ 60 → AllByRecursion (IsUpTo (2 ^ 63 * m)) one → AllByRecursion (IsUpTo (2 ^ 63 * n)) two → AllByRecursion (IsUnder (2 ^ 126)) (plus one two)
sums_under m n one two few fewer up more =
    all_weaker (IsUpTo (2 ^ 63 * m + 2 ^ 63 * n)) (IsUnder (2 ^ 126)) (λ x u. (omega (arith, ints, u.0, few, fewer), omega (arith, ints, u.1, few, fewer))) (plus one two)
    (up_to_plus (2 ^ 63 * m) (2 ^ 63 * n) one two up more)

-- ---- what the actions of derived tables add

module _ (f : Fixed) (built : IsBuilt f) (past : List Happened) (all : AllByRecursion (RowFits f) (all_rows f.rules past)) where
  -- the rows that an action adds to a table
  abbrev adds : ℕ → BoundRow → List (List Value)
  adds = action_adds f.defs f.functions f.rules past

  abbrev own : ActionId → List BoundRow
  own = rows_of f.rules past

  adds_can : (id : ℕ) (a : BoundRow) → a.action.function < length f.rules → Addable (def_at f.defs id) (length (own a.action)) (adds id a)
  adds_can id a lt =
      subst (Addable (def_at f.defs id) (length rows))
      (sym (ap (λ function. flat_map (step_adds f.defs function rows id) function.steps) (function_is f built n lt) ∙ append-nil (cond (into == id) (added_rows (def_at f.defs id) (keep_function (kept_def f n) into) 0 rows) [])))
      (by_test (into == id) refl)
    where
      n : ℕ
      n = a.action.function

      into : ℕ
      into = (keeper_at f n).table

      rows : List BoundRow
      rows = own a.action

      by_test : (b : Bool) → (into == id) ≡ b → Addable (def_at f.defs id) (length rows) (cond b (added_rows (def_at f.defs id) (keep_function (kept_def f n) into) 0 rows) [])
      by_test true e =
          let adding = rows_of_add f f.rules past a.action all in
          subst (λ one. Addable (def_at f.defs one) (length rows) (added_rows (def_at f.defs one) (keep_function (kept_def f n) into) 0 rows)) (eqb-true into id e)
          (subst (Addable (kept_def f n) (length rows)) (sym (added_own f.defs (kept_def f n) (kept_first f built n lt) rows adding)) (plain_can (kept_def f n) rows adding))
      by_test false e = record { fits = tt; small = tt; few = omega arith }

  -- so of each action
  each_can : (id : ℕ) → AllByRecursion (λ a. Addable (def_at f.defs id) (length (own a.action)) (adds id a)) (actions f.rules past)
  each_can id =
      all_weaker (λ a. a.action.function < length f.rules) (λ a. Addable (def_at f.defs id) (length (own a.action)) (adds id a)) (adds_can id)
      (actions f.rules past) (action_known f f.rules past all)

  -- all of them together add no more rows than are bound
  added_few : (id : ℕ) → length (flat_map (adds id) (in_state is_finished f.rules past)) ≤ length (all_rows f.rules past)
  added_few id =
      let those = in_state is_finished f.rules past in
      let fewer = flat_fewer (adds id) (λ a. own a.action) those (all_filter (λ a. length (adds id a) ≤ length (own a.action)) (is_in is_finished past) (actions f.rules past)
      (all_weaker (λ a. Addable (def_at f.defs id) (length (own a.action)) (adds id a)) (λ a. length (adds id a) ≤ length (own a.action)) (λ a can. can.few) (actions f.rules past) (each_can id))) in
      let once = in_one_action those (all_rows f.rules past) (behind_filter Apart (is_in is_finished past) (actions f.rules past) (actions_apart f.rules past)) in
      omega arith

  -- the totals of a derived table
  summed_small : (id : ℕ) → AllByRecursion (λ row. AllByRecursion (IsUpTo (2 ^ 63 * length (all_rows f.rules past))) (totals_of (def_at f.defs id) row)) (summed_up f.defs f.functions f.rules past id)
  summed_small id =
      let def = def_at f.defs id in
      let added = length (flat_map (adds id) (in_state is_finished f.rules past)) in
      let bound = length (all_rows f.rules past) in
      let few = added_few id in
      all_weaker (λ row. AllByRecursion (IsUpTo (2 ^ 63 * added)) (totals_of def row)) (λ row. AllByRecursion (IsUpTo (2 ^ 63 * bound)) (totals_of def row)) (λ row up. up_to_more (2 ^ 63 * added) (2 ^ 63 * bound) (omega arith) (totals_of def row) up)
      (summed_up f.defs f.functions f.rules past id)
      (summed_up_bounded f.defs f.functions f.rules past id (2 ^ 63)
      (all_weaker (λ a. Addable def (length (own a.action)) (adds id a)) (λ a. AllUnder def (2 ^ 63) (adds id a)) (λ a can. can.small) (actions f.rules past) (each_can id)))

  -- ---- one that is finished

  -- the sums of an action's rows, which it is to do
  pub totals_are : (action : ActionId) (totals : List (List Value)) → action.function < length f.rules → contents f.defs (get_or f.functions action.function no_function) (own action) ≡ Totals totals ∷ [] → totals ≡ folded (kept_def f action.function) (plain_rows (own action))
  totals_are action totals lt e =
      let is = contents_of_rows f built action.function lt (own action) (rows_of_add f f.rules past action all) in
      cc

  module _ (number : ℕ) (course : Course f.rules (finish number ∷ past)) (action : ActionId) (runs : IsIn f.rules past action (running number)) where
    -- a rule made the action
    pub job_known : action.function < length f.rules
    job_known =
        subst (λ (one : ActionId). one.function < length f.rules) runs.4
        (all_middle (λ a. a.action.function < length f.rules) runs.1 runs.0 runs.2 (subst (AllByRecursion (λ a. a.action.function < length f.rules)) runs.3 (action_known f f.rules past all)))

    abbrev into : ℕ
    into = (keeper_at f action.function).table

    abbrev def : TableDef
    def = kept_def f action.function

    -- the one step of its function
    steps_are : (get_or f.functions runs.0.action.function no_function).steps ≡ Add 0 into ∷ []
    steps_are =
        ap (λ (one : ActionId). (get_or f.functions one.function no_function).steps) runs.4
        ∙ ap (λ function. function.steps) (function_is f built action.function job_known)

    here_runs : state_of past runs.0.action ≡ running number
    here_runs = ap (state_of past) runs.4 ∙ runs.5

    -- its finish leaves the other tables
    pub sums_elsewhere : (id : ℕ) → (into ≡ id → ⊥) → summed_up f.defs f.functions f.rules (finish number ∷ past) id ≡ summed_up f.defs f.functions f.rules past id
    sums_elsewhere id other =
        summed_up_elsewhere f.defs f.functions f.rules number past course runs.1 runs.0 runs.2 runs.3 here_runs 0 into steps_are id other

    -- and adds its sums to the table of its rule
    pub sums_at_finish : applied def (summed_up f.defs f.functions f.rules past into) (folded def (plain_rows (own action))) ≡ summed_up f.defs f.functions f.rules (finish number ∷ past) into
    sums_at_finish =
        let adding = rows_of_add f f.rules past action all in
        let added : added_rows def (get_or f.functions runs.0.action.function no_function) 0 (own runs.0.action) ≡ plain_rows (own action) =
        ap (λ (one : ActionId). added_rows def (get_or f.functions one.function no_function) 0 (own one)) runs.4 ∙ added_are f built action.function job_known (own action) adding in
        ap (λ rows. applied def (summed_up f.defs f.functions f.rules past into) (folded def rows)) (sym added)
        ∙ summed_up_at_finish f.defs f.functions f.rules number past course runs.1 runs.0 runs.2 runs.3 here_runs 0 into steps_are (first_derived f.defs def (kept_first f built action.function job_known))
        (all_weaker (λ a. Addable def (length (own a.action)) (adds into a)) (λ a. AllByRecursion (FitsColumns def.columns) (adds into a)) (λ a can. can.fits) (actions f.rules past) (each_can into))

    -- the sums can be added to the table
    pub job_can : length (all_rows f.rules past) ≤ 2 ^ 60 → CanAdd (record { def = def; rows = summed_up f.defs f.functions f.rules past into }) (folded def (plain_rows (own action)))
    job_can few =
        let rows = own action in
        let bound = length (all_rows f.rules past) in
        let derived = first_derived f.defs def (kept_first f built action.function job_known) in
        let can = plain_can def rows (rows_of_add f f.rules past action all) in
        let fewer = length-filter_both (in_action action) (λ r. not (in_action action r)) (λ r. refl) (all_rows f.rules past) in
        let plain_few = can.few in
        let table = summed_up f.defs f.functions f.rules past into in
        record {
          derived = derived;
          rise = folded_rises def (plain_rows rows) derived;
          kinds = folded_fit def (plain_rows rows) derived can.fits (omega arith) can.small;
          within = all_weaker (λ row. AllByRecursion (IsUpTo (2 ^ 63 * length (plain_rows rows))) (totals_of def row)) (IsUnderAfter def table) (λ row up.
              sums_under bound (length (plain_rows rows)) (totals_at def table (key_of def.key row)) (totals_of def row) few (omega arith)
              (totals_up_to def (2 ^ 63 * bound) table (key_of def.key row) (summed_small into)) up)
              (folded def (plain_rows rows)) (folded_up_to def (plain_rows rows) can.small);
        }

-- ---- the tables

-- rows of the tables from a number on decide
derived_from : (r s : Rows) (n : ℕ) (ts : List Keyed) → ((id : ℕ) → n ≤ id → r id ≡ s id) → with_derived n r ts ≡ with_derived n s ts
derived_from r s n [] same = refl
derived_from r s n (t ∷ ts) same =
    ap₂ (λ rows more. cond (is_some t.def.query) (record t { rows = rows }) t ∷ more) (same n (omega arith)) (derived_from r s (n + 1) ts (λ id le. same id (omega arith)))

rows_put : (b : Bool) (t : Keyed) (one other : List (List Value)) → b ≡ true → record (cond b (record t { rows = one }) t) { rows = other } ≡ cond b (record t { rows = other }) t
rows_put true t one other e = refl
rows_put false t one other e = cc

-- where the rows of one table become others, only this table changes
derived_put : (r s : Rows) (n : ℕ) (ts : List Keyed) (id : ℕ) → is_some (table_at ts id).def.query ≡ true → ((other : ℕ) → (n + id ≡ other → ⊥) → r other ≡ s other)
    → with_rows (with_derived n r ts) id (s (n + id)) ≡ with_derived n s ts
derived_put r s n [] id some same = refl
derived_put r s n (t ∷ ts) zero some same =
    let itself : n + 0 ≡ n = omega arith in
    ap₂ (λ u us. u ∷ us) (ap (λ m. record (cond (is_some t.def.query) (record t { rows = r n }) t) { rows = s m }) itself ∙ rows_put (is_some t.def.query) t (r n) (s n) some)
    (derived_from r s (n + 1) ts (λ id le. same id (λ e. absurd (omega arith))))
derived_put r s n (t ∷ ts) (suc id) some same =
    let up : n + suc id ≡ (n + 1) + id = omega arith in
    ap₂ (λ rows more. cond (is_some t.def.query) (record t { rows = rows }) t ∷ more) (same n (λ e. absurd (omega arith)))
    (ap (λ m. with_rows (with_derived (n + 1) r ts) id (s m)) up ∙ derived_put r s (n + 1) ts id some (λ other apart. same other (λ e. apart (omega arith))))

table_with : (u : Keyed) (def : TableDef) (rows : List (List Value)) → u.def ≡ def → is_some def.query ≡ true → cond (is_some u.def.query) (record u { rows = rows }) u ≡ record { def = def; rows = rows }
table_with u def rows same some =
    subst (λ (d : TableDef). cond (is_some d.query) (record { def = d; rows = rows }) u ≡ record { def = def; rows = rows }) (sym same) (ap (λ b. cond b (record { def = def; rows = rows }) u) some)

-- a derived table of a legal history has the sums of its number
pub table_is : (f : Fixed) (past : List Entry) (id : ℕ) (def : TableDef) → TablesFit f.defs (base (beginning f) past) → def_at f.defs id ≡ def → is_some def.query ≡ true → table_at (tables f past) id ≡ record { def = def; rows = sums_of f past id }
table_is f past id def fit same some =
    let ts = base (beginning f) past in
    let itself : 0 + id ≡ id = omega arith in
    let def_is : (table_at ts id).def ≡ def = sym (get_or-map (λ (u : Keyed). u.def) ts id no_table) ∙ ap (λ ds. def_at ds id) fit.same ∙ same in
    derived_at (sums_of f past) 0 ts id
    ∙ ap (λ m. cond (is_some (table_at ts id).def.query) (record (table_at ts id) { rows = sums_of f past m }) (table_at ts id)) itself
    ∙ table_with (table_at ts id) def (sums_of f past id) def_is some

-- the definitions of all tables
pub tables_defs : (f : Fixed) (past : List Entry) → IsBuilt f → Legal f past → map (λ (t : Keyed). t.def) (tables f past) ≡ f.defs
tables_defs f past built legal = derived_defs (sums_of f past) 0 (base (beginning f) past) ∙ (base_fits f past built legal).same

-- what a finish asks of the table of its action's rule, and what it makes of the tables
pub record FinishAdds (f : Fixed) (past : List Entry) (caller number id : ℕ) (totals : List (List Value)) : Type 0 where
  pub there : id < length f.defs
  pub can : CanAdd (table_at (tables f past) id) totals
  pub after : with_rows (tables f past) id (applied (table_at (tables f past) id).def (table_at (tables f past) id).rows totals) ≡ tables f (Finish caller number ∷ past)

pub finish_adds : (f : Fixed) → IsBuilt f → (past : List Entry) → Legal f past → Course f.rules (happened f past)
    → (caller number : ℕ) (action : ActionId) → IsIn f.rules (happened f past) action (running number) → bound_count f past ≤ 2 ^ 60
    → (totals : List (List Value)) → contents f.defs (get_or f.functions action.function no_function) (rows_of f.rules (happened f past) action) ≡ Totals totals ∷ []
    → FinishAdds f past caller number (keeper_at f action.function).table totals
finish_adds f built past legal course_before caller number action runs few totals e =
    let before = happened f past in
    let all = rows_fit f built past legal in
    let course : Course f.rules (finish number ∷ before) = ((action, runs), course_before) in
    let lt = job_known f built before all number course action runs in
    let first = kept_first f built action.function lt in
    let id = (keeper_at f action.function).table in
    let def = kept_def f action.function in
    let some : is_some def.query ≡ true = ap (λ (d : TableDef). is_some d.query) first.is in
    let fit = base_fits f past built legal in
    let table = table_is f past id def fit refl some in
    let totals_is = totals_are f built before all action totals lt e in
    let itself : id ≡ 0 + id = omega arith in
    let sums : applied def (sums_of f past id) totals ≡ sums_of f (Finish caller number ∷ past) (0 + id) =
    ap (applied def (sums_of f past id)) totals_is ∙ sums_at_finish f built before all number course action runs ∙ ap (sums_of f (Finish caller number ∷ past)) itself in
    let base_some : is_some (table_at (base (beginning f) past) id).def.query ≡ true =
    ap (λ (d : TableDef). is_some d.query) (sym (get_or-map (λ (u : Keyed). u.def) (base (beginning f) past) id no_table) ∙ ap (λ ds. def_at ds id) fit.same) ∙ some in
    record {
      there = kept_there f built action.function lt;
      can = subst (λ t. CanAdd t totals) (sym table) (subst (CanAdd (record { def = def; rows = sums_of f past id })) (sym totals_is) (job_can f built before all number course action runs few));
      after =
          ap (λ (t : Keyed). with_rows (tables f past) id (applied t.def t.rows totals)) table
          ∙ ap (with_rows (tables f past) id) sums
          ∙ derived_put (sums_of f past) (sums_of f (Finish caller number ∷ past)) 0 (base (beginning f) past) id base_some (λ other apart.
          sym (sums_elsewhere f built before all number course action runs other (λ same. apart (omega arith))));
    }
