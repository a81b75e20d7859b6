-- In a legal history after which nothing waits and nothing runs, each derived table that is kept has the rows of its query.
use Rattle.std.proofs.Common.{◌≡◌, ◌==◌, ℕ, suc, ◌+◌, Bool, true, false, not, ◌&&◌, ◌||◌, cond, List, [], ◌∷◌, ◌++◌, length, map, filter, get_or, Option, Some, None, is_some, ℤ, pos, refl, sym, ap, ap₂, ◌∙◌, subst, arith, append-nil}
use Rattle.std.specs.List.{AllByRecursion, list_any, flat_map}
use Rattle.std.proofs.Math.IntN.{+ℤ_idl}
use Rattle.std.proofs.lemmas.Bool.{not-true}
use Rattle.std.proofs.lemmas.List.Concat.{flat_map-append}
use Rattle.std.proofs.lemmas.List.Folds.{flat_map-map}
use borrow.Author.Tests.{eqb-true}
use Rattle.strip_value.specs.declared.actions.Bound.{Bound}
use Rattle.strip_value.specs.declared.changes.Change.{Change}
use Rattle.strip_value.specs.declared.kinds.Kind.{Kind}
use Rattle.strip_value.specs.declared.rules.Rule.{Rule}
use Rattle.strip_value.specs.declared.tables.By.{By}
use Rattle.strip_value.specs.declared.tables.TableDef.{TableDef}
use Rattle.strip_value.specs.declared.values.Value.{Value}
use Rattle.strip_value.specs.Kinds.{FitsColumns}
use Rattle.strip_value.specs.Query.{mean_now, rows_at}
use Rattle.strip_value.specs.Table.{Keyed, Rises, column_of, row_at}
use Rattle.strip_value.proofs.Lists.{all_append, all_at, all_weaker}
use Rattle.strip_meaning.specs.Actions.{BoundRow, Happened, State, actions, as_bound, in_state, is_finished, is_pending, is_quiet, is_running, pending, running, finished, rows_of, state_of}
use Rattle.strip_meaning.specs.Contents.{action_adds, added_rows, def_at, no_function, step_adds}
use Rattle.strip_meaning.specs.Course.{Firing, IsPlainCourse, firing_rows, firings, firings_at}
use Rattle.strip_meaning.specs.Effect.{run}
use Rattle.strip_meaning.specs.Maintained.{keep_function}
use Rattle.strip_meaning.specs.Sums.{any_total, folded, row_of, sums_at, totals_at, totals_or}
use Rattle.strip_meaning.proofs.Behind.{all_cut, all_flat, all_map, all_middle, flat_alike}
use Rattle.strip_meaning.proofs.PlainActions.{actions_plain, first_action, first_row, rows_plain}
use Rattle.strip_add.specs.Parts.{chosen}
use Rattle.strip_add.proofs.ApplyLaws.{applied_changed, kept_sum}
use Rattle.strip_add.proofs.KeyedAsMaps.{row_has_key, same_rows}
use Rattle.strip_add.proofs.LawProofs.{all_zero}
use Rattle.strip_add.proofs.SumLaws.{folded_each, sums_none}
use Rattle.strip_add.proofs.SummedUp.{kept_sums, shown, sums_added}
use Rattle.strip_model.specs.declared.entries.Entry.{Entry}
use Rattle.strip_model.specs.declared.entries.Entry.TheVariants.{Begin, Did, Commit, Undo, Start, Finish}
use Rattle.strip_model.specs.History.{acts, base, changes, holds}
use Rattle.strip_model.specs.Derived.{Fixed, beginning, fired_at, happened, with_fired}
use Rattle.strip_model.specs.Legal.{Legal}
use Rattle.strip_model.proofs.Courses.{course_of}
use Rattle.strip_engine.specs.declared.keepers.Keeper.{Keeper}
use Rattle.strip_engine.specs.Changes.{bound_by, fired_by}
use Rattle.strip_engine.specs.Jobs.{rows_in}
use Rattle.strip_meaning.specs.First.{Form, IsFirst, first_def, first_query}
use Rattle.strip_setup.specs.Maintain.{query_in}
use Rattle.strip_engine.specs.Built.{IsBuilt, IsKept, all_differ, is_among, kept_tables}
use Rattle.strip_engine.specs.Keepers.{all_keepers, keeper_at, keeper_by, keepers_of, kept_def, no_keeper}
use Rattle.strip_engine.specs.Quiet.{QueryHasTotals, QuietTablesAreQueries, group_totals, query_rows, rows_by}
use Rattle.strip_engine.proofs.KeeperRules.{KeepsFirst, all_kept, fired_is, function_is, one_among, query_of_form, rule_function, rules_plain}
use Rattle.strip_engine.proofs.BoundRows.{AddsTo, BoundFits, FiredFits, added_are, base_fits, changes_fit, fired_fits, first_derived, plain_rows}
use Rattle.strip_engine.proofs.QuietQueries.{IsSingle, query_rows_are}
use Rattle.strip_engine.proofs.QuietTotals.{IsTriple, delta_rows, delta_rows_triple, sums_are, sums_stand, told_at, total}
use Rattle.strip_engine.proofs.Sums.{table_is}

-- ---- nothing waits and nothing runs

-- then each action is finished
all_finished : (state : BoundRow → State) (those : List BoundRow) → list_any (λ a. is_pending (state a) || is_running (state a)) those ≡ false → filter (λ a. is_finished (state a)) those ≡ those
all_finished state [] none = refl
all_finished state (a ∷ those) none = by_state (state a) none (all_finished state those)
  where
    by_state : (s : State) → ((is_pending s || is_running s) || list_any (λ b. is_pending (state b) || is_running (state b)) those) ≡ false
        → (list_any (λ b. is_pending (state b) || is_running (state b)) those ≡ false → filter (λ b. is_finished (state b)) those ≡ those)
        → cond (is_finished s) (a ∷ filter (λ b. is_finished (state b)) those) (filter (λ b. is_finished (state b)) those) ≡ a ∷ those
    by_state pending e rest = cc
    by_state (running number) e rest = cc
    by_state (finished number) e rest = ap (λ more. a ∷ more) (rest e)

quiet_finished : (rules : List Rule) (past : List Happened) → is_quiet rules past ≡ true → in_state is_finished rules past ≡ actions rules past
quiet_finished rules past quiet = all_finished (λ a. state_of past a.action) (actions rules past) (not-true (list_any (λ a. is_pending (state_of past a.action) || is_running (state_of past a.action)) (actions rules past)) quiet)

-- ---- what actions add is what was bound for the table

firing_plain : (rules : List Rule) (place moment number : ℕ) (bounds : List Bound) → plain_rows (map (as_bound rules [] place moment number) bounds) ≡ rows_in bounds
firing_plain rules place moment number [] = refl
firing_plain rules place moment number (b ∷ bounds) = ap (λ rows. b.row ∷ rows) (firing_plain rules place moment number bounds)

-- what a firing adds to the table of a number
abbrev firing_adds : Fixed → ℕ → Firing → List (List Value)
firing_adds f id fg = cond ((keeper_at f fg.fired.number).table == id) (rows_in fg.fired.rows) []

-- and what a keeper's rule binds for it
abbrev keeper_adds : ℕ → List Change → Keeper → List (List Value)
keeper_adds id cs k = cond (k.table == id) (rows_in (bound_by k cs)) []

module _ (f : Fixed) (built : IsBuilt f) where
  firing_fits : (fg : Firing) → FiredFits f fg.fired → AllByRecursion (AddsTo (kept_def f fg.fired.number)) (firing_rows f.rules fg)
  firing_fits fg fits =
      all_map (AddsTo (kept_def f fg.fired.number)) (as_bound f.rules [] fg.place fg.moment fg.fired.number) fg.fired.rows
      (all_weaker (BoundFits (kept_def f fg.fired.number)) (λ b. AddsTo (kept_def f fg.fired.number) (as_bound f.rules [] fg.place fg.moment fg.fired.number b)) (λ b one.
      record { table = one.into; fits = one.delta.fits; small = one.delta.small }) fg.fired.rows fits.each)

  -- the function of a firing's rule adds its rows to the table that the rule keeps
  steps_add : (fg : Firing) (id : ℕ) → FiredFits f fg.fired
      → flat_map (step_adds f.defs (get_or f.functions fg.fired.number no_function) (firing_rows f.rules fg) id) (get_or f.functions fg.fired.number no_function).steps ≡ firing_adds f id fg
  steps_add fg id fits =
      ap (λ function. flat_map (step_adds f.defs function (firing_rows f.rules fg) id) function.steps) (function_is f built n fits.known)
      ∙ append-nil (cond (into == id) (added_rows (def_at f.defs id) (keep_function (kept_def f n) into) 0 (firing_rows f.rules fg)) [])
      ∙ by_test (into == id) refl
    where
      n : ℕ
      n = fg.fired.number

      into : ℕ
      into = (keeper_at f n).table

      by_test : (b : Bool) → (into == id) ≡ b → cond b (added_rows (def_at f.defs id) (keep_function (kept_def f n) into) 0 (firing_rows f.rules fg)) [] ≡ cond b (rows_in fg.fired.rows) []
      by_test true e =
          ap (λ one. added_rows (def_at f.defs one) (keep_function (kept_def f n) into) 0 (firing_rows f.rules fg)) (sym (eqb-true into id e))
          ∙ ap (λ function. added_rows (kept_def f n) function 0 (firing_rows f.rules fg)) (sym (function_is f built n fits.known))
          ∙ added_are f built n fits.known (firing_rows f.rules fg) (firing_fits fg fits)
          ∙ firing_plain f.rules fg.place fg.moment n fg.fired.rows
      by_test false e = refl

  -- so does the action of a firing
  action_is : (past : List Happened) (id : ℕ) (before : List Firing) (fg : Firing) (after : List Firing) → IsPlainCourse f.rules past → firings past ≡ before ++ fg ∷ after → FiredFits f fg.fired
      → action_adds f.defs f.functions f.rules past id (first_row f.rules fg) ≡ firing_adds f id fg
  action_is past id before fg after course e fits =
      let rules = f.rules in
      let adds = λ (n : ℕ) (rows : List BoundRow). flat_map (step_adds f.defs (get_or f.functions n no_function) rows id) (get_or f.functions n no_function).steps in
      ap (λ action. adds action.function (rows_of rules past action)) (first_action rules course.plain fg)
      ∙ ap₂ adds (rule_function f built fg.fired.number fits.known) (rows_plain rules past before fg after course e)
      ∙ steps_add fg id fits

  actions_add : (past : List Happened) (id : ℕ) → IsPlainCourse f.rules past → AllByRecursion (λ fg. FiredFits f fg.fired) (firings past)
      → flat_map (action_adds f.defs f.functions f.rules past id) (actions f.rules past) ≡ flat_map (firing_adds f id) (firings past)
  actions_add past id course all =
      let rules = f.rules in
      let adds = action_adds f.defs f.functions rules past id in
      ap (flat_map adds) (actions_plain rules past course)
      ∙ flat_map-map adds (first_row rules) (firings past)
      ∙ flat_alike (λ fg. adds (first_row rules fg)) (firing_adds f id) (firings past)
      (all_cut (λ fg. adds (first_row rules fg) ≡ firing_adds f id fg) (firings past) (λ before fg after e.
      action_is past id before fg after course e (all_middle (λ one. FiredFits f one.fired) before fg after (subst (AllByRecursion (λ one. FiredFits f one.fired)) e all))))

  -- ---- what a commit binds for the table

  fired_add : (id place moment number : ℕ) (ks : List Keeper) (cs : List Change) → ((i : ℕ) → get_or ks i no_keeper ≡ keeper_at f (number + i))
      → flat_map (firing_adds f id) (firings_at place moment (fired_by number ks cs)) ≡ flat_map (keeper_adds id cs) ks
  fired_add id place moment number [] cs places = refl
  fired_add id place moment number (k ∷ ks) cs places =
      let itself : number + 0 ≡ number = omega arith in
      let here : keeper_at f number ≡ k = sym (places 0 ∙ ap (keeper_at f) itself) in
      by_rows (bound_by k cs) here
      ∙ ap (λ more. keeper_adds id cs k ++ more) (fired_add id place moment (number + 1) ks cs (λ i. let same : number + suc i ≡ (number + 1) + i = omega arith in places (suc i) ∙ ap (keeper_at f) same))
    where
      by_rows : (bounds : List Bound) → keeper_at f number ≡ k
          → flat_map (firing_adds f id) (firings_at place moment (with_fired number bounds (fired_by (number + 1) ks cs))) ≡ cond (k.table == id) (rows_in bounds) [] ++ flat_map (firing_adds f id) (firings_at place moment (fired_by (number + 1) ks cs))
      by_rows [] here = by_test (k.table == id)
        where
          by_test : (b : Bool) → flat_map (firing_adds f id) (firings_at place moment (fired_by (number + 1) ks cs)) ≡ cond b [] [] ++ flat_map (firing_adds f id) (firings_at place moment (fired_by (number + 1) ks cs))
          by_test true = refl
          by_test false = refl
      by_rows (b ∷ bounds) here = ap (λ (one : Keeper). cond (one.table == id) (rows_in (b ∷ bounds)) [] ++ flat_map (firing_adds f id) (firings_at place moment (fired_by (number + 1) ks cs))) here

-- the keepers of other tables add nothing to the table of a number
none_other : (defs : List TableDef) (id : ℕ) (cs : List Change) (ids : List ℕ) → is_among ids id ≡ false
    → flat_map (keeper_adds id cs) (keepers_of defs ids) ≡ []
none_other defs id cs [] none = refl
none_other defs id cs (other ∷ ids) none = by_test (other == id) none (none_other defs id cs ids)
  where
    by_test : (b : Bool) → (b || is_among ids id) ≡ false
        → (is_among ids id ≡ false → flat_map (keeper_adds id cs) (keepers_of defs ids) ≡ [])
        → cond b (rows_in (bound_by (keeper_by other (query_in (def_at defs other))) cs)) []
        ++ flat_map (keeper_adds id cs) (keepers_of defs ids) ≡ []
    by_test true none rest = cc
    by_test false none rest = rest none

-- of a table that is kept once there is one keeper
one_keeper : (defs : List TableDef) (id : ℕ) (cs : List Change) (ids : List ℕ) → is_among ids id ≡ true → all_differ ids ≡ true
    → flat_map (keeper_adds id cs) (keepers_of defs ids) ≡ rows_in (bound_by (keeper_by id (query_in (def_at defs id))) cs)
one_keeper defs id cs [] there differ = cc
one_keeper defs id cs (other ∷ ids) there differ =
    by_tests (other == id) (is_among ids other) refl refl there differ (one_keeper defs id cs ids)
  where
    rows : ℕ → List (List Value)
    rows one = rows_in (bound_by (keeper_by one (query_in (def_at defs one))) cs)

    others : List (List Value)
    others = flat_map (keeper_adds id cs) (keepers_of defs ids)

    by_tests : (b again : Bool) → (other == id) ≡ b → is_among ids other ≡ again → (b || is_among ids id) ≡ true
        → (not again && all_differ ids) ≡ true → (is_among ids id ≡ true → all_differ ids ≡ true → others ≡ rows id)
        → cond b (rows other) [] ++ others ≡ rows id
    by_tests true true e again there differ rest = cc
    by_tests true false e again there differ rest =
        let same = eqb-true other id e in
        ap₂ (λ one more. rows one ++ more) same (none_other defs id cs ids (ap (is_among ids) (sym same) ∙ again))
        ∙ append-nil (rows id)
    by_tests false true e again there differ rest = cc
    by_tests false false e again there differ rest = rest there differ

-- ---- over a whole history

module _ (f : Fixed) (built : IsBuilt f) where
  all_fired : (past : List Entry) → Legal f past → AllByRecursion (λ fg. FiredFits f fg.fired) (firings (happened f past))
  all_fired [] legal = tt
  all_fired (Begin c s w r ∷ past) legal = all_fired past legal.1
  all_fired (Did c s a reply ∷ past) legal = all_fired past legal.1
  all_fired (Commit c s m ∷ past) legal =
      let Fits : Firing → Type 0 = λ fg. FiredFits f fg.fired in
      all_append Fits (firings (happened f past)) (firings_at (length past) m (fired_at f past s)) (all_fired past legal.1)
      (all_map Fits (λ one. record { place = length past; moment = m; fired = one }) (fired_at f past s) (fired_fits f built past s legal.1))
  all_fired (Undo c s ∷ past) legal = all_fired past legal.1
  all_fired (Start c n m a d r ∷ past) legal = all_fired past legal.1
  all_fired (Finish c n ∷ past) legal = all_fired past legal.1

  module _ (id : ℕ) (declared : (def_at f.defs id).declared ≡ true) where
    -- what the firings add are the rows that the table's rule has bound
    firings_add : (past : List Entry) → Legal f past → flat_map (firing_adds f id) (firings (happened f past)) ≡ delta_rows f (keeper_by id (query_in (def_at f.defs id))) past
    firings_add [] legal = refl
    firings_add (Begin c s w r ∷ past) legal = firings_add past legal.1
    firings_add (Did c s a reply ∷ past) legal = firings_add past legal.1
    firings_add (Commit c s m ∷ past) legal =
        let before = base (beginning f) past in
        let cs = changes (beginning f) past s in
        let is = fired_is f built before (run (holds past s) before (acts past s)).tables cs (changes_fit f past s built legal.1) in
        flat_map-append (firing_adds f id) (firings (happened f past)) (firings_at (length past) m (fired_at f past s))
        ∙ ap₂ (λ one more. one ++ more) (firings_add past legal.1)
        (ap (λ fired. flat_map (firing_adds f id) (firings_at (length past) m fired)) is
        ∙ fired_add f built id (length past) m 0 (all_keepers f) cs (λ i. let same : i ≡ 0 + i = omega arith in ap (keeper_at f) same)
        ∙ one_keeper f.defs id cs (kept_tables f.functions) (built.all id declared) built.once)
    firings_add (Undo c s ∷ past) legal = firings_add past legal.1
    firings_add (Start c n m a d r ∷ past) legal = firings_add past legal.1
    firings_add (Finish c n ∷ past) legal = firings_add past legal.1

  -- and they are rows of the table
  firings_fit : (id : ℕ) (those : List Firing) → AllByRecursion (λ fg. FiredFits f fg.fired) those → AllByRecursion (FitsColumns (def_at f.defs id).columns) (flat_map (firing_adds f id) those)
  firings_fit id those all =
      all_flat (FitsColumns (def_at f.defs id).columns) (firing_adds f id) those
      (all_weaker (λ fg. FiredFits f fg.fired) (λ fg. AllByRecursion (FitsColumns (def_at f.defs id).columns) (firing_adds f id fg)) (λ fg fits. by_test fg fits ((keeper_at f fg.fired.number).table == id) refl) those all)
    where
      by_test : (fg : Firing) → FiredFits f fg.fired → (b : Bool) → ((keeper_at f fg.fired.number).table == id) ≡ b → AllByRecursion (FitsColumns (def_at f.defs id).columns) (cond b (rows_in fg.fired.rows) [])
      by_test fg fits true e =
          subst (λ one. AllByRecursion (FitsColumns (def_at f.defs one).columns) (rows_in fg.fired.rows)) (eqb-true (keeper_at f fg.fired.number).table id e)
          (all_map (FitsColumns (kept_def f fg.fired.number).columns) (λ (b : Bound). b.row) fg.fired.rows
          (all_weaker (BoundFits (kept_def f fg.fired.number)) (λ (b : Bound). FitsColumns (kept_def f fg.fired.number).columns b.row) (λ b one. one.delta.fits) fg.fired.rows fits.each))
      by_test fg fits false e = tt

-- ---- the rows of sums are the rows of the query

module _ (name : List ℕ) (form : Form) (kind : Kind) (how : Option By) (declared : Bool) where
  abbrev def : TableDef
  def = first_def name form kind how declared

  kept_made : (v : Value) (a b : ℤ) → kept_sum def [] (row_of (v ∷ []) (a ∷ b ∷ [])) ≡ shown (v ∷ []) (a ∷ b ∷ [])
  kept_made v a b = ap₂ (λ x y. shown (v ∷ []) (x ∷ y ∷ [])) (+ℤ_idl a) (+ℤ_idl b)

  -- such rows rise by key, and each key has the row of its sums
  record KeptRows (rows : List (List Value)) : Type 0 where
    rises : Rises (0 ∷ []) (kept_sums def rows)
    each : (key : List Value) → row_at (0 ∷ []) (kept_sums def rows) key ≡ shown key (sums_at def rows key)

  kept_rows : (defs : List TableDef) (rows : List (List Value)) → IsFirst defs def → AllByRecursion (FitsColumns def.columns) rows → AllByRecursion IsTriple rows → KeptRows rows
  kept_rows defs rows first fits triple =
      let derived = first_derived defs def first in
      let is = sums_added def [] rows [] derived tt fits tt ∙ ap (kept_sums def) (append-nil rows) in
      let changed = applied_changed def [] (folded def rows) derived tt in
      record {
        rises = subst (Rises (0 ∷ [])) is changed.rises;
        each = λ key.
            ap (λ rs. row_at (0 ∷ []) rs key) (sym is) ∙ changed.each key
            ∙ ap (λ o. chosen (kept_sum def []) o None) (folded_each def rows key derived) ∙ by_row key (row_at (0 ∷ []) rows key) refl;
      }
    where
      by_row : (key : List Value) (o : Option (List Value)) → row_at (0 ∷ []) rows key ≡ o → chosen (kept_sum def []) (cond (is_some o) (Some (row_of key (sums_at def rows key))) None) None ≡ shown key (sums_at def rows key)
      by_row key (Some row) e =
          let sums = sums_are name form kind how declared rows key triple in
          let own : key ≡ column_of row 0 ∷ [] = sym (row_has_key (0 ∷ []) rows key row e) in
          ap₂ (λ k s. kept_sum def [] (row_of k s)) own sums
          ∙ kept_made (column_of row 0) (total (told_at 1 key) rows) (total (told_at 2 key) rows)
          ∙ sym (ap₂ shown own sums)
      by_row key None e = sym (ap (shown key) (sums_none def rows key e))

-- ---- the law

-- the totals of a row that is shown, and of one that isn't
shown_totals : (name : List ℕ) (form : Form) (kind : Kind) (how : Option By) (declared : Bool) (key : List Value) (a b : ℤ) → (any_total (a ∷ b ∷ []) ≡ true → IsSingle key) → totals_or (first_def name form kind how declared) (shown key (a ∷ b ∷ [])) ≡ a ∷ b ∷ []
shown_totals name form kind how declared key a b single = by_test (any_total (a ∷ b ∷ [])) refl
  where
    of_key : (k : List Value) → IsSingle k → totals_or (first_def name form kind how declared) (Some (row_of k (a ∷ b ∷ []))) ≡ a ∷ b ∷ []
    of_key [] one = absurd one
    of_key (v ∷ []) one = refl
    of_key (v ∷ w ∷ more) one = absurd one

    by_test : (t : Bool) → any_total (a ∷ b ∷ []) ≡ t → totals_or (first_def name form kind how declared) (cond t (Some (row_of key (a ∷ b ∷ []))) None) ≡ a ∷ b ∷ []
    by_test true e = of_key key (single e)
    by_test false e = sym (all_zero (a ∷ b ∷ []) e)

-- a keeper by its parts
same_keeper : (k : Keeper) (source group value : ℕ) → k.source ≡ source → k.group ≡ group → k.value ≡ value → record { table = k.table; source = source; group = group; value = value } ≡ k
same_keeper k source group value is_source is_group is_value =
    ap (λ s. record { table = k.table; source = s; group = group; value = value }) (sym is_source)
    ∙ ap (λ g. record { table = k.table; source = k.source; group = g; value = value }) (sym is_group)
    ∙ ap (λ v. record { table = k.table; source = k.source; group = k.group; value = v }) (sym is_value)

totals_of_kept : (defs : List TableDef) (ts : List Keyed) (k : Keeper) (key : List Value) → KeepsFirst defs k → totals_at (def_at defs k.table) (query_rows (def_at defs k.table) ts) key ≡ group_totals k (rows_at ts k.source) key
totals_of_kept defs ts k key keeps =
    let form = keeps.first.form in
    let def = def_at defs k.table in
    let one = keeper_by k.table (first_query form) in
    let rows = rows_at ts form.source in
    let query = query_rows_are form k.table ts in
    ap (λ d. totals_at d (query_rows d ts) key) keeps.first.is
    ∙ ap (totals_or (first_def def.name form keeps.first.kind def.kept def.declared)) (query.each key)
    ∙ shown_totals def.name form keeps.first.kind def.kept def.declared key (get_or (group_totals one rows key) 0 (pos 0)) (get_or (group_totals one rows key) 1 (pos 0)) (query.single key)
    ∙ ap (λ (other : Keeper). group_totals other (rows_at ts other.source) key) (same_keeper k form.source form.group form.value keeps.source keeps.group keeps.value)

pub query_has_totals : QueryHasTotals
query_has_totals f ts rule key built lt = totals_of_kept f.defs ts (keeper_at f rule) key (all_at (KeepsFirst f.defs) (all_keepers f) rule no_keeper (all_kept f built) lt)

pub quiet_tables_are_queries : QuietTablesAreQueries
quiet_tables_are_queries f past id built legal quiet some declared =
    let def = def_at f.defs id in
    let first = (one_among (IsKept f.defs) (kept_tables f.functions) id built.kept (built.all id declared)).first in
    let form = first.form in
    let has : def.query ≡ Some (first_query form) = ap (λ (d : TableDef). d.query) first.is in
    let k = keeper_by id (first_query form) in
    let course = course_of f past (rules_plain f built) legal in
    let fired = all_fired f built past legal in
    let rows = delta_rows f k past in
    let added =
    firings_add f built id declared past legal ∙ ap (λ q. delta_rows f (keeper_by id q) past) (query_of_form f.defs def first) in
    let own = first_def def.name form first.kind def.kept def.declared in
    let fits : AllByRecursion (FitsColumns own.columns) rows = subst (λ (d : TableDef). AllByRecursion (FitsColumns d.columns) rows) first.is (subst (AllByRecursion (FitsColumns def.columns)) added (firings_fit f built id (firings (happened f past)) fired)) in
    let kept = kept_rows def.name form first.kind def.kept def.declared f.defs rows (subst (IsFirst f.defs) first.is first) fits (delta_rows_triple f k past) in
    let query = query_rows_are form id (base (beginning f) past) in
    ap (λ (t : Keyed). t.rows) (table_is f past id def (base_fits f past built legal) refl some)
    ∙ ap (λ those. kept_sums def (flat_map (action_adds f.defs f.functions f.rules (happened f past) id) those)) (quiet_finished f.rules (happened f past) quiet)
    ∙ ap (kept_sums def) (actions_add f built (happened f past) id course fired ∙ added)
    ∙ ap (λ d. kept_sums d rows) first.is
    ∙ same_rows (0 ∷ []) (kept_sums own rows) (mean_now (first_query form) (base (beginning f) past)) kept.rises query.rises (λ key.
    kept.each key ∙ ap (shown key) (sums_stand f past k def.name form first.kind def.kept def.declared key legal) ∙ sym (query.each key))
    ∙ sym (ap (λ o. rows_by o (base (beginning f) past)) has)
