-- Which rows the rules of derived tables bind, and what the actions of these rows are to do.
use Rattle.std.proofs.Common.{◌≡◌, ◌==◌, ℕ, zero, suc, ◌+◌, ◌^◌, ◌<◌, ◌≤◌, Bool, true, false, not, cond, List, [], ◌∷◌, ◌++◌, length, map, filter, get_or, set, Option, Some, None, IfSome, is_some, inl, inr, ℤ, pos, neg_ℤ, refl, sym, ap, ap₂, ◌∙◌, subst, arith}
use Rattle.std.specs.List.{AllByRecursion, flat_map}
use Rattle.std.specs.Str.{bytes_eq}
use Rattle.std.proofs.Math.ListN.{get_or-map}
use Rattle.std.proofs.Math.Seq.{map-set_same}
use Rattle.std.proofs.lemmas.Int.{ints}
use Rattle.std.proofs.lemmas.List.{length-map}
use Rattle.std.proofs.lemmas.List.Filters.{length-filter_both}
use Rattle.std.proofs.lemmas.Slice.Eq.{bytes_eq-Decides}
use borrow.Author.Tests.{eqb-true, eq-eqb}
use Rattle.std.specs.declared.cmp.Ordering.{Ordering}
use Rattle.std.specs.declared.cmp.Ordering.TheVariants.{Less, Equal, Greater}
use Rattle.strip_value.specs.declared.actions.ActionId.{ActionId}
use Rattle.strip_value.specs.declared.actions.Bound.{Bound}
use Rattle.strip_value.specs.declared.actions.Content.TheVariants.{Totals}
use Rattle.strip_value.specs.declared.actions.FiredRule.{FiredRule}
use Rattle.strip_value.specs.declared.actions.KeyOf.TheVariants.{Plain}
use Rattle.strip_value.specs.declared.acts.Act.{Act}
use Rattle.strip_value.specs.declared.acts.Act.TheVariants.{Insert, Put, Update, Delete, Select, Show}
use Rattle.strip_value.specs.declared.acts.ActError.{ActError}
use Rattle.strip_value.specs.declared.acts.ActError.TheVariants.{Derived}
use Rattle.strip_value.specs.declared.acts.Holds.{Holds}
use Rattle.strip_value.specs.declared.changes.Change.{Change}
use Rattle.strip_value.specs.declared.changes.Shift.{Shift}
use Rattle.strip_value.specs.declared.changes.Shift.TheVariants.{Inserted, Deleted, Changed}
use Rattle.strip_value.specs.declared.kinds.Kind.{Kind}
use Rattle.strip_value.specs.declared.kinds.Kind.TheVariants as kind
use Rattle.strip_value.specs.declared.rules.Rule.{Rule}
use Rattle.strip_value.specs.declared.tables.By.{By}
use Rattle.strip_value.specs.declared.tables.ColumnDef.{ColumnDef}
use Rattle.strip_value.specs.declared.tables.TableDef.{TableDef}
use Rattle.strip_value.specs.declared.values.Value.{Value}
use Rattle.strip_value.specs.declared.values.Value.TheVariants.{Int, Text}
use Rattle.strip_value.specs.Kinds.{Fits, FitsColumns}
use Rattle.strip_value.specs.Order.{row_cmp}
use Rattle.strip_value.specs.Query.{in_order, number_of, put_in_order}
use Rattle.strip_value.specs.Table.{Keyed, column_of, full_at, has_key, key_of, row_at, with_row, put_between, without}
use Rattle.strip_value.proofs.KeyedLaws.{find_all}
use Rattle.strip_value.proofs.Lists.{all_append, all_at, all_filter, all_weaker}
use Rattle.strip_meaning.specs.Effect.{Effect, Run, derived, done, effect, full, misfit, no_table, not_held, one_not_held, or_cause, put_shift, read_only, refusal, run, table_at, tables_asked, unless}
use Rattle.strip_meaning.specs.Sums.{IsDerived, IsUnder, as_derived, folded, totals_of}
use Rattle.strip_meaning.specs.Actions.{BoundRow, Happened, actions, all_rows, as_bound, firsts, kept, rows_bound, rows_of, rows_of_rule, same_action}
use Rattle.strip_meaning.specs.Contents.{added_rows, contents, def_at, named_like, no_function, rows_in}
use Rattle.strip_meaning.specs.Course.{Firing, firing_rows, plain_action}
use Rattle.strip_meaning.proofs.Behind.{all_flat, all_map, all_or, filter_keeps}
use Rattle.strip_meaning.proofs.ActionLaws.{in_action, same_action_equal}
use Rattle.strip_add.proofs.SummedUp.{all_placed}
use Rattle.strip_model.specs.declared.entries.Entry.{Entry}
use Rattle.strip_model.specs.declared.entries.Entry.TheVariants.{Begin, Did, Commit, Undo, Start, Finish}
use Rattle.strip_model.specs.History.{acts, base, changes, empty_tables, holds}
use Rattle.strip_model.specs.Derived.{Fixed, beginning, bound_count, fired_at, happened, with_fired}
use Rattle.strip_model.specs.Legal.{Legal, Names}
use Rattle.strip_engine.specs.declared.deltas.Side.{Side}
use Rattle.strip_engine.specs.declared.deltas.Side.TheVariants as side
use Rattle.strip_engine.specs.declared.keepers.Keeper.{Keeper}
use Rattle.strip_engine.specs.declared.queue.Waiting.{Waiting}
use Rattle.strip_meaning.specs.First.{Form, IsBase, IsFirst, NamesDiffer, first_def, no_column}
use Rattle.strip_engine.specs.Keepers.{all_keepers, keeper_at, kept_def, no_keeper}
use Rattle.strip_engine.specs.Built.{IsBuilt, IsTableOf}
use Rattle.strip_engine.specs.Steps.{AreTables}
use Rattle.strip_engine.specs.Changes.{ShiftFits, ChangeFits, moved_row, coming_row, going_row, delta_row, with_delta, deltas, bound_rows, bound_by, fired_by}
use Rattle.strip_engine.specs.Queue.{IsWaiting, as_firing, plain_id}
use Rattle.strip_engine.specs.Jobs.{CanFold, content_of}
use Rattle.strip_engine.proofs.Fits.{neither, fits_base}
use Rattle.strip_engine.proofs.KeeperRules.{KeepsFirst, all_kept, fired_is, function_is, kept_first, rule_function, rules_count}

-- what each image is, the image of each element is
map_all : {A B : Type 0} (P : B → Type 0) (f : A → B) (xs : List A) → AllByRecursion P (map f xs) → AllByRecursion (λ x. P (f x)) xs
map_all P f [] all = tt
map_all P f (x ∷ xs) all = (all.0, map_all P f xs all.1)

-- what each element that passes a test is, given what it was
passed : {A : Type 0} (P Q : A → Type 0) (test : A → Bool) → ((x : A) → test x ≡ true → P x → Q x) → (xs : List A) → AllByRecursion P xs → AllByRecursion Q (filter test xs)
passed P Q test step [] all = tt
passed P Q test step (x ∷ xs) all = by_test (test x) refl (passed P Q test step xs all.1)
  where
    by_test : (b : Bool) → test x ≡ b → AllByRecursion Q (filter test xs) → AllByRecursion Q (cond b (x ∷ filter test xs) (filter test xs))
    by_test true e rest = (step x e all.0, rest)
    by_test false e rest = rest

-- what is so of each row is so of the first row of each action
all_firsts : (P : BoundRow → Type 0) (rows : List BoundRow) → AllByRecursion P rows → AllByRecursion P (firsts rows)
all_firsts P [] all = tt
all_firsts P (row ∷ rows) all = (all.0, all_filter P (λ other. not (same_action other.action row.action)) (firsts rows) (all_firsts P rows all.1))

-- ---- a derived table of the first form

-- a text is itself
bytes_same : (t : List ℕ) → bytes_eq t t ≡ true
bytes_same t = (bytes_eq-Decides t t).1 refl

-- the columns of such a table that are named like its own are its own, in their order
named_own : (name : List ℕ) (form : Form) (k : Kind) (how : Option By) (declared : Bool) → NamesDiffer form → named_like (first_def name form k how declared).columns (first_def name form k how declared).columns ≡ 0 ∷ 1 ∷ 2 ∷ []
named_own name form k how declared differ =
    rw (bytes_same form.group_name, differ.sum, bytes_same form.sum_name, differ.count, differ.totals, bytes_same form.count_name) refl

-- so a row of it is itself
same_three : (a b c : ColumnDef) (row : List Value) → FitsColumns (a ∷ b ∷ c ∷ []) row → as_derived (0 ∷ 1 ∷ 2 ∷ []) row ≡ row
same_three a b c [] fits = absurd fits
same_three a b c (u ∷ []) fits = absurd fits.1
same_three a b c (u ∷ v ∷ []) fits = absurd fits.1.1
same_three a b c (u ∷ v ∷ w ∷ []) fits = refl
same_three a b c (u ∷ v ∷ w ∷ x ∷ row) fits = absurd fits.1.1.1

as_own : (defs : List TableDef) (def : TableDef) (row : List Value) → IsFirst defs def → FitsColumns def.columns row → as_derived (named_like def.columns def.columns) row ≡ row
as_own defs def row first fits =
    let columns = (first_def def.name first.form first.kind def.kept def.declared).columns in
    let are : def.columns ≡ columns = ap (λ (d : TableDef). d.columns) first.is in
    ap (λ cs. as_derived (named_like cs cs) row) are
    ∙ ap (λ from. as_derived from row) (named_own def.name first.form first.kind def.kept def.declared first.differ)
    ∙ same_three (get_or columns 0 no_column) (get_or columns 1 no_column) (get_or columns 2 no_column) row (subst (λ cs. FitsColumns cs row) are fits)

-- it is a derived table, of three columns
pub first_derived : (defs : List TableDef) (def : TableDef) → IsFirst defs def → IsDerived def
first_derived defs def first =
    subst IsDerived (sym first.is) (record { key_first = (refl, tt); key_within = omega arith; totals = (refl, (refl, tt)); unlimited = refl })

pub first_wide : (defs : List TableDef) (def : TableDef) → IsFirst defs def → length def.columns ≡ 3
first_wide defs def first = ap (λ (d : TableDef). length d.columns) first.is

-- ---- the rows of an action

-- a bound row that is to be added to a table: it is of the one bound table, is a row of the table, and its totals are
-- small
pub record AddsTo (def : TableDef) (r : BoundRow) : Type 0 where
  pub table : r.table ≡ 0
  pub fits : FitsColumns def.columns r.row
  pub small : AllByRecursion (IsUnder (2 ^ 63)) (totals_of def r.row)

-- the rows themselves
abbrev pub plain_rows : List BoundRow → List (List Value)
plain_rows rows = map (λ (r : BoundRow). r.row) rows

-- what a function of the table adds are the rows themselves
pub added_own : (defs : List TableDef) (def : TableDef) → IsFirst defs def → (rows : List BoundRow) → AllByRecursion (AddsTo def) rows → map (as_derived (named_like def.columns def.columns)) (rows_in 0 rows) ≡ plain_rows rows
added_own defs def first [] all = refl
added_own defs def first (r ∷ rows) all =
    let own = as_derived (named_like def.columns def.columns) in
    ap (λ (rs : List BoundRow). map own (plain_rows rs)) (filter_keeps (λ (r : BoundRow). r.table == 0) r rows (eq-eqb r.table 0 all.0.table))
    ∙ ap₂ (λ x xs. x ∷ xs) (as_own defs def r.row first all.0.fits) (added_own defs def first rows all.1)

pub added_are : (f : Fixed) → IsBuilt f → (n : ℕ) → n < length f.rules → (rows : List BoundRow) → AllByRecursion (AddsTo (kept_def f n)) rows
    → added_rows (kept_def f n) (get_or f.functions n no_function) 0 rows ≡ plain_rows rows
added_are f built n lt rows all =
    ap (λ function. added_rows (kept_def f n) function 0 rows) (function_is f built n lt)
    ∙ added_own f.defs (kept_def f n) (kept_first f built n lt) rows all

-- what an action is to do: the sums of its rows are to be added to the table
pub contents_of_rows : (f : Fixed) → IsBuilt f → (n : ℕ) → n < length f.rules → (rows : List BoundRow) → AllByRecursion (AddsTo (kept_def f n)) rows
    → contents f.defs (get_or f.functions n no_function) rows ≡ Totals (folded (kept_def f n) (plain_rows rows)) ∷ []
contents_of_rows f built n lt rows all =
    ap (λ function. contents f.defs function rows) (function_is f built n lt)
    ∙ ap (λ more. Totals (folded (kept_def f n) more) ∷ []) (added_own f.defs (kept_def f n) (kept_first f built n lt) rows all)

-- the rows of a firing
firing_plain : (rules : List Rule) (place moment number : ℕ) (bounds : List Bound) → plain_rows (map (as_bound rules [] place moment number) bounds) ≡ map (λ (b : Bound). b.row) bounds
firing_plain rules place moment number [] = refl
firing_plain rules place moment number (b ∷ bounds) = ap (λ rows. b.row ∷ rows) (firing_plain rules place moment number bounds)

pub contents_are : (f : Fixed) → IsBuilt f → (n : ℕ) → n < length f.rules → (fg : Firing) → AllByRecursion (AddsTo (kept_def f n)) (firing_rows f.rules fg)
    → contents f.defs (get_or f.functions n no_function) (firing_rows f.rules fg) ≡ content_of (kept_def f n) fg.fired.rows
contents_are f built n lt fg all =
    contents_of_rows f built n lt (firing_rows f.rules fg) all
    ∙ ap (λ rows. Totals (folded (kept_def f n) rows) ∷ []) (firing_plain f.rules fg.place fg.moment fg.fired.number fg.fired.rows)

-- and the sums can be made
pub can_fold : (f : Fixed) → IsBuilt f → (n : ℕ) → n < length f.rules → (fg : Firing) → AllByRecursion (AddsTo (kept_def f n)) (firing_rows f.rules fg) → length fg.fired.rows ≤ 2 ^ 60 → CanFold (kept_def f n) fg.fired.rows
can_fold f built n lt fg all few =
    let def = kept_def f n in
    let first = kept_first f built n lt in
    let each = map_all (AddsTo def) (as_bound f.rules [] fg.place fg.moment fg.fired.number) fg.fired.rows all in
    record {
      derived = first_derived f.defs def first;
      wide = first_wide f.defs def first;
      fits = all_weaker (λ (b : Bound). AddsTo def (as_bound f.rules [] fg.place fg.moment fg.fired.number b)) (λ (b : Bound). FitsColumns def.columns b.row) (λ b adds. adds.fits) fg.fired.rows each;
      small = all_weaker (λ (b : Bound). AddsTo def (as_bound f.rules [] fg.place fg.moment fg.fired.number b)) (λ (b : Bound). AllByRecursion (IsUnder (2 ^ 63)) (totals_of def b.row)) (λ b adds. adds.small) fg.fired.rows each;
      few = omega arith;
    }

-- ---- rows of base tables

-- the rows have the kinds of the columns
abbrev pub RowsFit : Keyed → Type 0
RowsFit t = AllByRecursion (FitsColumns t.def.columns) t.rows

-- tables of these definitions, whose rows fit
pub record TablesFit (defs : List TableDef) (ts : List Keyed) : Type 0 where
  pub same : map (λ (t : Keyed). t.def) ts ≡ defs
  pub fit : AllByRecursion RowsFit ts

all_set : {A : Type 0} (P : A → Type 0) (xs : List A) (i : ℕ) (x : A) → AllByRecursion P xs → P x → AllByRecursion P (set xs i x)
all_set P [] i x all here = tt
all_set P (y ∷ xs) zero x all here = (here, all.1)
all_set P (y ∷ xs) (suc i) x all here = (all.0, all_set P xs i x all.1 here)

-- a table without a query is a base table
stored_base : (defs : List TableDef) (def : TableDef) → IsTableOf defs def → is_some def.query ≡ false → IsBase def
stored_base defs def (inl base) none = base
stored_base defs def (inr (inl first)) none =
    let has : is_some def.query ≡ true = ap (λ (d : TableDef). is_some d.query) first.is in
    cc
stored_base defs def (inr (inr unkept)) none = let has = unkept.derived in cc

not_derived : (b : Bool) (id : ℕ) → cond b (Some (Derived id)) None ≡ None → b ≡ false
not_derived true id e = cc
not_derived false id e = refl

-- a row that replaces another, or is new
shift_fits : (columns : List ColumnDef) (o : Option (List Value)) (row : List Value) → ((old : List Value) → o ≡ Some old → FitsColumns columns old) → FitsColumns columns row → ShiftFits columns (put_shift o row)
shift_fits columns None row found fits = fits
shift_fits columns (Some old) row found fits = (found old refl, fits)

-- what an act makes of such tables, and what it changes
pub record EffectFits (defs : List TableDef) (e : Effect) : Type 0 where
  pub tables : TablesFit defs e.tables
  pub changes : AllByRecursion (ChangeFits defs) e.changes

module _ (defs : List TableDef) (are : AreTables defs) where
  put_fits : (ts : List Keyed) (id : ℕ) (row : List Value) → TablesFit defs ts → id < length defs → is_some (table_at ts id).def.query ≡ false → misfit (table_at ts id).def.columns row ≡ None → EffectFits defs (done ts (Put id row))
  put_fits ts id row t lt none fits =
      let table = table_at ts id in
      let def_is : table.def ≡ def_at defs id = sym (get_or-map (λ (u : Keyed). u.def) ts id no_table) ∙ ap (λ ds. def_at ds id) t.same in
      let base = stored_base defs table.def (subst (IsTableOf defs) (sym def_is) (all_at (IsTableOf defs) defs id no_table.def are lt)) none in
      let row_fits = fits_base table.def row base fits in
      let all = all_or RowsFit ts id no_table t.fit tt in
      let Fit : List Value → Type 0 = FitsColumns table.def.columns in
      record {
        tables = record {
          same = map-set_same (λ (u : Keyed). u.def) ts id (record table { rows = with_row table.def.key table.rows row }) no_table refl ∙ t.same;
          fit = all_set RowsFit ts id (record table { rows = with_row table.def.key table.rows row }) t.fit
              (all_placed Fit table.def.key row (without table.def.key table.rows (key_of table.def.key row)) row_fits
              (all_filter Fit (λ r. not (has_key table.def.key (key_of table.def.key row) r)) table.rows all));
        };
        changes = (
          record {
            there = lt;
            fits = subst (λ (d : TableDef). ShiftFits d.columns (put_shift (row_at table.def.key table.rows (key_of table.def.key row)) row)) def_is
                (shift_fits table.def.columns (row_at table.def.key table.rows (key_of table.def.key row)) row (λ old e. find_all Fit (has_key table.def.key (key_of table.def.key row)) table.rows old all e) row_fits);
          },
          tt,
        );
      }

  unless_fits : (cause : Option ActError) (ts : List Keyed) (e : Effect) → TablesFit defs ts → (cause ≡ None → EffectFits defs e) → EffectFits defs (unless cause ts e)
  unless_fits None ts e t fits = fits refl
  unless_fits (Some cause) ts e t fits = record { tables = t; changes = tt }

  pub effect_fits : (holds : Holds) (ts : List Keyed) (act : Act) → TablesFit defs ts → Names (length defs) act → EffectFits defs (effect holds ts act)
  unfolding effect
  effect_fits holds ts (Put id row) t names =
      let def = (table_at ts id).def in
      let fits_last = misfit def.columns row in
      let last = full id (full_at (table_at ts id) row) in
      unless_fits (refusal holds ts (Put id row)) ts (done ts (Put id row)) t (λ none.
      let held = neither (not_held holds id) (or_cause (read_only holds id) (or_cause (derived def id) (or_cause fits_last last))) none in
      let writes = neither (read_only holds id) (or_cause (derived def id) (or_cause fits_last last)) held.1 in
      let stored = neither (derived def id) (or_cause fits_last last) writes.1 in
      let fitting = neither fits_last last stored.1 in
      put_fits ts id row t names (not_derived (is_some def.query) id stored.0) fitting.0)
  effect_fits holds ts (Show id) t names =
      unless_fits (not_held holds id) ts (done ts (Show id)) t (λ none. record { tables = t; changes = tt })
  effect_fits holds ts (Insert id rows) t names = absurd names
  effect_fits holds ts (Update id sets filter) t names = absurd names
  effect_fits holds ts (Delete id filter) t names = absurd names
  effect_fits holds ts (Select query) t names =
      unless_fits (one_not_held holds (tables_asked query.entries)) ts (done ts (Select query)) t (λ none. record { tables = t; changes = tt })

  -- what acts make of them one after another
  pub record RunFits (r : Run) : Type 0 where
    pub tables : TablesFit defs r.tables
    pub changes : AllByRecursion (ChangeFits defs) r.changes

  pub run_fits : (holds : Holds) (ts : List Keyed) (acts : List Act) → TablesFit defs ts → AllByRecursion (Names (length defs)) acts → RunFits (run holds ts acts)
  run_fits holds ts [] t names = record { tables = t; changes = tt }
  run_fits holds ts (act ∷ acts) t names =
      let before = run_fits holds ts acts t names.1 in
      let last = effect_fits holds (run holds ts acts).tables act before.tables names.0 in
      record {
        tables = last.tables;
        changes = all_append (ChangeFits defs) (run holds ts acts).changes (effect holds (run holds ts acts).tables act).changes before.changes last.changes;
      }

-- ---- the base tables of a legal history

one_act : (b : Bool) (count : ℕ) (a : Act) (others : List Act) → Names count a → AllByRecursion (Names count) others → AllByRecursion (Names count) (cond b (a ∷ []) [] ++ others)
one_act true count a others here rest = (here, rest)
one_act false count a others here rest = rest

-- each act names tables that are there
pub acts_name : (f : Fixed) (past : List Entry) (session : ℕ) → Legal f past → AllByRecursion (Names (length f.defs)) (acts past session)
acts_name f [] session legal = tt
acts_name f (Begin c s w r ∷ past) session legal = acts_name f past session legal.1
acts_name f (Did c s a reply ∷ past) session legal = one_act (s == session) (length f.defs) a (acts past session) legal.0.1 (acts_name f past session legal.1)
acts_name f (Commit c s m ∷ past) session legal = acts_name f past session legal.1
acts_name f (Undo c s ∷ past) session legal = acts_name f past session legal.1
acts_name f (Start c n m a d r ∷ past) session legal = acts_name f past session legal.1
acts_name f (Finish c n ∷ past) session legal = acts_name f past session legal.1

pub empty_fit : (defs : List TableDef) → TablesFit defs (empty_tables defs)
empty_fit [] = record { same = refl; fit = tt }
empty_fit (def ∷ defs) =
    let rest = empty_fit defs in
    record { same = ap (λ ds. def ∷ ds) rest.same; fit = (tt, rest.fit) }

pub base_fits : (f : Fixed) (past : List Entry) → IsBuilt f → Legal f past → TablesFit f.defs (base (beginning f) past)
base_fits f [] built legal = empty_fit f.defs
base_fits f (Begin c s w r ∷ past) built legal = base_fits f past built legal.1
base_fits f (Did c s a reply ∷ past) built legal = base_fits f past built legal.1
base_fits f (Commit c s m ∷ past) built legal =
    (run_fits f.defs built.each (holds past s) (base (beginning f) past) (acts past s) (base_fits f past built legal.1) (acts_name f past s legal.1)).tables
base_fits f (Undo c s ∷ past) built legal = base_fits f past built legal.1
base_fits f (Start c n m a d r ∷ past) built legal = base_fits f past built legal.1
base_fits f (Finish c n ∷ past) built legal = base_fits f past built legal.1

-- what a session changes is of rows of the tables
pub changes_fit : (f : Fixed) (past : List Entry) (session : ℕ) → IsBuilt f → Legal f past → AllByRecursion (ChangeFits f.defs) (changes (beginning f) past session)
changes_fit f past session built legal =
    (run_fits f.defs built.each (holds past session) (base (beginning f) past) (acts past session) (base_fits f past built legal) (acts_name f past session legal)).changes

-- ---- what the rules bind

-- a row whose sums are to be added to a table
pub record DeltaFits (def : TableDef) (row : List Value) : Type 0 where
  pub fits : FitsColumns def.columns row
  pub small : AllByRecursion (IsUnder (2 ^ 63)) (totals_of def row)

column_fits : (columns : List ColumnDef) (row : List Value) (c : ℕ) → FitsColumns columns row → c < length columns → Fits (get_or columns c no_column).kind (column_of row c)
column_fits [] row c fits lt = absurd (omega arith)
column_fits (d ∷ columns) [] c fits lt = absurd fits
column_fits (d ∷ columns) (v ∷ row) zero fits lt = fits.0
column_fits (d ∷ columns) (v ∷ row) (suc c) fits lt = column_fits columns row c fits.1 (omega arith)

big_number : (n : ℤ) → IsUnder (2 ^ 63) n → IsUnder (2 ^ 126) n
big_number n under = (omega (arith, ints, under.0), omega (arith, ints, under.1))

small_number : (v : Value) → Fits kind.Int v → IsUnder (2 ^ 63) (number_of v) × IsUnder (2 ^ 63) (neg_ℤ (number_of v))
small_number (Int n) fits =
    ((omega (arith, ints, fits.0), omega (arith, ints, fits.1)), (omega (arith, ints, fits.1), omega (arith, ints, fits.0)))
small_number (Text t) fits = absurd fits

one_small : IsUnder (2 ^ 63) (pos 1) × IsUnder (2 ^ 63) (neg_ℤ (pos 1))
one_small = ((omega (arith, ints), omega (arith, ints)), (omega (arith, ints), omega (arith, ints)))

moved_fits : (columns : List ColumnDef) (s : Side) (shift : Shift) → ShiftFits columns shift → IfSome (moved_row s shift) (FitsColumns columns)
moved_fits columns side.Inserted (Inserted row) fits = fits
moved_fits columns side.Inserted (Deleted row) fits = tt
moved_fits columns side.Inserted (Changed old new) fits = tt
moved_fits columns side.Deleted (Inserted row) fits = tt
moved_fits columns side.Deleted (Deleted row) fits = fits
moved_fits columns side.Deleted (Changed old new) fits = tt
moved_fits columns side.Old (Inserted row) fits = tt
moved_fits columns side.Old (Deleted row) fits = tt
moved_fits columns side.Old (Changed old new) fits = fits.0
moved_fits columns side.New (Inserted row) fits = tt
moved_fits columns side.New (Deleted row) fits = tt
moved_fits columns side.New (Changed old new) fits = fits.1

made_row : (defs : List TableDef) (def : TableDef) (first : IsFirst defs def) (group : Value) (sum count : ℤ) → Fits first.kind group → IsUnder (2 ^ 63) sum → IsUnder (2 ^ 63) count → DeltaFits def (group ∷ Int sum ∷ Int count ∷ [])
made_row defs def first group sum count fits small counted =
    subst (λ (d : TableDef). DeltaFits d (group ∷ Int sum ∷ Int count ∷ [])) (sym first.is) (record { fits = (fits, (big_number sum small, (big_number count counted, tt))); small = (small, (counted, tt)) })

module _ (defs : List TableDef) (k : Keeper) (keeps : KeepsFirst defs k) where
  abbrev DeltaTo : List Value → Type 0
  DeltaTo = DeltaFits (def_at defs k.table)

  abbrev FromSource : List Value → Type 0
  FromSource = FitsColumns (def_at defs k.source).columns

  group_fits : (row : List Value) → FromSource row → Fits keeps.first.kind (column_of row k.group)
  group_fits row fits =
      let columns = (def_at defs keeps.first.form.source).columns in
      let here : FitsColumns columns row = subst (λ s. FitsColumns (def_at defs s).columns row) keeps.source fits in
      subst (λ g. Fits keeps.first.kind (column_of row g)) (sym keeps.group)
      (subst (λ one. Fits one (column_of row keeps.first.form.group)) keeps.first.suits.group_kind (column_fits columns row keeps.first.form.group here keeps.first.suits.group_there))

  value_fits : (row : List Value) → FromSource row → Fits kind.Int (column_of row k.value)
  value_fits row fits =
      let columns = (def_at defs keeps.first.form.source).columns in
      let here : FitsColumns columns row = subst (λ s. FitsColumns (def_at defs s).columns row) keeps.source fits in
      subst (λ v. Fits kind.Int (column_of row v)) (sym keeps.value)
      (subst (λ one. Fits one (column_of row keeps.first.form.value)) keeps.first.suits.value_kind (column_fits columns row keeps.first.form.value here keeps.first.suits.value_there))

  coming_fits : (row : List Value) → FromSource row → DeltaTo (coming_row k row)
  coming_fits row fits =
      let n = number_of (column_of row k.value) in
      made_row defs (def_at defs k.table) keeps.first (column_of row k.group) n (pos 1) (group_fits row fits) (small_number (column_of row k.value) (value_fits row fits)).0 one_small.0

  going_fits : (row : List Value) → FromSource row → DeltaTo (going_row k row)
  going_fits row fits =
      let n = number_of (column_of row k.value) in
      made_row defs (def_at defs k.table) keeps.first (column_of row k.group) (neg_ℤ n) (neg_ℤ (pos 1)) (group_fits row fits) (small_number (column_of row k.value) (value_fits row fits)).1 one_small.1

  delta_fits : (s : Side) (row : List Value) → FromSource row → DeltaTo (delta_row s k row)
  delta_fits side.Inserted row fits = coming_fits row fits
  delta_fits side.Deleted row fits = going_fits row fits
  delta_fits side.Old row fits = going_fits row fits
  delta_fits side.New row fits = coming_fits row fits

  with_delta_fits : (s : Side) (o : Option (List Value)) (others : List (List Value)) → IfSome o FromSource → AllByRecursion DeltaTo others → AllByRecursion DeltaTo (with_delta s k o others)
  with_delta_fits s None others here rest = rest
  with_delta_fits s (Some row) others here rest = (delta_fits s row here, rest)

  deltas_fit : (s : Side) (cs : List Change) → AllByRecursion (ChangeFits defs) cs → AllByRecursion DeltaTo (deltas s k cs)
  deltas_fit s [] all = tt
  deltas_fit s (c ∷ cs) all =
      with_delta_fits s (cond (c.table == k.source) (moved_row s c.shift) None) (deltas s k cs) (by_test (c.table == k.source) refl) (deltas_fit s cs all.1)
    where
      by_test : (b : Bool) → (c.table == k.source) ≡ b → IfSome (cond b (moved_row s c.shift) None) FromSource
      by_test true e = moved_fits (def_at defs k.source).columns s c.shift (subst (λ id. ShiftFits (def_at defs id).columns c.shift) (eqb-true c.table k.source e) all.0.fits)
      by_test false e = tt

-- a row that is bound to the one bound table
pub record BoundFits (def : TableDef) (b : Bound) : Type 0 where
  pub into : b.bound ≡ 0
  pub delta : DeltaFits def b.row

all_put_in_order : (P : List Value → Type 0) (row : List Value) (rows : List (List Value)) → P row → AllByRecursion P rows → AllByRecursion P (put_in_order row rows)
all_put_in_order P row [] here all = (here, tt)
all_put_in_order P row (first ∷ rows) here all = by_order (row_cmp row first) (all_put_in_order P row rows here all.1)
  where
    by_order : (o : Ordering) → AllByRecursion P (put_in_order row rows) → AllByRecursion P (put_between o row first rows (put_in_order row rows))
    by_order Less rest = (here, all)
    by_order Equal rest = (here, all)
    by_order Greater rest = (all.0, rest)

all_in_order : (P : List Value → Type 0) (rows : List (List Value)) → AllByRecursion P rows → AllByRecursion P (in_order rows)
all_in_order P [] all = tt
all_in_order P (row ∷ rows) all = all_put_in_order P row (in_order rows) all.0 (all_in_order P rows all.1)

bound_rows_fit : (def : TableDef) (rows : List (List Value)) → AllByRecursion (DeltaFits def) rows → AllByRecursion (BoundFits def) (bound_rows rows)
bound_rows_fit def [] all = tt
bound_rows_fit def (row ∷ rows) all = (record { into = refl; delta = all.0 }, bound_rows_fit def rows all.1)

-- what the rule of one keeper binds
bound_by_fits : (defs : List TableDef) (k : Keeper) (cs : List Change) → KeepsFirst defs k → AllByRecursion (ChangeFits defs) cs → AllByRecursion (BoundFits (def_at defs k.table)) (bound_by k cs)
bound_by_fits defs k cs keeps all =
    let def = def_at defs k.table in
    let each = λ (s : Side). bound_rows_fit def (in_order (deltas s k cs)) (all_in_order (DeltaFits def) (deltas s k cs) (deltas_fit defs k keeps s cs all)) in
    let rows_by = λ (s : Side). bound_rows (in_order (deltas s k cs)) in
    all_append (BoundFits def) (rows_by side.Inserted ++ rows_by side.Deleted ++ rows_by side.Old) (rows_by side.New)
    (all_append (BoundFits def) (rows_by side.Inserted ++ rows_by side.Deleted) (rows_by side.Old)
    (all_append (BoundFits def) (rows_by side.Inserted) (rows_by side.Deleted) (each side.Inserted) (each side.Deleted)) (each side.Old)) (each side.New)

-- what a rule binds at a commit is for the table that it keeps
pub record FiredFits (f : Fixed) (fires : FiredRule) : Type 0 where
  pub known : fires.number < length f.rules
  pub each : AllByRecursion (BoundFits (kept_def f fires.number)) fires.rows

with_fired_fits : (f : Fixed) (number : ℕ) (bounds : List Bound) (others : List FiredRule) → number < length f.rules → AllByRecursion (BoundFits (kept_def f number)) bounds → AllByRecursion (FiredFits f) others → AllByRecursion (FiredFits f) (with_fired number bounds others)
with_fired_fits f number [] others lt all rest = rest
with_fired_fits f number (b ∷ bounds) others lt all rest = (record { known = lt; each = all }, rest)

fired_from_fits : (f : Fixed) (number : ℕ) (ks : List Keeper) (cs : List Change) → ((i : ℕ) → get_or ks i no_keeper ≡ keeper_at f (number + i)) → number + length ks ≤ length f.rules
    → AllByRecursion (KeepsFirst f.defs) ks → AllByRecursion (ChangeFits f.defs) cs → AllByRecursion (FiredFits f) (fired_by number ks cs)
fired_from_fits f number [] cs places le keeps all = tt
fired_from_fits f number (k ∷ ks) cs places le keeps all =
    let itself : number + 0 ≡ number = omega arith in
    let here : k ≡ keeper_at f number = places 0 ∙ ap (keeper_at f) itself in
    with_fired_fits f number (bound_by k cs) (fired_by (number + 1) ks cs) (omega arith)
    (subst (λ (one : Keeper). AllByRecursion (BoundFits (def_at f.defs one.table)) (bound_by k cs)) here (bound_by_fits f.defs k cs keeps.0 all))
    (fired_from_fits f (number + 1) ks cs (λ i. let same : number + suc i ≡ (number + 1) + i = omega arith in places (suc i) ∙ ap (keeper_at f) same) (omega arith) keeps.1 all)

pub fired_by_fits : (f : Fixed) (cs : List Change) → IsBuilt f → AllByRecursion (ChangeFits f.defs) cs → AllByRecursion (FiredFits f) (fired_by 0 (all_keepers f) cs)
fired_by_fits f cs built all =
    let many = rules_count f built in
    fired_from_fits f 0 (all_keepers f) cs (λ i. let same : i ≡ 0 + i = omega arith in ap (keeper_at f) same) (omega arith) (all_kept f built) all

-- ---- all bound rows of a legal history

-- a bound row is of the one bound table, bound by a rule that is there, in an action of the function of the rule's number, and
-- is for the table that the rule keeps
pub record RowFits (f : Fixed) (r : BoundRow) : Type 0 where
  pub table : r.table ≡ 0
  pub known : r.rule < length f.rules
  pub of : r.action.function ≡ r.rule
  pub fits : FitsColumns (kept_def f r.rule).columns r.row
  pub small : AllByRecursion (IsUnder (2 ^ 63)) (totals_of (kept_def f r.rule) r.row)

rows_of_rule_fit : (f : Fixed) → IsBuilt f → (past : List Happened) (place moment : ℕ) (fires : FiredRule) → FiredFits f fires → AllByRecursion (RowFits f) (rows_of_rule f.rules past place moment fires)
rows_of_rule_fit f built past place moment fires fits =
    all_map (RowFits f) (as_bound f.rules past place moment fires.number) fires.rows
    (all_weaker (BoundFits (kept_def f fires.number)) (λ b. RowFits f (as_bound f.rules past place moment fires.number b)) (λ b one.
    record { table = one.into; known = fits.known; of = rule_function f built fires.number fits.known; fits = one.delta.fits; small = one.delta.small }) fires.rows fits.each)

module _ (f : Fixed) (built : IsBuilt f) where
  -- what the rules bind where a session commits next
  pub fired_fits : (past : List Entry) (session : ℕ) → Legal f past → AllByRecursion (FiredFits f) (fired_at f past session)
  fired_fits past session legal =
      let before = base (beginning f) past in
      let cs = changes (beginning f) past session in
      let all = changes_fit f past session built legal in
      subst (AllByRecursion (FiredFits f)) (sym (fired_is f built before (run (holds past session) before (acts past session)).tables cs all)) (fired_by_fits f cs built all)

  pub rows_fit : (past : List Entry) → Legal f past → AllByRecursion (RowFits f) (all_rows f.rules (happened f past))
  rows_fit [] legal = tt
  rows_fit (Begin c s w r ∷ past) legal = rows_fit past legal.1
  rows_fit (Did c s a reply ∷ past) legal = rows_fit past legal.1
  rows_fit (Commit c s m ∷ past) legal =
      let before = kept (happened f past) in
      let fired = fired_at f past s in
      all_append (RowFits f) (rows_bound f.rules before) (flat_map (rows_of_rule f.rules before (length past) m) fired) (rows_fit past legal.1)
      (all_flat (RowFits f) (rows_of_rule f.rules before (length past) m) fired
      (all_weaker (FiredFits f) (λ fires. AllByRecursion (RowFits f) (rows_of_rule f.rules before (length past) m fires)) (rows_of_rule_fit f built before (length past) m) fired (fired_fits past s legal.1)))
  rows_fit (Undo c s ∷ past) legal = rows_fit past legal.1
  rows_fit (Start c n m a d r ∷ past) legal = rows_fit past legal.1
  rows_fit (Finish c n ∷ past) legal = rows_fit past legal.1

-- ---- the rows of one action

-- such a row is to be added to the table of its rule
adds_to : (f : Fixed) (n : ℕ) (r : BoundRow) → RowFits f r → r.rule ≡ n → AddsTo (kept_def f n) r
adds_to f n r one e = subst (λ m. AddsTo (kept_def f m) r) e (record { table = one.table; fits = one.fits; small = one.small })

-- so the rows of an action are to be added to the table of its function's rule
pub rows_of_add : (f : Fixed) (rules : List Rule) (past : List Happened) (action : ActionId) → AllByRecursion (RowFits f) (all_rows rules past) → AllByRecursion (AddsTo (kept_def f action.function)) (rows_of rules past action)
rows_of_add f rules past action all =
    passed (RowFits f) (AddsTo (kept_def f action.function)) (in_action action) (λ r e one.
    adds_to f action.function r one (sym one.of ∙ ap (λ (a : ActionId). a.function) (same_action_equal r.action action e))) (all_rows rules past) all

-- and there is such a rule for each action
pub action_known : (f : Fixed) (rules : List Rule) (past : List Happened) → AllByRecursion (RowFits f) (all_rows rules past) → AllByRecursion (λ a. a.action.function < length f.rules) (actions rules past)
action_known f rules past all =
    all_firsts (λ a. a.action.function < length f.rules) (all_rows rules past)
    (all_weaker (RowFits f) (λ a. a.action.function < length f.rules) (λ a one. let of = one.of in let known = one.known in omega arith) (all_rows rules past) all)

-- ---- an action that waits

-- a legal history binds no more rows than it may
pub bound_within : (f : Fixed) (past : List Entry) → Legal f past → bound_count f past ≤ f.most
bound_within f [] legal = omega arith
bound_within f (Begin c s w r ∷ past) legal = bound_within f past legal.1
bound_within f (Did c s a reply ∷ past) legal = bound_within f past legal.1
bound_within f (Commit c s m ∷ past) legal = legal.0.3
bound_within f (Undo c s ∷ past) legal = bound_within f past legal.1
bound_within f (Start c n m a d r ∷ past) legal = bound_within f past legal.1
bound_within f (Finish c n ∷ past) legal = bound_within f past legal.1

-- the action of what a rule bound at a commit, by the rule's number
pub plain_is : (f : Fixed) → IsBuilt f → (fg : Firing) → fg.fired.number < length f.rules → plain_action f.rules fg ≡ plain_id fg.place fg.fired.number
plain_is f built fg lt = ap (λ n. record { function = n; key = Plain fg.place fg.fired.number }) (rule_function f built fg.fired.number lt)

-- what an action that waits is to do, and that its sums can be made
pub record WaitingFolds (f : Fixed) (past : List Entry) (w : Waiting) : Type 0 where
  pub content : contents f.defs (get_or f.functions (plain_action f.rules (as_firing w)).function no_function) (rows_of f.rules (happened f past) (plain_action f.rules (as_firing w))) ≡ content_of (kept_def f w.fired.number) w.fired.rows
  pub can : CanFold (kept_def f w.fired.number) w.fired.rows

pub waiting_folds : (f : Fixed) → IsBuilt f → (past : List Entry) → Legal f past → bound_count f past ≤ 2 ^ 60 → (w : Waiting) → IsWaiting f.rules (happened f past) w → WaitingFolds f past w
waiting_folds f built past legal few w is =
    let rules = f.rules in
    let before = happened f past in
    let action = plain_action rules (as_firing w) in
    let n = w.fired.number in
    let function_is : action.function ≡ n = rule_function f built n is.1 in
    let adding : AllByRecursion (AddsTo (kept_def f n)) (rows_of rules before action) =
    subst (λ m. AllByRecursion (AddsTo (kept_def f m)) (rows_of rules before action)) function_is (rows_of_add f rules before action (rows_fit f built past legal)) in
    let own = subst (AllByRecursion (AddsTo (kept_def f n))) is.0 adding in
    let fewer = length-filter_both (in_action action) (λ r. not (in_action action r)) (λ r. refl) (all_rows rules before) in
    let long = ap length is.0 in
    let bounds = length-map w.fired.rows (as_bound rules [] w.place w.moment n) in
    record {
      content = ap₂ (λ m rows. contents f.defs (get_or f.functions m no_function) rows) function_is is.0 ∙ contents_are f built n is.1 (as_firing w) own;
      can = can_fold f built n is.1 (as_firing w) own (omega arith);
    }
