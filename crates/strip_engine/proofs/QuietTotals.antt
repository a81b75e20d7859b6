-- What changes add up to: per key the sums of what a rule binds are the totals of a base table after less those before.
use Rattle.std.proofs.Common.{◌≡◌, ◌==◌, ℕ, zero, suc, ◌<◌, Bool, true, false, cond, List, [], ◌∷◌, ◌++◌, length, map, set, Option, Some, None, inl, inr, ℤ, pos, neg_ℤ, ◌+ℤ◌, ◌-ℤ◌, refl, sym, ap, ap₂, ◌∙◌, subst, arith}
use Rattle.std.specs.List.{AllByRecursion}
use Rattle.std.proofs.Math.IntN.{+ℤ_idl}
use Rattle.std.proofs.Math.ListN.{get_or-map}
use Rattle.std.proofs.lemmas.Int.{ints}
use Rattle.std.proofs.lemmas.List.{length-set, map-append}
use borrow.Author.Tests.{eqb-true, eq-eqb}
use Rattle.std.specs.declared.cmp.Ordering.{Ordering}
use Rattle.std.specs.declared.cmp.Ordering.TheVariants.{Less, Equal, Greater}
use Rattle.strip_value.specs.declared.actions.Bound.{Bound}
use Rattle.strip_value.specs.declared.acts.Act.{Act}
use Rattle.strip_value.specs.declared.acts.Act.TheVariants.{Insert, Put, Update, Delete, Select, Show}
use Rattle.strip_value.specs.declared.acts.ActError.{ActError}
use Rattle.strip_value.specs.declared.acts.Holds.{Holds}
use Rattle.strip_value.specs.declared.changes.Change.{Change}
use Rattle.strip_value.specs.declared.changes.Shift.{Shift}
use Rattle.strip_value.specs.declared.changes.Shift.TheVariants.{Inserted, Deleted, Changed}
use Rattle.strip_value.specs.declared.kinds.Kind.{Kind}
use Rattle.strip_value.specs.declared.tables.By.{By}
use Rattle.strip_value.specs.declared.tables.TableDef.{TableDef}
use Rattle.strip_value.specs.declared.values.Value.{Value}
use Rattle.strip_value.specs.declared.values.Value.TheVariants.{Int, Text}
use Rattle.strip_value.specs.Order.{row_cmp}
use Rattle.strip_value.specs.Query.{in_order, number_of, put_in_order, rows_at, sum_of}
use Rattle.strip_value.specs.Table.{Keyed, Rises, column_of, has_key, key_of, put_between, row_at, with_row}
use Rattle.strip_value.proofs.KeyedLaws.{Split, below_found, puts_there, row_at_found, row_at_gap, split_of, with_row_found, with_row_gap}
use Rattle.strip_value.proofs.Lists.{all_append, all_at}
use Rattle.strip_bag.proofs.LinearLaws.{order_keeps, sums_by_bag}
use Rattle.strip_meaning.specs.Effect.{Effect, done, effect, no_table, put_shift, refusal, run, table_at, unless}
use Rattle.strip_meaning.specs.Sums.{plus, sums_at}
use Rattle.strip_meaning.specs.Sums as sums
use Rattle.strip_meaning.proofs.Behind.{all_map, all_or}
use Rattle.strip_model.specs.declared.entries.Entry.{Entry}
use Rattle.strip_model.specs.declared.entries.Entry.TheVariants.{Begin, Did, Commit, Undo, Start, Finish}
use Rattle.strip_model.specs.History.{acts, base, changes, empty_tables, holds}
use Rattle.strip_model.specs.Derived.{Fixed, beginning}
use Rattle.strip_model.specs.Legal.{Legal, Names}
use Rattle.strip_engine.specs.declared.deltas.Side.{Side}
use Rattle.strip_engine.specs.declared.deltas.Side.TheVariants as side
use Rattle.strip_engine.specs.declared.keepers.Keeper.{Keeper}
use Rattle.strip_engine.specs.Changes.{bound_by, bound_rows, coming_row, delta_row, deltas, going_row, moved_row, with_delta}
use Rattle.strip_engine.specs.Jobs.{rows_in}
use Rattle.strip_meaning.specs.First.{Form, first_def}
use Rattle.strip_engine.specs.Keepers.{all_keepers, keeper_at, kept_def, no_keeper}
use Rattle.strip_engine.specs.Quiet.{DeltasAddUp, group_rows, group_totals, less}
use Rattle.strip_engine.proofs.BoundRows.{acts_name}
use Rattle.strip_engine.proofs.KeeperRules.{KeepsFirst, all_kept}

-- ---- sums over rows

-- the sum of a number of each row
abbrev pub total : (List Value → ℤ) → List (List Value) → ℤ
total of rows = sum_of (map of rows)

pub total_append : (of : List Value → ℤ) (one two : List (List Value)) → total of (one ++ two) ≡ total of one +ℤ total of two
total_append of [] two = omega (arith, ints)
total_append of (row ∷ one) two = let rest = total_append of one two in omega (arith, ints)

-- it doesn't depend on their order
total_in_order : (of : List Value → ℤ) (rows : List (List Value)) → total of (in_order rows) ≡ total of rows
total_in_order of rows = sums_by_bag of (in_order rows) rows (order_keeps rows)

-- ---- what changes add

abbrev pub shift_gain : (List Value → ℤ) → Shift → ℤ
shift_gain of (Inserted row) = of row
shift_gain of (Deleted row) = neg_ℤ (of row)
shift_gain of (Changed old new) = of new -ℤ of old

-- what changes of a table's rows add to the sum over them
abbrev pub gain : (List Value → ℤ) → ℕ → List Change → ℤ
gain of source [] = pos 0
gain of source (c ∷ cs) = cond (c.table == source) (shift_gain of c.shift) (pos 0) +ℤ gain of source cs

pub gain_append : (of : List Value → ℤ) (source : ℕ) (one two : List Change) → gain of source (one ++ two) ≡ gain of source one +ℤ gain of source two
gain_append of source [] two = omega (arith, ints)
gain_append of source (c ∷ one) two = let rest = gain_append of source one two in omega (arith, ints)

-- a number of each row of a derived table that says what a row of the base table says, and less it where the row goes
pub record Tells (k : Keeper) (of told : List Value → ℤ) : Type 0 where
  pub coming : (row : List Value) → told (coming_row k row) ≡ of row
  pub going : (row : List Value) → told (going_row k row) ≡ neg_ℤ (of row)

module _ (k : Keeper) (of told : List Value → ℤ) (tells : Tells k of told) where
  abbrev among : Side → List Change → ℤ
  among s cs = total told (deltas s k cs)

  deltas_add : (cs : List Change) → ((among side.Inserted cs +ℤ among side.Deleted cs) +ℤ among side.Old cs) +ℤ among side.New cs ≡ gain of k.source cs
  deltas_add [] = refl
  deltas_add (c ∷ cs) = by_shift (c.table == k.source) c.shift (deltas_add cs)
    where
      by_shift : (b : Bool) (shift : Shift) → ((among side.Inserted cs +ℤ among side.Deleted cs) +ℤ among side.Old cs) +ℤ among side.New cs ≡ gain of k.source cs
          → ((total told (with_delta side.Inserted k (cond b (moved_row side.Inserted shift) None) (deltas side.Inserted k cs)) +ℤ total told (with_delta side.Deleted k (cond b (moved_row side.Deleted shift) None) (deltas side.Deleted k cs))) +ℤ total told (with_delta side.Old k (cond b (moved_row side.Old shift) None) (deltas side.Old k cs))) +ℤ total told (with_delta side.New k (cond b (moved_row side.New shift) None) (deltas side.New k cs))
          ≡ cond b (shift_gain of shift) (pos 0) +ℤ gain of k.source cs
      by_shift false shift rest = omega (arith, ints)
      by_shift true (Inserted row) rest = let one = tells.coming row in omega (arith, ints)
      by_shift true (Deleted row) rest = let one = tells.going row in omega (arith, ints)
      by_shift true (Changed old new) rest =
          let one = tells.going old in
          let other = tells.coming new in
          omega (arith, ints)

  -- so does what the rule binds
  abbrev bound : List Bound → ℤ
  bound bounds = total told (rows_in bounds)

  rows_back : (rows : List (List Value)) → rows_in (bound_rows rows) ≡ rows
  rows_back [] = refl
  rows_back (row ∷ rows) = ap (λ more. row ∷ more) (rows_back rows)

  bound_append : (one two : List Bound) → bound (one ++ two) ≡ bound one +ℤ bound two
  bound_append one two = ap (total told) (map-append (λ (b : Bound). b.row) one two) ∙ total_append told (rows_in one) (rows_in two)

  bound_side : (s : Side) (cs : List Change) → bound (bound_rows (in_order (deltas s k cs))) ≡ among s cs
  bound_side s cs = ap (total told) (rows_back (in_order (deltas s k cs))) ∙ total_in_order told (deltas s k cs)

  pub bound_adds : (cs : List Change) → bound (bound_by k cs) ≡ gain of k.source cs
  bound_adds cs =
      let rows = λ (s : Side). bound_rows (in_order (deltas s k cs)) in
      let one = bound_append (rows side.Inserted ++ rows side.Deleted ++ rows side.Old) (rows side.New) in
      let two = bound_append (rows side.Inserted ++ rows side.Deleted) (rows side.Old) in
      let three = bound_append (rows side.Inserted) (rows side.Deleted) in
      one ∙ ap₂ (λ a b. a +ℤ b) (two ∙ ap₂ (λ a b. a +ℤ b) (three ∙ ap₂ (λ a b. a +ℤ b) (bound_side side.Inserted cs) (bound_side side.Deleted cs)) (bound_side side.Old cs)) (bound_side side.New cs)
      ∙ deltas_add cs

-- ---- what acts add to the rows of a base table

put_adds : (of : List Value → ℤ) (columns : List ℕ) (rows : List (List Value)) (row : List Value) → Rises columns rows
    → total of (with_row columns rows row) ≡ total of rows +ℤ shift_gain of (put_shift (row_at columns rows (key_of columns row)) row)
put_adds of columns rows row rises = by_split (split_of columns (key_of columns row) rows rises)
  where
    Adds : List (List Value) → Type 0
    Adds rs = total of (with_row columns rs row) ≡ total of rs +ℤ shift_gain of (put_shift (row_at columns rs (key_of columns row)) row)

    found : (front : List (List Value)) (old : List Value) (back : List (List Value)) → key_of columns old ≡ key_of columns row → Rises columns (front ++ old ∷ back) → Adds (front ++ old ∷ back)
    found front old back same risen =
        let below = below_found columns (key_of columns row) front old back same risen in
        let new = ap (total of) (with_row_found columns row front old back same risen) in
        let change = ap (λ o. shift_gain of (put_shift o row)) (row_at_found columns (key_of columns row) front old back below same) in
        let before = total_append of front (old ∷ back) in
        let after = total_append of front (row ∷ back) in
        omega (arith, ints)

    gap : (front back : List (List Value)) → row_at columns (front ++ back) (key_of columns row) ≡ None → with_row columns (front ++ back) row ≡ front ++ row ∷ back → Adds (front ++ back)
    gap front back none is =
        let new = ap (total of) is in
        let change = ap (λ o. shift_gain of (put_shift o row)) none in
        let before = total_append of front back in
        let after = total_append of front (row ∷ back) in
        omega (arith, ints)

    by_split : Split columns (key_of columns row) rows → Adds rows
    by_split (inl f) = subst Adds (sym f.1.split) (found f.1.front f.1.row f.1.back f.1.has_key (subst (Rises columns) f.1.split rises))
    by_split (inr g) =
        subst Adds (sym g.1.split) (gap g.1.front g.1.back (row_at_gap columns (key_of columns row) g.1.front g.1.back g.1.below g.1.above) (with_row_gap columns row g.1.front g.1.back g.1.below g.1.above))

-- tables whose rows rise by key
abbrev pub RowsRise : Keyed → Type 0
RowsRise t = Rises t.def.key t.rows

all_set : {A : Type 0} (P : A → Type 0) (xs : List A) (i : ℕ) (x : A) → AllByRecursion P xs → P x → AllByRecursion P (set xs i x)
all_set P [] i x all here = tt
all_set P (y ∷ xs) zero x all here = (here, all.1)
all_set P (y ∷ xs) (suc i) x all here = (all.0, all_set P xs i x all.1 here)

set_here : (ts : List Keyed) (id : ℕ) (t : Keyed) → id < length ts → rows_at (set ts id t) id ≡ t.rows
set_here [] id t lt = absurd (omega arith)
set_here (u ∷ ts) zero t lt = refl
set_here (u ∷ ts) (suc id) t lt = set_here ts id t (omega arith)

set_elsewhere : (ts : List Keyed) (id source : ℕ) (t : Keyed) → (id ≡ source → ⊥) → rows_at (set ts id t) source ≡ rows_at ts source
set_elsewhere [] id source t apart = refl
set_elsewhere (u ∷ ts) zero zero t apart = absurd (apart refl)
set_elsewhere (u ∷ ts) zero (suc source) t apart = refl
set_elsewhere (u ∷ ts) (suc id) zero t apart = refl
set_elsewhere (u ∷ ts) (suc id) (suc source) t apart = set_elsewhere ts id source t (λ e. apart (ap suc e))

rows_set : (ts : List Keyed) (id source : ℕ) (t : Keyed) (b : Bool) → (id == source) ≡ b → id < length ts → rows_at (set ts id t) source ≡ cond b t.rows (rows_at ts source)
rows_set ts id source t true e lt = ap (rows_at (set ts id t)) (sym (eqb-true id source e)) ∙ set_here ts id t lt
rows_set ts id source t false e lt = set_elsewhere ts id source t (λ same. let met = eq-eqb id source same in cc)

pub rows_of_table : (ts : List Keyed) (id : ℕ) → (table_at ts id).rows ≡ rows_at ts id
rows_of_table ts id = sym (get_or-map (λ (u : Keyed). u.rows) ts id no_table)

-- what acts make of such tables
pub record Adds (of : List Value → ℤ) (source : ℕ) (before after : List Keyed) (cs : List Change) : Type 0 where
  pub rise : AllByRecursion RowsRise after
  pub count : length after ≡ length before
  pub adds : total of (rows_at after source) ≡ total of (rows_at before source) +ℤ gain of source cs

module _ (of : List Value → ℤ) (source : ℕ) where
  nothing_adds : (ts : List Keyed) → AllByRecursion RowsRise ts → Adds of source ts ts []
  nothing_adds ts rise = record { rise = rise; count = refl; adds = omega (arith, ints) }

  done_adds : (ts : List Keyed) (act : Act) → AllByRecursion RowsRise ts → Names (length ts) act → Adds of source ts (done ts act).tables (done ts act).changes
  done_adds ts (Show id) rise names = nothing_adds ts rise
  done_adds ts (Insert id rows) rise names = absurd names
  done_adds ts (Update id sets filter) rise names = absurd names
  done_adds ts (Delete id filter) rise names = absurd names
  done_adds ts (Select query) rise names = nothing_adds ts rise
  done_adds ts (Put id row) rise names =
      let table = table_at ts id in
      let here = all_or RowsRise ts id no_table rise tt in
      let new = with_row table.def.key table.rows row in
      let shift = put_shift (row_at table.def.key table.rows (key_of table.def.key row)) row in
      record {
        rise = all_set RowsRise ts id (record table { rows = new }) rise (puts_there table.def.key table.rows row here).rises;
        count = length-set ts id (record table { rows = new });
        adds = ap (total of) (rows_set ts id source (record table { rows = new }) (id == source) refl names)
            ∙ by_test new shift (id == source) refl (put_adds of table.def.key table.rows row here);
      }
    where
      by_test : (new : List (List Value)) (shift : Shift) (b : Bool) → (id == source) ≡ b → total of new ≡ total of (table_at ts id).rows +ℤ shift_gain of shift
          → total of (cond b new (rows_at ts source)) ≡ total of (rows_at ts source) +ℤ (cond b (shift_gain of shift) (pos 0) +ℤ pos 0)
      by_test new shift true e put =
          let same : total of (table_at ts id).rows ≡ total of (rows_at ts source) = ap (total of) (rows_of_table ts id ∙ ap (rows_at ts) (eqb-true id source e)) in
          omega (arith, ints)
      by_test new shift false e put = omega (arith, ints)

  unless_adds : (cause : Option ActError) (ts : List Keyed) (e : Effect) → AllByRecursion RowsRise ts → Adds of source ts e.tables e.changes → Adds of source ts (unless cause ts e).tables (unless cause ts e).changes
  unless_adds None ts e rise adds = adds
  unless_adds (Some cause) ts e rise adds = nothing_adds ts rise

  effect_adds : (held : Holds) (ts : List Keyed) (act : Act) → AllByRecursion RowsRise ts → Names (length ts) act → Adds of source ts (effect held ts act).tables (effect held ts act).changes
  unfolding effect
  effect_adds held ts act rise names = unless_adds (refusal held ts act) ts (done ts act) rise (done_adds ts act rise names)

  pub run_adds : (held : Holds) (ts : List Keyed) (those : List Act) → AllByRecursion RowsRise ts → AllByRecursion (Names (length ts)) those → Adds of source ts (run held ts those).tables (run held ts those).changes
  run_adds held ts [] rise names = nothing_adds ts rise
  run_adds held ts (act ∷ those) rise names =
      let earlier = run_adds held ts those rise names.1 in
      let before = run held ts those in
      let last = effect_adds held before.tables act earlier.rise (subst (λ n. Names n act) (sym earlier.count) names.0) in
      record {
        rise = last.rise;
        count = last.count ∙ earlier.count;
        adds = last.adds ∙ ap (λ n. n +ℤ gain of source (effect held before.tables act).changes) earlier.adds ∙ joined before.changes (effect held before.tables act).changes (total of (rows_at ts source));
      }
    where
      joined : (one two : List Change) (n : ℤ) → (n +ℤ gain of source one) +ℤ gain of source two ≡ n +ℤ gain of source (one ++ two)
      joined one two n = let both = gain_append of source one two in omega (arith, ints)

-- ---- the base tables of a legal history

empty_rise : (defs : List TableDef) → AllByRecursion RowsRise (empty_tables defs)
empty_rise [] = tt
empty_rise (def ∷ defs) = (tt, empty_rise defs)

empty_count : (defs : List TableDef) → length (empty_tables defs) ≡ length defs
empty_count [] = refl
empty_count (def ∷ defs) = ap suc (empty_count defs)

empty_rows : (defs : List TableDef) (id : ℕ) → rows_at (empty_tables defs) id ≡ []
empty_rows [] id = refl
empty_rows (def ∷ defs) zero = refl
empty_rows (def ∷ defs) (suc id) = empty_rows defs id

-- rise by key, and there are as many as at the beginning
pub record BaseRises (f : Fixed) (past : List Entry) : Type 0 where
  pub rise : AllByRecursion RowsRise (base (beginning f) past)
  pub count : length (base (beginning f) past) ≡ length f.defs

-- the rows that the rule of a keeper has bound, the oldest first
abbrev pub delta_rows : Fixed → Keeper → List Entry → List (List Value)
delta_rows f k [] = []
delta_rows f k (Begin c s w r ∷ past) = delta_rows f k past
delta_rows f k (Did c s a reply ∷ past) = delta_rows f k past
delta_rows f k (Commit c s m ∷ past) = delta_rows f k past ++ rows_in (bound_by k (changes (beginning f) past s))
delta_rows f k (Undo c s ∷ past) = delta_rows f k past
delta_rows f k (Start c n m a d r ∷ past) = delta_rows f k past
delta_rows f k (Finish c n ∷ past) = delta_rows f k past

-- what the acts of a session make of them
acts_add : (f : Fixed) (past : List Entry) (s : ℕ) (of : List Value → ℤ) (source : ℕ) → Legal f past → BaseRises f past → Adds of source (base (beginning f) past) (run (holds past s) (base (beginning f) past) (acts past s)).tables (changes (beginning f) past s)
acts_add f past s of source legal before =
    run_adds of source (holds past s) (base (beginning f) past) (acts past s) before.rise (subst (λ n. AllByRecursion (Names n) (acts past s)) (sym before.count) (acts_name f past s legal))

base_rises : (f : Fixed) (past : List Entry) → Legal f past → BaseRises f past
base_rises f [] legal = record { rise = empty_rise f.defs; count = empty_count f.defs }
base_rises f (Begin c s w r ∷ past) legal = let rest = base_rises f past legal.1 in record { rise = rest.rise; count = rest.count }
base_rises f (Did c s a reply ∷ past) legal = let rest = base_rises f past legal.1 in record { rise = rest.rise; count = rest.count }
base_rises f (Commit c s m ∷ past) legal =
    let rest = base_rises f past legal.1 in
    let adds = acts_add f past s (λ row. pos 0) 0 legal.1 rest in
    record { rise = adds.rise; count = adds.count ∙ rest.count }
base_rises f (Undo c s ∷ past) legal = let rest = base_rises f past legal.1 in record { rise = rest.rise; count = rest.count }
base_rises f (Start c n m a d r ∷ past) legal = let rest = base_rises f past legal.1 in record { rise = rest.rise; count = rest.count }
base_rises f (Finish c n ∷ past) legal = let rest = base_rises f past legal.1 in record { rise = rest.rise; count = rest.count }

-- what a commit adds to the sum over a base table
commit_adds : (f : Fixed) (past : List Entry) (s : ℕ) (of : List Value → ℤ) (source : ℕ) → Legal f past → Adds of source (base (beginning f) past) (run (holds past s) (base (beginning f) past) (acts past s)).tables (changes (beginning f) past s)
commit_adds f past s of source legal = acts_add f past s of source legal (base_rises f past legal)

module _ (f : Fixed) (k : Keeper) (of told : List Value → ℤ) (tells : Tells k of told) where
  -- all that was bound adds up to what stands
  pub base_total : (past : List Entry) → Legal f past → total told (delta_rows f k past) ≡ total of (rows_at (base (beginning f) past) k.source)
  base_total [] legal = sym (ap (total of) (empty_rows f.defs k.source))
  base_total (Begin c s w r ∷ past) legal = base_total past legal.1
  base_total (Did c s a reply ∷ past) legal = base_total past legal.1
  base_total (Commit c s m ∷ past) legal =
      let cs = changes (beginning f) past s in
      total_append told (delta_rows f k past) (rows_in (bound_by k cs))
      ∙ ap₂ (λ a b. a +ℤ b) (base_total past legal.1) (bound_adds k of told tells cs)
      ∙ sym (commit_adds f past s of k.source legal.1).adds
  base_total (Undo c s ∷ past) legal = base_total past legal.1
  base_total (Start c n m a d r ∷ past) legal = base_total past legal.1
  base_total (Finish c n ∷ past) legal = base_total past legal.1

-- ---- sums per key

-- a total of the rows that have a key
abbrev pub told_at : ℕ → List Value → List Value → ℤ
told_at column key row = cond (has_key (0 ∷ []) key row) (number_of (column_of row column)) (pos 0)

-- of the rows of a group, the value and 1
abbrev pub value_of : Keeper → List Value → List Value → ℤ
value_of k key row = cond (has_key (k.group ∷ []) key row) (number_of (column_of row k.value)) (pos 0)

abbrev pub one_of : Keeper → List Value → List Value → ℤ
one_of k key row = cond (has_key (k.group ∷ []) key row) (pos 1) (pos 0)

negated : (b : Bool) (n : ℤ) → cond b (neg_ℤ n) (pos 0) ≡ neg_ℤ (cond b n (pos 0))
negated true n = refl
negated false n = refl

pub tells_value : (k : Keeper) (key : List Value) → Tells k (value_of k key) (told_at 1 key)
tells_value k key = record { coming = λ row. refl; going = λ row. negated (has_key (k.group ∷ []) key row) (number_of (column_of row k.value)) }

pub tells_one : (k : Keeper) (key : List Value) → Tells k (one_of k key) (told_at 2 key)
tells_one k key = record { coming = λ row. refl; going = λ row. negated (has_key (k.group ∷ []) key row) (pos 1) }

one_more : (x s a b : ℤ) (n : ℕ) → s ∷ pos n ∷ [] ≡ a ∷ b ∷ [] → (x +ℤ s) ∷ pos (suc n) ∷ [] ≡ (x +ℤ a) ∷ (pos 1 +ℤ b) ∷ []
one_more x s a b n e =
    let sums : s ≡ a = cc in
    let counts : pos n ≡ b = cc in
    let up : pos (suc n) ≡ pos 1 +ℤ pos n = omega (arith, ints) in
    cc

none_more : (s a b : ℤ) (n : ℕ) → s ∷ pos n ∷ [] ≡ a ∷ b ∷ [] → s ∷ pos n ∷ [] ≡ (pos 0 +ℤ a) ∷ (pos 0 +ℤ b) ∷ []
none_more s a b n e =
    let one : pos 0 +ℤ a ≡ a = omega (arith, ints) in
    let two : pos 0 +ℤ b ≡ b = omega (arith, ints) in
    cc

-- the totals of a group are these sums
pub group_is : (k : Keeper) (rows : List (List Value)) (key : List Value) → group_totals k rows key ≡ total (value_of k key) rows ∷ total (one_of k key) rows ∷ []
group_is k [] key = refl
group_is k (row ∷ rows) key = by_test (has_key (k.group ∷ []) key row) (group_is k rows key)
  where
    by_test : (b : Bool) → group_totals k rows key ≡ total (value_of k key) rows ∷ total (one_of k key) rows ∷ []
        → sum_of (map (λ (one : List Value). number_of (column_of one k.value)) (cond b (row ∷ group_rows k rows key) (group_rows k rows key))) ∷ pos (length (cond b (row ∷ group_rows k rows key) (group_rows k rows key))) ∷ []
        ≡ (cond b (number_of (column_of row k.value)) (pos 0) +ℤ total (value_of k key) rows) ∷ (cond b (pos 1) (pos 0) +ℤ total (one_of k key) rows) ∷ []
    by_test true rest =
        one_more (number_of (column_of row k.value)) (sum_of (map (λ (one : List Value). number_of (column_of one k.value)) (group_rows k rows key))) (total (value_of k key) rows) (total (one_of k key) rows) (length (group_rows k rows key)) rest
    by_test false rest =
        none_more (sum_of (map (λ (one : List Value). number_of (column_of one k.value)) (group_rows k rows key))) (total (value_of k key) rows) (total (one_of k key) rows) (length (group_rows k rows key)) rest

-- a row of a first form's derived table
abbrev pub IsTriple : List Value → Type 0
IsTriple (a ∷ b ∷ c ∷ []) = Unit {0}
IsTriple _ = ⊥

same_number : (v : Value) → sums.number_of v ≡ number_of v
same_number (Int n) = refl
same_number (Text t) = refl

-- the sums of a key over such rows
pub sums_are : (name : List ℕ) (form : Form) (kind : Kind) (how : Option By) (declared : Bool) (rows : List (List Value)) (key : List Value) → AllByRecursion IsTriple rows
    → sums_at (first_def name form kind how declared) rows key ≡ total (told_at 1 key) rows ∷ total (told_at 2 key) rows ∷ []
sums_are name form kind how declared [] key all = refl
sums_are name form kind how declared ([] ∷ rows) key all = absurd all.0
sums_are name form kind how declared ((a ∷ []) ∷ rows) key all = absurd all.0
sums_are name form kind how declared ((a ∷ b ∷ []) ∷ rows) key all = absurd all.0
sums_are name form kind how declared ((a ∷ b ∷ c ∷ d ∷ more) ∷ rows) key all = absurd all.0
sums_are name form kind how declared ((a ∷ b ∷ c ∷ []) ∷ rows) key all =
    let own = sums.number_of b ∷ sums.number_of c ∷ [] in
    let same : own ≡ number_of b ∷ number_of c ∷ [] = ap₂ (λ x y. x ∷ y ∷ []) (same_number b) (same_number c) in
    let here = has_key (0 ∷ []) key (a ∷ b ∷ c ∷ []) in
    ap₂ (λ one others. cond here (plus one others) others) same (sums_are name form kind how declared rows key all.1) ∙ by_test here
  where
    by_test : (t : Bool) → cond t (plus (number_of b ∷ number_of c ∷ []) (total (told_at 1 key) rows ∷ total (told_at 2 key) rows ∷ [])) (total (told_at 1 key) rows ∷ total (told_at 2 key) rows ∷ [])
        ≡ (cond t (number_of b) (pos 0) +ℤ total (told_at 1 key) rows) ∷ (cond t (number_of c) (pos 0) +ℤ total (told_at 2 key) rows) ∷ []
    by_test true = refl
    by_test false = ap₂ (λ x y. x ∷ y ∷ []) (sym (+ℤ_idl (total (told_at 1 key) rows))) (sym (+ℤ_idl (total (told_at 2 key) rows)))

-- what is bound are such rows
delta_triple : (s : Side) (k : Keeper) (row : List Value) → IsTriple (delta_row s k row)
delta_triple side.Inserted k row = tt
delta_triple side.Deleted k row = tt
delta_triple side.Old k row = tt
delta_triple side.New k row = tt

with_triple : (s : Side) (k : Keeper) (o : Option (List Value)) (others : List (List Value)) → AllByRecursion IsTriple others → AllByRecursion IsTriple (with_delta s k o others)
with_triple s k None others all = all
with_triple s k (Some row) others all = (delta_triple s k row, all)

deltas_triple : (s : Side) (k : Keeper) (cs : List Change) → AllByRecursion IsTriple (deltas s k cs)
deltas_triple s k [] = tt
deltas_triple s k (c ∷ cs) = with_triple s k (cond (c.table == k.source) (moved_row s c.shift) None) (deltas s k cs) (deltas_triple s k cs)

pub all_put_in_order : (P : List Value → Type 0) (row : List Value) (rows : List (List Value)) → P row → AllByRecursion P rows → AllByRecursion P (put_in_order row rows)
all_put_in_order P row [] here all = (here, tt)
all_put_in_order P row (first ∷ rows) here all = by_order (row_cmp row first) (all_put_in_order P row rows here all.1)
  where
    by_order : (o : Ordering) → AllByRecursion P (put_in_order row rows) → AllByRecursion P (put_between o row first rows (put_in_order row rows))
    by_order Less rest = (here, all)
    by_order Equal rest = (here, all)
    by_order Greater rest = (all.0, rest)

pub all_in_order : (P : List Value → Type 0) (rows : List (List Value)) → AllByRecursion P rows → AllByRecursion P (in_order rows)
all_in_order P [] all = tt
all_in_order P (row ∷ rows) all = all_put_in_order P row (in_order rows) all.0 (all_in_order P rows all.1)

pub bound_triple : (k : Keeper) (cs : List Change) → AllByRecursion IsTriple (rows_in (bound_by k cs))
bound_triple k cs =
    let Triple : Bound → Type 0 = λ b. IsTriple b.row in
    let rows = λ (s : Side). bound_rows (in_order (deltas s k cs)) in
    let each = λ (s : Side). bound_rows_triple (in_order (deltas s k cs)) (all_in_order IsTriple (deltas s k cs) (deltas_triple s k cs)) in
    all_map IsTriple (λ (b : Bound). b.row) (bound_by k cs)
    (all_append Triple (rows side.Inserted ++ rows side.Deleted ++ rows side.Old) (rows side.New)
    (all_append Triple (rows side.Inserted ++ rows side.Deleted) (rows side.Old)
    (all_append Triple (rows side.Inserted) (rows side.Deleted) (each side.Inserted) (each side.Deleted)) (each side.Old)) (each side.New))
  where
    bound_rows_triple : (rows : List (List Value)) → AllByRecursion IsTriple rows → AllByRecursion (λ (b : Bound). IsTriple b.row) (bound_rows rows)
    bound_rows_triple [] all = tt
    bound_rows_triple (row ∷ rows) all = (all.0, bound_rows_triple rows all.1)

pub delta_rows_triple : (f : Fixed) (k : Keeper) (past : List Entry) → AllByRecursion IsTriple (delta_rows f k past)
delta_rows_triple f k [] = tt
delta_rows_triple f k (Begin c s w r ∷ past) = delta_rows_triple f k past
delta_rows_triple f k (Did c s a reply ∷ past) = delta_rows_triple f k past
delta_rows_triple f k (Commit c s m ∷ past) =
    let cs = changes (beginning f) past s in
    all_append IsTriple (delta_rows f k past) (rows_in (bound_by k cs)) (delta_rows_triple f k past) (bound_triple k cs)
delta_rows_triple f k (Undo c s ∷ past) = delta_rows_triple f k past
delta_rows_triple f k (Start c n m a d r ∷ past) = delta_rows_triple f k past
delta_rows_triple f k (Finish c n ∷ past) = delta_rows_triple f k past

-- ---- at a commit, and over a whole history

-- the sums of what a commit binds are the totals after it less those before
pub deltas_add_up : DeltasAddUp
deltas_add_up f past caller session moment rule key built legal lt =
    let k = keeper_at f rule in
    let cs = changes (beginning f) past session in
    let rows = rows_in (bound_by k cs) in
    let before = rows_at (base (beginning f) past) k.source in
    let after = rows_at (base (beginning f) (Commit caller session moment ∷ past)) k.source in
    let first = (all_at (KeepsFirst f.defs) (all_keepers f) rule no_keeper (all_kept f built) lt).first in
    let values = (commit_adds f past session (value_of k key) k.source legal).adds in
    let ones = (commit_adds f past session (one_of k key) k.source legal).adds in
    let bound_values = bound_adds k (value_of k key) (told_at 1 key) (tells_value k key) cs in
    let bound_ones = bound_adds k (one_of k key) (told_at 2 key) (tells_one k key) cs in
    let value : total (told_at 1 key) rows ≡ total (value_of k key) after -ℤ total (value_of k key) before = omega (arith, ints) in
    let one : total (told_at 2 key) rows ≡ total (one_of k key) after -ℤ total (one_of k key) before = omega (arith, ints) in
    ap (λ (d : TableDef). sums_at d rows key) first.is
    ∙ sums_are (kept_def f rule).name first.form first.kind (kept_def f rule).kept (kept_def f rule).declared rows key (bound_triple k cs)
    ∙ ap₂ (λ x y. x ∷ y ∷ []) value one
    ∙ sym (ap₂ less (group_is k after key) (group_is k before key))

-- the sums of all that was bound are the totals of the groups as they stand
pub sums_stand : (f : Fixed) (past : List Entry) (k : Keeper) (name : List ℕ) (form : Form) (kind : Kind) (how : Option By) (declared : Bool) (key : List Value) → Legal f past
    → sums_at (first_def name form kind how declared) (delta_rows f k past) key ≡ group_totals k (rows_at (base (beginning f) past) k.source) key
sums_stand f past k name form kind how declared key legal =
    sums_are name form kind how declared (delta_rows f k past) key (delta_rows_triple f k past)
    ∙ ap₂ (λ x y. x ∷ y ∷ []) (base_total f k (value_of k key) (told_at 1 key) (tells_value k key) past legal) (base_total f k (one_of k key) (told_at 2 key) (tells_one k key) past legal)
    ∙ sym (group_is k (rows_at (base (beginning f) past) k.source) key)
