-- The rules and the functions of a catalog, against its keepers: as many, at the same places, and of the same tables.
use Rattle.std.proofs.Common.{◌≡◌, ℕ, ℤ, pos, neg_ℤ, ◌-ℤ◌, zero, suc, ◌+◌, ◌^◌, ◌<◌, ◌≤◌, ◌==◌, Bool, true, false, ◌&&◌, ◌||◌, cond, List, [], ◌∷◌, ◌++◌, map, filter, length, get_or, Option, Some, None, not, refl, sym, ap, ap₂, ◌∙◌, subst, arith, append-nil, append_assoc}
use Rattle.std.specs.List.{AllByRecursion, IsDistinct, flat_map, list_any}
use Rattle.std.proofs.Math.Dec.{eqb}
use Rattle.std.proofs.lemmas.List.{length-map}
use Rattle.std.proofs.lemmas.Map.Steps.{length-le_from_distinct_below}
use Rattle.std.proofs.Math.IntN.{+ℤ_idl}
use Rattle.std.proofs.Math.ListN.{get_or-append}
use Rattle.std.proofs.lemmas.Int.{ints}
use borrow.Author.Tests.{eqb-true, eq-eqb, ne_eqb}
use Rattle.strip_value.specs.declared.actions.Bound.{Bound}
use Rattle.strip_value.specs.declared.changes.Change.{Change}
use Rattle.strip_value.specs.declared.changes.Moved.{Moved}
use Rattle.strip_value.specs.declared.changes.Shift.{Shift}
use Rattle.strip_value.specs.declared.changes.Shift.TheVariants.{Inserted, Deleted, Changed}
use Rattle.strip_value.specs.declared.expressions.Calc.{Calc}
use Rattle.strip_value.specs.declared.expressions.Test.TheVariants.{True}
use Rattle.strip_value.specs.declared.queries.Input.{Input}
use Rattle.strip_value.specs.declared.queries.Input.TheVariants as input
use Rattle.strip_value.specs.declared.queries.Item.{Item}
use Rattle.strip_value.specs.declared.rules.BoundQuery.{BoundQuery}
use Rattle.strip_value.specs.declared.tables.ColumnDef.{ColumnDef}
use Rattle.strip_value.specs.declared.values.Value.{Value}
use Rattle.strip_value.specs.declared.values.Value.TheVariants.{Int, Text}
use Rattle.strip_value.specs.Kinds.{Fits, FitsColumns}
use Rattle.strip_value.specs.Query.{Environment, number_of, satisfies, combinations, entry_rows, plain_row, in_order, mean}
use Rattle.strip_value.specs.Table.{Keyed, column_of}
use Rattle.strip_meaning.specs.Firing.{has_rows, rows_bound, is_met, at_commit, fired}
use Rattle.strip_meaning.specs.Sums.{IsUnder}
use Rattle.strip_meaning.specs.Moved.{numbered, with_shift, moved_from, moved}
use Rattle.strip_model.specs.Derived.{Fixed, fired_from, with_fired}
use Rattle.strip_engine.specs.declared.deltas.Side.{Side}
use Rattle.strip_engine.specs.declared.deltas.Side.TheVariants as side
use Rattle.strip_engine.specs.Changes.{ShiftFits, ChangeFits, moved_row, coming_row, going_row, delta_row, with_delta, deltas, bound_rows, bound_by, fired_by}
use Rattle.strip_value.specs.declared.kinds.Kind.{Kind}
use Rattle.strip_value.specs.declared.kinds.Kind.TheVariants as kind
use Rattle.strip_value.specs.declared.rules.Rule.{Rule}
use Rattle.strip_value.specs.declared.tables.TableDef.{TableDef}
use Rattle.strip_value.proofs.Lists.{all_at, all_weaker}
use Rattle.strip_meaning.specs.Actions.{rule_at}
use Rattle.strip_meaning.specs.Contents.{def_at, no_function}
use Rattle.strip_meaning.specs.Course.{IsPlainRule}
use Rattle.strip_meaning.specs.Maintained.{coming, going, delta_query, delta_queries, keep_function, keep_rule}
use Rattle.strip_meaning.proofs.PlainActions.{IsAtOnce}
use Rattle.strip_engine.specs.declared.keepers.Keeper.{Keeper}
use Rattle.strip_meaning.specs.First.{Form, IsFirst, first_query, no_column}
use Rattle.strip_engine.specs.Keepers.{all_keepers, keeper_at, keeper_by, keepers_of, kept_def, no_keeper}
use Rattle.strip_engine.specs.Deltas.{IsSmallAt, IsSmallShift, FitsKeeper, KeepsSmall}
use Rattle.strip_engine.specs.Built.{IsBuilt, IsKept, all_differ, at_once, functions_of, is_among, kept_tables, rules_of}
use Rattle.strip_setup.specs.Maintain.{query_in}

-- ---- as many of each

rules_many : (defs : List TableDef) (first : ℕ) (ids : List ℕ) → length (rules_of defs first ids) ≡ length (keepers_of defs ids)
rules_many defs first [] = refl
rules_many defs first (id ∷ ids) = ap suc (rules_many defs (first + 1) ids)

pub rules_count : (f : Fixed) → IsBuilt f → length f.rules ≡ length (all_keepers f)
rules_count f built = ap length built.rules ∙ rules_many f.defs 0 (kept_tables f.functions)

-- no table is kept twice, so no more are kept than there are

turned : (a b : ℕ) → (a == b) ≡ (b == a)
turned a b = by_test (a == b) refl
  where
    by_test : (t : Bool) → (a == b) ≡ t → (a == b) ≡ (b == a)
    by_test true e = e ∙ sym (eq-eqb b a (sym (eqb-true a b e)))
    by_test false e = e ∙ sym (ne_eqb b a (λ same. let met = eq-eqb a b (sym same) in cc))

differ_from : (ids : List ℕ) (id : ℕ) → is_among ids id ≡ false → AllByRecursion (λ other. (id == other) ≡ false) ids
differ_from [] id none = tt
differ_from (other ∷ ids) id none = by_test (other == id) refl none (differ_from ids id)
  where
    by_test : (b : Bool) → (other == id) ≡ b → (b || is_among ids id) ≡ false
        → (is_among ids id ≡ false → AllByRecursion (λ one. (id == one) ≡ false) ids)
        → ((id == other) ≡ false) × AllByRecursion (λ one. (id == one) ≡ false) ids
    by_test true e none rest = cc
    by_test false e none rest = (turned id other ∙ e, rest none)

distinct_ids : (ids : List ℕ) → all_differ ids ≡ true → IsDistinct eqb ids
unfolding IsDistinct
distinct_ids [] differ = tt
distinct_ids (id ∷ ids) differ = by_test (is_among ids id) refl differ (distinct_ids ids)
  where
    by_test : (b : Bool) → is_among ids id ≡ b → (not b && all_differ ids) ≡ true → (all_differ ids ≡ true → IsDistinct eqb ids)
        → IsDistinct eqb (id ∷ ids)
    by_test true e differ rest = cc
    by_test false e differ rest = (differ_from ids id e, rest differ)

-- what is so of each number is so of one among them
pub one_among : (P : ℕ → Type 0) (ids : List ℕ) (id : ℕ) → AllByRecursion P ids → is_among ids id ≡ true → P id
one_among P [] id all there = cc
one_among P (other ∷ ids) id all there = by_test (other == id) refl there (one_among P ids id all.1)
  where
    by_test : (b : Bool) → (other == id) ≡ b → (b || is_among ids id) ≡ true → (is_among ids id ≡ true → P id) → P id
    by_test true e there rest = subst P (eqb-true other id e) all.0
    by_test false e there rest = rest there

among_either : (ids : List ℕ) (id : ℕ) → list_any (λ other. id == other) ids ≡ is_among ids id
among_either [] id = refl
among_either (other ∷ ids) id = ap₂ (λ a b. a || b) (turned id other) (among_either ids id)

pub keepers_few : (f : Fixed) → IsBuilt f → length (all_keepers f) ≤ 64
keepers_few f built =
    let ids = kept_tables f.functions in
    let among = λ (id : ℕ) (there : list_any (λ other. id == other) ids ≡ true). sym (among_either ids id) ∙ there in
    let below = λ (id : ℕ) (there : list_any (λ other. id == other) ids ≡ true).
    (one_among (IsKept f.defs) ids id built.kept (among id there)).there in
    let fewer = length-le_from_distinct_below ids (length f.defs) (distinct_ids ids built.once) below in
    let few = built.few in
    omega (arith, length-map ids (λ (id : ℕ). keeper_by id (query_in (def_at f.defs id))))

-- ---- no rule is unique, and none waits

plain_of : (defs : List TableDef) (first : ℕ) (ids : List ℕ) → AllByRecursion IsPlainRule (rules_of defs first ids)
plain_of defs first [] = tt
plain_of defs first (id ∷ ids) = (refl, plain_of defs (first + 1) ids)

pub rules_plain : (f : Fixed) → IsBuilt f → AllByRecursion IsPlainRule f.rules
rules_plain f built = subst (AllByRecursion IsPlainRule) (sym built.rules) (plain_of f.defs 0 (kept_tables f.functions))

at_once_of : (defs : List TableDef) (first : ℕ) (ids : List ℕ) → AllByRecursion IsAtOnce (rules_of defs first ids)
at_once_of defs first [] = tt
at_once_of defs first (id ∷ ids) = (refl, at_once_of defs (first + 1) ids)

pub rules_at_once : (f : Fixed) → IsBuilt f → AllByRecursion IsAtOnce f.rules
rules_at_once f built = subst (AllByRecursion IsAtOnce) (sym built.rules) (at_once_of f.defs 0 (kept_tables f.functions))

-- ---- each rule names the function at its own place

function_of : (defs : List TableDef) (first : ℕ) (ids : List ℕ) (n : ℕ) → n < length (rules_of defs first ids)
    → (rule_at (rules_of defs first ids) n).function ≡ first + n
function_of defs first [] n lt = absurd (omega arith)
function_of defs first (id ∷ ids) zero lt = omega arith
function_of defs first (id ∷ ids) (suc n) lt =
    let rest = function_of defs (first + 1) ids n (omega arith) in
    rest ∙ omega arith

pub rule_function : (f : Fixed) → IsBuilt f → (n : ℕ) → n < length f.rules → (rule_at f.rules n).function ≡ n
rule_function f built n lt =
    let rules = rules_of f.defs 0 (kept_tables f.functions) in
    let there : n < length rules = subst (λ (rs : List Rule). n < length rs) built.rules lt in
    let itself : 0 + n ≡ n = omega arith in
    ap (λ rs. (rule_at rs n).function) built.rules ∙ function_of f.defs 0 (kept_tables f.functions) n there ∙ itself

-- ---- each function is that of the table that its keeper keeps

functions_are : (defs : List TableDef) (ids : List ℕ) (n : ℕ) → n < length (keepers_of defs ids)
    → get_or (functions_of defs ids) n no_function
    ≡ keep_function (def_at defs (get_or (keepers_of defs ids) n no_keeper).table) (get_or (keepers_of defs ids) n no_keeper).table
functions_are defs [] n lt = absurd (omega arith)
functions_are defs (id ∷ ids) zero lt = refl
functions_are defs (id ∷ ids) (suc n) lt = functions_are defs ids n (omega arith)

pub function_is : (f : Fixed) → IsBuilt f → (n : ℕ) → n < length f.rules
    → get_or f.functions n no_function ≡ keep_function (kept_def f n) (keeper_at f n).table
function_is f built n lt =
    ap (λ fs. get_or fs n no_function) built.functions
    ∙ functions_are f.defs (kept_tables f.functions) n (subst (λ l. n < l) (rules_count f built) lt)

-- ---- each keeper's table is a derived one, of the keeper's columns

pub record KeepsFirst (defs : List TableDef) (k : Keeper) : Type 0 where
  pub there : k.table < length defs
  pub first : IsFirst defs (def_at defs k.table)
  pub source : k.source ≡ first.form.source
  pub group : k.group ≡ first.form.group
  pub value : k.value ≡ first.form.value

-- its query is that of its form
pub query_of_form : (defs : List TableDef) (def : TableDef) (first : IsFirst defs def) → query_in def ≡ first_query first.form
query_of_form defs def first = ap query_in first.is

keeps_first : (defs : List TableDef) (id : ℕ) → IsKept defs id → KeepsFirst defs (keeper_by id (query_in (def_at defs id)))
keeps_first defs id kept =
    let is = query_of_form defs (def_at defs id) kept.first in
    record {
      there = kept.there;
      first = kept.first;
      source = ap (λ q. (keeper_by id q).source) is;
      group = ap (λ q. (keeper_by id q).group) is;
      value = ap (λ q. (keeper_by id q).value) is;
    }

all_keep : (defs : List TableDef) (ids : List ℕ) → AllByRecursion (IsKept defs) ids
    → AllByRecursion (KeepsFirst defs) (keepers_of defs ids)
all_keep defs [] kept = tt
all_keep defs (id ∷ ids) kept = (keeps_first defs id kept.0, all_keep defs ids kept.1)

pub all_kept : (f : Fixed) → IsBuilt f → AllByRecursion (KeepsFirst f.defs) (all_keepers f)
all_kept f built = all_keep f.defs (kept_tables f.functions) built.kept

pub kept_at : (f : Fixed) → IsBuilt f → (n : ℕ) → n < length f.rules → KeepsFirst f.defs (keeper_at f n)
kept_at f built n lt =
    all_at (KeepsFirst f.defs) (all_keepers f) n no_keeper (all_kept f built) (subst (λ l. n < l) (rules_count f built) lt)

pub kept_there : (f : Fixed) → IsBuilt f → (n : ℕ) → n < length f.rules → (keeper_at f n).table < length f.defs
kept_there f built n lt = (kept_at f built n lt).there

pub kept_first : (f : Fixed) → IsBuilt f → (n : ℕ) → n < length f.rules → IsFirst f.defs (kept_def f n)
kept_first f built n lt = (kept_at f built n lt).first

-- ---- the rows of a transition table

abbrev side_rows : Side → Moved → List (List Value)
side_rows side.Inserted m = m.inserted
side_rows side.Deleted m = m.deleted
side_rows side.Old m = m.old
side_rows side.New m = m.new

abbrev with_numbered : ℕ → Option (List Value) → List (List Value) → List (List Value)
with_numbered n None others = others
with_numbered n (Some row) others = numbered n row ∷ others

shift_side : (s : Side) (n : ℕ) (shift : Shift) (others : Moved) → side_rows s (with_shift n shift others) ≡ with_numbered n (moved_row s shift) (side_rows s others)
shift_side side.Inserted n (Inserted row) others = refl
shift_side side.Inserted n (Deleted row) others = refl
shift_side side.Inserted n (Changed old new) others = refl
shift_side side.Deleted n (Inserted row) others = refl
shift_side side.Deleted n (Deleted row) others = refl
shift_side side.Deleted n (Changed old new) others = refl
shift_side side.Old n (Inserted row) others = refl
shift_side side.Old n (Deleted row) others = refl
shift_side side.Old n (Changed old new) others = refl
shift_side side.New n (Inserted row) others = refl
shift_side side.New n (Deleted row) others = refl
shift_side side.New n (Changed old new) others = refl

fits_length : (columns : List ColumnDef) (row : List Value) → FitsColumns columns row → length row ≡ length columns
fits_length [] [] fits = refl
fits_length [] (v ∷ vs) fits = absurd fits
fits_length (c ∷ cs) [] fits = absurd fits
fits_length (c ∷ cs) (v ∷ vs) fits = ap suc (fits_length cs vs fits.1)

moved_fits : (s : Side) (columns : List ColumnDef) (shift : Shift) (row : List Value) → ShiftFits columns shift → moved_row s shift ≡ Some row → FitsColumns columns row
moved_fits side.Inserted columns (Inserted new) row fits is =
    let same : new ≡ row = cc in
    subst (FitsColumns columns) same fits
moved_fits side.Deleted columns (Deleted old) row fits is =
    let same : old ≡ row = cc in
    subst (FitsColumns columns) same fits
moved_fits side.Old columns (Changed old new) row fits is =
    let same : old ≡ row = cc in
    subst (FitsColumns columns) same fits.0
moved_fits side.New columns (Changed old new) row fits is =
    let same : new ≡ row = cc in
    subst (FitsColumns columns) same fits.1
moved_fits _ columns _ row fits is = absurd (cc)

-- as many rows were replaced as came in their places
as_new_cond : (b : Bool) (n : ℕ) (shift : Shift) (others : Moved) → length others.old ≡ length others.new → length (cond b (with_shift n shift others) others).old ≡ length (cond b (with_shift n shift others) others).new
as_new_cond true n (Inserted row) others same = same
as_new_cond true n (Deleted row) others same = same
as_new_cond true n (Changed old new) others same = ap suc same
as_new_cond false n shift others same = same

as_new : (cs : List Change) (n table : ℕ) → length (moved_from n cs table).old ≡ length (moved_from n cs table).new
as_new [] n table = refl
as_new (c ∷ cs) n table = as_new_cond (c.table == table) n c.shift (moved_from (n + 1) cs table) (as_new cs (n + 1) table)

-- ---- what a query of the rule shows of them

abbrev sign : Side → Calc → Calc
sign side.Inserted e = coming e
sign side.Deleted e = going e
sign side.Old e = going e
sign side.New e = coming e

abbrev shown : Side → Form → List Value → List Value
shown s form row = plain_row (delta_query (sign s) input.Inserted (first_query form)).items (row ∷ [])

abbrev keeper_of : ℕ → Form → Keeper
keeper_of table form = keeper_by table (first_query form)

less : (n : ℤ) → pos 0 -ℤ n ≡ neg_ℤ n
less n = omega (arith, ints)

shown_coming : (form : Form) (row : List Value) → shown side.Inserted form row ≡ coming_row (keeper_of 0 form) row
shown_coming form row =
    ap (λ sum. column_of row form.group ∷ Int sum ∷ Int (pos 1) ∷ []) (+ℤ_idl (number_of (column_of row form.value)))

shown_going : (form : Form) (row : List Value) → shown side.Deleted form row ≡ going_row (keeper_of 0 form) row
shown_going form row =
    ap (λ sum. column_of row form.group ∷ Int sum ∷ Int (neg_ℤ (pos 1)) ∷ []) (less (number_of (column_of row form.value)))

shown_is : (s : Side) (table : ℕ) (form : Form) (row : List Value) → shown s form row ≡ delta_row s (keeper_of table form) row
shown_is side.Inserted table form row = shown_coming form row
shown_is side.Deleted table form row = shown_going form row
shown_is side.Old table form row = shown_going form row
shown_is side.New table form row = shown_coming form row

-- a column that the row has is not the number behind it
column_numbered : (n : ℕ) (row : List Value) (c : ℕ) → c < length row → column_of (numbered n row) c ≡ column_of row c
column_numbered n row c lt = get_or-append row (Int (pos n) ∷ []) (Int (pos 0)) c lt

numbered_row : (s : Side) (table : ℕ) (form : Form) (n : ℕ) (row : List Value) → form.group < length row → form.value < length row → delta_row s (keeper_of table form) (numbered n row) ≡ delta_row s (keeper_of table form) row
numbered_row side.Inserted table form n row g v =
    ap₂ (λ a b. a ∷ Int (number_of b) ∷ Int (pos 1) ∷ []) (column_numbered n row form.group g) (column_numbered n row form.value v)
numbered_row side.Deleted table form n row g v =
    ap₂ (λ a b. a ∷ Int (neg_ℤ (number_of b)) ∷ Int (neg_ℤ (pos 1)) ∷ []) (column_numbered n row form.group g) (column_numbered n row form.value v)
numbered_row side.Old table form n row g v =
    ap₂ (λ a b. a ∷ Int (neg_ℤ (number_of b)) ∷ Int (neg_ℤ (pos 1)) ∷ []) (column_numbered n row form.group g) (column_numbered n row form.value v)
numbered_row side.New table form n row g v =
    ap₂ (λ a b. a ∷ Int (number_of b) ∷ Int (pos 1) ∷ []) (column_numbered n row form.group g) (column_numbered n row form.value v)

-- the form's columns are among these
abbrev Reads : Form → List ColumnDef → Type 0
Reads form columns = (form.group < length columns) × (form.value < length columns)

one_shown : (s : Side) (table : ℕ) (form : Form) (columns : List ColumnDef) (n : ℕ) (shift : Shift) (o : Option (List Value)) (others all : List (List Value)) → Reads form columns → ShiftFits columns shift → moved_row s shift ≡ o → map (shown s form) others ≡ all → map (shown s form) (with_numbered n o others) ≡ with_delta s (keeper_of table form) o all
one_shown s table form columns n shift None others all reads fits is rest = rest
one_shown s table form columns n shift (Some row) others all reads fits is rest =
    let wide = fits_length columns row (moved_fits s columns shift row fits is) in
    let g : form.group < length columns = reads.0 in
    let v : form.value < length columns = reads.1 in
    let group : form.group < length row = omega arith in
    let value : form.value < length row = omega arith in
    ap₂ (λ a b. a ∷ b) (shown_is s table form (numbered n row) ∙ numbered_row s table form n row group value) rest

change_shown : (s : Side) (table : ℕ) (form : Form) (defs : List TableDef) (n : ℕ) (c : Change) (b : Bool) (others : Moved) (all : List (List Value)) → (c.table == form.source) ≡ b → Reads form (def_at defs form.source).columns → ChangeFits defs c → map (shown s form) (side_rows s others) ≡ all → map (shown s form) (side_rows s (cond b (with_shift n c.shift others) others)) ≡ with_delta s (keeper_of table form) (cond b (moved_row s c.shift) None) all
change_shown s table form defs n c true others all test reads fits rest =
    let same = eqb-true c.table form.source test in
    ap (map (shown s form)) (shift_side s n c.shift others) ∙ one_shown s table form (def_at defs form.source).columns n c.shift (moved_row s c.shift) (side_rows s others) all reads (subst (λ id. ShiftFits (def_at defs id).columns c.shift) same fits.fits) refl rest
change_shown s table form defs n c false others all test reads fits rest = rest

-- they show what the code makes
all_shown : (s : Side) (table : ℕ) (form : Form) (defs : List TableDef) → Reads form (def_at defs form.source).columns → (cs : List Change) (n : ℕ) → AllByRecursion (ChangeFits defs) cs → map (shown s form) (side_rows s (moved_from n cs form.source)) ≡ deltas s (keeper_of table form) cs
all_shown side.Inserted table form defs reads [] n fits = refl
all_shown side.Deleted table form defs reads [] n fits = refl
all_shown side.Old table form defs reads [] n fits = refl
all_shown side.New table form defs reads [] n fits = refl
all_shown s table form defs reads (c ∷ cs) n fits =
    change_shown s table form defs n c (c.table == form.source) (moved_from (n + 1) cs form.source) (deltas s (keeper_of table form) cs) refl reads fits.0 (all_shown s table form defs reads cs (n + 1) fits.1)

-- ---- a query of the rule

one_entry : (items : List Item) (rows : List (List Value)) → map (plain_row items) (filter (satisfies True) (combinations (rows ∷ []))) ≡ map (λ row. plain_row items (row ∷ [])) rows
one_entry items [] = refl
one_entry items (row ∷ rows) = ap (λ rest. plain_row items (row ∷ []) ∷ rest) (one_entry items rows)

abbrev from_side : Side → Input
from_side side.Inserted = input.Inserted
from_side side.Deleted = input.Deleted
from_side side.Old = input.Old
from_side side.New = input.New

entry_is : (s : Side) (env : Environment) → entry_rows env (from_side s) ≡ side_rows s env.moved
entry_is side.Inserted env = refl
entry_is side.Deleted env = refl
entry_is side.Old env = refl
entry_is side.New env = refl

query_mean : (s : Side) (form : Form) (env : Environment) → mean (delta_query (sign s) (from_side s) (first_query form)) env ≡ in_order (map (shown s form) (side_rows s env.moved))
unfolding mean
query_mean s form env =
    ap in_order (one_entry (delta_query (sign s) (from_side s) (first_query form)).items (entry_rows env (from_side s)) ∙ ap (map (shown s form)) (entry_is s env))

-- ---- the rule

-- what it binds, if any event occurs
abbrev bound_of : Form → List (List Value) → List (List Value) → List (List Value) → List (List Value) → List Bound
bound_of form added removed old new =
    bound_rows (in_order (map (shown side.Inserted form) added)) ++ bound_rows (in_order (map (shown side.Deleted form) removed)) ++ bound_rows (in_order (map (shown side.Old form) old)) ++ bound_rows (in_order (map (shown side.New form) new))

-- where none does nothing is there to bind
any_event : (form : Form) (added removed old new : List (List Value)) → length old ≡ length new → cond ((has_rows added || (has_rows removed || (has_rows old || false))) && true) (bound_of form added removed old new) [] ≡ bound_of form added removed old new
any_event form (row ∷ rows) removed old new same = refl
any_event form [] (row ∷ rows) old new same = refl
any_event form [] [] (row ∷ rows) new same = refl
any_event form [] [] [] [] same = refl
any_event form [] [] [] (row ∷ rows) same = absurd (omega arith)

regrouped : (a b c d : List Bound) → a ++ (b ++ (c ++ (d ++ []))) ≡ a ++ b ++ c ++ d
regrouped a b c d = simp (append_assoc, append-nil)

alike : (a b c d e f g h : List (List Value)) → a ≡ e → b ≡ f → c ≡ g → d ≡ h → bound_rows a ++ bound_rows b ++ bound_rows c ++ bound_rows d ≡ bound_rows e ++ bound_rows f ++ bound_rows g ++ bound_rows h
alike a b c d e f g h p q r s =
    ap₂ (λ x y. x ++ bound_rows y) (ap₂ (λ x y. x ++ bound_rows y) (ap₂ (λ x y. bound_rows x ++ bound_rows y) p q) r) s

four_queries : (form : Form) (env : Environment) → flat_map (λ (q : BoundQuery). rows_bound None env q.bound q) (delta_queries (first_query form)) ≡ bound_of form env.moved.inserted env.moved.deleted env.moved.old env.moved.new
four_queries form env =
    let query = first_query form in
    let added = mean (delta_query coming input.Inserted query) env in
    let removed = mean (delta_query going input.Deleted query) env in
    let old = mean (delta_query going input.Old query) env in
    let new = mean (delta_query coming input.New query) env in
    regrouped (bound_rows added) (bound_rows removed) (bound_rows old) (bound_rows new)
    ∙ alike added removed old new _ _ _ _ (query_mean side.Inserted form env) (query_mean side.Deleted form env) (query_mean side.Old form env) (query_mean side.New form env)

rule_binds : (def : TableDef) (form : Form) (function : ℕ) (before after : List Keyed) (cs : List Change) → fired (keep_rule def (first_query form) function at_once) before after cs ≡ bound_of form (moved cs form.source).inserted (moved cs form.source).deleted (moved cs form.source).old (moved cs form.source).new
unfolding fired
rule_binds def form function before after cs =
    let m : Moved = moved cs form.source in
    let rule : Rule = keep_rule def (first_query form) function at_once in
    let env : Environment = at_commit rule before after cs in
    ap (λ bounds. cond (is_met rule env) bounds []) (four_queries form env) ∙ any_event form m.inserted m.deleted m.old m.new (as_new cs 1 form.source)

fired_first : (defs : List TableDef) (def : TableDef) (form : Form) (function table : ℕ) (before after : List Keyed) (cs : List Change) → Reads form (def_at defs form.source).columns → AllByRecursion (ChangeFits defs) cs → fired (keep_rule def (first_query form) function at_once) before after cs ≡ bound_by (keeper_of table form) cs
fired_first defs def form function table before after cs reads fits =
    let added = all_shown side.Inserted table form defs reads cs 1 fits in
    let removed = all_shown side.Deleted table form defs reads cs 1 fits in
    let old = all_shown side.Old table form defs reads cs 1 fits in
    let new = all_shown side.New table form defs reads cs 1 fits in
    rule_binds def form function before after cs
    ∙ alike _ _ _ _ _ _ _ _ (ap in_order added) (ap in_order removed) (ap in_order old) (ap in_order new)

-- ---- all rules

reads_form : (defs : List TableDef) (def : TableDef) (first : IsFirst defs def) → Reads first.form (def_at defs first.form.source).columns
reads_form defs def first = (first.suits.group_there, first.suits.value_there)

-- the rule of a table that is kept
fired_kept : (defs : List TableDef) (id function : ℕ) (before after : List Keyed) (cs : List Change) → IsKept defs id
    → AllByRecursion (ChangeFits defs) cs
    → fired (keep_rule (def_at defs id) (query_in (def_at defs id)) function at_once) before after cs
    ≡ bound_by (keeper_by id (query_in (def_at defs id))) cs
fired_kept defs id function before after cs kept fits =
    let def = def_at defs id in
    subst (λ q. fired (keep_rule def q function at_once) before after cs ≡ bound_by (keeper_by id q) cs)
    (sym (query_of_form defs def kept.first))
    (fired_first defs def kept.first.form function id before after cs (reads_form defs def kept.first) fits)

fired_all : (defs : List TableDef) (before after : List Keyed) (cs : List Change) → AllByRecursion (ChangeFits defs) cs
    → (ids : List ℕ) (number first : ℕ) → AllByRecursion (IsKept defs) ids
    → fired_from number (rules_of defs first ids) before after cs ≡ fired_by number (keepers_of defs ids) cs
fired_all defs before after cs fits [] number first kept = refl
fired_all defs before after cs fits (id ∷ ids) number first kept =
    ap₂ (with_fired number) (fired_kept defs id first before after cs kept.0 fits)
    (fired_all defs before after cs fits ids (number + 1) (first + 1) kept.1)

-- the catalog's rules bind what its keepers make
pub fired_is : (f : Fixed) → IsBuilt f → (before after : List Keyed) (cs : List Change) → AllByRecursion (ChangeFits f.defs) cs
    → fired_from 0 f.rules before after cs ≡ fired_by 0 (all_keepers f) cs
fired_is f built before after cs fits =
    ap (λ rules. fired_from 0 rules before after cs) built.rules
    ∙ fired_all f.defs before after cs fits (kept_tables f.functions) 0 0 built.kept

-- ---- what is summed is far from the ends of its type

small_value : (k : Kind) (v : Value) → k ≡ kind.Int → Fits k v → IsUnder (2 ^ 63) (number_of v)
small_value kind.Int (Int n) is fits =
    let low = fits.0 in
    let high = fits.1 in
    (omega (arith, ints), omega (arith, ints))
small_value kind.Int (Text t) is fits = absurd fits
small_value kind.Big v is fits = absurd (cc)
small_value kind.Text v is fits = absurd (cc)

small_column : (columns : List ColumnDef) (row : List Value) (c : ℕ) → FitsColumns columns row → c < length columns → (get_or columns c no_column).kind ≡ kind.Int → IsUnder (2 ^ 63) (number_of (column_of row c))
small_column [] row c fits lt is = absurd (omega arith)
small_column (d ∷ ds) [] c fits lt is = absurd fits
small_column (d ∷ ds) (v ∷ vs) zero fits lt is = small_value d.kind v is fits.0
small_column (d ∷ ds) (v ∷ vs) (suc c) fits lt is = small_column ds vs c fits.1 (omega arith) is

small_shift : (columns : List ColumnDef) (k : Keeper) (shift : Shift) → ((row : List Value) → FitsColumns columns row → IsSmallAt k row) → ShiftFits columns shift → IsSmallShift k shift
small_shift columns k (Inserted row) small fits = small row fits
small_shift columns k (Deleted row) small fits = small row fits
small_shift columns k (Changed old new) small fits = (small old fits.0, small new fits.1)

small_change : (defs : List TableDef) (k : Keeper) → KeepsFirst defs k → (change : Change) → ChangeFits defs change → FitsKeeper k change
small_change defs k kept change fits same =
    let columns = (def_at defs kept.first.form.source).columns in
    let small : (row : List Value) → FitsColumns columns row → IsSmallAt k row = λ row fit. subst (λ v. IsUnder (2 ^ 63) (number_of (column_of row v))) (sym kept.value) (small_column columns row kept.first.form.value fit kept.first.suits.value_there kept.first.suits.value_kind) in
    small_shift columns k change.shift small (subst (λ id. ShiftFits (def_at defs id).columns change.shift) (same ∙ kept.source) fits.fits)

-- of changes of the tables' rows
pub keepers_small : (f : Fixed) → IsBuilt f → (cs : List Change) → AllByRecursion (ChangeFits f.defs) cs
    → AllByRecursion (KeepsSmall cs) (all_keepers f)
keepers_small f built cs fits =
    all_weaker (KeepsFirst f.defs) (KeepsSmall cs)
    (λ k kept. all_weaker (ChangeFits f.defs) (FitsKeeper k) (small_change f.defs k kept) cs fits) (all_keepers f) (all_kept f built)
