-- A put among the tables: when it is refused, what it changes, and that its change can be taken back.
use Rattle.std.proofs.Common.{◌≡◌, ℕ, zero, suc, ◌<◌, List, [], ◌∷◌, ◌++◌, length, get_or, set, reverse, Option, Some, None, Result, Ok, Err, IfOk, IfSome, refl, ap, sym, ◌∙◌, subst, arith}
use Rattle.std.specs.declared.alloc.AllocError.{AllocError}
use Rattle.std.specs.List.{AllByRecursion}
use Rattle.std.proofs.lemmas.List.{set-get_or, get_or-set_same, reverse-append, length-map, get_or_default, map-append, append-nil}
use Rattle.std.proofs.Math.Seq.{map-set_same}
use Rattle.strip_value.specs.declared.acts.Act.{Act}
use Rattle.strip_value.specs.declared.acts.Act.TheVariants.{Put}
use Rattle.strip_value.specs.declared.acts.Reply.{Reply}
use Rattle.strip_value.specs.declared.acts.Reply.TheVariants.{Count, Refused}
use Rattle.strip_value.specs.declared.acts.ActError.{ActError}
use Rattle.strip_value.specs.declared.acts.Holds.{Holds}
use Rattle.strip_value.specs.declared.changes.Change.{Change}
use Rattle.strip_value.specs.declared.changes.Shift.{Shift}
use Rattle.strip_value.specs.declared.changes.Shift.TheVariants.{Changed}
use Rattle.strip_value.specs.declared.tables.ColumnDef.{ColumnDef}
use Rattle.strip_value.specs.declared.tables.TableDef.{TableDef}
use Rattle.strip_value.specs.declared.values.Value.{Value}
use Rattle.strip_value.specs.Kinds.{FitsColumns}
use Rattle.strip_value.specs.Table.{Keyed, key_of, has_key, row_at, with_row, without, put_back, full_at, IsTable}
use Rattle.strip_value.proofs.Lists.{all_append, all_left, all_right}
use Rattle.strip_value.proofs.KeyedLaws.{puts_there, taken_back, find_all}
use Rattle.strip_meaning.specs.Effect.{Effect, effect, unless, refusal, done, full, or_cause, not_held, read_only, derived, misfit, table_at, with_rows, no_table, put_shift}
use Rattle.strip_engine.specs.declared.undo.Logged.{Logged}
use Rattle.strip_engine.specs.Changes.{ShiftFits}
use Rattle.strip_engine.specs.Steps.{AreTables, PutsInto, PutsRow, RepliesTo, Changes, defs_of, logged_put}
use Rattle.strip_engine.specs.Undo.{restored, restored_by, all_restored, changes_of, IsLogged}
use Rattle.strip_engine.proofs.Fits.{def_of_table, one_of, is_base, fits_base}

-- where none of the first causes applies, the last one decides
causes_pass : (a b c d e : Option ActError) → or_cause a (or_cause b (or_cause c d)) ≡ None → or_cause a (or_cause b (or_cause c (or_cause d e))) ≡ e
causes_pass None None None None e p = refl
causes_pass None None None (Some x) e p = cc
causes_pass None None (Some x) d e p = cc
causes_pass None (Some x) c d e p = cc
causes_pass (Some x) b c d e p = cc

last_none : (a b c d : Option ActError) → or_cause a (or_cause b (or_cause c d)) ≡ None → d ≡ None
last_none None None None d p = p
last_none None None (Some x) d p = cc
last_none None (Some x) c d p = cc
last_none (Some x) b c d p = cc

third_none : (a b c d : Option ActError) → or_cause a (or_cause b (or_cause c d)) ≡ None → c ≡ None
third_none None None None d p = refl
third_none None None (Some x) d p = cc
third_none None (Some x) c d p = cc
third_none (Some x) b c d p = cc

-- and where one applies, it stands
causes_stand : (a b c d e : Option ActError) (cause : ActError) → or_cause a (or_cause b (or_cause c d)) ≡ Some cause → or_cause a (or_cause b (or_cause c (or_cause d e))) ≡ Some cause
causes_stand None None None None e cause p = cc
causes_stand None None None (Some x) e cause p = p
causes_stand None None (Some x) d e cause p = p
causes_stand None (Some x) c d e cause p = p
causes_stand (Some x) b c d e cause p = p

set-set : {A : Type 0} (xs : List A) (i : ℕ) (x y : A) → set (set xs i x) i y ≡ set xs i y
set-set [] i x y = refl
set-set (z ∷ zs) zero x y = refl
set-set (z ∷ zs) (suc i) x y = ap (λ ws. z ∷ ws) (set-set zs i x y)

-- the rows of before make the tables of before
pub rows_again : (tables : List Keyed) (id : ℕ) (rows : List (List Value)) → id < length tables → with_rows (with_rows tables id rows) id (table_at tables id).rows ≡ tables
rows_again tables id rows lt =
    let changed : Keyed = record (table_at tables id) { rows = rows } in
    let here = get_or-set_same tables id changed no_table lt in
    ap (λ (t : Keyed). set (with_rows tables id rows) id (record t { rows = (table_at tables id).rows })) here
    ∙ set-set tables id changed (table_at tables id)
    ∙ set-get_or tables id no_table

-- the table that was changed
pub changed_table : (tables : List Keyed) (id : ℕ) (rows : List (List Value)) → id < length tables → table_at (with_rows tables id rows) id ≡ record (table_at tables id) { rows = rows }
changed_table tables id rows lt = get_or-set_same tables id (record (table_at tables id) { rows = rows }) no_table lt

-- what is written down takes the put back
takes_back : (tables : List Keyed) (id : ℕ) (row : List Value) (o : Option (List Value)) → id < length tables → IsTable (table_at tables id).def (table_at tables id).rows → row_at (table_at tables id).def.key (table_at tables id).rows (key_of (table_at tables id).def.key row) ≡ o
    → restored (logged_put id (key_of (table_at tables id).def.key row) o row) (with_rows tables id (with_row (table_at tables id).def.key (table_at tables id).rows row)) ≡ tables
takes_back tables id row None lt table e =
    let columns = (table_at tables id).def.key in
    let rows = with_row columns (table_at tables id).rows row in
    let new = with_rows tables id rows in
    ap (λ (t : Keyed). with_rows new id (without t.def.key t.rows (key_of columns row))) (changed_table tables id rows lt)
    ∙ ap (with_rows new id) ((puts_there columns (table_at tables id).rows row table.rises).removed e)
    ∙ rows_again tables id rows lt
takes_back tables id row (Some old) lt table e =
    let columns = (table_at tables id).def.key in
    let rows = with_row columns (table_at tables id).rows row in
    let new = with_rows tables id rows in
    ap (λ (t : Keyed). with_rows new id (put_back t.def.key t.rows old)) (changed_table tables id rows lt)
    ∙ ap (with_rows new id) (taken_back columns (table_at tables id).rows row old table.rises e)
    ∙ rows_again tables id rows lt

-- the rows that are written down are ones of the table
shift_fits : (columns : List ColumnDef) (o : Option (List Value)) (row : List Value) → IfSome o (FitsColumns columns) → FitsColumns columns row → ShiftFits columns (put_shift o row)
shift_fits columns None row old fits = fits
shift_fits columns (Some before) row old fits = (old, fits)

old_fits : (tables : List Keyed) (id : ℕ) (key : List Value) (o : Option (List Value)) → IsTable (table_at tables id).def (table_at tables id).rows → row_at (table_at tables id).def.key (table_at tables id).rows key ≡ o → IfSome o (FitsColumns (table_at tables id).def.columns)
old_fits tables id key None table e = tt
old_fits tables id key (Some old) table e =
    find_all (FitsColumns (table_at tables id).def.columns) (has_key (table_at tables id).def.key key) (table_at tables id).rows old table.fits e

is_logged : (tables : List Keyed) (id : ℕ) (key : List Value) (o : Option (List Value)) (row : List Value) → id < length tables → IsTable (table_at tables id).def (table_at tables id).rows → row_at (table_at tables id).def.key (table_at tables id).rows key ≡ o → FitsColumns (table_at tables id).def.columns row → IsLogged (defs_of tables) (logged_put id key o row)
is_logged tables id key o row lt table e fits =
    let shift = shift_fits (table_at tables id).def.columns o row (old_fits tables id key o table e) fits in
    record {
      there = omega (arith, length-map tables (λ (t : Keyed). t.def));
      fits = subst (λ (def : TableDef). ShiftFits def.columns (put_shift o row)) (sym (def_of_table tables id)) shift;
    }

pub defs_kept : (tables : List Keyed) (id : ℕ) (rows : List (List Value)) → defs_of (with_rows tables id rows) ≡ defs_of tables
defs_kept tables id rows = map-set_same (λ (t : Keyed). t.def) tables id (record (table_at tables id) { rows = rows }) no_table refl

-- where no cause applies the table isn't derived, and the row has no misfit
pub not_derived : (holds : Holds) (tables : List Keyed) (id : ℕ) (row : List Value) → or_cause (not_held holds id) (or_cause (read_only holds id) (or_cause (derived (table_at tables id).def id) (misfit (table_at tables id).def.columns row))) ≡ None → derived (table_at tables id).def id ≡ None
not_derived holds tables id row none = third_none (not_held holds id) (read_only holds id) (derived (table_at tables id).def id) (misfit (table_at tables id).def.columns row) none

pub no_misfit : (holds : Holds) (tables : List Keyed) (id : ℕ) (row : List Value) → or_cause (not_held holds id) (or_cause (read_only holds id) (or_cause (derived (table_at tables id).def id) (misfit (table_at tables id).def.columns row))) ≡ None → misfit (table_at tables id).def.columns row ≡ None
no_misfit holds tables id row none = last_none (not_held holds id) (read_only holds id) (derived (table_at tables id).def id) (misfit (table_at tables id).def.columns row) none

-- so its values fit, as the table is a base table
pub fits_unless : (holds : Holds) (tables : List Keyed) (id : ℕ) (row : List Value) → AreTables (defs_of tables) → id < length tables → or_cause (not_held holds id) (or_cause (read_only holds id) (or_cause (derived (table_at tables id).def id) (misfit (table_at tables id).def.columns row))) ≡ None → FitsColumns (table_at tables id).def.columns row
fits_unless holds tables id row are lt none =
    let base = is_base (defs_of tables) (table_at tables id).def id (one_of tables id are lt) (not_derived holds tables id row none) in
    fits_base (table_at tables id).def row base (no_misfit holds tables id row none)

module _ (holds : Holds) (tables : List Keyed) (was : List Logged) (id : ℕ) (row : List Value) (lt : id < length tables) (table : IsTable (table_at tables id).def (table_at tables id).rows) where
  abbrev causes : Option ActError
  causes = or_cause (not_held holds id) (or_cause (read_only holds id) (or_cause (derived (table_at tables id).def id) (misfit (table_at tables id).def.columns row)))

  abbrev decides : Option ActError → Option ActError
  decides e = or_cause (not_held holds id) (or_cause (read_only holds id) (or_cause (derived (table_at tables id).def id) (or_cause (misfit (table_at tables id).def.columns row) e)))

  last_decides : causes ≡ None → refusal holds tables (Put id row) ≡ full id (full_at (table_at tables id) row)
  last_decides none = causes_pass (not_held holds id) (read_only holds id) (derived (table_at tables id).def id) (misfit (table_at tables id).def.columns row) (full id (full_at (table_at tables id) row)) none

  -- a cause before the table is asked
  pub put_caused : (cause : ActError) → causes ≡ Some cause → PutsRow holds tables was id row tables was (Ok (Some cause))
  put_caused cause e =
      (causes_stand (not_held holds id) (read_only holds id) (derived (table_at tables id).def id) (misfit (table_at tables id).def.columns row) (full id (full_at (table_at tables id) row)) cause e, refl, refl)

  same_tables : (new : Keyed) → new ≡ table_at tables id → set tables id new ≡ tables
  same_tables new e = ap (set tables id) e ∙ set-get_or tables id no_table

  -- the table's answer
  pub put_answered : (new : Keyed) (now : List Logged) (r : Result (Option ActError) AllocError) → causes ≡ None → FitsColumns (table_at tables id).def.columns row → PutsInto (table_at tables id) was id row new now r → PutsRow holds tables was id row (set tables id new) now r
  put_answered new now (Ok None) none fits put =
      let key = key_of (table_at tables id).def.key row in
      let o = row_at (table_at tables id).def.key (table_at tables id).rows key in
      let rows = with_row (table_at tables id).def.key (table_at tables id).rows row in
      let made : set tables id new ≡ with_rows tables id rows = ap (set tables id) put.1 in
      let newest : reverse now ≡ logged_put id key o row ∷ reverse was = ap reverse put.2 ∙ reverse-append was (logged_put id key o row ∷ []) in (
        last_decides none ∙ ap (full id) put.0,
        made,
        record {
          restores = λ all. subst (AllByRecursion (IsLogged (defs_of tables))) (sym put.2) (all_append (IsLogged (defs_of tables)) was (logged_put id key o row ∷ []) all (is_logged tables id key o row lt table refl fits, tt));
          undoes = ap (λ log. all_restored log (set tables id new)) newest ∙ ap (λ ts. all_restored (reverse was) (restored (logged_put id key o row) ts)) made ∙ ap (all_restored (reverse was)) (takes_back tables id row o lt table refl);
          defined = ap defs_of made ∙ defs_kept tables id rows;
        },
        ap changes_of put.2 ∙ map-append (λ (l : Logged). l.change) was (logged_put id key o row ∷ []),
      )
  put_answered new now (Ok (Some cause)) none fits put = (last_decides none ∙ put.0, same_tables new put.1, put.2)
  put_answered new now (Err e) none fits put = (same_tables new put.0, put.1)

-- nothing has changed
pub unchanged : (tables new : List Keyed) (was now : List Logged) → new ≡ tables → now ≡ was → Changes tables new was now
unchanged tables new was now e f = record {
  restores = λ all. subst (AllByRecursion (IsLogged (defs_of tables))) (sym f) all;
  undoes = ap (λ log. all_restored (reverse log) new) f ∙ ap (all_restored (reverse was)) e;
  defined = ap defs_of e;
}

-- a loop that takes changes back: what is left to do leads where all would
pub record Restoring (tables : List Keyed) (changes : List Logged) (now : List Keyed) (left : List Logged) : Type 0 where
  pub leads : all_restored (reverse left) now ≡ all_restored (reverse changes) tables
  pub each : AllByRecursion (IsLogged (defs_of now)) left
  pub defined : defs_of now ≡ defs_of tables

restoring_begins : (tables : List Keyed) (changes : List Logged) → AllByRecursion (IsLogged (defs_of tables)) changes → Restoring tables changes tables changes
restoring_begins tables changes each = record { leads = refl; each = each; defined = refl }

-- the last one was taken back
pub restoring_more : (tables now new : List Keyed) (changes left rest : List Logged) (change : Logged) → Restoring tables changes now left → left ≡ rest ++ change ∷ [] → new ≡ restored change now → defs_of new ≡ defs_of now → Restoring tables changes new rest
restoring_more tables now new changes left rest change r popped done defs = record {
  leads = ap (all_restored (reverse rest)) done ∙ sym (ap (λ log. all_restored log now) (ap reverse popped ∙ reverse-append rest (change ∷ []))) ∙ r.leads;
  each = subst (λ ds. AllByRecursion (IsLogged ds) rest) (sym defs) (all_left (IsLogged (defs_of now)) rest (change ∷ []) (subst (AllByRecursion (IsLogged (defs_of now))) popped r.each));
  defined = defs ∙ r.defined;
}

pub restoring_last : (tables now : List Keyed) (changes left rest : List Logged) (change : Logged) → Restoring tables changes now left → left ≡ rest ++ change ∷ [] → IsLogged (defs_of now) change
restoring_last tables now changes left rest change r popped =
    (all_right (IsLogged (defs_of now)) rest (change ∷ []) (subst (AllByRecursion (IsLogged (defs_of now))) popped r.each)).0

pub restoring_ends : (tables now : List Keyed) (changes left : List Logged) → Restoring tables changes now left → left ≡ [] → now ≡ all_restored (reverse changes) tables
restoring_ends tables now changes left r none = sym (ap (λ log. all_restored (reverse log) now) none) ∙ r.leads

-- the log has no change more
none_more : (was now : List Logged) (changes : List Change) → now ≡ was → changes ≡ [] → changes_of now ≡ changes_of was ++ changes
none_more was now changes e f = ap changes_of e ∙ sym (append-nil (changes_of was)) ∙ ap (λ cs. changes_of was ++ cs) (sym f)

-- the three ways of an act: a row is put, the put is refused, rows are read
pub reply_counted : (holds : Holds) (tables : List Keyed) (was : List Logged) (act : Act) (id : ℕ) (row : List Value) (new : List Keyed) (now : List Logged) → act ≡ Put id row → PutsRow holds tables was id row new now (Ok None) → RepliesTo holds tables was act new now (Ok (Count 1, Count 1))
unfolding effect
reply_counted holds tables was act id row new now is put =
    let what : effect holds tables act ≡ done tables (Put id row) = ap (effect holds tables) is ∙ ap (λ cause. unless cause tables (done tables (Put id row))) put.0 in
    (sym (ap (λ (e : Effect). e.reply) what), sym (ap (λ (e : Effect). e.reply) what), put.1 ∙ sym (ap (λ (e : Effect). e.tables) what), put.2, put.3 ∙ sym (ap (λ (e : Effect). changes_of was ++ e.changes) what))

pub reply_refused : (holds : Holds) (tables : List Keyed) (was : List Logged) (act : Act) (id : ℕ) (row : List Value) (new : List Keyed) (now : List Logged) (cause : ActError) (r : Result (Reply × Reply) AllocError) → act ≡ Put id row → PutsRow holds tables was id row new now (Ok (Some cause)) → IfOk r (λ both. (both.0 ≡ Refused cause) × (both.1 ≡ Refused cause)) → RepliesTo holds tables was act new now r
unfolding effect
reply_refused holds tables was act id row new now cause (Ok both) is put same =
    let refused : Effect = record { tables = tables; reply = Refused cause; changes = [] } in
    let what : effect holds tables act ≡ refused = ap (effect holds tables) is ∙ ap (λ c. unless c tables (done tables (Put id row))) put.0 in
    (same.0 ∙ sym (ap (λ (e : Effect). e.reply) what), same.1 ∙ sym (ap (λ (e : Effect). e.reply) what), put.1 ∙ sym (ap (λ (e : Effect). e.tables) what), unchanged tables new was now put.1 put.2, none_more was now [] put.2 refl ∙ sym (ap (λ (e : Effect). changes_of was ++ e.changes) what))
reply_refused holds tables was act id row new now cause (Err e) is put same = (put.1, put.2)

keeps_tables : (tables : List Keyed) (one : Effect) (cause : Option ActError) → one.tables ≡ tables → (unless cause tables one).tables ≡ tables
keeps_tables tables one None same = same
keeps_tables tables one (Some cause) same = refl

no_changes : (tables : List Keyed) (one : Effect) (cause : Option ActError) → one.changes ≡ [] → (unless cause tables one).changes ≡ []
no_changes tables one None none = none
no_changes tables one (Some cause) none = refl

pub reply_read : (holds : Holds) (tables : List Keyed) (was : List Logged) (act read : Act) (reply : Reply) (r : Result (Reply × Reply) AllocError) → act ≡ read → (done tables read).tables ≡ tables → (done tables read).changes ≡ [] → reply ≡ (effect holds tables read).reply → IfOk r (λ both. (both.0 ≡ reply) × (both.1 ≡ reply)) → RepliesTo holds tables was act tables was r
unfolding effect
reply_read holds tables was act read reply (Ok both) is same none shown twice =
    let what : effect holds tables act ≡ effect holds tables read = ap (effect holds tables) is in
    let said = shown ∙ sym (ap (λ (e : Effect). e.reply) what) in
    let kept : tables ≡ (effect holds tables act).tables = sym (ap (λ (e : Effect). e.tables) what ∙ keeps_tables tables (done tables read) (refusal holds tables read) same) in
    (twice.0 ∙ said, twice.1 ∙ said, kept, unchanged tables tables was was refl refl, none_more was was (effect holds tables act).changes refl (ap (λ (e : Effect). e.changes) what ∙ no_changes tables (done tables read) (refusal holds tables read) none))
reply_read holds tables was act read reply (Err e) is same none shown twice = (refl, refl)

-- a table with other rows, read and written by index, keeps the definitions
pub defs_set : (tables : List Keyed) (at : ℕ) (table new : Keyed) → at < length tables → table ≡ get_or tables at table → new.def ≡ table.def → defs_of (set tables at new) ≡ defs_of tables
defs_set tables at table new lt read same =
    map-set_same (λ (t : Keyed). t.def) tables at new no_table (same ∙ ap (λ (t : Keyed). t.def) (read ∙ get_or_default tables at table no_table lt))

-- what is to be restored is in a table that is there
pub logged_there : (tables : List Keyed) (id : ℕ) (logged : Logged) {shift : Shift} → record { table = id; shift = shift } ≡ logged.change → IsLogged (defs_of tables) logged → id < length tables
logged_there tables id logged is there =
    let within : logged.change.table < length (defs_of tables) = there.there in
    let same : id ≡ logged.change.table = ap (λ (c : Change). c.table) is in
    omega (arith, length-map tables (λ (t : Keyed). t.def))

-- a change by its parts
change_is : (logged : Logged) (id : ℕ) (shift same : Shift) → record { table = id; shift = shift } ≡ logged.change → shift ≡ same → logged.change ≡ record { table = id; shift = same }
change_is logged id shift same is e =
    sym is ∙ ap (λ (s : Shift). let one : Change = record { table = id; shift = s } in one) e

-- the replaced row came back
pub row_back : (tables : List Keyed) (logged : Logged) (id : ℕ) (shift : Shift) (old now given : List Value) (table new : Keyed) → record { table = id; shift = shift } ≡ logged.change → shift ≡ Changed old now → given ≡ old → id < length tables → table ≡ get_or tables id table → new ≡ record { def = table.def; rows = put_back table.def.key table.rows given } → set tables id new ≡ restored logged tables
row_back tables logged id shift old now given table new is e same lt read made =
    let what = change_is logged id shift (Changed old now) is e in
    let table_is = read ∙ get_or_default tables id table no_table lt in
    let new_is : new ≡ record (table_at tables id) { rows = put_back (table_at tables id).def.key (table_at tables id).rows old } =
    made ∙ ap (λ (t : Keyed). let one : Keyed = record { def = t.def; rows = put_back t.def.key t.rows given } in one) table_is ∙ ap (λ (row : List Value). let one : Keyed = record { def = (table_at tables id).def; rows = put_back (table_at tables id).def.key (table_at tables id).rows row } in one) same
    in
    ap (set tables id) new_is ∙ sym (ap (λ (c : Change). restored_by c.table logged.key c.shift tables) what)
