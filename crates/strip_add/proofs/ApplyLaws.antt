-- Adding totals to a table: what each step does, and that all steps together give the rows that adding gives.
use Rattle.std.proofs.Common.{◌≡◌, ℕ, suc, zero, ◌+◌, ◌<◌, ◌≤◌, Bool, true, false, not, cond, List, [], ◌∷◌, ◌++◌, length, map, take, drop, get_or, set, Option, Some, None, refl, sym, ap, ◌∙◌, subst, arith, ◌⊎◌, inl, inr}
use Rattle.std.specs.List.{AllByRecursion}
use Rattle.std.proofs.lemmas.List.{take_more, length-map, length-set, get_or-set_same, get_or-set_other}
use Rattle.std.proofs.Math.Seq.{split_at}
use Rattle.strip_value.specs.declared.values.Value.{Value}
use Rattle.strip_value.specs.declared.tables.TableDef.{TableDef}
use Rattle.strip_value.specs.Kinds.{FitsColumns}
use Rattle.strip_value.specs.Table.{Keyed, IsTable, key_of, has_key, Rises, row_at, with_row, without, put_back}
use Rattle.strip_value.proofs.Lists.{all_at}
use Rattle.strip_value.proofs.KeyedLaws.{below_found, find_all}
use Rattle.strip_meaning.specs.Sums.{IsDerived, has_total, summed, settled, applied, plus, totals_at, totals_of}
use Rattle.strip_add.specs.Parts.{chosen, Changed, sum_at, swept_row, swept_at, is_zero_at, swept, PutsSlot, TakesBack, IsUnderAfter}
use Rattle.strip_add.proofs.KeyedAsMaps.{has_own, none_below, row_has_key, Sets, sets_row, sets_none, sets_back, sets_same, named_last, changed_none, changed_more, changed_less, changed_front, unchanged, same_changes, changed_again, changed_as}
use Rattle.strip_add.proofs.SumLaws.{key_at_front, key_of_row, length_key, fits_length, summed_there}

-- a key isn't among those before its place
pub new_key : (columns : List ℕ) (rows : List (List Value)) (i : ℕ) (row : List Value) → Rises columns rows → i < length rows → row ≡ get_or rows i row → row_at columns (take i rows) (key_of columns row) ≡ None
new_key columns rows i row rises lt here =
    let split : rows ≡ take i rows ++ row ∷ drop (suc i) rows = split_at rows i row lt ∙ ap (λ r. take i rows ++ r ∷ drop (suc i) rows) (sym here) in
    none_below columns (key_of columns row) (take i rows) (below_found columns (key_of columns row) (take i rows) row (drop (suc i) rows) refl (subst (Rises columns) split rises))

pub one_more_row : (rows : List (List Value)) (i : ℕ) (row : List Value) → i < length rows → row ≡ get_or rows i row → take (i + 1) rows ≡ take i rows ++ row ∷ []
one_more_row rows i row lt here = take_more rows i row lt ∙ ap (λ r. take i rows ++ r ∷ []) (sym here)

-- what is defined as the rows after adding is a change at the keys of the totals
abbrev pub kept_sum : TableDef → List (List Value) → List Value → Option (List Value)
kept_sum def table row = swept_row def (Some (summed def table row))

settled_sets : (def : TableDef) (rows : List (List Value)) (row : List Value) → Rises def.key rows → Sets def.key rows (settled def rows row) (key_of def.key row) (swept_row def (Some row))
settled_sets def rows row rises = by_test (has_total def row)
  where
    by_test : (b : Bool) → Sets def.key rows (cond b (with_row def.key rows row) (without def.key rows (key_of def.key row))) (key_of def.key row) (cond b (Some row) None)
    by_test true = sets_row def.key rows row rises
    by_test false = sets_none def.key rows (key_of def.key row) rises

pub applied_changed : (def : TableDef) (table totals : List (List Value)) → IsDerived def → Rises def.key table → Changed def.key (kept_sum def table) table (applied def table totals) totals
applied_changed def table [] derived rises = changed_none def.key (kept_sum def table) table rises
applied_changed def table (row ∷ totals) derived rises =
    let rest = applied_changed def table totals derived rises in
    let key = key_of_row def.key (key_of def.key row) (plus (totals_at def table (key_of def.key row)) (totals_of def row)) derived.key_first (length_key def.key row) in
    let sets = settled_sets def (applied def table totals) (summed def table row) rest.rises in
    changed_front def.key (kept_sum def table) table (applied def table totals) (settled def (applied def table totals) (summed def table row)) totals row rest
    (subst (λ k. Sets def.key (applied def table totals) (settled def (applied def table totals) (summed def table row)) k (kept_sum def table row)) key sets)

-- the rows of sums are put, and the rows of zeros are taken out: that is adding
pub applied_by_steps : (def : TableDef) (table between now totals : List (List Value)) → IsDerived def → IsTable def table → AllByRecursion (FitsColumns def.columns) totals → Changed def.key (sum_at def table) table between totals → Changed def.key (swept_at def between) between now totals → now ≡ applied def table totals
applied_by_steps def table between now totals derived is_table kinds first second =
    let same = changed_as def.key (swept_at def between) (kept_sum def table) between now totals second (λ row named.
    ap (swept_row def) (first.each (key_of def.key row) ∙ ap (λ o. chosen (sum_at def table) o (row_at def.key table (key_of def.key row))) named)) in
    let both = changed_again def.key (sum_at def table) (kept_sum def table) table between now totals first same in
    same_changes def.key (kept_sum def table) table now (applied def table totals) totals both (applied_changed def table totals derived is_table.rises)

-- one zero row is taken out, if it is one
pub swept_sets : (def : TableDef) (rows : List (List Value)) (key : List Value) → Rises def.key rows → Sets def.key rows (swept def rows key) key (swept_row def (row_at def.key rows key))
swept_sets def rows key rises = by_row (row_at def.key rows key) refl
  where
    by_test : (row : List Value) (b : Bool) → row_at def.key rows key ≡ Some row → Sets def.key rows (cond (not b) (without def.key rows key) rows) key (cond b (Some row) None)
    by_test row true e = subst (Sets def.key rows rows key) e (sets_same def.key rows key rises)
    by_test row false e = sets_none def.key rows key rises

    by_row : (o : Option (List Value)) → row_at def.key rows key ≡ o → Sets def.key rows (cond (is_zero_at (length def.key) o) (without def.key rows key) rows) key (swept_row def o)
    by_row (Some row) e = by_test row (has_total def row) e
    by_row None e = subst (Sets def.key rows rows key) e (sets_same def.key rows key rises)

pub swept_more : (def : TableDef) (before now totals : List (List Value)) (i : ℕ) (row : List Value) → Rises def.key totals → i < length totals → row ≡ get_or totals i row → Changed def.key (swept_at def before) before now (take i totals) → Changed def.key (swept_at def before) before (swept def now (key_of def.key row)) (take (i + 1) totals)
swept_more def before now totals i row rises lt here changed =
    let none = new_key def.key totals i row rises lt here in
    let same : row_at def.key now (key_of def.key row) ≡ row_at def.key before (key_of def.key row) =
    changed.each (key_of def.key row) ∙ ap (λ o. chosen (swept_at def before) o (row_at def.key before (key_of def.key row))) none in
    let sets = subst (λ o. Sets def.key now (swept def now (key_of def.key row)) (key_of def.key row) (swept_row def o)) same (swept_sets def now (key_of def.key row) changed.rises) in
    subst (Changed def.key (swept_at def before) before (swept def now (key_of def.key row))) (sym (one_more_row totals i row lt here))
    (changed_more def.key (swept_at def before) before now (swept def now (key_of def.key row)) (take i totals) row none changed sets)

-- the rows of the first i totals are put; the slots before i have the rows that they replaced, and those from
-- `from` on the rows that are to be put
pub record PutSoFar (def : TableDef) (before totals : List (List Value)) (i from : ℕ) (table : Keyed) (slots : List (Option (List Value))) : Type 0 where
  pub same_def : table.def ≡ def
  pub changed : Changed def.key (sum_at def before) before table.rows (take i totals)
  pub long : length slots ≡ length totals
  pub done : (k : ℕ) (d : Option (List Value)) (row : List Value) → k < i → get_or slots k d ≡ row_at def.key before (key_of def.key (get_or totals k row))
  pub left : (k : ℕ) (d : Option (List Value)) (row : List Value) → from ≤ k → k < length totals → get_or slots k d ≡ sum_at def before (get_or totals k row)

any_default : {A : Type 0} (xs : List A) (k : ℕ) (d e : A) → k < length xs → get_or xs k d ≡ get_or xs k e
any_default [] k d e lt = absurd (omega arith)
any_default (x ∷ xs) zero d e lt = refl
any_default (x ∷ xs) (suc k) d e lt = any_default xs k d e (omega arith)

here_or_below : (k i : ℕ) → k < i + 1 → (k ≡ i) ⊎ (k < i)
here_or_below zero zero lt = inl refl
here_or_below zero (suc i) lt = inr (omega arith)
here_or_below (suc k) zero lt = absurd (omega arith)
here_or_below (suc k) (suc i) lt = by_case (here_or_below k i (omega arith))
  where
    by_case : (k ≡ i) ⊎ (k < i) → (suc k ≡ suc i) ⊎ (suc k < suc i)
    by_case (inl e) = inl (ap suc e)
    by_case (inr less) = inr (omega arith)

-- what is put is a row of the table's columns
pub slot_fits : (def : TableDef) (before totals : List (List Value)) (i from : ℕ) (table : Keyed) (slots : List (Option (List Value))) (d : Option (List Value)) (x : List Value) → IsDerived def → IsTable def before → AllByRecursion (FitsColumns def.columns) totals → AllByRecursion (IsUnderAfter def before) totals → PutSoFar def before totals i from table slots → from ≤ i → i < length totals → get_or slots i d ≡ Some x → FitsColumns table.def.columns x
slot_fits def before totals i from table slots d x derived is_table kinds within p le lt e =
    let row = get_or totals i [] in
    let stands : Some x ≡ Some (summed def before row) = sym e ∙ p.left i d [] le lt in
    let is : x ≡ summed def before row = cc in
    let there = summed_there def before row derived is_table.fits (all_at (FitsColumns def.columns) totals i [] kinds lt) in
    let fits = there.fits (all_at (IsUnderAfter def before) totals i [] within lt) in
    subst (λ (t : TableDef). FitsColumns t.columns x) (sym p.same_def) (subst (FitsColumns def.columns) (sym is) fits)

-- before the first put
pub put_none : (def : TableDef) (table : Keyed) (totals : List (List Value)) (slots : List (Option (List Value))) → table.def ≡ def → IsTable def table.rows → slots ≡ map (sum_at def table.rows) totals → PutSoFar def table.rows totals 0 0 table slots
put_none def table totals slots same is_table made = record {
  same_def = same;
  changed = changed_none def.key (sum_at def table.rows) table.rows is_table.rises;
  long = ap length made ∙ length-map totals (sum_at def table.rows);
  done = λ k d row lt. absurd (omega arith);
  left = λ k d row le lt. ap (λ s. get_or s k d) made ∙ mapped totals k d row lt;
}
  where
    mapped : (rows : List (List Value)) (k : ℕ) (d : Option (List Value)) (row : List Value) → k < length rows → get_or (map (sum_at def table.rows) rows) k d ≡ sum_at def table.rows (get_or rows k row)
    mapped [] k d row lt = absurd (omega arith)
    mapped (r ∷ rows) zero d row lt = refl
    mapped (r ∷ rows) (suc k) d row lt = mapped rows k d row (omega arith)

-- one row more is put
pub put_more : (def : TableDef) (before totals : List (List Value)) (i : ℕ) (table new : Keyed) (slots : List (Option (List Value))) (d left : Option (List Value)) → IsDerived def → IsTable def before → Rises def.key totals → AllByRecursion (FitsColumns def.columns) totals → PutSoFar def before totals i i table slots → i < length totals → PutsSlot table (get_or slots i d) new left → PutSoFar def before totals (i + 1) (i + 1) new (set slots i left)
put_more def before totals i table new slots d left derived is_table rise kinds p lt puts = record {
  same_def = ap (λ (t : Keyed). t.def) put.0 ∙ p.same_def;
  changed = subst (Changed def.key (sum_at def before) before new.rows) (sym (one_more_row totals i (get_or totals i []) lt (any_default totals i [] (get_or totals i []) lt)))
      (changed_more def.key (sum_at def before) before table.rows new.rows (take i totals) (get_or totals i []) none p.changed sets);
  long = length-set slots i left ∙ p.long;
  done = λ k e r less. by_place k e r (here_or_below k i less);
  left = λ k e r le less. get_or-set_other slots i k left e (omega arith) ∙ p.left k e r (omega arith) less;
}
  where
    put : (new ≡ record table { rows = with_row table.def.key table.rows (summed def before (get_or totals i [])) }) × (left ≡ row_at table.def.key table.rows (key_of table.def.key (summed def before (get_or totals i []))))
    put = subst (λ o. PutsSlot table o new left) (p.left i d [] (omega arith) lt) puts

    key : key_of def.key (summed def before (get_or totals i [])) ≡ key_of def.key (get_or totals i [])
    key = (summed_there def before (get_or totals i []) derived is_table.fits (all_at (FitsColumns def.columns) totals i [] kinds lt)).key

    none : row_at def.key (take i totals) (key_of def.key (get_or totals i [])) ≡ None
    none = new_key def.key totals i (get_or totals i []) rise lt (any_default totals i [] (get_or totals i []) lt)

    rows : new.rows ≡ with_row def.key table.rows (summed def before (get_or totals i []))
    rows = ap (λ (t : Keyed). t.rows) put.0 ∙ ap (λ (t : TableDef). with_row t.key table.rows (summed def before (get_or totals i []))) p.same_def

    sets : Sets def.key table.rows new.rows (key_of def.key (get_or totals i [])) (sum_at def before (get_or totals i []))
    sets = subst (λ rs. Sets def.key table.rows rs (key_of def.key (get_or totals i [])) (sum_at def before (get_or totals i []))) (sym rows)
        (subst (λ k. Sets def.key table.rows (with_row def.key table.rows (summed def before (get_or totals i []))) k (sum_at def before (get_or totals i []))) key
        (sets_row def.key table.rows (summed def before (get_or totals i [])) p.changed.rises))

    replaced : left ≡ row_at def.key before (key_of def.key (get_or totals i []))
    replaced =
        put.1 ∙ ap (λ (t : TableDef). row_at t.key table.rows (key_of t.key (summed def before (get_or totals i [])))) p.same_def
        ∙ ap (row_at def.key table.rows) key ∙ p.changed.each (key_of def.key (get_or totals i []))
        ∙ ap (λ o. chosen (sum_at def before) o (row_at def.key before (key_of def.key (get_or totals i [])))) none

    by_place : (k : ℕ) (e : Option (List Value)) (r : List Value) → (k ≡ i) ⊎ (k < i) → get_or (set slots i left) k e ≡ row_at def.key before (key_of def.key (get_or totals k r))
    by_place k e r (inl same) =
        let within : i < length slots = let long = p.long in omega arith in
        ap (λ n. get_or (set slots i left) n e) same ∙ get_or-set_same slots i left e within ∙ replaced
        ∙ ap (λ x. row_at def.key before (key_of def.key x)) (any_default totals i [] r lt) ∙ ap (λ n. row_at def.key before (key_of def.key (get_or totals n r))) (sym same)
    by_place k e r (inr less) = get_or-set_other slots i k left e (omega arith) ∙ p.done k e r less

-- a row that couldn't be put: the others are still there
pub put_failed : (def : TableDef) (before totals : List (List Value)) (i j from : ℕ) (table new : Keyed) (slots : List (Option (List Value))) (x : Option (List Value)) → j ≡ i → from ≡ length totals → new ≡ table → PutSoFar def before totals i i table slots → PutSoFar def before totals j from new (set slots i x)
put_failed def before totals i j from table new slots x ji fl same p =
    subst (λ n. PutSoFar def before totals n from new (set slots i x)) (sym ji) (record {
      same_def = ap (λ (t : Keyed). t.def) same ∙ p.same_def;
      changed = subst (λ (t : Keyed). Changed def.key (sum_at def before) before t.rows (take i totals)) (sym same) p.changed;
      long = length-set slots i x ∙ p.long;
      done = λ k d row lt. get_or-set_other slots i k x d (omega arith) ∙ p.done k d row lt;
      left = λ k d row le lt. absurd (omega arith);
    })

-- what is put back is a row of the table's columns
pub back_fits : (def : TableDef) (before totals : List (List Value)) (i from b : ℕ) (table : Keyed) (slots : List (Option (List Value))) (d : Option (List Value)) (x : List Value) → IsTable def before → PutSoFar def before totals i from table slots → b < i → get_or slots b d ≡ Some x → FitsColumns table.def.columns x
back_fits def before totals i from b table slots d x is_table p lt e =
    let found = sym (p.done b d [] lt) ∙ e in
    subst (λ (t : TableDef). FitsColumns t.columns x) (sym p.same_def) (find_all (FitsColumns def.columns) (has_key def.key (key_of def.key (get_or totals b []))) before x is_table.fits found)

-- one row less is put
pub put_less : (def : TableDef) (before totals : List (List Value)) (i j from b : ℕ) (table new : Keyed) (slots : List (Option (List Value))) (d x : Option (List Value)) (row : List Value) → IsDerived def → IsTable def before → Rises def.key totals → AllByRecursion (FitsColumns def.columns) totals → PutSoFar def before totals i from table slots → i ≡ b + 1 → j ≡ b → from ≡ length totals → b < length totals → row ≡ get_or totals b row → TakesBack table row (get_or slots b d) new → PutSoFar def before totals j from new (set slots b x)
put_less def before totals i j from b table new slots d x row derived is_table rise kinds p ib jb fl lt here takes =
    subst (λ n. PutSoFar def before totals n from new (set slots b x)) (sym jb) (by_row (row_at def.key before (key_of def.key row)) refl)
  where
    none : row_at def.key (take b totals) (key_of def.key row) ≡ None
    none = new_key def.key totals b row rise lt here

    changed : Changed def.key (sum_at def before) before table.rows (take b totals ++ row ∷ [])
    changed = subst (Changed def.key (sum_at def before) before table.rows) (ap (λ n. take n totals) ib ∙ one_more_row totals b row lt here) p.changed

    slot : get_or slots b d ≡ row_at def.key before (key_of def.key row)
    slot = p.done b d row (omega arith) ∙ ap (λ r. row_at def.key before (key_of def.key r)) (sym here)

    long_key : take (length def.key) row ≡ key_of def.key row
    long_key =
        let fits = subst (FitsColumns def.columns) (sym here) (all_at (FitsColumns def.columns) totals b row kinds lt) in
        let long = fits_length def.columns row fits in
        let within = derived.key_within in
        sym (key_at_front def.key row derived.key_first (omega arith))

    back : (new.def ≡ def) → Sets def.key table.rows new.rows (key_of def.key row) (row_at def.key before (key_of def.key row)) → PutSoFar def before totals b from new (set slots b x)
    back same sets = record {
      same_def = same;
      changed = changed_less def.key (sum_at def before) before table.rows new.rows (take b totals) row none changed sets;
      long = length-set slots b x ∙ p.long;
      done = λ k e r less. get_or-set_other slots b k x e (omega arith) ∙ p.done k e r (omega arith);
      left = λ k e r le less. absurd (omega arith);
    }

    by_row : (o : Option (List Value)) → row_at def.key before (key_of def.key row) ≡ o → PutSoFar def before totals b from new (set slots b x)
    by_row (Some was) e =
        let took = subst (λ o. TakesBack table row o new) (slot ∙ e) takes in
        let has = row_has_key def.key before (key_of def.key row) was e in
        let stands = changed.each (key_of def.key row) ∙ ap (λ o. chosen (sum_at def before) o (row_at def.key before (key_of def.key row))) (named_last def.key (sum_at def before) before (take b totals) row (key_of def.key row) (has_own def.key row (key_of def.key row) refl) none) in
        let there = sets_back def.key table.rows was (summed def before row) changed.rises (ap (row_at def.key table.rows) has ∙ stands) in
        let rows : new.rows ≡ put_back def.key table.rows was = ap (λ (t : Keyed). t.rows) took ∙ ap (λ (t : TableDef). put_back t.key table.rows was) p.same_def in
        back (ap (λ (t : Keyed). t.def) took ∙ p.same_def)
        (subst (λ o. Sets def.key table.rows new.rows (key_of def.key row) o) (sym e)
        (subst (λ k. Sets def.key table.rows new.rows k (Some was)) has
        (subst (λ rs. Sets def.key table.rows rs (key_of def.key was) (Some was)) (sym rows) there)))
    by_row None e =
        let took = subst (λ o. TakesBack table row o new) (slot ∙ e) takes in
        let rows : new.rows ≡ without def.key table.rows (key_of def.key row) =
        ap (λ (t : Keyed). t.rows) took ∙ ap (λ (t : TableDef). without t.key table.rows (take (length t.key) row)) p.same_def ∙ ap (without def.key table.rows) long_key in
        back (ap (λ (t : Keyed). t.def) took ∙ p.same_def)
        (subst (λ o. Sets def.key table.rows new.rows (key_of def.key row) o) (sym e)
        (subst (λ rs. Sets def.key table.rows rs (key_of def.key row) None) (sym rows) (sets_none def.key table.rows (key_of def.key row) changed.rises)))

-- all is taken back
pub put_again : (before table : Keyed) (totals : List (List Value)) (i from : ℕ) (slots : List (Option (List Value))) → IsTable before.def before.rows → i ≡ 0 → PutSoFar before.def before.rows totals i from table slots → table ≡ before
put_again before table totals i from slots is_table zero_is p =
    let rows : table.rows ≡ before.rows = unchanged before.def.key (sum_at before.def before.rows) before.rows table.rows is_table.rises (subst (λ n. Changed before.def.key (sum_at before.def before.rows) before.rows table.rows (take n totals)) zero_is p.changed) in
    keyed_same table before p.same_def rows
  where
    keyed_same : (one two : Keyed) → one.def ≡ two.def → one.rows ≡ two.rows → one ≡ two
    keyed_same one two defs rows = ap (λ (d : TableDef). record { def = d; rows = one.rows }) defs ∙ ap (λ (r : List (List Value)). record { def = two.def; rows = r }) rows

-- taking out one row of zeros
pub zero_gone : (def : TableDef) (rows : List (List Value)) (row key : List Value) (width : ℕ) (o : Option (List Value)) (b : Bool) → IsDerived def → FitsColumns def.columns row → width ≡ length def.key → key ≡ take width row → o ≡ row_at def.key rows key → b ≡ is_zero_at width o → swept def rows (key_of def.key row) ≡ cond b (without def.key rows key) rows
zero_gone def rows row key width o b derived fits width_is key_is o_is b_is =
    let long = fits_length def.columns row fits in
    let within = derived.key_within in
    let front : key ≡ key_of def.key row = key_is ∙ ap (λ n. take n row) width_is ∙ sym (key_at_front def.key row derived.key_first (omega arith)) in
    let test : b ≡ is_zero_at (length def.key) (row_at def.key rows key) = b_is ∙ ap (λ n. is_zero_at n o) width_is ∙ ap (is_zero_at (length def.key)) o_is in
    ap (swept def rows) (sym front) ∙ ap (λ t. cond t (without def.key rows key) rows) (sym test)

pub sweep_step : (def : TableDef) (before totals : List (List Value)) (i : ℕ) (row : List Value) (table new : Keyed) → Rises def.key totals → i < length totals → row ≡ get_or totals i row → table.def ≡ def → Changed def.key (swept_at def before) before table.rows (take i totals) → new ≡ record table { rows = swept table.def table.rows (key_of table.def.key row) } → (new.def ≡ def) × Changed def.key (swept_at def before) before new.rows (take (i + 1) totals)
sweep_step def before totals i row table new rise lt here same changed is =
    let rows : new.rows ≡ swept def table.rows (key_of def.key row) = ap (λ (t : Keyed). t.rows) is ∙ ap (λ (d : TableDef). swept d table.rows (key_of d.key row)) same in (
      ap (λ (t : Keyed). t.def) is ∙ same,
      subst (λ rs. Changed def.key (swept_at def before) before rs (take (i + 1) totals)) (sym rows) (swept_more def before table.rows totals i row rise lt here changed),
    )

-- all steps together
pub applied_end : (table between now : Keyed) (totals slice : List (List Value)) → IsDerived table.def → IsTable table.def table.rows → AllByRecursion (FitsColumns table.def.columns) totals → slice ≡ totals → between.def ≡ table.def → Changed table.def.key (sum_at table.def table.rows) table.rows between.rows slice → now.def ≡ between.def → Changed between.def.key (swept_at between.def between.rows) between.rows now.rows slice → now ≡ record table { rows = applied table.def table.rows totals }
applied_end table between now totals slice derived is_table kinds slice_is def_is first now_def second =
    let first_whole = subst (Changed table.def.key (sum_at table.def table.rows) table.rows between.rows) slice_is first in
    let second_def = subst (λ (d : TableDef). Changed d.key (swept_at d between.rows) between.rows now.rows slice) def_is second in
    let second_whole = subst (Changed table.def.key (swept_at table.def between.rows) between.rows now.rows) slice_is second_def in
    let rows = applied_by_steps table.def table.rows between.rows now.rows totals derived is_table kinds first_whole second_whole in
    ap (λ (d : TableDef). record { def = d; rows = now.rows }) (now_def ∙ def_is) ∙ ap (λ (r : List (List Value)). record { def = table.def; rows = r }) rows

-- a row of the totals has a whole key
pub row_long : (def : TableDef) (totals : List (List Value)) (b : ℕ) (row : List Value) (d : TableDef) → IsDerived def → AllByRecursion (FitsColumns def.columns) totals → b < length totals → row ≡ get_or totals b row → d ≡ def → length d.key ≤ length row
row_long def totals b row d derived kinds lt here same =
    let fits = subst (FitsColumns def.columns) (sym here) (all_at (FitsColumns def.columns) totals b row kinds lt) in
    let long = fits_length def.columns row fits in
    let within = derived.key_within in
    let key = ap (λ (e : TableDef). length e.key) same in
    omega arith
