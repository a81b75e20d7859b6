-- Laws of tables: rising rows are split by a key, and a row that was put can be taken back.
use Rattle.std.proofs.Common.{◌≡◌, ℕ, suc, ◌+◌, ◌<◌, ◌≤◌, Bool, true, false, not, cond, List, [], ◌∷◌, ◌++◌, length, filter, find, Option, Some, None, refl, sym, ap, ◌∙◌, subst, arith, ◌⊎◌, inl, inr, append_assoc, length-append}
use Rattle.std.specs.Prelude.{nat_lt}
use Rattle.std.specs.List.{AllByRecursion}
use Rattle.std.specs.declared.cmp.Ordering.{Ordering}
use Rattle.std.specs.declared.cmp.Ordering.TheVariants.{Less, Equal, Greater}
use Rattle.std.specs.Ordering.{ordering_reverse, is_eq}
use Rattle.std.proofs.lemmas.List.Elements.{filter-append}
use borrow.Author.Tests.{ltb-true}
use Rattle.strip_value.specs.declared.values.Value.{Value}
use Rattle.strip_value.specs.declared.tables.ColumnDef.{ColumnDef}
use Rattle.strip_value.specs.declared.tables.TableDef.{TableDef}
use Rattle.strip_value.specs.Kinds.{FitsColumns}
use Rattle.strip_value.specs.Order.{row_cmp, row_cmp_total}
use Rattle.strip_value.specs.Table.{key_of, has_key, IsBelow, Rises, row_at, without, placed, put_between, with_row, put_if, put_back, IsTable, IsWithin, passed_limit}
use Rattle.strip_value.specs.Places.{IsFoundAt, IsGapAt}
use Rattle.strip_value.proofs.Orders.{row_cmp_equal}
use Rattle.strip_value.proofs.Lists.{all_append, all_left, all_right, all_weaker, all_filter, filter_all}

-- the comparison that says the reverse
pub flipped : (a b : List Value) (o : Ordering) → row_cmp a b ≡ o → row_cmp b a ≡ ordering_reverse o
flipped a b o e = row_cmp_total.antisymm b a ∙ ap ordering_reverse e

pub row_cmp_itself : (a : List Value) → row_cmp a a ≡ Equal
row_cmp_itself a = only_equal (row_cmp a a) (row_cmp_total.antisymm a a)
  where
    only_equal : (o : Ordering) → o ≡ ordering_reverse o → o ≡ Equal
    only_equal Less e = cc
    only_equal Equal e = refl
    only_equal Greater e = cc

module _ (columns : List ℕ) (key : List Value) where
  abbrev pub against : List Value → Ordering
  against row = row_cmp (key_of columns row) key

  abbrev pub Below : List (List Value) → Type 0
  Below rows = AllByRecursion (λ row. against row ≡ Less) rows

  abbrev pub Above : List (List Value) → Type 0
  Above rows = AllByRecursion (λ row. against row ≡ Greater) rows

  -- of rising rows, those after one that is above a key are above it too
  pub above_after : (row : List Value) (rows : List (List Value)) → against row ≡ Greater → AllByRecursion (IsBelow columns row) rows → Above rows
  above_after row rows high below = all_weaker (IsBelow columns row) (λ r. against r ≡ Greater) (λ r b.
      flipped key (key_of columns r) Less (row_cmp_total.trans key (key_of columns row) (key_of columns r) (flipped (key_of columns row) key Greater high) b)) rows below

  -- and those after the row of the key
  pub above_found : (row : List Value) (rows : List (List Value)) → key_of columns row ≡ key → AllByRecursion (IsBelow columns row) rows → Above rows
  above_found row rows same below = all_weaker (IsBelow columns row) (λ r. against r ≡ Greater) (λ r b.
      flipped key (key_of columns r) Less (subst (λ k. row_cmp k (key_of columns r) ≡ Less) same b)) rows below

  -- of rising rows, those before the row of the key are below it
  pub below_found : (front : List (List Value)) (row : List Value) (back : List (List Value)) → key_of columns row ≡ key → Rises columns (front ++ row ∷ back) → Below front
  below_found [] row back same rises = tt
  below_found (f ∷ front) row back same rises =
      let first = (all_right (IsBelow columns f) front (row ∷ back) rises.0).0 in
      (subst (λ k. row_cmp (key_of columns f) k ≡ Less) same first, below_found front row back same rises.1)

  pub rises_back : (front back : List (List Value)) → Rises columns (front ++ back) → Rises columns back
  rises_back [] back rises = rises
  rises_back (f ∷ front) back rises = rises_back front back rises.1

  -- no row of these has the key
  pub lacks_below : (rows : List (List Value)) → Below rows → AllByRecursion (λ row. not (has_key columns key row) ≡ true) rows
  lacks_below rows below = all_weaker (λ row. against row ≡ Less) (λ row. not (has_key columns key row) ≡ true) (λ row e. ap (λ o. not (is_eq o)) e) rows below

  pub lacks_above : (rows : List (List Value)) → Above rows → AllByRecursion (λ row. not (has_key columns key row) ≡ true) rows
  lacks_above rows above = all_weaker (λ row. against row ≡ Greater) (λ row. not (has_key columns key row) ≡ true) (λ row e. ap (λ o. not (is_eq o)) e) rows above

  -- rows below the key and rows above it stay when it is taken out
  pub without_gap : (front back : List (List Value)) → Below front → Above back → without columns (front ++ back) key ≡ front ++ back
  without_gap front back below above =
      filter_all (λ row. not (has_key columns key row)) (front ++ back) (all_append (λ row. not (has_key columns key row) ≡ true) front back (lacks_below front below) (lacks_above back above))

  pub without_found : (front : List (List Value)) (row : List Value) (back : List (List Value)) → Below front → key_of columns row ≡ key → Above back → without columns (front ++ row ∷ back) key ≡ front ++ back
  without_found front row back below same above =
      let test = λ (r : List Value). not (has_key columns key r) in
      let here : against row ≡ Equal = subst (λ k. row_cmp k key ≡ Equal) (sym same) (row_cmp_itself key) in
      let gone : filter test (row ∷ back) ≡ filter test back = ap (λ o. cond (not (is_eq o)) (row ∷ filter test back) (filter test back)) here in
      let left = filter_all test front (lacks_below front below) in
      let right = filter_all test back (lacks_above back above) in
      filter-append test front (row ∷ back) ∙ ap (λ xs. xs ++ filter test (row ∷ back)) left ∙ ap (λ xs. front ++ xs) (gone ∙ right)

  -- the row of the key is found
  pub row_at_found : (front : List (List Value)) (row : List Value) (back : List (List Value)) → Below front → key_of columns row ≡ key → row_at columns (front ++ row ∷ back) key ≡ Some row
  row_at_found [] row back below same =
      let here : against row ≡ Equal = subst (λ k. row_cmp k key ≡ Equal) (sym same) (row_cmp_itself key) in
      ap (λ o. cond (is_eq o) (Some row) (find (has_key columns key) back)) here
  row_at_found (f ∷ front) row back below same =
      ap (λ o. cond (is_eq o) (Some f) (find (has_key columns key) (front ++ row ∷ back))) below.0 ∙ row_at_found front row back below.1 same

  row_at_above : (back : List (List Value)) → Above back → row_at columns back key ≡ None
  row_at_above [] above = refl
  row_at_above (b ∷ back) above =
      ap (λ o. cond (is_eq o) (Some b) (find (has_key columns key) back)) above.0 ∙ row_at_above back above.1

  pub row_at_gap : (front back : List (List Value)) → Below front → Above back → row_at columns (front ++ back) key ≡ None
  row_at_gap [] back below above = row_at_above back above
  row_at_gap (f ∷ front) back below above =
      ap (λ o. cond (is_eq o) (Some f) (find (has_key columns key) (front ++ back))) below.0 ∙ row_at_gap front back below.1 above

  -- rising rows either have the key, or have a gap for it
  abbrev pub Split : List (List Value) → Type 0
  Split rows = ((at : ℕ) × IsFoundAt columns rows key at) ⊎ ((at : ℕ) × IsGapAt columns rows key at)

  split_after : (row : List Value) (rows : List (List Value)) → against row ≡ Less → Split rows → Split (row ∷ rows)
  split_after row rows low (inl f) = inl (
    suc f.0,
    record {
      front = row ∷ f.1.front;
      row = f.1.row;
      back = f.1.back;
      split = ap (λ xs. row ∷ xs) f.1.split;
      place = ap suc f.1.place;
      has_key = f.1.has_key;
    },
  )
  split_after row rows low (inr g) = inr (
    suc g.0,
    record {
      front = row ∷ g.1.front;
      back = g.1.back;
      split = ap (λ xs. row ∷ xs) g.1.split;
      place = ap suc g.1.place;
      below = (low, g.1.below);
      above = g.1.above;
    },
  )

  split_here : (row : List Value) (rows : List (List Value)) (o : Ordering) → against row ≡ o → Rises columns (row ∷ rows) → Split rows → Split (row ∷ rows)
  split_here row rows Less e rises rest = split_after row rows e rest
  split_here row rows Equal e rises rest = inl (
    0,
    record {
      front = [];
      row = row;
      back = rows;
      split = refl;
      place = refl;
      has_key = row_cmp_equal (key_of columns row) key e;
    },
  )
  split_here row rows Greater e rises rest = inr (
    0,
    record {
      front = [];
      back = row ∷ rows;
      split = refl;
      place = refl;
      below = tt;
      above = (e, above_after row rows e rises.0);
    },
  )

  pub split_of : (rows : List (List Value)) → Rises columns rows → Split rows
  split_of [] rises = inr (
    0,
    record {
      front = [];
      back = [];
      split = refl;
      place = refl;
      below = tt;
      above = tt;
    },
  )
  split_of (row ∷ rows) rises = split_here row rows (against row) refl rises (split_of rows rises.1)

  -- the parts round a row of the key
  pub above_back : (front : List (List Value)) (row : List Value) (back : List (List Value)) → key_of columns row ≡ key → Rises columns (front ++ row ∷ back) → Above back
  above_back front row back same rises = above_found row back same (rises_back front (row ∷ back) rises).0

  -- rows of both sides rise without the row between
  pub rises_joined : (front back : List (List Value)) → Rises columns front → Rises columns back → Below front → Above back → Rises columns (front ++ back)
  rises_joined [] back left right below above = right
  rises_joined (f ∷ front) back left right below above =
      let over : AllByRecursion (IsBelow columns f) back = all_weaker (λ r. against r ≡ Greater) (IsBelow columns f) (λ r high.
      row_cmp_total.trans (key_of columns f) key (key_of columns r) below.0 (flipped (key_of columns r) key Greater high)) back above in
      (all_append (IsBelow columns f) front back left.0 over, rises_joined front back left.1 right below.1 above)

  pub rises_front : (front back : List (List Value)) → Rises columns (front ++ back) → Rises columns front
  rises_front [] back rises = tt
  rises_front (f ∷ front) back rises = (all_left (IsBelow columns f) front back rises.0, rises_front front back rises.1)

module _ (columns : List ℕ) (row : List Value) where
  -- a row goes between those below its key and those above
  pub placed_between : (front back : List (List Value)) → Below columns (key_of columns row) front → Above columns (key_of columns row) back → placed columns row (front ++ back) ≡ front ++ row ∷ back
  placed_between [] [] below above = refl
  placed_between [] (b ∷ back) below above =
      ap (λ o. put_between o row b back (placed columns row back)) (flipped (key_of columns b) (key_of columns row) Greater above.0)
  placed_between (f ∷ front) back below above =
      ap (λ o. put_between o row f (front ++ back) (placed columns row (front ++ back))) (flipped (key_of columns f) (key_of columns row) Less below.0)
      ∙ ap (λ xs. f ∷ xs) (placed_between front back below.1 above)

  -- a row takes the place of the row of its key
  pub with_row_found : (front : List (List Value)) (old : List Value) (back : List (List Value)) → key_of columns old ≡ key_of columns row → Rises columns (front ++ old ∷ back) → with_row columns (front ++ old ∷ back) row ≡ front ++ row ∷ back
  with_row_found front old back same rises =
      let key = key_of columns row in
      let below = below_found columns key front old back same rises in
      let above = above_back columns key front old back same rises in
      ap (placed columns row) (without_found columns key front old back below same above) ∙ placed_between front back below above

  -- or goes into the gap of its key
  pub with_row_gap : (front back : List (List Value)) → Below columns (key_of columns row) front → Above columns (key_of columns row) back → with_row columns (front ++ back) row ≡ front ++ row ∷ back
  with_row_gap front back below above =
      ap (placed columns row) (without_gap columns (key_of columns row) front back below above) ∙ placed_between front back below above

  -- with the row between them, both sides rise
  pub rises_between : (front back : List (List Value)) → Rises columns front → Rises columns back → Below columns (key_of columns row) front → Above columns (key_of columns row) back → Rises columns (front ++ row ∷ back)
  rises_between [] back left right below above =
      (all_weaker (λ r. against columns (key_of columns row) r ≡ Greater) (IsBelow columns row) (λ r high. flipped (key_of columns r) (key_of columns row) Greater high) back above, right)
  rises_between (f ∷ front) back left right below above =
      let here = rises_joined columns (key_of columns row) (f ∷ front) back left right below above in
      let both = all_left (IsBelow columns f) front back here.0 in
      let after = all_right (IsBelow columns f) front back here.0 in
      (all_append (IsBelow columns f) front (row ∷ back) both (below.0, after), rises_between front back left.1 right below.1 above)

-- what a put does to rows that are split by the key of its row, and what takes it back
pub record PutsThere (columns : List ℕ) (rows : List (List Value)) (row : List Value) : Type 0 where
  pub rises : Rises columns (with_row columns rows row)
  pub fits : (kinds : List ColumnDef) → AllByRecursion (FitsColumns kinds) rows → FitsColumns kinds row → AllByRecursion (FitsColumns kinds) (with_row columns rows row)
  pub count : (limit : Option ℕ) → IsWithin limit (length rows) → passed_limit (row_at columns rows (key_of columns row)) limit (length rows) ≡ None → IsWithin limit (length (with_row columns rows row))
  pub undone : (old : List Value) → row_at columns rows (key_of columns row) ≡ Some old → with_row columns (with_row columns rows row) old ≡ rows
  pub removed : row_at columns rows (key_of columns row) ≡ None → without columns (with_row columns rows row) (key_of columns row) ≡ rows
  pub key_of_old : (old : List Value) → row_at columns rows (key_of columns row) ≡ Some old → key_of columns old ≡ key_of columns row

within_one_more : (limit : Option ℕ) (count : ℕ) → passed_limit None limit count ≡ None → IsWithin limit (count + 1)
within_one_more None count e = tt
within_one_more (Some limit) count e = below_limit limit count (nat_lt count limit) refl e
  where
    below_limit : (limit count : ℕ) (b : Bool) → nat_lt count limit ≡ b → cond b None (Some limit) ≡ None → count + 1 ≤ limit
    below_limit limit count true t e = let lt = ltb-true count limit t in omega arith
    below_limit limit count false t e = cc

within_same : (limit : Option ℕ) (m n : ℕ) → m ≡ n → IsWithin limit m → IsWithin limit n
within_same limit m n e w = subst (IsWithin limit) e w

pub puts_found : (columns : List ℕ) (front : List (List Value)) (old : List Value) (back : List (List Value)) (row : List Value) → key_of columns old ≡ key_of columns row → Rises columns (front ++ old ∷ back) → PutsThere columns (front ++ old ∷ back) row
puts_found columns front old back row same rises =
    let key = key_of columns row in
    let below = below_found columns key front old back same rises in
    let above = above_back columns key front old back same rises in
    let new = with_row_found columns row front old back same rises in
    let left = rises_front columns key front (old ∷ back) rises in
    let right = (rises_back columns key front (old ∷ back) rises).1 in
    let again = rises_between columns row front back left right below above in
    let here = row_at_found columns key front old back below same in
    record {
      rises = subst (Rises columns) (sym new) again;
      fits = λ kinds all one.
          let P : List Value → Type 0 = FitsColumns kinds in
          subst (AllByRecursion P) (sym new) (all_append P front (row ∷ back) (all_left P front (old ∷ back) all) (one, (all_right P front (old ∷ back) all).1));
      count = λ limit w none. within_same limit (length (front ++ old ∷ back)) (length (with_row columns (front ++ old ∷ back) row)) (omega (arith, length-append front (old ∷ back), length-append front (row ∷ back), ap length new)) w;
      undone = λ was e.
          let was_old : was ≡ old = cc in
          ap (λ w. with_row columns w was) new ∙ ap (λ w. with_row columns (front ++ row ∷ back) w) was_old ∙ with_row_found columns old front row back (sym same) again;
      removed = λ e. cc;
      key_of_old = λ was e. let was_old : was ≡ old = cc in ap (key_of columns) was_old ∙ same;
    }

pub puts_gap : (columns : List ℕ) (front back : List (List Value)) (row : List Value) → Below columns (key_of columns row) front → Above columns (key_of columns row) back → Rises columns (front ++ back) → PutsThere columns (front ++ back) row
puts_gap columns front back row below above rises =
    let key = key_of columns row in
    let new = with_row_gap columns row front back below above in
    let left = rises_front columns key front back rises in
    let right = rises_back columns key front back rises in
    let here = row_at_gap columns key front back below above in
    record {
      rises = subst (Rises columns) (sym new) (rises_between columns row front back left right below above);
      fits = λ kinds all one.
          let P : List Value → Type 0 = FitsColumns kinds in
          subst (AllByRecursion P) (sym new) (all_append P front (row ∷ back) (all_left P front back all) (one, all_right P front back all));
      count = λ limit w none.
          let more = within_one_more limit (length (front ++ back)) (subst (λ o. passed_limit o limit (length (front ++ back)) ≡ None) here none) in
          within_same limit (length (front ++ back) + 1) (length (with_row columns (front ++ back) row)) (omega (arith, length-append front back, length-append front (row ∷ back), ap length new)) more;
      undone = λ was e. cc;
      removed = λ e. ap (λ w. without columns w key) new ∙ without_found columns key front row back below refl above;
      key_of_old = λ was e. cc;
    }

-- a put into rising rows does all this
pub puts_there : (columns : List ℕ) (rows : List (List Value)) (row : List Value) → Rises columns rows → PutsThere columns rows row
puts_there columns rows row rises = by_split (split_of columns (key_of columns row) rows rises)
  where
    by_split : Split columns (key_of columns row) rows → PutsThere columns rows row
    by_split (inl f) = subst (λ rs. PutsThere columns rs row) (sym f.1.split) (puts_found columns f.1.front f.1.row f.1.back row f.1.has_key (subst (Rises columns) f.1.split rises))
    by_split (inr g) = subst (λ rs. PutsThere columns rs row) (sym g.1.split) (puts_gap columns g.1.front g.1.back row g.1.below g.1.above (subst (Rises columns) g.1.split rises))

-- what a removal from rising rows leaves
pub record RemovesThere (columns : List ℕ) (rows : List (List Value)) (key : List Value) : Type 0 where
  pub rises : Rises columns (without columns rows key)
  pub fewer : length (without columns rows key) ≤ length rows

pub removes_there : (columns : List ℕ) (rows : List (List Value)) (key : List Value) → Rises columns rows → RemovesThere columns rows key
removes_there columns rows key rises = by_split (split_of columns key rows rises)
  where
    found : (front : List (List Value)) (old : List Value) (back : List (List Value)) → key_of columns old ≡ key → Rises columns (front ++ old ∷ back) → RemovesThere columns (front ++ old ∷ back) key
    found front old back same rises =
        let below = below_found columns key front old back same rises in
        let above = above_back columns key front old back same rises in
        let gone = without_found columns key front old back below same above in
        record {
          rises = subst (Rises columns) (sym gone) (rises_joined columns key front back (rises_front columns key front (old ∷ back) rises) (rises_back columns key front (old ∷ back) rises).1 below above);
          fewer = omega (arith, length-append front back, length-append front (old ∷ back), ap length gone);
        }

    gap : (front back : List (List Value)) → Below columns key front → Above columns key back → Rises columns (front ++ back) → RemovesThere columns (front ++ back) key
    gap front back below above rises =
        let same = without_gap columns key front back below above in
        record { rises = subst (Rises columns) (sym same) rises; fewer = omega (arith, ap length same) }

    by_split : Split columns key rows → RemovesThere columns rows key
    by_split (inl f) = subst (λ rs. RemovesThere columns rs key) (sym f.1.split) (found f.1.front f.1.row f.1.back f.1.has_key (subst (Rises columns) f.1.split rises))
    by_split (inr g) = subst (λ rs. RemovesThere columns rs key) (sym g.1.split) (gap g.1.front g.1.back g.1.below g.1.above (subst (Rises columns) g.1.split rises))

within_fewer : (limit : Option ℕ) (m n : ℕ) → m ≤ n → IsWithin limit n → IsWithin limit m
within_fewer None m n le w = tt
within_fewer (Some limit) m n le w = omega arith

-- a table stays one when a row is put for which it isn't full, and when a row is removed
pub table_with_row : (def : TableDef) (rows : List (List Value)) (row : List Value) → IsTable def rows → FitsColumns def.columns row → passed_limit (row_at def.key rows (key_of def.key row)) def.limit (length rows) ≡ None → IsTable def (with_row def.key rows row)
table_with_row def rows row table fits none =
    let there = puts_there def.key rows row table.rises in
    record { rises = there.rises; fits = there.fits def.columns table.fits fits; within = there.count def.limit table.within none }

pub table_without : (def : TableDef) (rows : List (List Value)) (key : List Value) → IsTable def rows → IsTable def (without def.key rows key)
table_without def rows key table =
    let there = removes_there def.key rows key table.rises in
    record {
      rises = there.rises;
      fits = all_filter (FitsColumns def.columns) (λ row. not (has_key def.key key row)) rows table.fits;
      within = within_fewer def.limit (length (without def.key rows key)) (length rows) there.fewer table.within;
    }

within_kept : (columns : List ℕ) (rows : List (List Value)) (row : List Value) (limit : Option ℕ) → Rises columns rows → IsWithin limit (length rows) → (o : Option (List Value)) → row_at columns rows (key_of columns row) ≡ o → IsWithin limit (length (put_if o rows (with_row columns rows row)))
within_kept columns rows row limit rises w None e = w
within_kept columns rows row limit rises w (Some old) e = (puts_there columns rows row rises).count limit w (ap (λ o. passed_limit o limit (length rows)) e)

rises_kept : (columns : List ℕ) (rows : List (List Value)) (row : List Value) → Rises columns rows → (o : Option (List Value)) → Rises columns (put_if o rows (with_row columns rows row))
rises_kept columns rows row rises None = rises
rises_kept columns rows row rises (Some old) = (puts_there columns rows row rises).rises

fits_kept : (columns : List ℕ) (kinds : List ColumnDef) (rows : List (List Value)) (row : List Value) → Rises columns rows → AllByRecursion (FitsColumns kinds) rows → FitsColumns kinds row → (o : Option (List Value)) → AllByRecursion (FitsColumns kinds) (put_if o rows (with_row columns rows row))
fits_kept columns kinds rows row rises all fits None = all
fits_kept columns kinds rows row rises all fits (Some old) = (puts_there columns rows row rises).fits kinds all fits

-- a table stays one when a row takes the place of the row of its key
pub table_put_back : (def : TableDef) (rows : List (List Value)) (row : List Value) → IsTable def rows → FitsColumns def.columns row → IsTable def (put_back def.key rows row)
table_put_back def rows row table fits =
    let at = row_at def.key rows (key_of def.key row) in
    record {
      rises = rises_kept def.key rows row table.rises at;
      fits = fits_kept def.key def.columns rows row table.rises table.fits fits at;
      within = within_kept def.key rows row def.limit table.rises table.within at refl;
    }

found_of : {A : Type 0} (P : A → Type 0) (test : A → Bool) (xs : List A) (x : A) (b : Bool) (y : A) → P y → (find test xs ≡ Some x → P x) → cond b (Some y) (find test xs) ≡ Some x → P x
found_of P test xs x true y p rest e = let same : y ≡ x = cc in subst P same p
found_of P test xs x false y p rest e = rest e

-- what is found is one of the list
pub find_all : {A : Type 0} (P : A → Type 0) (test : A → Bool) (xs : List A) (x : A) → AllByRecursion P xs → find test xs ≡ Some x → P x
find_all P test [] x all e = cc
find_all P test (y ∷ ys) x all e = found_of P test ys x (test y) y all.0 (find_all P test ys x all.1) e

-- the row that was put is there
pub row_at_put : (columns : List ℕ) (rows : List (List Value)) (row : List Value) → Rises columns rows → row_at columns (with_row columns rows row) (key_of columns row) ≡ Some row
row_at_put columns rows row rises = by_split (split_of columns (key_of columns row) rows rises)
  where
    by_split : Split columns (key_of columns row) rows → row_at columns (with_row columns rows row) (key_of columns row) ≡ Some row
    by_split (inl f) =
        let risen = subst (Rises columns) f.1.split rises in
        let below = below_found columns (key_of columns row) f.1.front f.1.row f.1.back f.1.has_key risen in
        let new = ap (λ rs. with_row columns rs row) f.1.split ∙ with_row_found columns row f.1.front f.1.row f.1.back f.1.has_key risen in
        ap (λ rs. row_at columns rs (key_of columns row)) new ∙ row_at_found columns (key_of columns row) f.1.front row f.1.back below refl
    by_split (inr g) =
        let new = ap (λ rs. with_row columns rs row) g.1.split ∙ with_row_gap columns row g.1.front g.1.back g.1.below g.1.above in
        ap (λ rs. row_at columns rs (key_of columns row)) new ∙ row_at_found columns (key_of columns row) g.1.front row g.1.back g.1.below refl

-- a put can be taken back: the row that it replaced comes back, or the new row goes
pub taken_back : (columns : List ℕ) (rows : List (List Value)) (row old : List Value) → Rises columns rows → row_at columns rows (key_of columns row) ≡ Some old → put_back columns (with_row columns rows row) old ≡ rows
taken_back columns rows row old rises e =
    let there = puts_there columns rows row rises in
    let same = there.key_of_old old e in
    let stands = row_at_put columns rows row rises in
    ap (λ o. put_if o (with_row columns rows row) (with_row columns (with_row columns rows row) old)) (ap (row_at columns (with_row columns rows row)) same ∙ stands) ∙ there.undone old e
