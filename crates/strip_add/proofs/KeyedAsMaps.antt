-- Rising rows as maps from keys to rows: two with the same row for each key are one, and what a change at one key does.
use Rattle.std.proofs.Common.{◌≡◌, ℕ, Bool, true, false, not, cond, List, [], ◌∷◌, ◌++◌, Option, Some, None, refl, sym, ap, ◌∙◌, subst}
use Rattle.std.specs.declared.cmp.Ordering.{Ordering}
use Rattle.std.specs.declared.cmp.Ordering.TheVariants.{Less, Equal, Greater}
use Rattle.std.specs.Ordering.{is_eq}
use Rattle.strip_value.specs.declared.values.Value.{Value}
use Rattle.strip_value.specs.Order.{row_cmp}
use Rattle.strip_value.specs.Table.{key_of, has_key, Rises, row_at, without, placed, put_between, with_row, put_back, put_if}
use Rattle.strip_add.specs.Parts.{chosen, Changed}
use Rattle.strip_value.proofs.Orders.{row_cmp_equal}
use Rattle.strip_value.proofs.KeyedLaws.{flipped, row_cmp_itself, Below, Above, above_after, above_found, puts_there, removes_there, row_at_put}

equal_of : (o : Ordering) → is_eq o ≡ true → o ≡ Equal
equal_of Less e = cc
equal_of Equal e = refl
equal_of Greater e = cc

module _ (columns : List ℕ) where
  -- a row that has a key
  pub key_is : (row key : List Value) → has_key columns key row ≡ true → key_of columns row ≡ key
  key_is row key e = row_cmp_equal (key_of columns row) key (equal_of (row_cmp (key_of columns row) key) e)

  pub has_own : (row key : List Value) → key_of columns row ≡ key → has_key columns key row ≡ true
  has_own row key same = ap is_eq (subst (λ k. row_cmp k key ≡ Equal) (sym same) (row_cmp_itself key))

  -- the first row has the key, or another may
  pub at_first : (row : List Value) (rows : List (List Value)) (key : List Value) → has_key columns key row ≡ true → row_at columns (row ∷ rows) key ≡ Some row
  at_first row rows key e = ap (λ b. cond b (Some row) (row_at columns rows key)) e

  pub past_first : (row : List Value) (rows : List (List Value)) (key : List Value) → has_key columns key row ≡ false → row_at columns (row ∷ rows) key ≡ row_at columns rows key
  past_first row rows key e = ap (λ b. cond b (Some row) (row_at columns rows key)) e

  pub none_below : (key : List Value) (rows : List (List Value)) → Below columns key rows → row_at columns rows key ≡ None
  none_below key [] below = refl
  none_below key (row ∷ rows) below = past_first row rows key (ap is_eq below.0) ∙ none_below key rows below.1

  pub none_above : (key : List Value) (rows : List (List Value)) → Above columns key rows → row_at columns rows key ≡ None
  none_above key [] above = refl
  none_above key (row ∷ rows) above = past_first row rows key (ap is_eq above.0) ∙ none_above key rows above.1

  -- the row of a key has it
  pub row_has_key : (rows : List (List Value)) (key row : List Value) → row_at columns rows key ≡ Some row → key_of columns row ≡ key
  row_has_key [] key row e = cc
  row_has_key (first ∷ rows) key row e = by_test (has_key columns key first) refl (row_has_key rows key row)
    where
      by_test : (b : Bool) → has_key columns key first ≡ b → (row_at columns rows key ≡ Some row → key_of columns row ≡ key) → key_of columns row ≡ key
      by_test true h rest =
          let same : Some first ≡ Some row = sym (at_first first rows key h) ∙ e in
          let is : first ≡ row = cc in
          subst (λ r. key_of columns r ≡ key) is (key_is first key h)
      by_test false h rest = rest (sym (past_first first rows key h) ∙ e)

  -- rising rows with the same row for each key are the same
  pub same_rows : (one two : List (List Value)) → Rises columns one → Rises columns two → ((key : List Value) → row_at columns one key ≡ row_at columns two key) → one ≡ two
  same_rows [] [] one two same = refl
  same_rows [] (y ∷ ys) one two same =
      let e = same (key_of columns y) ∙ at_first y ys (key_of columns y) (has_own y (key_of columns y) refl) in
      cc
  same_rows (x ∷ xs) [] one two same =
      let e = sym (at_first x xs (key_of columns x) (has_own x (key_of columns x) refl)) ∙ same (key_of columns x) in
      cc
  same_rows (x ∷ xs) (y ∷ ys) one two same = by_order (row_cmp (key_of columns x) (key_of columns y)) refl (same_rows xs ys one.1 two.1)
    where
      at_x : row_at columns (x ∷ xs) (key_of columns x) ≡ Some x
      at_x = at_first x xs (key_of columns x) (has_own x (key_of columns x) refl)

      at_y : row_at columns (y ∷ ys) (key_of columns y) ≡ Some y
      at_y = at_first y ys (key_of columns y) (has_own y (key_of columns y) refl)

      by_order : (o : Ordering) → row_cmp (key_of columns x) (key_of columns y) ≡ o → (((key : List Value) → row_at columns xs key ≡ row_at columns ys key) → xs ≡ ys) → x ∷ xs ≡ y ∷ ys
      by_order Less e rest =
          let high = flipped (key_of columns x) (key_of columns y) Less e in
          let none = none_above (key_of columns x) (y ∷ ys) (high, above_after columns (key_of columns x) y ys high two.0) in
          let met = sym at_x ∙ same (key_of columns x) ∙ none in
          cc
      by_order Greater e rest =
          let none = none_above (key_of columns y) (x ∷ xs) (e, above_after columns (key_of columns y) x xs e one.0) in
          let met = sym none ∙ same (key_of columns y) ∙ at_y in
          cc
      by_order Equal e rest =
          let keys = row_cmp_equal (key_of columns x) (key_of columns y) e in
          let met : Some x ≡ Some y = sym at_x ∙ same (key_of columns x) ∙ ap (row_at columns (y ∷ ys)) keys ∙ at_y in
          let heads : x ≡ y = cc in
          let tails = rest (λ key. by_test key (has_key columns key x) refl keys) in
          cc
        where
          by_test : (key : List Value) (b : Bool) → has_key columns key x ≡ b → key_of columns x ≡ key_of columns y → row_at columns xs key ≡ row_at columns ys key
          by_test key true h keys =
              let is = key_is x key h in
              none_above key xs (above_found columns key x xs is one.0) ∙ sym (none_above key ys (above_found columns key y ys (sym keys ∙ is) two.0))
          by_test key false h keys =
              sym (past_first x xs key h) ∙ same key ∙ past_first y ys key (ap (λ k. is_eq (row_cmp k key)) (sym keys) ∙ h)

  -- a row that is put leaves the rows of other keys
  placed_other : (row : List Value) (rows : List (List Value)) (key : List Value) → has_key columns key row ≡ false → row_at columns (placed columns row rows) key ≡ row_at columns rows key
  placed_other row [] key ne = past_first row [] key ne
  placed_other row (first ∷ rows) key ne = by_order (row_cmp (key_of columns row) (key_of columns first)) (placed_other row rows key ne)
    where
      by_order : (o : Ordering) → row_at columns (placed columns row rows) key ≡ row_at columns rows key → row_at columns (put_between o row first rows (placed columns row rows)) key ≡ row_at columns (first ∷ rows) key
      by_order Less rest = past_first row (first ∷ rows) key ne
      by_order Equal rest = past_first row (first ∷ rows) key ne
      by_order Greater rest = ap (λ r. cond (has_key columns key first) (Some first) r) rest

  without_other : (rows : List (List Value)) (gone key : List Value) → is_eq (row_cmp gone key) ≡ false → row_at columns (without columns rows gone) key ≡ row_at columns rows key
  without_other [] gone key ne = refl
  without_other (row ∷ rows) gone key ne = by_test (has_key columns gone row) refl (without_other rows gone key ne)
    where
      by_test : (b : Bool) → has_key columns gone row ≡ b → row_at columns (without columns rows gone) key ≡ row_at columns rows key → row_at columns (without columns (row ∷ rows) gone) key ≡ row_at columns (row ∷ rows) key
      by_test true h rest =
          ap (λ b. row_at columns (cond (not b) (row ∷ without columns rows gone) (without columns rows gone)) key) h
          ∙ rest ∙ sym (past_first row rows key (ap (λ k. is_eq (row_cmp k key)) (key_is row gone h) ∙ ne))
      by_test false h rest =
          ap (λ b. row_at columns (cond (not b) (row ∷ without columns rows gone) (without columns rows gone)) key) h
          ∙ ap (λ r. cond (has_key columns key row) (Some row) r) rest

  without_own : (rows : List (List Value)) (key : List Value) → row_at columns (without columns rows key) key ≡ None
  without_own [] key = refl
  without_own (row ∷ rows) key = by_test (has_key columns key row) refl (without_own rows key)
    where
      by_test : (b : Bool) → has_key columns key row ≡ b → row_at columns (without columns rows key) key ≡ None → row_at columns (without columns (row ∷ rows) key) key ≡ None
      by_test true h rest = ap (λ b. row_at columns (cond (not b) (row ∷ without columns rows key) (without columns rows key)) key) h ∙ rest
      by_test false h rest =
          ap (λ b. row_at columns (cond (not b) (row ∷ without columns rows key) (without columns rows key)) key) h
          ∙ past_first row (without columns rows key) key h ∙ rest

-- after a change at one key
pub record Sets (columns : List ℕ) (old new : List (List Value)) (key : List Value) (now : Option (List Value)) : Type 0 where
  pub rises : Rises columns new
  pub here : row_at columns new key ≡ now
  pub others : (k : List Value) → is_eq (row_cmp key k) ≡ false → row_at columns new k ≡ row_at columns old k

pub sets_row : (columns : List ℕ) (old : List (List Value)) (row : List Value) → Rises columns old → Sets columns old (with_row columns old row) (key_of columns row) (Some row)
sets_row columns old row rises = record {
  rises = (puts_there columns old row rises).rises;
  here = row_at_put columns old row rises;
  others = λ k ne. placed_other columns row (without columns old (key_of columns row)) k ne ∙ without_other columns old (key_of columns row) k ne;
}

pub sets_none : (columns : List ℕ) (old : List (List Value)) (key : List Value) → Rises columns old → Sets columns old (without columns old key) key None
sets_none columns old key rises = record {
  rises = (removes_there columns old key rises).rises;
  here = without_own columns old key;
  others = λ k ne. without_other columns old key k ne;
}

pub sets_back : (columns : List ℕ) (old : List (List Value)) (row was : List Value) → Rises columns old → row_at columns old (key_of columns row) ≡ Some was → Sets columns old (put_back columns old row) (key_of columns row) (Some row)
sets_back columns old row was rises e =
    subst (λ rows. Sets columns old rows (key_of columns row) (Some row)) (sym (ap (λ o. put_if o old (with_row columns old row)) e)) (sets_row columns old row rises)

pub sets_same : (columns : List ℕ) (rows : List (List Value)) (key : List Value) → Rises columns rows → Sets columns rows rows key (row_at columns rows key)
sets_same columns rows key rises = record { rises = rises; here = refl; others = λ k ne. refl }

module _ (columns : List ℕ) (f : List Value → Option (List Value)) (before : List (List Value)) where
  pub changed_none : Rises columns before → Changed columns f before before []
  changed_none rises = record { rises = rises; each = λ key. refl }

  pub named_last : (named : List (List Value)) (row key : List Value) → has_key columns key row ≡ true → row_at columns named key ≡ None → row_at columns (named ++ row ∷ []) key ≡ Some row
  named_last [] row key h none = at_first columns row [] key h
  named_last (first ∷ named) row key h none = by_test (has_key columns key first) refl (named_last named row key h)
    where
      by_test : (b : Bool) → has_key columns key first ≡ b → (row_at columns named key ≡ None → row_at columns (named ++ row ∷ []) key ≡ Some row) → row_at columns (first ∷ named ++ row ∷ []) key ≡ Some row
      by_test true t rest = let met = sym (at_first columns first named key t) ∙ none in cc
      by_test false t rest = past_first columns first (named ++ row ∷ []) key t ∙ rest (sym (past_first columns first named key t) ∙ none)

  pub not_last : (named : List (List Value)) (row key : List Value) → has_key columns key row ≡ false → row_at columns (named ++ row ∷ []) key ≡ row_at columns named key
  not_last [] row key ne = past_first columns row [] key ne
  not_last (first ∷ named) row key ne = ap (λ r. cond (has_key columns key first) (Some first) r) (not_last named row key ne)

  -- one named row more, behind the others
  pub changed_more : (now new named : List (List Value)) (row : List Value) → row_at columns named (key_of columns row) ≡ None → Changed columns f before now named → Sets columns now new (key_of columns row) (f row) → Changed columns f before new (named ++ row ∷ [])
  changed_more now new named row none changed sets = record {
    rises = sets.rises;
    each = λ key. by_test key (has_key columns key row) refl;
  }
    where
      by_test : (key : List Value) (b : Bool) → has_key columns key row ≡ b → row_at columns new key ≡ chosen f (row_at columns (named ++ row ∷ []) key) (row_at columns before key)
      by_test key true h =
          let is = key_is columns row key h in
          subst (λ k. row_at columns new k ≡ f row) is sets.here
          ∙ sym (ap (λ o. chosen f o (row_at columns before key)) (named_last named row key h (subst (λ k. row_at columns named k ≡ None) is none)))
      by_test key false h =
          sets.others key h ∙ changed.each key ∙ sym (ap (λ o. chosen f o (row_at columns before key)) (not_last named row key h))

  -- and one less, where its key has again what it had before
  pub changed_less : (now new named : List (List Value)) (row : List Value) → row_at columns named (key_of columns row) ≡ None → Changed columns f before now (named ++ row ∷ []) → Sets columns now new (key_of columns row) (row_at columns before (key_of columns row)) → Changed columns f before new named
  changed_less now new named row none changed sets = record {
    rises = sets.rises;
    each = λ key. by_test key (has_key columns key row) refl;
  }
    where
      by_test : (key : List Value) (b : Bool) → has_key columns key row ≡ b → row_at columns new key ≡ chosen f (row_at columns named key) (row_at columns before key)
      by_test key true h =
          let is = key_is columns row key h in
          subst (λ k. row_at columns new k ≡ row_at columns before k) is sets.here
          ∙ sym (ap (λ o. chosen f o (row_at columns before key)) (subst (λ k. row_at columns named k ≡ None) is none))
      by_test key false h =
          sets.others key h ∙ changed.each key ∙ ap (λ o. chosen f o (row_at columns before key)) (not_last named row key h)

  -- a row named in front of the others
  pub changed_front : (now new named : List (List Value)) (row : List Value) → Changed columns f before now named → Sets columns now new (key_of columns row) (f row) → Changed columns f before new (row ∷ named)
  changed_front now new named row changed sets = record {
    rises = sets.rises;
    each = λ key. by_test key (has_key columns key row) refl;
  }
    where
      by_test : (key : List Value) (b : Bool) → has_key columns key row ≡ b → row_at columns new key ≡ chosen f (row_at columns (row ∷ named) key) (row_at columns before key)
      by_test key true h =
          subst (λ k. row_at columns new k ≡ f row) (key_is columns row key h) sets.here
          ∙ sym (ap (λ o. chosen f o (row_at columns before key)) (at_first columns row named key h))
      by_test key false h =
          sets.others key h ∙ changed.each key ∙ sym (ap (λ o. chosen f o (row_at columns before key)) (past_first columns row named key h))

  -- no row named: as before
  pub unchanged : (now : List (List Value)) → Rises columns before → Changed columns f before now [] → now ≡ before
  unchanged now rises changed = same_rows columns now before changed.rises rises changed.each

  pub same_changes : (one two named : List (List Value)) → Changed columns f before one named → Changed columns f before two named → one ≡ two
  same_changes one two named first second = same_rows columns one two first.rises second.rises (λ key. first.each key ∙ sym (second.each key))

-- a second change at the same keys
pub changed_again : (columns : List ℕ) (f g : List Value → Option (List Value)) (before between now named : List (List Value)) → Changed columns f before between named → Changed columns g between now named → Changed columns g before now named
changed_again columns f g before between now named first second = record {
  rises = second.rises;
  each = λ key. second.each key ∙ by_row key (row_at columns named key) (first.each key);
}
  where
    by_row : (key : List Value) (o : Option (List Value)) → row_at columns between key ≡ chosen f o (row_at columns before key) → chosen g o (row_at columns between key) ≡ chosen g o (row_at columns before key)
    by_row key (Some row) e = refl
    by_row key None e = e

-- changes that say the same of each named row
pub changed_as : (columns : List ℕ) (f g : List Value → Option (List Value)) (before now named : List (List Value)) → Changed columns f before now named → ((row : List Value) → row_at columns named (key_of columns row) ≡ Some row → f row ≡ g row) → Changed columns g before now named
changed_as columns f g before now named changed same = record {
  rises = changed.rises;
  each = λ key. changed.each key ∙ by_row key (row_at columns named key) refl;
}
  where
    by_row : (key : List Value) (o : Option (List Value)) → row_at columns named key ≡ o → chosen f o (row_at columns before key) ≡ chosen g o (row_at columns before key)
    by_row key None e = refl
    by_row key (Some row) e =
        same row (ap (row_at columns named) (row_has_key columns named key row e) ∙ e)
