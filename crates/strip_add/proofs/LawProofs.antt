-- The laws of sums per key, from what adding and folding make of each key.
use Rattle.std.proofs.Common.{◌≡◌, ℕ, suc, zero, ◌^◌, ◌<◌, Bool, true, false, not, ◌||◌, cond, List, [], ◌∷◌, ◌++◌, length, replicate, Option, Some, None, is_some, refl, sym, ap, ◌∙◌, subst, arith, append_assoc, length-append}
use Rattle.std.specs.Prelude.{ℤ, pos}
use Rattle.std.specs.List.{AllByRecursion}
use Rattle.std.specs.Ordering.{int_eq, int_cmp, is_eq}
use Rattle.std.specs.declared.cmp.Ordering.{Ordering}
use Rattle.std.specs.declared.cmp.Ordering.TheVariants.{Less, Equal, Greater}
use Rattle.std.proofs.lemmas.Cmp.{int_ranked}
use Rattle.strip_value.specs.declared.values.Value.{Value}
use Rattle.strip_value.specs.declared.tables.TableDef.{TableDef}
use Rattle.strip_value.specs.Kinds.{FitsColumns}
use Rattle.strip_value.specs.Table.{key_of, has_key, Rises, row_at}
use Rattle.strip_value.proofs.KeyedLaws.{find_all}
use Rattle.strip_value.proofs.Lists.{all_left, all_right}
use Rattle.strip_meaning.specs.Sums.{IsDerived, IsShown, IsUnder, any_total, has_total, applied, folded, plus, row_of, summed, sums_at, totals_at, totals_of, totals_or, zeros}
use Rattle.strip_add.specs.Parts.{chosen, Changed}
use Rattle.strip_add.specs.Laws.{CanBeAdded, AllUnder}
use Rattle.strip_add.proofs.KeyedAsMaps.{row_has_key}
use Rattle.strip_add.proofs.SumLaws.{width, plus_comm, plus_zeros, length_key, length_plus, length_totals, length_totals_at, totals_of_row, SummedThere, summed_there, sums_append, sums_none, FoldedSoFar, folded_none, folded_more, folded_each, folded_all, sums_fit}
use Rattle.strip_add.proofs.ApplyLaws.{kept_sum, applied_changed}

equal_of : (o : Ordering) → is_eq o ≡ true → o ≡ Equal
equal_of Less e = cc
equal_of Equal e = refl
equal_of Greater e = cc

-- totals that are all zero
pub all_zero : (totals : List ℤ) → any_total totals ≡ false → totals ≡ replicate (length totals) (pos 0)
all_zero [] e = refl
all_zero (t ∷ totals) e = by_test (int_eq t (pos 0)) refl (all_zero totals)
  where
    by_test : (b : Bool) → int_eq t (pos 0) ≡ b → (any_total totals ≡ false → totals ≡ replicate (length totals) (pos 0)) → t ∷ totals ≡ pos 0 ∷ replicate (length totals) (pos 0)
    by_test true h rest =
        let zero_is : t ≡ pos 0 = int_ranked t (pos 0) Equal (sym (equal_of (int_cmp t (pos 0)) h)) in
        let others = rest (sym (ap (λ b. not b || any_total totals) h) ∙ e) in
        cc
    by_test false h rest = let met : true ≡ false = sym (ap (λ b. not b || any_total totals) h) ∙ e in cc

pub any_zeros : (n : ℕ) → any_total (replicate n (pos 0)) ≡ false
any_zeros zero = refl
any_zeros (suc n) = any_zeros n

-- the totals of a row of sums, whether the row is shown or not
kept_totals : (def : TableDef) (table : List (List Value)) (row : List Value) → SummedThere def table row → length (totals_of def (summed def table row)) ≡ width def → totals_or def (kept_sum def table row) ≡ totals_of def (summed def table row)
kept_totals def table row there long = by_test (has_total def (summed def table row)) refl
  where
    by_test : (b : Bool) → has_total def (summed def table row) ≡ b → totals_or def (cond b (Some (summed def table row)) None) ≡ totals_of def (summed def table row)
    by_test true e = refl
    by_test false e = sym (all_zero (totals_of def (summed def table row)) e ∙ ap (λ n. replicate n (pos 0)) long)

summed_long : (def : TableDef) (table : List (List Value)) (row : List Value) → SummedThere def table row → AllByRecursion (FitsColumns def.columns) table → FitsColumns def.columns row → length (totals_of def (summed def table row)) ≡ width def
summed_long def table row there all fits =
    let old = length_totals_at def table (key_of def.key row) all in
    let more = length_totals def row fits in
    ap length there.totals ∙ length_plus (totals_at def table (key_of def.key row)) (totals_of def row) (omega arith) ∙ more

module _ (def : TableDef) (table totals : List (List Value)) (can : CanBeAdded def table totals) where
  changed : Changed def.key (kept_sum def table) table (applied def table totals) totals
  changed = applied_changed def table totals can.derived can.is_table.rises

  one_there : (row : List Value) → FitsColumns def.columns row → SummedThere def table row
  one_there row fits = summed_there def table row can.derived can.is_table.fits fits

  named_fits : (key row : List Value) → row_at def.key totals key ≡ Some row → FitsColumns def.columns row
  named_fits key row e = find_all (FitsColumns def.columns) (has_key def.key key) totals row can.kinds e

  pub adding_adds : (key : List Value) → totals_at def (applied def table totals) key ≡ plus (totals_at def table key) (totals_at def totals key)
  adding_adds key = ap (totals_or def) (changed.each key) ∙ by_row (row_at def.key totals key) refl
    where
      by_row : (o : Option (List Value)) → row_at def.key totals key ≡ o → totals_or def (chosen (kept_sum def table) o (row_at def.key table key)) ≡ plus (totals_at def table key) (totals_or def o)
      by_row (Some row) e =
          let fits = named_fits key row e in
          let there = one_there row fits in
          kept_totals def table row there (summed_long def table row there can.is_table.fits fits)
          ∙ there.totals ∙ ap (λ k. plus (totals_at def table k) (totals_of def row)) (row_has_key def.key totals key row e)
      by_row None e =
          sym (plus_comm (totals_at def table key) (zeros def) ∙ plus_zeros def (totals_at def table key) (length_totals_at def table key can.is_table.fits))

  kept_shown : (row : List Value) → is_some (kept_sum def table row) ≡ any_total (totals_or def (kept_sum def table row))
  kept_shown row = by_test (has_total def (summed def table row)) refl
    where
      by_test : (b : Bool) → has_total def (summed def table row) ≡ b → is_some (cond b (Some (summed def table row)) None) ≡ any_total (totals_or def (cond b (Some (summed def table row)) None))
      by_test true e = sym e
      by_test false e = sym (any_zeros (width def))

  pub adding_shows_named : (key row : List Value) → row_at def.key totals key ≡ Some row → is_some (row_at def.key (applied def table totals) key) ≡ any_total (totals_at def (applied def table totals) key)
  adding_shows_named key row e =
      let is : row_at def.key (applied def table totals) key ≡ kept_sum def table row = changed.each key ∙ ap (λ o. chosen (kept_sum def table) o (row_at def.key table key)) e in
      ap is_some is ∙ kept_shown row ∙ sym (ap (λ o. any_total (totals_or def o)) is)

  pub adding_shows : IsShown def table → IsShown def (applied def table totals)
  adding_shows shown key = by_row (row_at def.key totals key) refl
    where
      by_row : (o : Option (List Value)) → row_at def.key totals key ≡ o → is_some (row_at def.key (applied def table totals) key) ≡ any_total (totals_at def (applied def table totals) key)
      by_row (Some row) e = adding_shows_named key row e
      by_row None e =
          let is : row_at def.key (applied def table totals) key ≡ row_at def.key table key = changed.each key ∙ ap (λ o. chosen (kept_sum def table) o (row_at def.key table key)) e in
          ap is_some is ∙ shown key ∙ sym (ap (λ o. any_total (totals_or def o)) is)

  pub added_rise : Rises def.key (applied def table totals)
  added_rise = changed.rises

pub folds_sum : (def : TableDef) (rows : List (List Value)) (key : List Value) → IsDerived def → totals_at def (folded def rows) key ≡ sums_at def rows key
folds_sum def rows key derived = ap (totals_or def) (folded_each def rows key derived) ∙ by_row (row_at def.key rows key) refl
  where
    by_row : (o : Option (List Value)) → row_at def.key rows key ≡ o → totals_or def (cond (is_some o) (Some (row_of key (sums_at def rows key))) None) ≡ sums_at def rows key
    by_row (Some row) e =
        totals_of_row def key (sums_at def rows key) (ap length (sym (row_has_key def.key rows key row e)) ∙ length_key def.key row)
    by_row None e = sym (sums_none def rows key e)

pub folds_append : (def : TableDef) (one two : List (List Value)) (key : List Value) → IsDerived def → AllByRecursion (FitsColumns def.columns) two → totals_at def (folded def (one ++ two)) key ≡ plus (totals_at def (folded def one) key) (totals_at def (folded def two) key)
folds_append def one two key derived all =
    folds_sum def (one ++ two) key derived ∙ sums_append def one two key all
    ∙ sym (ap (λ s. plus s (totals_at def (folded def two) key)) (folds_sum def one key derived) ∙ ap (plus (sums_at def one key)) (folds_sum def two key derived))

-- the fold of rows, one after another
so_far : (def : TableDef) (seen rest sums : List (List Value)) → IsDerived def → FoldedSoFar def def sums seen → AllByRecursion (FitsColumns def.columns) rest → length (seen ++ rest) < 2 ^ 62 → AllUnder def (2 ^ 63) (seen ++ rest) → (end : List (List Value)) × FoldedSoFar def def end (seen ++ rest)
so_far def seen [] sums derived f fits few under = (sums, subst (FoldedSoFar def def sums) (no_more seen) f)
  where
    no_more : (rows : List (List Value)) → rows ≡ rows ++ []
    no_more [] = refl
    no_more (r ∷ rows) = ap (λ rs. r ∷ rs) (no_more rows)
so_far def seen (row ∷ rest) sums derived f fits few under =
    let Under : List Value → Type 0 = λ r. AllByRecursion (IsUnder (2 ^ 63)) (totals_of def r) in
    let split = append_assoc seen (row ∷ []) rest in
    let fewer : length seen < 2 ^ 62 = omega (arith, length-append seen (row ∷ rest)) in
    let sum = sums_fit def def sums seen row f fewer (all_left Under seen (row ∷ rest) under) (all_right Under seen (row ∷ rest) under).0 in
    let more = folded_more def def sums seen row derived f fits.0 sum in
    let end = so_far def (seen ++ row ∷ []) rest _ derived more fits.1 (subst (λ rows. length rows < 2 ^ 62) (sym split) few) (subst (AllUnder def (2 ^ 63)) (sym split) under) in
    (end.0, subst (FoldedSoFar def def end.0) split end.1)

pub folded_fit : (def : TableDef) (rows : List (List Value)) → IsDerived def → AllByRecursion (FitsColumns def.columns) rows → length rows < 2 ^ 62 → AllUnder def (2 ^ 63) rows → AllByRecursion (FitsColumns def.columns) (folded def rows)
folded_fit def rows derived fits few under =
    let end = so_far def [] rows [] derived (folded_none def) fits few under in
    subst (AllByRecursion (FitsColumns def.columns)) (folded_all def def end.0 rows derived end.1) end.1.fits
