-- The rows of a job are ones of its derived table as they stand, so their sums can be made.
use Rattle.std.proofs.Common.{◌≡◌, ℕ, ◌^◌, List, [], ◌∷◌, length, map, Result, Ok, Err, IfOk, sym, ap, ◌∙◌, refl, subst, arith}
use Rattle.std.specs.List.{AllByRecursion}
use Rattle.strip_value.specs.declared.actions.Bound.{Bound}
use Rattle.strip_value.specs.declared.tables.ColumnDef.{ColumnDef}
use Rattle.strip_value.specs.declared.tables.TableDef.{TableDef}
use Rattle.strip_value.specs.declared.values.Value.{Value}
use Rattle.strip_value.specs.Kinds.{FitsColumns}
use Rattle.strip_meaning.specs.Sums.{IsUnder, as_derived, folded, totals_of}
use Rattle.strip_add.proofs.SumLaws.{fits_length}
use Rattle.strip_engine.specs.Jobs.{CanFold, rows_in}

-- the columns of a row of three values, in their order
abbrev pub in_place : List ℕ
in_place = 0 ∷ 1 ∷ 2 ∷ []

-- such a row is a row of the derived table as it stands
pub derived_as_is : (row : List Value) → length row ≡ 3 → as_derived in_place row ≡ row
derived_as_is [] e = absurd (omega arith)
derived_as_is (a ∷ []) e = absurd (omega arith)
derived_as_is (a ∷ b ∷ []) e = absurd (omega arith)
derived_as_is (a ∷ b ∷ c ∷ []) e = refl
derived_as_is (a ∷ b ∷ c ∷ d ∷ row) e = absurd (omega arith)

pub three_wide : (columns : List ColumnDef) (row : List Value) → length columns ≡ 3 → FitsColumns columns row → as_derived in_place row ≡ row
three_wide columns row wide fits = derived_as_is row (fits_length columns row fits ∙ wide)

module _ (columns : List ColumnDef) (wide : length columns ≡ 3) where
  pub all_as_is : (bounds : List Bound) → AllByRecursion (λ (b : Bound). FitsColumns columns b.row) bounds → map (as_derived in_place) (rows_in bounds) ≡ rows_in bounds
  all_as_is [] fits = refl
  all_as_is (b ∷ bounds) fits =
      ap (λ row. row ∷ map (as_derived in_place) (rows_in bounds)) (three_wide columns b.row wide fits.0) ∙ ap (λ rows. b.row ∷ rows) (all_as_is bounds fits.1)

  -- what holds of the rows holds of them as rows of the derived table
  pub all_so : (P : List Value → Type 0) (bounds : List Bound) → AllByRecursion (λ (b : Bound). FitsColumns columns b.row) bounds → AllByRecursion (λ (b : Bound). P b.row) bounds → AllByRecursion (λ row. P (as_derived in_place row)) (rows_in bounds)
  all_so P [] fits all = tt
  all_so P (b ∷ bounds) fits all = (subst P (sym (three_wide columns b.row wide fits.0)) all.0, all_so P bounds fits.1 all.1)

pub job_kinds : (def : TableDef) (bounds : List Bound) → CanFold def bounds → AllByRecursion (λ row. FitsColumns def.columns (as_derived in_place row)) (rows_in bounds)
job_kinds def bounds can = all_so def.columns can.wide (FitsColumns def.columns) bounds can.fits can.fits

pub job_small : (def : TableDef) (bounds : List Bound) → CanFold def bounds → AllByRecursion (λ row. AllByRecursion (IsUnder (2 ^ 63)) (totals_of def (as_derived in_place row))) (rows_in bounds)
job_small def bounds can =
    all_so def.columns can.wide (λ row. AllByRecursion (IsUnder (2 ^ 63)) (totals_of def row)) bounds can.fits can.small

pub job_folded : (def : TableDef) (bounds : List Bound) (rows : List (List Value)) {E : Type 0} (r : Result (List (List Value)) E) → CanFold def bounds → rows ≡ rows_in bounds → IfOk r (λ totals. totals ≡ folded def (map (as_derived in_place) rows)) → IfOk r (λ totals. totals ≡ folded def (rows_in bounds))
job_folded def bounds rows (Ok totals) can plain made =
    made ∙ ap (λ all. folded def (map (as_derived in_place) all)) plain ∙ ap (folded def) (all_as_is def.columns can.wide bounds can.fits)
job_folded def bounds rows (Err e) can plain made = tt
