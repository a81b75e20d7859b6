-- What the tests' rows of three numbers meet, and the first totals that are added to an empty table.
use Rattle.std.proofs.Common.{◌≡◌, ℕ, suc, zero, ◌^◌, ◌<◌, ◌≤◌, List, [], ◌∷◌, length, map, drop, refl, sym, ap, subst, arith}
use Rattle.std.proofs.lemmas.Int.{ints}
use Rattle.std.proofs.lemmas.List.{length-map}
use Rattle.std.specs.List.{AllByRecursion}
use Rattle.strip_value.specs.declared.kinds.Kind.TheVariants as kind
use Rattle.strip_value.specs.declared.values.Value.{Value}
use Rattle.strip_value.specs.declared.values.Value.TheVariants.{Int, Text}
use Rattle.strip_value.specs.declared.tables.ColumnDef.{ColumnDef}
use Rattle.strip_value.specs.declared.tables.TableDef.{TableDef}
use Rattle.strip_value.specs.Kinds.{Fits, FitsColumns}
use Rattle.strip_value.specs.Table.{Keyed, Rises}
use Rattle.strip_value.proofs.Lists.{all_weaker}
use Rattle.strip_meaning.specs.Sums.{CountsUp, IsDerived, IsUnder, as_derived, folded, number_of, totals_of}
use Rattle.strip_add.specs.Parts.{IsUnderAfter}
use Rattle.strip_add.specs.Cells.{AreInts, HaveKinds, IsCellsDef}
use Rattle.strip_add.proofs.SumLaws.{length_totals, plus_zeros, folded_rises}
use Rattle.strip_add.proofs.LawProofs.{folded_fit}

abbrev three : List ℕ
three = 0 ∷ 1 ∷ 2 ∷ []

big_of : (v : Value) → Fits kind.Int v → Fits kind.Big v
big_of (Int n) fits = (let low = fits.0 in let high = fits.1 in omega (arith, ints), let low = fits.0 in let high = fits.1 in omega (arith, ints))
big_of (Text t) fits = absurd fits

under_of : (v : Value) → Fits kind.Int v → IsUnder (2 ^ 63) (number_of v)
under_of (Int n) fits = (let low = fits.0 in let high = fits.1 in omega (arith, ints), let low = fits.0 in let high = fits.1 in omega (arith, ints))
under_of (Text t) fits = absurd fits

row_fits : (columns : List ColumnDef) (row : List Value) → HaveKinds columns → AreInts row → FitsColumns columns (as_derived three row)
row_fits [] row kinds are = absurd kinds
row_fits (a ∷ []) row kinds are = absurd kinds
row_fits (a ∷ b ∷ []) row kinds are = absurd kinds
row_fits (a ∷ b ∷ c ∷ d ∷ columns) row kinds are = absurd kinds
row_fits (a ∷ b ∷ c ∷ []) [] kinds are = absurd are
row_fits (a ∷ b ∷ c ∷ []) (x ∷ []) kinds are = absurd are
row_fits (a ∷ b ∷ c ∷ []) (x ∷ y ∷ []) kinds are = absurd are
row_fits (a ∷ b ∷ c ∷ []) (x ∷ y ∷ z ∷ w ∷ row) kinds are = absurd are
row_fits (a ∷ b ∷ c ∷ []) (x ∷ y ∷ z ∷ []) kinds are =
    (subst (λ k. Fits k x) (sym kinds.0) are.0, (subst (λ k. Fits k y) (sym kinds.1) (big_of y are.1), (subst (λ k. Fits k z) (sym kinds.2) (big_of z are.2), tt)))

row_small : (row : List Value) → AreInts row → AllByRecursion (IsUnder (2 ^ 63)) (map number_of (drop 1 (as_derived three row)))
row_small [] are = absurd are
row_small (x ∷ []) are = absurd are
row_small (x ∷ y ∷ []) are = absurd are
row_small (x ∷ y ∷ z ∷ w ∷ row) are = absurd are
row_small (x ∷ y ∷ z ∷ []) are = (under_of y are.1, (under_of z are.2, tt))

pub cells_fit : (def : TableDef) (rows : List (List Value)) → IsCellsDef def → AllByRecursion AreInts rows → AllByRecursion (λ row. FitsColumns def.columns (as_derived three row)) rows
cells_fit def rows cells all = all_weaker AreInts (λ row. FitsColumns def.columns (as_derived three row)) (λ row are. row_fits def.columns row cells.columns are) rows all

pub cells_small : (def : TableDef) (rows : List (List Value)) → IsCellsDef def → AllByRecursion AreInts rows → AllByRecursion (λ row. AllByRecursion (IsUnder (2 ^ 63)) (totals_of def (as_derived three row))) rows
cells_small def rows cells all =
    all_weaker AreInts (λ row. AllByRecursion (IsUnder (2 ^ 63)) (totals_of def (as_derived three row))) (λ row are.
    subst (λ (k : List ℕ). AllByRecursion (IsUnder (2 ^ 63)) (map number_of (drop (length k) (as_derived three row)))) (sym cells.key) (row_small row are)) rows all

all_mapped : (f : List Value → List Value) (Q : List Value → Type 0) (rows : List (List Value)) → AllByRecursion (λ row. Q (f row)) rows → AllByRecursion Q (map f rows)
all_mapped f Q [] all = tt
all_mapped f Q (row ∷ rows) all = (all.0, all_mapped f Q rows all.1)

-- what is folded of them can be added
pub cells_folded : (def : TableDef) (rows : List (List Value)) → IsDerived def → IsCellsDef def → AllByRecursion AreInts rows → length rows < 2 ^ 62 → AllByRecursion (FitsColumns def.columns) (folded def (map (as_derived three) rows))
cells_folded def rows derived cells all few =
    folded_fit def (map (as_derived three) rows) derived (all_mapped (as_derived three) (FitsColumns def.columns) rows (cells_fit def rows cells all))
    (let long = length-map rows (as_derived three) in omega arith)
    (all_mapped (as_derived three) (λ row. AllByRecursion (IsUnder (2 ^ 63)) (totals_of def row)) rows (cells_small def rows cells all))

total_under : (v : Value) → Fits kind.Big v → IsUnder (2 ^ 126) (number_of v)
total_under (Int n) fits = fits
total_under (Text t) fits = absurd fits

totals_under : (n : ℕ) (columns : List ColumnDef) (row : List Value) → FitsColumns columns row → AllByRecursion (λ (c : ColumnDef). c.kind ≡ kind.Big) (drop n columns) → AllByRecursion (IsUnder (2 ^ 126)) (map number_of (drop n row))
totals_under (suc n) [] [] fits big = tt
totals_under (suc n) [] (v ∷ row) fits big = absurd fits
totals_under (suc n) (c ∷ columns) [] fits big = absurd fits
totals_under (suc n) (c ∷ columns) (v ∷ row) fits big = totals_under n columns row fits.1 big
totals_under zero [] [] fits big = tt
totals_under zero [] (v ∷ row) fits big = absurd fits
totals_under zero (c ∷ columns) [] fits big = absurd fits
totals_under zero (c ∷ columns) (v ∷ row) fits big = (total_under v (subst (λ k. Fits k v) big.0 fits.0), totals_under zero columns row fits.1 big.1)

-- the first totals of a table
pub first_within : (def : TableDef) (rows : List (List Value)) → IsDerived def → AllByRecursion (FitsColumns def.columns) rows → AllByRecursion (IsUnderAfter def []) rows
first_within def rows derived all =
    all_weaker (FitsColumns def.columns) (IsUnderAfter def []) (λ row fits.
    subst (AllByRecursion (IsUnder (2 ^ 126))) (sym (plus_zeros def (totals_of def row) (length_totals def row fits))) (totals_under (length def.key) def.columns row fits derived.totals)) rows all

three_columns : (columns : List ColumnDef) → HaveKinds columns → (1 ≤ length columns) × AllByRecursion (λ (c : ColumnDef). c.kind ≡ kind.Big) (drop 1 columns)
three_columns [] kinds = absurd kinds
three_columns (a ∷ []) kinds = absurd kinds
three_columns (a ∷ b ∷ []) kinds = absurd kinds
three_columns (a ∷ b ∷ c ∷ d ∷ columns) kinds = absurd kinds
three_columns (a ∷ b ∷ c ∷ []) kinds = (omega arith, (kinds.1, (kinds.2, tt)))

pub cells_derived : (def : TableDef) → IsCellsDef def → IsDerived def
cells_derived def cells =
    let columns = three_columns def.columns cells.columns in
    record {
      key_first = subst (CountsUp 0) (sym cells.key) (refl, tt);
      key_within = let long = ap length cells.key in let most = columns.0 in omega arith;
      totals = subst (λ (k : List ℕ). AllByRecursion (λ (c : ColumnDef). c.kind ≡ kind.Big) (drop (length k) def.columns)) (sym cells.key) columns.1;
      unlimited = cells.unlimited;
    }

-- the first totals can be added to an empty table
pub record FirstAdded (table : Keyed) (totals : List (List Value)) : Type 0 where
  pub rise : Rises table.def.key totals
  pub kinds : AllByRecursion (FitsColumns table.def.columns) totals
  pub within : AllByRecursion (IsUnderAfter table.def table.rows) totals

pub first_added : (def : TableDef) (rows totals : List (List Value)) (table : Keyed) → IsCellsDef def → AllByRecursion AreInts rows → length rows < 2 ^ 62 → totals ≡ folded def (map (as_derived three) rows) → table.def ≡ def → table.rows ≡ [] → FirstAdded table totals
first_added def rows totals table cells all few totals_are def_is none =
    let derived = cells_derived def cells in
    let fits = cells_folded def rows derived cells all few in
    let empty : FirstAdded (record { def = def; rows = [] }) (folded def (map (as_derived three) rows)) = record {
      rise = folded_rises def (map (as_derived three) rows) derived;
      kinds = fits;
      within = first_within def (folded def (map (as_derived three) rows)) derived fits;
    } in
    subst (FirstAdded table) (sym totals_are)
    (subst (λ (d : TableDef). FirstAdded (record { def = d; rows = table.rows }) (folded def (map (as_derived three) rows))) (sym def_is)
    (subst (λ (r : List (List Value)). FirstAdded (record { def = def; rows = r }) (folded def (map (as_derived three) rows))) (sym none) empty))
