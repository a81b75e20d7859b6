-- The laws of the static bound, by recursion on expressions.
use Rattle.std.proofs.Common.{ℕ, zero, suc, ◌*◌, ◌^◌, ◌<◌, ◌≤◌, List, [], ◌∷◌, length, get_or, arith}
use Rattle.std.specs.Prelude.{pos, nat_abs}
use Rattle.std.specs.List.{AllByRecursion}
use Rattle.strip_value.specs.declared.kinds.Kind.{Kind}
use Rattle.strip_value.specs.declared.kinds.Kind.TheVariants as kind
use Rattle.strip_value.specs.declared.values.Value.{Value}
use Rattle.strip_value.specs.declared.values.Value.TheVariants.{Int, Text}
use Rattle.strip_value.specs.declared.expressions.Calc.{Calc}
use Rattle.strip_value.specs.declared.expressions.Calc as calc
use Rattle.strip_value.specs.Kinds.{Fits, FitsKinds}
use Rattle.strip_value.specs.Trees as tree
use Rattle.strip_value.specs.Query.{number_of, value_at}
use Rattle.strip_value.specs.Bounds.{IsBounded, IsNarrow, IsNumeric, SuitsCalc, kind_magnitude, magnitude_of}
use Rattle.strip_query.specs.Laws.{FitEntries, IsNear, distance, sum_over}
use Rattle.strip_query.proofs.Distances.{abs_between, abs_inside, difference_within, one_more, product_within, sum_below, sum_within, under_cap}

-- ---- columns

value_within : (k : Kind) (v : Value) → Fits k v → nat_abs (number_of v) ≤ kind_magnitude k
value_within kind.Int (Int n) fits = abs_between n (2 ^ 31) fits.0 fits.1
value_within kind.Big (Int n) fits = abs_inside n (2 ^ 126) fits.0 fits.1
value_within kind.Text (Int n) fits = absurd fits
value_within kind.Int (Text t) fits = absurd fits
value_within kind.Big (Text t) fits = absurd fits
value_within kind.Text (Text t) fits = omega arith

column_within : (kinds : List Kind) (row : List Value) (column : ℕ) → FitsKinds kinds row → nat_abs (number_of (get_or row column (Int (pos 0)))) ≤ kind_magnitude (get_or kinds column kind.Text)
column_within [] [] column fit = omega arith
column_within [] (v ∷ row) column fit = absurd fit
column_within (k ∷ kinds) [] column fit = absurd fit
column_within (k ∷ kinds) (v ∷ row) zero fit = value_within k v fit.0
column_within (k ∷ kinds) (v ∷ row) (suc column) fit = column_within kinds row column fit.1

entry_fits : (kinds : List (List Kind)) (rows : List (List Value)) (entry : ℕ) → FitEntries kinds rows → FitsKinds (get_or kinds entry []) (get_or rows entry [])
entry_fits [] [] entry fit = tt
entry_fits [] (row ∷ rows) entry fit = absurd fit
entry_fits (ks ∷ kinds) [] entry fit = absurd fit
entry_fits (ks ∷ kinds) (row ∷ rows) zero fit = fit.0
entry_fits (ks ∷ kinds) (row ∷ rows) (suc entry) fit = entry_fits kinds rows entry fit.1

-- ---- expressions

pub bounds_hold : (kinds : List (List Kind)) (rows : List (List Value)) (e : Calc) → FitEntries kinds rows → IsNumeric kinds e → magnitude_of kinds e < 2 ^ 127 → distance rows e ≤ magnitude_of kinds e
bounds_hold kinds rows (calc.Number n) fit numeric low = omega arith
bounds_hold kinds rows (calc.Text t) fit numeric low = absurd numeric
bounds_hold kinds rows (calc.Column entry column) fit numeric low =
    column_within (get_or kinds entry []) (get_or rows entry []) column (entry_fits kinds rows entry fit)
bounds_hold kinds rows (tree.Add a b) fit numeric low =
    sum_within (number_of (value_at rows a)) (number_of (value_at rows b)) (magnitude_of kinds a) (magnitude_of kinds b) (2 ^ 127) (bounds_hold kinds rows a fit numeric.0) (bounds_hold kinds rows b fit numeric.1) low
bounds_hold kinds rows (tree.Sub a b) fit numeric low =
    difference_within (number_of (value_at rows a)) (number_of (value_at rows b)) (magnitude_of kinds a) (magnitude_of kinds b) (2 ^ 127) (bounds_hold kinds rows a fit numeric.0) (bounds_hold kinds rows b fit numeric.1) low
bounds_hold kinds rows (tree.Mul a b) fit numeric low =
    product_within (number_of (value_at rows a)) (number_of (value_at rows b)) (magnitude_of kinds a) (magnitude_of kinds b) (2 ^ 127) (bounds_hold kinds rows a fit numeric.0) (bounds_hold kinds rows b fit numeric.1) low

narrow_near : (kinds : List (List Kind)) (rows : List (List Value)) (e : Calc) → FitEntries kinds rows → IsNumeric kinds e → IsNarrow kinds e → distance rows e < 2 ^ 63
narrow_near kinds rows e fit numeric narrow =
    under_cap (distance rows e) (magnitude_of kinds e) (2 ^ 63) (2 ^ 127) (omega arith) narrow (bounds_hold kinds rows e fit numeric)

numeric_near : (kinds : List (List Kind)) (rows : List (List Value)) (e : Calc) → FitEntries kinds rows → IsNumeric kinds e → IsBounded kinds e → IsNear rows e
numeric_near kinds rows (calc.Number n) fit numeric bounded = tt
numeric_near kinds rows (calc.Text t) fit numeric bounded = tt
numeric_near kinds rows (calc.Column entry column) fit numeric bounded = tt
numeric_near kinds rows (tree.Add a b) fit numeric bounded =
    (numeric_near kinds rows a fit numeric.0 bounded.0, numeric_near kinds rows b fit numeric.1 bounded.1, narrow_near kinds rows (tree.Add a b) fit numeric bounded.2)
numeric_near kinds rows (tree.Sub a b) fit numeric bounded =
    (numeric_near kinds rows a fit numeric.0 bounded.0, numeric_near kinds rows b fit numeric.1 bounded.1, narrow_near kinds rows (tree.Sub a b) fit numeric bounded.2)
numeric_near kinds rows (tree.Mul a b) fit numeric bounded =
    (numeric_near kinds rows a fit numeric.0 bounded.0, numeric_near kinds rows b fit numeric.1 bounded.1, narrow_near kinds rows (tree.Mul a b) fit numeric bounded.2)

pub parts_stay_narrow : (kinds : List (List Kind)) (rows : List (List Value)) (e : Calc) → FitEntries kinds rows → SuitsCalc kinds e → IsNear rows e
parts_stay_narrow kinds rows (calc.Number n) fit suits = tt
parts_stay_narrow kinds rows (calc.Text t) fit suits = tt
parts_stay_narrow kinds rows (calc.Column entry column) fit suits = tt
parts_stay_narrow kinds rows (tree.Add a b) fit suits = numeric_near kinds rows (tree.Add a b) fit suits.0 suits.1
parts_stay_narrow kinds rows (tree.Sub a b) fit suits = numeric_near kinds rows (tree.Sub a b) fit suits.0 suits.1
parts_stay_narrow kinds rows (tree.Mul a b) fit suits = numeric_near kinds rows (tree.Mul a b) fit suits.0 suits.1

-- ---- sums

sum_within_product : (kinds : List (List Kind)) (group : List (List (List Value))) (e : Calc) → AllByRecursion (FitEntries kinds) group → IsNumeric kinds e → magnitude_of kinds e < 2 ^ 127 → sum_over e group ≤ length group * magnitude_of kinds e
sum_within_product kinds [] e fit numeric low = omega arith
sum_within_product kinds (rows ∷ group) e fit numeric low =
    one_more (number_of (value_at rows e)) _ (magnitude_of kinds e) (length group) (bounds_hold kinds rows e fit.0 numeric low) (sum_within_product kinds group e fit.1 numeric low)

below_big : (d n m : ℕ) → n < 2 ^ 62 → m < 2 ^ 63 → d ≤ n * m → d < 2 ^ 126
below_big d n m few narrow within = let near = sum_below d n m (2 ^ 62) (2 ^ 63) few narrow within in omega arith

pub sums_stay_big : (kinds : List (List Kind)) (group : List (List (List Value))) (e : Calc) → AllByRecursion (FitEntries kinds) group → IsNumeric kinds e → IsNarrow kinds e → length group < 2 ^ 62 → sum_over e group < 2 ^ 126
sums_stay_big kinds group e fit numeric narrow few =
    below_big (sum_over e group) (length group) (magnitude_of kinds e) few narrow (sum_within_product kinds group e fit numeric (omega arith))
