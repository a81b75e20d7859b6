-- The laws of the static bound.
use Rattle.std.specs.Prelude.{ℕ, ◌^◌, ◌<◌, ◌≤◌, nat_abs, List, [], ◌∷◌, map, length}
use Rattle.std.specs.List.{AllByRecursion}
use Rattle.strip_value.specs.declared.kinds.Kind.{Kind}
use Rattle.strip_value.specs.declared.values.Value.{Value}
use Rattle.strip_value.specs.declared.expressions.Calc.{Calc}
use Rattle.strip_value.specs.Bounds.{IsNarrow, IsNumeric, SuitsCalc, magnitude_of}
use Rattle.strip_value.specs.Kinds.{FitsKinds}
use Rattle.strip_value.specs.Query.{number_of, sum_of, value_at}
use Rattle.strip_value.specs.Trees as tree

-- one row for each entry, of the entry's kinds
abbrev pub FitEntries : List (List Kind) → List (List Value) → Type 0
FitEntries [] [] = Unit {0}
FitEntries (ks ∷ kinds) (row ∷ rows) = FitsKinds ks row × FitEntries kinds rows
FitEntries _ _ = ⊥

-- how far the number of an expression is from 0
abbrev pub distance : List (List Value) → Calc → ℕ
distance rows e = nat_abs (number_of (value_at rows e))

-- a number is at most as far from 0 as the bound of its expression says, where the bound isn't capped
abbrev pub BoundsHold : Type 0
BoundsHold =
    (kinds : List (List Kind)) (rows : List (List Value)) (e : Calc) → FitEntries kinds rows → IsNumeric kinds e → magnitude_of kinds e < 2 ^ 127
    → distance rows e ≤ magnitude_of kinds e

-- each sum, difference and product in the expression is less than 2^63 from 0
abbrev pub IsNear : List (List Value) → Calc → Type 0
IsNear rows (tree.Add a b) = IsNear rows a × IsNear rows b × (distance rows (tree.Add a b) < 2 ^ 63)
IsNear rows (tree.Sub a b) = IsNear rows a × IsNear rows b × (distance rows (tree.Sub a b) < 2 ^ 63)
IsNear rows (tree.Mul a b) = IsNear rows a × IsNear rows b × (distance rows (tree.Mul a b) < 2 ^ 63)
IsNear rows _ = Unit {0}

abbrev pub PartsStayNarrow : Type 0
PartsStayNarrow = (kinds : List (List Kind)) (rows : List (List Value)) (e : Calc) → FitEntries kinds rows → SuitsCalc kinds e → IsNear rows e

-- the sum of an expression over combinations of rows
abbrev pub sum_over : Calc → List (List (List Value)) → ℕ
sum_over e group = nat_abs (sum_of (map (λ rows. number_of (value_at rows e)) group))

abbrev pub SumsStayBig : Type 0
SumsStayBig =
    (kinds : List (List Kind)) (group : List (List (List Value))) (e : Calc) → AllByRecursion (FitEntries kinds) group → IsNumeric kinds e → IsNarrow kinds e → length group < 2 ^ 62
    → sum_over e group < 2 ^ 126
