-- What is said of an expression, told from its parts: an equation for each variant that holds parts.
use Rattle.std.proofs.Common.{◌≡◌, ◌+◌, ◌*◌, ◌&&◌, List, max, nat_lt, sym, ap, ◌∙◌}
use Rattle.strip_value.specs.declared.expressions.Calc.{Calc}
use Rattle.strip_value.specs.declared.expressions.Calc.TheVariants as calc
use Rattle.strip_value.specs.declared.expressions.Test.{Test}
use Rattle.strip_value.specs.declared.expressions.Test.TheVariants as test
use Rattle.strip_value.specs.declared.kinds.Kind.{Kind}
use Rattle.strip_value.specs.Bounds.{capped, magnitude_of}
use Rattle.strip_value.specs.Trees.{Add-is, Sub-is, Mul-is, Not-is, And-is, Or-is}
use Rattle.strip_acts.specs.Shapes.{calc_level, calc_lines, calc_operators, calc_parentheses, test_level, test_lines, test_operators, test_parentheses}
use Rattle.strip_acts.specs.Suiting.{is_bounded, is_narrow, is_numeric, suits_truth}
use Rattle.strip_acts.specs.Writable.{opened}

-- ---- how far from 0 it may be

pub magnitude_of_add : (kinds : List (List Kind)) (a b : Calc)
    → magnitude_of kinds (calc.Add a b) ≡ capped (magnitude_of kinds a + magnitude_of kinds b)
magnitude_of_add kinds a b = ap (magnitude_of kinds) (Add-is a b)

pub magnitude_of_sub : (kinds : List (List Kind)) (a b : Calc)
    → magnitude_of kinds (calc.Sub a b) ≡ capped (magnitude_of kinds a + magnitude_of kinds b)
magnitude_of_sub kinds a b = ap (magnitude_of kinds) (Sub-is a b)

pub magnitude_of_mul : (kinds : List (List Kind)) (a b : Calc)
    → magnitude_of kinds (calc.Mul a b) ≡ capped (magnitude_of kinds a * magnitude_of kinds b)
magnitude_of_mul kinds a b = ap (magnitude_of kinds) (Mul-is a b)

pub ruleset magnitudes = (magnitude_of_add, magnitude_of_sub, magnitude_of_mul)

-- ---- numbers

pub numeric_of_add : (kinds : List (List Kind)) (a b : Calc)
    → is_numeric kinds (calc.Add a b) ≡ (is_numeric kinds a && is_numeric kinds b)
numeric_of_add kinds a b = ap (is_numeric kinds) (Add-is a b)

pub numeric_of_sub : (kinds : List (List Kind)) (a b : Calc)
    → is_numeric kinds (calc.Sub a b) ≡ (is_numeric kinds a && is_numeric kinds b)
numeric_of_sub kinds a b = ap (is_numeric kinds) (Sub-is a b)

pub numeric_of_mul : (kinds : List (List Kind)) (a b : Calc)
    → is_numeric kinds (calc.Mul a b) ≡ (is_numeric kinds a && is_numeric kinds b)
numeric_of_mul kinds a b = ap (is_numeric kinds) (Mul-is a b)

pub ruleset numerics = (numeric_of_add, numeric_of_sub, numeric_of_mul)

-- ---- bounds

pub bounded_of_add : (kinds : List (List Kind)) (a b : Calc)
    → is_bounded kinds (calc.Add a b) ≡ (is_bounded kinds a && (is_bounded kinds b && is_narrow kinds (calc.Add a b)))
bounded_of_add kinds a b =
    ap (is_bounded kinds) (Add-is a b) ∙ ap (λ e. is_bounded kinds a && (is_bounded kinds b && is_narrow kinds e))
    (sym (Add-is a b))

pub bounded_of_sub : (kinds : List (List Kind)) (a b : Calc)
    → is_bounded kinds (calc.Sub a b) ≡ (is_bounded kinds a && (is_bounded kinds b && is_narrow kinds (calc.Sub a b)))
bounded_of_sub kinds a b =
    ap (is_bounded kinds) (Sub-is a b) ∙ ap (λ e. is_bounded kinds a && (is_bounded kinds b && is_narrow kinds e))
    (sym (Sub-is a b))

pub bounded_of_mul : (kinds : List (List Kind)) (a b : Calc)
    → is_bounded kinds (calc.Mul a b) ≡ (is_bounded kinds a && (is_bounded kinds b && is_narrow kinds (calc.Mul a b)))
bounded_of_mul kinds a b =
    ap (is_bounded kinds) (Mul-is a b) ∙ ap (λ e. is_bounded kinds a && (is_bounded kinds b && is_narrow kinds e))
    (sym (Mul-is a b))

pub ruleset bounds = (bounded_of_add, bounded_of_sub, bounded_of_mul)

-- ---- operators

pub operators_of_add : (a b : Calc) → calc_operators (calc.Add a b) ≡ calc_operators a + (1 + calc_operators b)
operators_of_add a b = ap calc_operators (Add-is a b)

pub operators_of_sub : (a b : Calc) → calc_operators (calc.Sub a b) ≡ calc_operators a + (1 + calc_operators b)
operators_of_sub a b = ap calc_operators (Sub-is a b)

pub operators_of_mul : (a b : Calc) → calc_operators (calc.Mul a b) ≡ calc_operators a + (1 + calc_operators b)
operators_of_mul a b = ap calc_operators (Mul-is a b)

pub ruleset value_operators = (operators_of_add, operators_of_sub, operators_of_mul)

-- ---- levels

pub level_of_add : (a b : Calc) → calc_level (calc.Add a b) ≡ 4
level_of_add a b = ap calc_level (Add-is a b)

pub level_of_sub : (a b : Calc) → calc_level (calc.Sub a b) ≡ 4
level_of_sub a b = ap calc_level (Sub-is a b)

pub level_of_mul : (a b : Calc) → calc_level (calc.Mul a b) ≡ 5
level_of_mul a b = ap calc_level (Mul-is a b)

pub ruleset value_levels = (level_of_add, level_of_sub, level_of_mul)

-- ---- parentheses

pub parentheses_of_add : (a b : Calc) → calc_parentheses (calc.Add a b)
    ≡ max (opened (nat_lt (calc_level a) 4) (calc_parentheses a)) (opened (nat_lt (calc_level b) 5) (calc_parentheses b))
parentheses_of_add a b = ap calc_parentheses (Add-is a b)

pub parentheses_of_sub : (a b : Calc) → calc_parentheses (calc.Sub a b)
    ≡ max (opened (nat_lt (calc_level a) 4) (calc_parentheses a)) (opened (nat_lt (calc_level b) 5) (calc_parentheses b))
parentheses_of_sub a b = ap calc_parentheses (Sub-is a b)

pub parentheses_of_mul : (a b : Calc) → calc_parentheses (calc.Mul a b)
    ≡ max (opened (nat_lt (calc_level a) 5) (calc_parentheses a)) (opened (nat_lt (calc_level b) 6) (calc_parentheses b))
parentheses_of_mul a b = ap calc_parentheses (Mul-is a b)

pub ruleset value_parentheses = (parentheses_of_add, parentheses_of_sub, parentheses_of_mul)

-- ---- lines

pub lines_of_add : (a b : Calc) → calc_lines (calc.Add a b) ≡ (calc_lines a && calc_lines b)
lines_of_add a b = ap calc_lines (Add-is a b)

pub lines_of_sub : (a b : Calc) → calc_lines (calc.Sub a b) ≡ (calc_lines a && calc_lines b)
lines_of_sub a b = ap calc_lines (Sub-is a b)

pub lines_of_mul : (a b : Calc) → calc_lines (calc.Mul a b) ≡ (calc_lines a && calc_lines b)
lines_of_mul a b = ap calc_lines (Mul-is a b)

pub ruleset value_lines = (lines_of_add, lines_of_sub, lines_of_mul)

-- ---- truth values: operators

pub operators_of_not : (t : Test) → test_operators (test.Not t) ≡ 1 + test_operators t
operators_of_not t = ap test_operators (Not-is t)

pub operators_of_and : (s t : Test) → test_operators (test.And s t) ≡ test_operators s + (1 + test_operators t)
operators_of_and s t = ap test_operators (And-is s t)

pub operators_of_or : (s t : Test) → test_operators (test.Or s t) ≡ test_operators s + (1 + test_operators t)
operators_of_or s t = ap test_operators (Or-is s t)

pub ruleset truth_operators = (operators_of_not, operators_of_and, operators_of_or)

-- ---- truth values: levels

pub level_of_not : (t : Test) → test_level (test.Not t) ≡ 2
level_of_not t = ap test_level (Not-is t)

pub level_of_and : (s t : Test) → test_level (test.And s t) ≡ 1
level_of_and s t = ap test_level (And-is s t)

pub level_of_or : (s t : Test) → test_level (test.Or s t) ≡ 0
level_of_or s t = ap test_level (Or-is s t)

pub ruleset truth_levels = (level_of_not, level_of_and, level_of_or)

-- ---- truth values: parentheses

pub parentheses_of_not : (t : Test) → test_parentheses (test.Not t) ≡ opened (nat_lt (test_level t) 3) (test_parentheses t)
parentheses_of_not t = ap test_parentheses (Not-is t)

pub parentheses_of_and : (s t : Test) → test_parentheses (test.And s t)
    ≡ max (opened (nat_lt (test_level s) 1) (test_parentheses s)) (opened (nat_lt (test_level t) 2) (test_parentheses t))
parentheses_of_and s t = ap test_parentheses (And-is s t)

pub parentheses_of_or : (s t : Test) → test_parentheses (test.Or s t)
    ≡ max (test_parentheses s) (opened (nat_lt (test_level t) 1) (test_parentheses t))
parentheses_of_or s t = ap test_parentheses (Or-is s t)

pub ruleset truth_parentheses = (parentheses_of_not, parentheses_of_and, parentheses_of_or)

-- ---- truth values: lines

pub lines_of_not : (t : Test) → test_lines (test.Not t) ≡ test_lines t
lines_of_not t = ap test_lines (Not-is t)

pub lines_of_and : (s t : Test) → test_lines (test.And s t) ≡ (test_lines s && test_lines t)
lines_of_and s t = ap test_lines (And-is s t)

pub lines_of_or : (s t : Test) → test_lines (test.Or s t) ≡ (test_lines s && test_lines t)
lines_of_or s t = ap test_lines (Or-is s t)

pub ruleset truth_lines = (lines_of_not, lines_of_and, lines_of_or)

-- ---- truth values: what suits

pub truth_of_not : (kinds : List (List Kind)) (t : Test) → suits_truth kinds (test.Not t) ≡ suits_truth kinds t
truth_of_not kinds t = ap (suits_truth kinds) (Not-is t)

pub truth_of_and : (kinds : List (List Kind)) (s t : Test)
    → suits_truth kinds (test.And s t) ≡ (suits_truth kinds s && suits_truth kinds t)
truth_of_and kinds s t = ap (suits_truth kinds) (And-is s t)

pub truth_of_or : (kinds : List (List Kind)) (s t : Test)
    → suits_truth kinds (test.Or s t) ≡ (suits_truth kinds s && suits_truth kinds t)
truth_of_or kinds s t = ap (suits_truth kinds) (Or-is s t)

pub ruleset truths = (truth_of_not, truth_of_and, truth_of_or)
