-- How long the shortest texts of acts are, told from the acts themselves, and which of them have one where their tables and
-- columns are there.
use Rattle.std.specs.Prelude.{ℕ, ◌+◌, Bool, true, not, ◌&&◌, nat_le, nat_lt, max}
use Rattle.std.specs.Option.{option_map_or}
use Rattle.strip_value.specs.declared.acts.Act.{Act}
use Rattle.strip_value.specs.declared.acts.Act.TheVariants as act
use Rattle.strip_value.specs.declared.expressions.Calc.{Calc}
use Rattle.strip_value.specs.declared.expressions.Calc.TheVariants as calc
use Rattle.strip_value.specs.declared.expressions.Test.{Test}
use Rattle.strip_value.specs.declared.expressions.Test.TheVariants as test
use Rattle.strip_value.specs.declared.queries.Item.{Item}
use Rattle.strip_value.specs.declared.queries.Query.{Query}
use Rattle.strip_value.specs.declared.queries.What.{What}
use Rattle.strip_value.specs.declared.queries.What.TheVariants as what
use Rattle.strip_value.specs.Trees as tree
use Rattle.strip_ast.specs.Tokens.{is_grammar_name}
use Rattle.strip_setup.specs.Catalog.{is_empty}
use Rattle.strip_acts.specs.Writable.{are_listed, is_line, is_row, minus_of, opened}

-- ---- values

abbrev pub calc_operators : Calc → ℕ
calc_operators (calc.Number n) = minus_of n
calc_operators (tree.Add a b) = calc_operators a + (1 + calc_operators b)
calc_operators (tree.Sub a b) = calc_operators a + (1 + calc_operators b)
calc_operators (tree.Mul a b) = calc_operators a + (1 + calc_operators b)
calc_operators _ = 0

abbrev pub calc_level : Calc → ℕ
calc_level (tree.Add a b) = 4
calc_level (tree.Sub a b) = 4
calc_level (tree.Mul a b) = 5
calc_level _ = 6

abbrev pub calc_parentheses : Calc → ℕ
calc_parentheses (tree.Add a b) =
    max (opened (nat_lt (calc_level a) 4) (calc_parentheses a)) (opened (nat_lt (calc_level b) 5) (calc_parentheses b))
calc_parentheses (tree.Sub a b) =
    max (opened (nat_lt (calc_level a) 4) (calc_parentheses a)) (opened (nat_lt (calc_level b) 5) (calc_parentheses b))
calc_parentheses (tree.Mul a b) =
    max (opened (nat_lt (calc_level a) 5) (calc_parentheses a)) (opened (nat_lt (calc_level b) 6) (calc_parentheses b))
calc_parentheses _ = 0

-- its texts stand on one line
abbrev pub calc_lines : Calc → Bool
calc_lines (calc.Text t) = is_line t
calc_lines (tree.Add a b) = calc_lines a && calc_lines b
calc_lines (tree.Sub a b) = calc_lines a && calc_lines b
calc_lines (tree.Mul a b) = calc_lines a && calc_lines b
calc_lines _ = true

abbrev pub is_short_calc : Calc → Bool
is_short_calc e = calc_lines e && (nat_le (calc_operators e) 256 && nat_le (calc_parentheses e) 64)

-- ---- truth values

abbrev pub test_operators : Test → ℕ
test_operators test.True = 0
test_operators (test.Compare how a b) = calc_operators a + (1 + calc_operators b)
test_operators (tree.Not t) = 1 + test_operators t
test_operators (tree.And s t) = test_operators s + (1 + test_operators t)
test_operators (tree.Or s t) = test_operators s + (1 + test_operators t)

abbrev pub test_level : Test → ℕ
test_level test.True = 6
test_level (test.Compare how a b) = 3
test_level (tree.Not t) = 2
test_level (tree.And s t) = 1
test_level (tree.Or s t) = 0

abbrev pub test_parentheses : Test → ℕ
test_parentheses test.True = 0
test_parentheses (test.Compare how a b) = max (calc_parentheses a) (calc_parentheses b)
test_parentheses (tree.Not t) = opened (nat_lt (test_level t) 3) (test_parentheses t)
test_parentheses (tree.And s t) =
    max (opened (nat_lt (test_level s) 1) (test_parentheses s)) (opened (nat_lt (test_level t) 2) (test_parentheses t))
test_parentheses (tree.Or s t) = max (test_parentheses s) (opened (nat_lt (test_level t) 1) (test_parentheses t))

abbrev pub test_lines : Test → Bool
test_lines test.True = true
test_lines (test.Compare how a b) = calc_lines a && calc_lines b
test_lines (tree.Not t) = test_lines t
test_lines (tree.And s t) = test_lines s && test_lines t
test_lines (tree.Or s t) = test_lines s && test_lines t

abbrev pub is_short_test : Test → Bool
is_short_test t = test_lines t && (nat_le (test_operators t) 256 && nat_le (test_parentheses t) 64)

-- ---- acts

abbrev pub is_short_what : What → Bool
is_short_what (what.Plain e) = is_short_calc e
is_short_what (what.Sum e) = is_short_calc e
is_short_what what.Count = true

abbrev pub is_short_item : Item → Bool
is_short_item item = is_short_what item.what && is_grammar_name item.name

abbrev pub is_short_query : Query → Bool
is_short_query query =
    are_listed is_short_item query.items
    && (not (is_empty query.entries) && (is_short_test query.filter && option_map_or (λ places. not (is_empty places)) query.group true))

-- its lists aren't empty, and what it says itself can be written
abbrev pub is_short : Act → Bool
is_short (act.Insert id rows) = are_listed is_row rows
is_short (act.Put id row) = is_row row
is_short (act.Update id sets filter) = are_listed (λ s. is_short_calc s.value) sets && is_short_test filter
is_short (act.Delete id filter) = is_short_test filter
is_short (act.Select query) = is_short_query query
is_short (act.Show id) = true
