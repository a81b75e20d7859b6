-- Which acts have a text: their lists aren't empty, their names, numbers and texts can be written, and their expressions pass
-- no limit.
use Rattle.std.specs.Prelude.{ℕ, ℤ, pos, negsuc, nat_abs, ◌+◌, ◌^◌, ◌==◌, Bool, true, false, not, ◌&&◌, nat_le, nat_lt, max, List, [], ◌∷◌, length, Option}
use Rattle.std.specs.List.{list_all, list_any}
use Rattle.std.specs.Option.{option_map_or}
use Rattle.std.specs.Str.{is_utf8}
use Rattle.strip_value.specs.declared.values.Value.{Value}
use Rattle.strip_value.specs.declared.values.Value.TheVariants as value
use Rattle.strip_ast.specs.declared.deeds.Deed.{Deed}
use Rattle.strip_ast.specs.declared.deeds.Deed.TheVariants as deed
use Rattle.strip_ast.specs.declared.deeds.SetTree.{SetTree}
use Rattle.strip_ast.specs.declared.expressions.Expr.{Expr, Number, Text, Column}
use Rattle.strip_ast.specs.declared.queries.ColTree.{ColTree}
use Rattle.strip_ast.specs.declared.queries.EntryTree.{EntryTree}
use Rattle.strip_ast.specs.declared.queries.ItemTree.{ItemTree}
use Rattle.strip_ast.specs.declared.queries.Origin.{Origin}
use Rattle.strip_ast.specs.declared.queries.Origin.TheVariants as origin
use Rattle.strip_ast.specs.declared.queries.QueryTree.{QueryTree}
use Rattle.strip_ast.specs.declared.queries.Total.{Total}
use Rattle.strip_ast.specs.declared.queries.Total.TheVariants as total
use Rattle.strip_ast.specs.Tokens.{is_grammar_name}
use Rattle.strip_ast.specs.Written.{left_level, level, right_level}
use Rattle.strip_setup.specs.Trees.{Two, Not}

-- ---- what stands between marks

-- a number of at most 38 digits
abbrev pub has_digits : ℤ → Bool
has_digits n = nat_lt (nat_abs n) (10 ^ 38)

-- a text: UTF-8 of at most 255 bytes on one line
abbrev pub is_line : List ℕ → Bool
is_line bytes = is_utf8 bytes && (nat_le (length bytes) 255 && not (list_any (λ byte. byte == 10) bytes))

-- a name, if one stands there
abbrev pub is_optional_name : Option (List ℕ) → Bool
is_optional_name name = option_map_or is_grammar_name name true

-- a list that isn't empty, each of whose items is so
abbrev pub are_listed : {A : Type 0} → (A → Bool) → List A → Bool
are_listed p [] = false
are_listed p (x ∷ xs) = p x && list_all p xs

-- ---- expressions

-- the operators: a minus before a number is one
abbrev pub minus_of : ℤ → ℕ
minus_of (pos n) = 0
minus_of (negsuc n) = 1

abbrev pub operators : Expr → ℕ
operators (Number n) = minus_of n
operators (Two o a b) = operators a + (1 + operators b)
operators (Not a) = 1 + operators a
operators _ = 0

-- one parenthesis more where an operand's level is too low
abbrev pub opened : Bool → ℕ → ℕ
opened true n = n + 1
opened false n = n

-- the parentheses that are open at one place, at most, in the shortest text
abbrev pub parentheses : Expr → ℕ
parentheses (Two o a b) =
    max (opened (nat_lt (level a) (left_level o)) (parentheses a)) (opened (nat_lt (level b) (right_level o)) (parentheses b))
parentheses (Not a) = opened (nat_lt (level a) 3) (parentheses a)
parentheses _ = 0

-- its names, numbers and texts can be written
abbrev pub has_words : Expr → Bool
has_words (Number n) = has_digits n
has_words (Text t) = is_line t
has_words (Column of name) = is_optional_name of && is_grammar_name name
has_words (Two o a b) = has_words a && has_words b
has_words (Not a) = has_words a

-- an expression that is no part of another, at most 256 operators and 64 parentheses; it stands in parentheses itself where
-- its level is below the lowest
abbrev pub is_expression : ℕ → Expr → Bool
is_expression lowest e = has_words e && (nat_le (operators e) 256 && nat_le (opened (nat_lt (level e) lowest) (parentheses e)) 64)

-- ---- queries

abbrev pub is_total : Total → Bool
is_total (total.Plain e) = is_expression 0 e
is_total (total.Sum e) = is_expression 0 e
is_total total.Count = true

abbrev pub is_item : ItemTree → Bool
is_item item = is_total item.what && is_optional_name item.name

abbrev pub is_origin : Origin → Bool
is_origin (origin.Table name) = is_grammar_name name
is_origin (origin.Before name) = is_grammar_name name
is_origin _ = true

abbrev pub is_entry : EntryTree → Bool
is_entry entry = is_origin entry.origin && is_optional_name entry.alias

abbrev pub is_col : ColTree → Bool
is_col column = is_optional_name column.of && is_grammar_name column.name

abbrev pub is_filter : Option Expr → Bool
is_filter filter = option_map_or (is_expression 0) filter true

abbrev pub is_group : Option (List ColTree) → Bool
is_group group = option_map_or (are_listed is_col) group true

abbrev pub is_query : QueryTree → Bool
is_query query = are_listed is_item query.items && (are_listed is_entry query.entries && (is_filter query.filter && is_group query.group))

-- ---- acts

abbrev pub is_value : Value → Bool
is_value (value.Int n) = has_digits n
is_value (value.Text t) = is_line t

abbrev pub is_row : List Value → Bool
is_row values = are_listed is_value values

-- what is set is a sum, or stands in parentheses
abbrev pub is_set : SetTree → Bool
is_set s = is_grammar_name s.column && is_expression 4 s.value

-- the deed is an act that has a text
abbrev pub is_written : Deed → Bool
is_written (deed.Insert table rows) = is_grammar_name table && are_listed is_row rows
is_written (deed.Put table row) = is_grammar_name table && is_row row
is_written (deed.Update table sets filter) = is_grammar_name table && (are_listed is_set sets && is_filter filter)
is_written (deed.Delete table filter) = is_grammar_name table && is_filter filter
is_written (deed.Select query) = is_query query
is_written (deed.Show table) = is_grammar_name table
is_written _ = false

-- the deed is an act
abbrev pub IsAct : Deed → Type 0
IsAct (deed.Insert table rows) = Unit {0}
IsAct (deed.Put table row) = Unit {0}
IsAct (deed.Update table sets filter) = Unit {0}
IsAct (deed.Delete table filter) = Unit {0}
IsAct (deed.Select query) = Unit {0}
IsAct (deed.Show table) = Unit {0}
IsAct _ = ⊥
