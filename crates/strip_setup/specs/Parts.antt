-- What expressions and queries are made of, in the order of their text.
use Rattle.std.specs.Prelude.{ℕ, Bool, true, false, List, [], ◌∷◌, ◌++◌, Option, Some, None, map, flat_map, filter_map}
use Rattle.strip_ast.specs.declared.deeds.SetTree.{SetTree}
use Rattle.strip_ast.specs.declared.expressions.Expr.{Expr, Column}
use Rattle.strip_ast.specs.declared.expressions.Op.{Op}
use Rattle.strip_ast.specs.declared.expressions.Op.TheVariants as op
use Rattle.strip_ast.specs.declared.queries.ColTree.{ColTree}
use Rattle.strip_ast.specs.declared.queries.ItemTree.{ItemTree}
use Rattle.strip_ast.specs.declared.queries.QueryTree.{QueryTree}
use Rattle.strip_ast.specs.declared.queries.Total.{Total}
use Rattle.strip_ast.specs.declared.queries.Total.TheVariants as total
use Rattle.strip_setup.specs.Queries.{origin_name}
use Rattle.strip_setup.specs.Trees.{Two, Not}

-- ---- operators

-- the classes of operators: `+`, `-` and `*`; what compares; `and` and `or`
pub data OpClass : Type 0 where
  arithmetic : OpClass
  comparison : OpClass
  connective : OpClass

-- the class of an operator
abbrev pub class_of : Op → OpClass
class_of op.Add = arithmetic
class_of op.Sub = arithmetic
class_of op.Mul = arithmetic
class_of op.And = connective
class_of op.Or = connective
class_of _ = comparison

-- it joins truth values; others join values
abbrev pub joins_truth : OpClass → Bool
joins_truth connective = true
joins_truth _ = false

-- it gives a truth value; arithmetic gives a value
abbrev pub gives_truth : OpClass → Bool
gives_truth arithmetic = false
gives_truth _ = true

-- ---- expressions

-- the columns in an expression
abbrev pub columns_in : Expr → List ColTree
columns_in (Column of name) = record { of = of; name = name } ∷ []
columns_in (Two o a b) = columns_in a ++ columns_in b
columns_in (Not a) = columns_in a
columns_in _ = []

-- the expression is a truth value
abbrev pub is_truth : Expr → Bool
is_truth (Two o a b) = gives_truth (class_of o)
is_truth (Not a) = true
is_truth _ = false

-- a part of an expression, and whether a truth value is wanted there
pub record Part : Type 0 where
  pub expr : Expr
  pub wants_truth : Bool

-- the parts of an expression, itself among them: a part before the whole, a left one before a right one
abbrev pub parts : Bool → Expr → List Part
parts wants_truth (Two o a b) =
    let joins = joins_truth (class_of o) in
    parts joins a ++ (parts joins b ++ record { expr = Two o a b; wants_truth = wants_truth } ∷ [])
parts wants_truth (Not a) = parts true a ++ record { expr = Not a; wants_truth = wants_truth } ∷ []
parts wants_truth e = record { expr = e; wants_truth = wants_truth } ∷ []

-- ---- outermost expressions

-- what an expression that is no part of another is for: a value, a truth value, or a value that is summed up
pub data Purpose : Type 0 where
  value : Purpose
  truth : Purpose
  sum : Purpose

-- an expression that is no part of another
pub record Whole : Type 0 where
  pub expr : Expr
  pub purpose : Purpose

-- it is for a truth value
abbrev pub is_for_truth : Purpose → Bool
is_for_truth truth = true
is_for_truth _ = false

-- the parts of such an expression
abbrev pub parts_of : Whole → List Part
parts_of whole = parts (is_for_truth whole.purpose) whole.expr

-- the expression of an item, if it has one
abbrev pub total_wholes : Total → List Whole
total_wholes (total.Plain e) = record { expr = e; purpose = value } ∷ []
total_wholes (total.Sum e) = record { expr = e; purpose = sum } ∷ []
total_wholes total.Count = []

-- the expression of a filter, if there is one
abbrev pub filter_wholes : Option Expr → List Whole
filter_wholes None = []
filter_wholes (Some e) = record { expr = e; purpose = truth } ∷ []

-- the expressions of items
abbrev pub item_wholes : List ItemTree → List Whole
item_wholes items = flat_map (λ item. total_wholes item.what) items

-- the expressions of a query
abbrev pub query_wholes : QueryTree → List Whole
query_wholes query = item_wholes query.items ++ filter_wholes query.filter

-- the expressions of an update
abbrev pub update_wholes : List SetTree → Option Expr → List Whole
update_wholes sets filter = map (λ s. record { expr = s.value; purpose = value }) sets ++ filter_wholes filter

-- ---- entries

-- the names of the tables that a query reads
abbrev pub names_read : QueryTree → List (List ℕ)
names_read query = filter_map (λ entry. origin_name entry.origin) query.entries
