-- Expressions as they are written, as trees: patterns for the variants that hold parts.
use Rattle.std.specs.Prelude.{◌≡◌, refl}
use Rattle.strip_ast.specs.declared.expressions.Expr.{Expr, Two', Not', more_of-Expr, end_of-Expr}
use Rattle.strip_ast.specs.declared.expressions.Expr.TheVariants as expr
use Rattle.strip_ast.specs.declared.expressions.Expr.TheBlock.{hidden-the_row-Expr-0}
use Rattle.strip_ast.specs.declared.expressions.Op.{Op}
use denote.Hole.Carrier.{hidden}

pattern abbrev pub Two : Op → Expr → Expr → Expr
Two o a b = Two' o tt (more_of-Expr a end_of-Expr) tt (more_of-Expr b end_of-Expr)

pattern abbrev pub Not : Expr → Expr
Not a = Not' tt (more_of-Expr a end_of-Expr)

-- the patterns are the variants

pub Two-is : (o : Op) (a b : Expr) → expr.Two o a b ≡ Two o a b
unfolding hidden hidden-the_row-Expr-0
Two-is o a b = refl

pub Not-is : (a : Expr) → expr.Not a ≡ Not a
unfolding hidden hidden-the_row-Expr-0
Not-is a = refl

-- for `using(..)` on a function that goes through an expression
pub ruleset trees = (Two-is, Not-is)
