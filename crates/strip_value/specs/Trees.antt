-- Expressions and filters as trees: patterns for the variants that hold parts.
use Rattle.std.specs.Prelude.{◌≡◌, refl}
use Rattle.strip_value.specs.declared.expressions.Calc.{Calc, Add', Sub', Mul', more_of-Calc, end_of-Calc}
use Rattle.strip_value.specs.declared.expressions.Calc.TheVariants as calc
use Rattle.strip_value.specs.declared.expressions.Calc.TheBlock.{hidden-the_row-Calc-0}
use Rattle.strip_value.specs.declared.expressions.Test.{Test, Not', And', Or', more_of-Test, end_of-Test}
use Rattle.strip_value.specs.declared.expressions.Test.TheVariants as test
use Rattle.strip_value.specs.declared.expressions.Test.TheBlock.{hidden-the_row-Test-0}
use denote.Hole.Carrier.{hidden}

pattern abbrev pub Add : Calc → Calc → Calc
Add a b = Add' tt (more_of-Calc a end_of-Calc) tt (more_of-Calc b end_of-Calc)

pattern abbrev pub Sub : Calc → Calc → Calc
Sub a b = Sub' tt (more_of-Calc a end_of-Calc) tt (more_of-Calc b end_of-Calc)

pattern abbrev pub Mul : Calc → Calc → Calc
Mul a b = Mul' tt (more_of-Calc a end_of-Calc) tt (more_of-Calc b end_of-Calc)

pattern abbrev pub Not : Test → Test
Not t = Not' tt (more_of-Test t end_of-Test)

pattern abbrev pub And : Test → Test → Test
And s t = And' tt (more_of-Test s end_of-Test) tt (more_of-Test t end_of-Test)

pattern abbrev pub Or : Test → Test → Test
Or s t = Or' tt (more_of-Test s end_of-Test) tt (more_of-Test t end_of-Test)

-- the patterns are the variants

pub Add-is : (a b : Calc) → calc.Add a b ≡ Add a b
unfolding hidden hidden-the_row-Calc-0
Add-is a b = refl

pub Sub-is : (a b : Calc) → calc.Sub a b ≡ Sub a b
unfolding hidden hidden-the_row-Calc-0
Sub-is a b = refl

pub Mul-is : (a b : Calc) → calc.Mul a b ≡ Mul a b
unfolding hidden hidden-the_row-Calc-0
Mul-is a b = refl

pub Not-is : (t : Test) → test.Not t ≡ Not t
unfolding hidden hidden-the_row-Test-0
Not-is t = refl

pub And-is : (s t : Test) → test.And s t ≡ And s t
unfolding hidden hidden-the_row-Test-0
And-is s t = refl

pub Or-is : (s t : Test) → test.Or s t ≡ Or s t
unfolding hidden hidden-the_row-Test-0
Or-is s t = refl

-- for `using(..)` on a function that goes through an expression or a filter
pub ruleset trees = (Add-is, Sub-is, Mul-is, Not-is, And-is, Or-is)
