-- Expressions as they are written and what they stand for, as trees.
use Rattle.std.proofs.Common.{◌≡◌, ◌≢◌, List, Result, Ok, Err, IfOk, refl, ◌∙◌}
use Rattle.std.specs.declared.alloc.AllocError.{AllocError}
use Rattle.strip_value.specs.declared.expressions.Calc.{Calc}
use Rattle.strip_value.specs.declared.expressions.Calc.TheVariants as calc
use Rattle.strip_value.specs.declared.expressions.Test.{Test}
use Rattle.strip_value.specs.declared.expressions.Test.TheVariants as test
use Rattle.strip_value.specs.Trees as value
use Rattle.strip_ast.specs.declared.expressions.Expr.{Expr}
use Rattle.strip_ast.specs.declared.expressions.Expr.TheVariants as expr
use Rattle.strip_ast.specs.declared.expressions.Op.{Op}
use Rattle.strip_ast.specs.declared.expressions.Op.TheVariants as op
use Rattle.strip_setup.specs.declared.scope.Entry.{Entry}
use Rattle.strip_setup.specs.Queries.{calc_of, compared, test_of}
use Rattle.strip_setup.specs.Trees.{Two-is, Not-is}

pub ruleset both_trees = (Two-is, Not-is, value.Add-is, value.Sub-is, value.Mul-is, value.Not-is, value.And-is, value.Or-is)

-- what is made of what the parts stand for is what the whole stands for

pub sum_is : (entries : List Entry) (e a b p q : Expr) (l r : Calc) → e ≡ expr.Two op.Add a b → p ≡ a → q ≡ b → l ≡ calc_of entries p → r ≡ calc_of entries q → calc.Add l r ≡ calc_of entries e
sum_is entries e a b p q l r e_is p_is q_is l_is r_is = rw (e_is, Two-is op.Add a b, l_is, r_is, p_is, q_is, value.Add-is (calc_of entries a) (calc_of entries b)) refl

pub difference_is : (entries : List Entry) (e a b p q : Expr) (l r : Calc) → e ≡ expr.Two op.Sub a b → p ≡ a → q ≡ b → l ≡ calc_of entries p → r ≡ calc_of entries q → calc.Sub l r ≡ calc_of entries e
difference_is entries e a b p q l r e_is p_is q_is l_is r_is = rw (e_is, Two-is op.Sub a b, l_is, r_is, p_is, q_is, value.Sub-is (calc_of entries a) (calc_of entries b)) refl

pub product_is : (entries : List Entry) (e a b p q : Expr) (l r : Calc) → e ≡ expr.Two op.Mul a b → p ≡ a → q ≡ b → l ≡ calc_of entries p → r ≡ calc_of entries q → calc.Mul l r ≡ calc_of entries e
product_is entries e a b p q l r e_is p_is q_is l_is r_is = rw (e_is, Two-is op.Mul a b, l_is, r_is, p_is, q_is, value.Mul-is (calc_of entries a) (calc_of entries b)) refl

pub and_is : (entries : List Entry) (e a b p q : Expr) (l r : Test) → e ≡ expr.Two op.And a b → p ≡ a → q ≡ b → l ≡ test_of entries p → r ≡ test_of entries q → test.And l r ≡ test_of entries e
and_is entries e a b p q l r e_is p_is q_is l_is r_is = rw (e_is, Two-is op.And a b, l_is, r_is, p_is, q_is, value.And-is (test_of entries a) (test_of entries b)) refl

pub or_is : (entries : List Entry) (e a b p q : Expr) (l r : Test) → e ≡ expr.Two op.Or a b → p ≡ a → q ≡ b → l ≡ test_of entries p → r ≡ test_of entries q → test.Or l r ≡ test_of entries e
or_is entries e a b p q l r e_is p_is q_is l_is r_is = rw (e_is, Two-is op.Or a b, l_is, r_is, p_is, q_is, value.Or-is (test_of entries a) (test_of entries b)) refl

pub not_is : (entries : List Entry) (e a : Expr) (t : Test) → e ≡ expr.Not a → t ≡ test_of entries a → test.Not t ≡ test_of entries e
not_is entries e a t e_is t_is = rw (e_is, Not-is a, t_is, value.Not-is (test_of entries a)) refl

other_is : (entries : List Entry) (o : Op) (a b : Expr) → o ≢ op.And → o ≢ op.Or → compared o (calc_of entries a) (calc_of entries b) ≡ test_of entries (expr.Two o a b)
other_is entries op.And a b no_and no_or = absurd (no_and refl)
other_is entries op.Or a b no_and no_or = absurd (no_or refl)
other_is entries op.Add a b no_and no_or = rw (Two-is op.Add a b) refl
other_is entries op.Sub a b no_and no_or = rw (Two-is op.Sub a b) refl
other_is entries op.Mul a b no_and no_or = rw (Two-is op.Mul a b) refl
other_is entries op.Eq a b no_and no_or = rw (Two-is op.Eq a b) refl
other_is entries op.Ne a b no_and no_or = rw (Two-is op.Ne a b) refl
other_is entries op.Lt a b no_and no_or = rw (Two-is op.Lt a b) refl
other_is entries op.Le a b no_and no_or = rw (Two-is op.Le a b) refl
other_is entries op.Gt a b no_and no_or = rw (Two-is op.Gt a b) refl
other_is entries op.Ge a b no_and no_or = rw (Two-is op.Ge a b) refl

pub others_are : (entries : List Entry) (e a b : Expr) (o : Op) (made : Result Test AllocError) → e ≡ expr.Two o a b → o ≢ op.And → o ≢ op.Or → IfOk made (λ t. t ≡ compared o (calc_of entries a) (calc_of entries b)) → IfOk made (λ t. t ≡ test_of entries e)
others_are entries e a b o (Ok t) e_is no_and no_or is = rw e_is (is ∙ other_is entries o a b no_and no_or)
others_are entries e a b o (Err x) e_is no_and no_or is = tt
