-- The trees of values and truth values, told from the trees of their parts: an equation for each variant that holds parts.
use Rattle.std.proofs.Common.{◌≡◌, ◌≢◌, ℕ, Bool, true, false, not, ◌&&◌, List, Option, Some, Result, Ok, Err, IfOk, refl, sym, ap, ap₂, ◌∙◌}
use Rattle.std.specs.declared.alloc.AllocError.{AllocError}
use Rattle.strip_value.specs.declared.expressions.Calc.{Calc}
use Rattle.strip_value.specs.declared.expressions.Calc.TheVariants as calc
use Rattle.strip_value.specs.declared.expressions.Cmp.{Cmp}
use Rattle.strip_value.specs.declared.expressions.Test.{Test}
use Rattle.strip_value.specs.declared.expressions.Test.TheVariants as test
use Rattle.strip_value.specs.declared.kinds.Kind.{Kind}
use Rattle.strip_value.specs.Trees as tree
use Rattle.strip_value.specs.Trees.{Add-is, Sub-is, Mul-is, Not-is, And-is, Or-is}
use Rattle.strip_ast.specs.declared.expressions.Expr.{Expr}
use Rattle.strip_ast.specs.declared.expressions.Expr.TheVariants as expr
use Rattle.strip_ast.specs.declared.expressions.Op.{Op}
use Rattle.strip_ast.specs.declared.expressions.Op.TheVariants as op
use Rattle.strip_kinds.specs.Mismatch.{differ}
use Rattle.strip_setup.specs.declared.scope.Entry.{Entry}
use Rattle.strip_setup.specs.Trees as expr_tree
use Rattle.strip_acts.specs.Suiting.{gives_text, is_bounded, is_kinded, is_narrow, is_numeric, suits_filter, suits_sum, suits_truth, suits_value}
use Rattle.strip_acts.specs.Trees.{expr_of, filter_tree, op_of, truth_of}
use Rattle.strip_acts.proofs.Tests.{both}
use Rattle.strip_acts.proofs.ShortValues.{numeric_kinded}

-- ---- values

pub tree_of_add : (entries : List Entry) (a b : Calc) → expr_of entries (calc.Add a b) ≡ expr.Two op.Add (expr_of entries a) (expr_of entries b)
tree_of_add entries a b = ap (expr_of entries) (Add-is a b) ∙ sym (expr_tree.Two-is op.Add (expr_of entries a) (expr_of entries b))

pub tree_of_sub : (entries : List Entry) (a b : Calc) → expr_of entries (calc.Sub a b) ≡ expr.Two op.Sub (expr_of entries a) (expr_of entries b)
tree_of_sub entries a b = ap (expr_of entries) (Sub-is a b) ∙ sym (expr_tree.Two-is op.Sub (expr_of entries a) (expr_of entries b))

pub tree_of_mul : (entries : List Entry) (a b : Calc) → expr_of entries (calc.Mul a b) ≡ expr.Two op.Mul (expr_of entries a) (expr_of entries b)
tree_of_mul entries a b = ap (expr_of entries) (Mul-is a b) ∙ sym (expr_tree.Two-is op.Mul (expr_of entries a) (expr_of entries b))

pub kinded_of_add : (kinds : List (List Kind)) (a b : Calc) → is_kinded kinds (calc.Add a b) ≡ (is_numeric kinds a && is_numeric kinds b)
kinded_of_add kinds a b = ap (is_kinded kinds) (Add-is a b)

pub kinded_of_sub : (kinds : List (List Kind)) (a b : Calc) → is_kinded kinds (calc.Sub a b) ≡ (is_numeric kinds a && is_numeric kinds b)
kinded_of_sub kinds a b = ap (is_kinded kinds) (Sub-is a b)

pub kinded_of_mul : (kinds : List (List Kind)) (a b : Calc) → is_kinded kinds (calc.Mul a b) ≡ (is_numeric kinds a && is_numeric kinds b)
kinded_of_mul kinds a b = ap (is_kinded kinds) (Mul-is a b)

pub value_kinded : (kinds : List (List Kind)) (e : Calc) → suits_value kinds e ≡ true → is_kinded kinds e ≡ true
value_kinded kinds e suits = (both (is_kinded kinds e) (is_bounded kinds e) suits).0

pub sum_kinded : (kinds : List (List Kind)) (e : Calc) → suits_sum kinds e ≡ true → is_kinded kinds e ≡ true
sum_kinded kinds e suits = numeric_kinded kinds e (both (is_numeric kinds e) (is_bounded kinds e && is_narrow kinds e) suits).0

pub ruleset kinded = (value_kinded, sum_kinded)

-- ---- truth values

pub tree_of_compare : (entries : List Entry) (how : Cmp) (a b : Calc) → truth_of entries (test.Compare how a b) ≡ expr.Two (op_of how) (expr_of entries a) (expr_of entries b)
tree_of_compare entries how a b = sym (expr_tree.Two-is (op_of how) (expr_of entries a) (expr_of entries b))

pub tree_of_not : (entries : List Entry) (t : Test) → truth_of entries (test.Not t) ≡ expr.Not (truth_of entries t)
tree_of_not entries t = ap (truth_of entries) (Not-is t) ∙ sym (expr_tree.Not-is (truth_of entries t))

pub tree_of_and : (entries : List Entry) (s t : Test) → truth_of entries (test.And s t) ≡ expr.Two op.And (truth_of entries s) (truth_of entries t)
tree_of_and entries s t = ap (truth_of entries) (And-is s t) ∙ sym (expr_tree.Two-is op.And (truth_of entries s) (truth_of entries t))

pub tree_of_or : (entries : List Entry) (s t : Test) → truth_of entries (test.Or s t) ≡ expr.Two op.Or (truth_of entries s) (truth_of entries t)
tree_of_or entries s t = ap (truth_of entries) (Or-is s t) ∙ sym (expr_tree.Two-is op.Or (truth_of entries s) (truth_of entries t))

pub never_true : (kinds : List (List Kind)) (t : Test) → t ≡ test.True → suits_truth kinds t ≡ true → ⊥
never_true kinds t t_is suits = let none : suits_truth kinds test.True ≡ true = sym (ap (suits_truth kinds) t_is) ∙ suits in cc

-- ---- filters

pub filter_is : (entries : List Entry) (t : Test) → t ≢ test.True → filter_tree entries t ≡ Some (truth_of entries t)
filter_is entries test.True not_all = absurd (not_all refl)
filter_is entries (test.Compare how a b) not_all = refl
filter_is entries (tree.Not t) not_all = refl
filter_is entries (tree.And s t) not_all = refl
filter_is entries (tree.Or s t) not_all = refl

pub filter_suits : (kinds : List (List Kind)) (t : Test) → t ≢ test.True → suits_filter kinds t ≡ suits_truth kinds t
filter_suits kinds test.True not_all = absurd (not_all refl)
filter_suits kinds (test.Compare how a b) not_all = refl
filter_suits kinds (tree.Not t) not_all = refl
filter_suits kinds (tree.And s t) not_all = refl
filter_suits kinds (tree.Or s t) not_all = refl

pub ruleset filters = (filter_is, filter_suits)

-- ---- what is made of parts

-- an expression of the trees of two parts is the tree of the whole
pub tree_made : {A B : Type 0} (f : B → Expr) (g : A → Expr) (o : Op) (e : B) (a b l r : A) (x y : Expr)
    (made : Result Expr AllocError) → f e ≡ expr.Two o (g a) (g b) → l ≡ a → r ≡ b → x ≡ g l → y ≡ g r
    → IfOk made (λ z. z ≡ expr.Two o x y) → IfOk made (λ z. z ≡ f e)
tree_made f g o e a b l r x y (Ok z) whole l_is r_is x_is y_is is =
    is ∙ ap₂ (λ v w. expr.Two o v w) (x_is ∙ ap g l_is) (y_is ∙ ap g r_is) ∙ sym whole
tree_made f g o e a b l r x y (Err z) whole l_is r_is x_is y_is is = tt

-- and that of one part behind `not`
pub not_made : {B : Type 0} (f : B → Expr) (g : B → Expr) (e a l : B) (x : Expr) (made : Result Expr AllocError)
    → f e ≡ expr.Not (g a) → l ≡ a → x ≡ g l → IfOk made (λ z. z ≡ expr.Not x) → IfOk made (λ z. z ≡ f e)
not_made f g e a l x (Ok z) whole l_is x_is is = is ∙ ap (λ v. expr.Not v) (x_is ∙ ap g l_is) ∙ sym whole
not_made f g e a l x (Err z) whole l_is x_is is = tt

pub same_made : (x y : Expr) (made : Result Expr AllocError) → x ≡ y → IfOk made (λ z. z ≡ x) → IfOk made (λ z. z ≡ y)
same_made x y (Ok z) same is = is ∙ same
same_made x y (Err z) same is = tt

pub left_kinded : (kinds : List (List Kind)) (e a b l : Calc) → is_kinded kinds e ≡ (is_numeric kinds a && is_numeric kinds b) → is_kinded kinds e ≡ true → l ≡ a → is_kinded kinds l ≡ true
left_kinded kinds e a b l whole kinded l_is =
    ap (is_kinded kinds) l_is ∙ numeric_kinded kinds a (both (is_numeric kinds a) (is_numeric kinds b) (sym whole ∙ kinded)).0

pub right_kinded : (kinds : List (List Kind)) (e a b r : Calc) → is_kinded kinds e ≡ (is_numeric kinds a && is_numeric kinds b) → is_kinded kinds e ≡ true → r ≡ b → is_kinded kinds r ≡ true
right_kinded kinds e a b r whole kinded r_is =
    ap (is_kinded kinds) r_is ∙ numeric_kinded kinds b (both (is_numeric kinds a) (is_numeric kinds b) (sym whole ∙ kinded)).1

-- what is compared
pub compared_kinded : (kinds : List (List Kind)) (t : Test) (how : Cmp) (a b : Calc) → t ≡ test.Compare how a b → suits_truth kinds t ≡ true → (is_kinded kinds a ≡ true) × (is_kinded kinds b ≡ true)
compared_kinded kinds t how a b t_is suits =
    let whole : suits_truth kinds (test.Compare how a b) ≡ true = sym (ap (suits_truth kinds) t_is) ∙ suits in
    let first = both (suits_value kinds a) (suits_value kinds b && not (differ (gives_text kinds a) (gives_text kinds b))) whole in
    let second = both (suits_value kinds b) (not (differ (gives_text kinds a) (gives_text kinds b))) first.1 in
    (value_kinded kinds a first.0, value_kinded kinds b second.0)
