use Rattle.std.proofs.Common.{ap, ◌∙◌}
use Rattle.strip_acts.specs.Suiting.{is_numeric, kinds_in}
use Rattle.strip_acts.proofs.Counts.{first_decides, second_decides}
use Rattle.strip_acts.proofs.Variants.{numeric_of_add, numeric_of_sub, numeric_of_mul}
use Rattle.strip_acts.proofs.reads.+is_numeric.Goals as goal

pub returns-then-is_numeric : goal.returns-then-is_numeric
returns-then-is_numeric t c =
    second_decides (is_numeric (kinds_in c.args.reads.now)) c.args.calc.now c.in-Add.left c.in-Add.right _ _ _ _
    (ap (is_numeric (kinds_in c.args.reads.now)) c.in-Add.is
    ∙ numeric_of_add (kinds_in c.args.reads.now) c.in-Add.left c.in-Add.right) c.get.ensures c.get-then-is_numeric.ensures
    c.is_numeric.ensures c.if-is_numeric.true c.is_numeric-then-is_numeric.ensures

pub returns-then-is_numeric-2 : goal.returns-then-is_numeric-2
returns-then-is_numeric-2 t c =
    second_decides (is_numeric (kinds_in c.args.reads.now)) c.args.calc.now c.in-Sub.left c.in-Sub.right _ _ _ _
    (ap (is_numeric (kinds_in c.args.reads.now)) c.in-Sub.is
    ∙ numeric_of_sub (kinds_in c.args.reads.now) c.in-Sub.left c.in-Sub.right) c.get-in-Sub.ensures
    c.get-then-is_numeric-2.ensures c.is_numeric-in-Sub.ensures c.if-is_numeric-2.true c.is_numeric-then-is_numeric-2.ensures

pub returns-then-is_numeric-3 : goal.returns-then-is_numeric-3
returns-then-is_numeric-3 t c =
    second_decides (is_numeric (kinds_in c.args.reads.now)) c.args.calc.now c.in-Mul.left c.in-Mul.right _ _ _ _
    (ap (is_numeric (kinds_in c.args.reads.now)) c.in-Mul.is
    ∙ numeric_of_mul (kinds_in c.args.reads.now) c.in-Mul.left c.in-Mul.right) c.get-in-Mul.ensures
    c.get-then-is_numeric-3.ensures c.is_numeric-in-Mul.ensures c.if-is_numeric-3.true c.is_numeric-then-is_numeric-3.ensures

pub returns-else-is_numeric : goal.returns-else-is_numeric
returns-else-is_numeric t c =
    first_decides (is_numeric (kinds_in c.args.reads.now)) c.args.calc.now c.in-Add.left c.in-Add.right _ _
    (ap (is_numeric (kinds_in c.args.reads.now)) c.in-Add.is
    ∙ numeric_of_add (kinds_in c.args.reads.now) c.in-Add.left c.in-Add.right) c.get.ensures c.is_numeric.ensures
    c.if-is_numeric.false

pub returns-else-is_numeric-2 : goal.returns-else-is_numeric-2
returns-else-is_numeric-2 t c =
    first_decides (is_numeric (kinds_in c.args.reads.now)) c.args.calc.now c.in-Sub.left c.in-Sub.right _ _
    (ap (is_numeric (kinds_in c.args.reads.now)) c.in-Sub.is
    ∙ numeric_of_sub (kinds_in c.args.reads.now) c.in-Sub.left c.in-Sub.right) c.get-in-Sub.ensures c.is_numeric-in-Sub.ensures
    c.if-is_numeric-2.false

pub returns-else-is_numeric-3 : goal.returns-else-is_numeric-3
returns-else-is_numeric-3 t c =
    first_decides (is_numeric (kinds_in c.args.reads.now)) c.args.calc.now c.in-Mul.left c.in-Mul.right _ _
    (ap (is_numeric (kinds_in c.args.reads.now)) c.in-Mul.is
    ∙ numeric_of_mul (kinds_in c.args.reads.now) c.in-Mul.left c.in-Mul.right) c.get-in-Mul.ensures c.is_numeric-in-Mul.ensures
    c.if-is_numeric-3.false
