use Rattle.std.proofs.Common.{ap, ◌∙◌}
use Rattle.strip_acts.specs.Suiting.{is_bounded, kinds_in}
use Rattle.strip_value.specs.declared.expressions.Calc.TheVariants as calc
use Rattle.strip_acts.proofs.Counts.{bounded_made}
use Rattle.strip_acts.proofs.Variants.{bounded_of_add, bounded_of_sub, bounded_of_mul}
use Rattle.strip_acts.proofs.reads.+is_bounded.Goals as goal

pub returns-in-Add : goal.returns-in-Add
returns-in-Add t c =
    bounded_made (kinds_in c.args.reads.now) c.args.calc.now (calc.Add c.in-Add.left c.in-Add.right) c.in-Add.left c.in-Add.right
    _ _ _ _ _ _ (ap (is_bounded (kinds_in c.args.reads.now)) c.in-Add.is
    ∙ bounded_of_add (kinds_in c.args.reads.now) c.in-Add.left c.in-Add.right) c.in-Add.is c.get.ensures c.get-in-Add.ensures
    c.is_bounded.ensures c.is_bounded-in-Add.ensures c.is_narrow-in-Add.ensures c.all_three.ensures

pub returns-in-Sub : goal.returns-in-Sub
returns-in-Sub t c =
    bounded_made (kinds_in c.args.reads.now) c.args.calc.now (calc.Sub c.in-Sub.left c.in-Sub.right) c.in-Sub.left c.in-Sub.right
    _ _ _ _ _ _ (ap (is_bounded (kinds_in c.args.reads.now)) c.in-Sub.is
    ∙ bounded_of_sub (kinds_in c.args.reads.now) c.in-Sub.left c.in-Sub.right) c.in-Sub.is c.get-in-Sub.ensures
    c.get-in-Sub-2.ensures c.is_bounded-in-Sub.ensures c.is_bounded-in-Sub-2.ensures c.is_narrow-in-Sub.ensures
    c.all_three-in-Sub.ensures

pub returns-in-Mul : goal.returns-in-Mul
returns-in-Mul t c =
    bounded_made (kinds_in c.args.reads.now) c.args.calc.now (calc.Mul c.in-Mul.left c.in-Mul.right) c.in-Mul.left c.in-Mul.right
    _ _ _ _ _ _ (ap (is_bounded (kinds_in c.args.reads.now)) c.in-Mul.is
    ∙ bounded_of_mul (kinds_in c.args.reads.now) c.in-Mul.left c.in-Mul.right) c.in-Mul.is c.get-in-Mul.ensures
    c.get-in-Mul-2.ensures c.is_bounded-in-Mul.ensures c.is_bounded-in-Mul-2.ensures c.is_narrow-in-Mul.ensures
    c.all_three-in-Mul.ensures
