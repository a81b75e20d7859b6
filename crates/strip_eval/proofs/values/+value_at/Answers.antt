use Rattle.std.proofs.Common.{rules}
use Rattle.std.specs.Prelude.{ℤ, ◌+ℤ◌, ◌-ℤ◌, ◌*ℤ◌, FitsSigned}
use mir.Syntax.{w128}
use Rattle.strip_query.proofs.Variants.{parts_of_add, parts_of_sub, parts_of_mul}
use Rattle.strip_eval.specs.Lent.{shown}
use Rattle.strip_eval.proofs.Parts.{part_asks, near_add, near_sub, near_mul, number_is, small_fits, made_fits, made_is, value_of_add, value_of_sub, value_of_mul}
use Rattle.strip_eval.proofs.values.+value_at.Goals as goal

pub value_at-requires : goal.value_at-requires
value_at-requires t c =
    let near = near_add c.args.rows.now c.args.calc.now c.in-Add.left c.in-Add.right c.in-Add.is c.requires.near in
    part_asks c.args.rows.now c.args.calc.now _ c.get.result.now _ t c.in-Add.is c.get.ensures (parts_of_add c.in-Add.left c.in-Add.right).0 near.0 c.decreases

pub value_at-requires-in-Add : goal.value_at-requires-in-Add
value_at-requires-in-Add t c =
    let near = near_add c.args.rows.now c.args.calc.now c.in-Add.left c.in-Add.right c.in-Add.is c.requires.near in
    part_asks c.args.rows.now c.args.calc.now _ c.get-in-Add.result.now _ t c.in-Add.is c.get-in-Add.ensures (parts_of_add c.in-Add.left c.in-Add.right).1 near.1 c.decreases

pub overflow_add-result : goal.overflow_add-result
overflow_add-result t c =
    let near = near_add c.args.rows.now c.args.calc.now c.in-Add.left c.in-Add.right c.in-Add.is c.requires.near in
    let one : FitsSigned w128 c.number-left.result = search rules in
    let two : FitsSigned w128 c.number-right.result = search rules in
    let one_is = number_is c.args.rows.now c.get.result.now c.in-Add.left (shown c.value_at.result) c.number-left.result c.get.ensures c.value_at.ensures c.number-left.ensures in
    let two_is = number_is c.args.rows.now c.get-in-Add.result.now c.in-Add.right (shown c.value_at-in-Add.result) c.number-right.result c.get-in-Add.ensures c.value_at-in-Add.ensures c.number-right.ensures in
    made_fits (λ (x y : ℤ). x +ℤ y) c.number-left.result c.number-right.result _ _ one two one_is two_is (small_fits _ near.2)

pub returns-in-Add : goal.returns-in-Add
returns-in-Add t c =
    let near = near_add c.args.rows.now c.args.calc.now c.in-Add.left c.in-Add.right c.in-Add.is c.requires.near in
    let one : FitsSigned w128 c.number-left.result = search rules in
    let two : FitsSigned w128 c.number-right.result = search rules in
    let one_is = number_is c.args.rows.now c.get.result.now c.in-Add.left (shown c.value_at.result) c.number-left.result c.get.ensures c.value_at.ensures c.number-left.ensures in
    let two_is = number_is c.args.rows.now c.get-in-Add.result.now c.in-Add.right (shown c.value_at-in-Add.result) c.number-right.result c.get-in-Add.ensures c.value_at-in-Add.ensures c.number-right.ensures in
    value_of_add c.args.rows.now c.args.calc.now c.in-Add.left c.in-Add.right _ c.in-Add.is (made_is (λ (x y : ℤ). x +ℤ y) c.number-left.result c.number-right.result _ _ one two one_is two_is (small_fits _ near.2))

pub value_at-requires-in-Sub : goal.value_at-requires-in-Sub
value_at-requires-in-Sub t c =
    let near = near_sub c.args.rows.now c.args.calc.now c.in-Sub.left c.in-Sub.right c.in-Sub.is c.requires.near in
    part_asks c.args.rows.now c.args.calc.now _ c.get-in-Sub.result.now _ t c.in-Sub.is c.get-in-Sub.ensures (parts_of_sub c.in-Sub.left c.in-Sub.right).0 near.0 c.decreases

pub value_at-requires-in-Sub-2 : goal.value_at-requires-in-Sub-2
value_at-requires-in-Sub-2 t c =
    let near = near_sub c.args.rows.now c.args.calc.now c.in-Sub.left c.in-Sub.right c.in-Sub.is c.requires.near in
    part_asks c.args.rows.now c.args.calc.now _ c.get-in-Sub-2.result.now _ t c.in-Sub.is c.get-in-Sub-2.ensures (parts_of_sub c.in-Sub.left c.in-Sub.right).1 near.1 c.decreases

pub overflow_sub-result : goal.overflow_sub-result
overflow_sub-result t c =
    let near = near_sub c.args.rows.now c.args.calc.now c.in-Sub.left c.in-Sub.right c.in-Sub.is c.requires.near in
    let one : FitsSigned w128 c.number-left-in-Sub.result = search rules in
    let two : FitsSigned w128 c.number-right-in-Sub.result = search rules in
    let one_is = number_is c.args.rows.now c.get-in-Sub.result.now c.in-Sub.left (shown c.value_at-in-Sub.result) c.number-left-in-Sub.result c.get-in-Sub.ensures c.value_at-in-Sub.ensures c.number-left-in-Sub.ensures in
    let two_is = number_is c.args.rows.now c.get-in-Sub-2.result.now c.in-Sub.right (shown c.value_at-in-Sub-2.result) c.number-right-in-Sub.result c.get-in-Sub-2.ensures c.value_at-in-Sub-2.ensures c.number-right-in-Sub.ensures in
    made_fits (λ (x y : ℤ). x -ℤ y) c.number-left-in-Sub.result c.number-right-in-Sub.result _ _ one two one_is two_is (small_fits _ near.2)

pub returns-in-Sub : goal.returns-in-Sub
returns-in-Sub t c =
    let near = near_sub c.args.rows.now c.args.calc.now c.in-Sub.left c.in-Sub.right c.in-Sub.is c.requires.near in
    let one : FitsSigned w128 c.number-left-in-Sub.result = search rules in
    let two : FitsSigned w128 c.number-right-in-Sub.result = search rules in
    let one_is = number_is c.args.rows.now c.get-in-Sub.result.now c.in-Sub.left (shown c.value_at-in-Sub.result) c.number-left-in-Sub.result c.get-in-Sub.ensures c.value_at-in-Sub.ensures c.number-left-in-Sub.ensures in
    let two_is = number_is c.args.rows.now c.get-in-Sub-2.result.now c.in-Sub.right (shown c.value_at-in-Sub-2.result) c.number-right-in-Sub.result c.get-in-Sub-2.ensures c.value_at-in-Sub-2.ensures c.number-right-in-Sub.ensures in
    value_of_sub c.args.rows.now c.args.calc.now c.in-Sub.left c.in-Sub.right _ c.in-Sub.is
    (made_is (λ (x y : ℤ). x -ℤ y) c.number-left-in-Sub.result c.number-right-in-Sub.result _ _ one two one_is two_is (small_fits _ near.2))

pub value_at-requires-in-Mul : goal.value_at-requires-in-Mul
value_at-requires-in-Mul t c =
    let near = near_mul c.args.rows.now c.args.calc.now c.in-Mul.left c.in-Mul.right c.in-Mul.is c.requires.near in
    part_asks c.args.rows.now c.args.calc.now _ c.get-in-Mul.result.now _ t c.in-Mul.is c.get-in-Mul.ensures (parts_of_mul c.in-Mul.left c.in-Mul.right).0 near.0 c.decreases

pub value_at-requires-in-Mul-2 : goal.value_at-requires-in-Mul-2
value_at-requires-in-Mul-2 t c =
    let near = near_mul c.args.rows.now c.args.calc.now c.in-Mul.left c.in-Mul.right c.in-Mul.is c.requires.near in
    part_asks c.args.rows.now c.args.calc.now _ c.get-in-Mul-2.result.now _ t c.in-Mul.is c.get-in-Mul-2.ensures (parts_of_mul c.in-Mul.left c.in-Mul.right).1 near.1 c.decreases

pub overflow_mul-result : goal.overflow_mul-result
overflow_mul-result t c =
    let near = near_mul c.args.rows.now c.args.calc.now c.in-Mul.left c.in-Mul.right c.in-Mul.is c.requires.near in
    let one : FitsSigned w128 c.number-left-in-Mul.result = search rules in
    let two : FitsSigned w128 c.number-right-in-Mul.result = search rules in
    let one_is = number_is c.args.rows.now c.get-in-Mul.result.now c.in-Mul.left (shown c.value_at-in-Mul.result) c.number-left-in-Mul.result c.get-in-Mul.ensures c.value_at-in-Mul.ensures c.number-left-in-Mul.ensures in
    let two_is = number_is c.args.rows.now c.get-in-Mul-2.result.now c.in-Mul.right (shown c.value_at-in-Mul-2.result) c.number-right-in-Mul.result c.get-in-Mul-2.ensures c.value_at-in-Mul-2.ensures c.number-right-in-Mul.ensures in
    made_fits (λ (x y : ℤ). x *ℤ y) c.number-left-in-Mul.result c.number-right-in-Mul.result _ _ one two one_is two_is (small_fits _ near.2)

pub returns-in-Mul : goal.returns-in-Mul
returns-in-Mul t c =
    let near = near_mul c.args.rows.now c.args.calc.now c.in-Mul.left c.in-Mul.right c.in-Mul.is c.requires.near in
    let one : FitsSigned w128 c.number-left-in-Mul.result = search rules in
    let two : FitsSigned w128 c.number-right-in-Mul.result = search rules in
    let one_is = number_is c.args.rows.now c.get-in-Mul.result.now c.in-Mul.left (shown c.value_at-in-Mul.result) c.number-left-in-Mul.result c.get-in-Mul.ensures c.value_at-in-Mul.ensures c.number-left-in-Mul.ensures in
    let two_is = number_is c.args.rows.now c.get-in-Mul-2.result.now c.in-Mul.right (shown c.value_at-in-Mul-2.result) c.number-right-in-Mul.result c.get-in-Mul-2.ensures c.value_at-in-Mul-2.ensures c.number-right-in-Mul.ensures in
    value_of_mul c.args.rows.now c.args.calc.now c.in-Mul.left c.in-Mul.right _ c.in-Mul.is
    (made_is (λ (x y : ℤ). x *ℤ y) c.number-left-in-Mul.result c.number-right-in-Mul.result _ _ one two one_is two_is (small_fits _ near.2))
