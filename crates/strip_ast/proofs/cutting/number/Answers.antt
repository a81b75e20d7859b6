use Rattle.std.proofs.Common.{arith}
use Rattle.strip_ast.proofs.CutLemmas.{digit_room, power_room}
use Rattle.strip_ast.proofs.cutting.number.Goals as goal

pub overflow_mul-number : goal.overflow_mul-number
overflow_mul-number c =
    omega (arith, digit_room _ _ _ c.loop-byte.invariant.1 c.loop-byte-test.true c.requires.few)

pub overflow_add-number : goal.overflow_add-number
overflow_add-number c =
    omega (arith, digit_room _ _ _ c.loop-byte.invariant.1 c.loop-byte-test.true c.requires.few, c.type_inv.digits c.loop-byte.byte-index)

pub returns-clause-bound : goal.returns-clause-bound
returns-clause-bound c =
    omega (arith, power_room _ _ c.loop-byte.invariant.1 (omega arith))
