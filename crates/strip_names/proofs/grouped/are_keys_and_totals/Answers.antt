use Rattle.std.proofs.Common.{arith}
use Rattle.strip_names.proofs.Keys.{none_left}
use Rattle.strip_names.proofs.grouped.are_keys_and_totals.Goals as goal

pub returns-in_default : goal.returns-in_default
returns-in_default c =
    none_left c.args.places.now c.loop-place.place-index c.loop-place.left.now _ c.loop-place.invariant (omega arith) (omega arith)
