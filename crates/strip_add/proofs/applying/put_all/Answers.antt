use Rattle.std.proofs.Common.{◌+◌, ◌-◌, length, arith, refl}
use Rattle.strip_add.proofs.ApplyLaws.{slot_fits, put_none, put_more, put_failed, back_fits, put_less, put_again, row_long}
use Rattle.strip_add.proofs.applying.put_all.Goals as goal

pub loop-at-init : goal.loop-at-init
loop-at-init c = put_none c.args.table.now.def c.args.table.now c.args.totals.now c.args.slots.now refl c.requires.table c.requires.slots

pub put_slot-requires : goal.put_slot-requires
put_slot-requires c = λ x e.
    slot_fits c.args.table.now.def c.args.table.now.rows c.args.totals.now c.loop-at.at c.loop-at.at c.loop-at.table c.loop-at.slots c.index-slots-at.result x c.requires.derived c.requires.table c.requires.kinds c.requires.within c.loop-at.invariant (omega arith) (omega arith) e

pub loop-at-preserved : goal.loop-at-preserved
loop-at-preserved c =
    put_more c.args.table.now.def c.args.table.now.rows c.args.totals.now c.loop-at.at c.loop-at.table c.put_slot.new.table c.loop-at.slots c.index-slots-at.result c.put_slot.new.slot c.requires.derived c.requires.table c.requires.rise c.requires.kinds c.loop-at.invariant (omega arith) c.in-Ok.ensures.ok

pub loop-done-init : goal.loop-done-init
loop-done-init c =
    put_failed c.args.table.now.def c.args.table.now.rows c.args.totals.now c.loop-at.at (c.loop-at.at - 0) (length c.args.totals.now) c.loop-at.table c.put_slot.new.table c.loop-at.slots c.put_slot.new.slot (omega arith) refl c.in-Err.ensures.err c.loop-at.invariant

pub take_back-requires-clause-replaced : goal.take_back-requires-clause-replaced
take_back-requires-clause-replaced c = λ x e.
    back_fits c.args.table.now.def c.args.table.now.rows c.args.totals.now (c.loop-at.at - c.loop-done.done) (length c.args.totals.now) (c.loop-at.at - 1 - c.loop-done.done) c.loop-done.table c.loop-done.slots c.index-slots-back.result x c.requires.table c.loop-done.invariant (omega arith) e

pub take_back-requires-clause-row : goal.take_back-requires-clause-row
take_back-requires-clause-row c =
    row_long c.args.table.now.def c.args.totals.now (c.loop-at.at - 1 - c.loop-done.done) c.index-totals-back.result c.loop-done.table.def c.requires.derived c.requires.kinds (omega arith) c.index-totals-back.is c.loop-done.invariant.same_def

pub loop-done-preserved : goal.loop-done-preserved
loop-done-preserved c =
    put_less c.args.table.now.def c.args.table.now.rows c.args.totals.now (c.loop-at.at - c.loop-done.done) (c.loop-at.at - (c.loop-done.done + 1)) (length c.args.totals.now) (c.loop-at.at - 1 - c.loop-done.done) c.loop-done.table c.take_back.new.table c.loop-done.slots c.index-slots-back.result c.take_back.new.slot c.index-totals-back.result c.requires.derived c.requires.table c.requires.rise c.requires.kinds c.loop-done.invariant (omega arith) (omega arith) refl (omega arith) c.index-totals-back.is c.take_back.ensures

pub returns-in-Err-clause-err : goal.returns-in-Err-clause-err
returns-in-Err-clause-err c =
    put_again c.args.table.now c.loop-done.table c.args.totals.now (c.loop-at.at - c.loop-done.done) (length c.args.totals.now) c.loop-done.slots c.requires.table (omega arith) c.loop-done.invariant
