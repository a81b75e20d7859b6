use Rattle.std.proofs.Common.{true, false, sym, ◌∙◌, append-nil}
use Rattle.strip_model.specs.Says.{chosen, read_besides}
use Rattle.strip_engine.proofs.Holding.{chosen_step}
use Rattle.strip_engine.proofs.holds.chosen_ids.Goals as goal
use Rattle.strip_engine.proofs.holds.chosen_ids.Goals.{then-is_chosen+in_ok-push, else-is_chosen}

pub loop-number-preserved : goal.loop-number-preserved
loop-number-preserved c =
    let p = read_besides c.args.besides.now c.args.asked.now in
    elim c.if-is_chosen.branch [
      | then-is_chosen+in_ok-push w ↦ chosen_step p c.loop-number.ids c.if-is_chosen.ids (chosen p 0 c.args.count) c.loop-number.number c.args.count true (sym c.is_chosen.ensures ∙ w.if-is_chosen.true) c.loop-number-test.true (w.ids-is ∙ w.in_ok-push.ensures.ok) c.loop-number.invariant
      | else-is_chosen w ↦ chosen_step p c.loop-number.ids c.if-is_chosen.ids (chosen p 0 c.args.count) c.loop-number.number c.args.count false (sym c.is_chosen.ensures ∙ w.if-is_chosen.false) c.loop-number-test.true (w.ids-is ∙ sym (append-nil c.loop-number.ids)) c.loop-number.invariant
    ]
