use Rattle.std.proofs.Common.{sym, ◌∙◌, arith}
use Rattle.std.proofs.lemmas.List.{take_rest}
use Rattle.strip_acts.proofs.Apart.{columns_again, columns_past, columns_all}
use Rattle.strip_acts.proofs.suiting.columns_differ.Goals as goal

pub returns-then-has_set : goal.returns-then-has_set
returns-then-has_set c =
    sym (columns_again c.args.sets.now c.loop-i.i c.index-sets-i.result c.loop-i-test.true c.index-sets-i.is
    (simp take_rest at (sym c.has_set.ensures ∙ c.if-has_set.true)) c.loop-i.invariant)

pub loop-i-preserved : goal.loop-i-preserved
loop-i-preserved c =
    columns_past c.args.sets.now c.loop-i.i c.index-sets-i.result c.loop-i-test.true c.index-sets-i.is
    (simp take_rest at (sym c.has_set.ensures ∙ c.if-has_set.false)) c.loop-i.invariant

pub returns : goal.returns
returns c = sym (columns_all c.args.sets.now c.loop-i.i (omega arith) c.loop-i.invariant)
