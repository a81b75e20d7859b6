use Rattle.std.proofs.Common.{sym, ◌∙◌, arith}
use Rattle.strip_acts.proofs.Apart.{names_again, names_past, names_all}
use Rattle.strip_acts.proofs.suiting.names_differ.Goals as goal

pub returns-then-has_item : goal.returns-then-has_item
returns-then-has_item c =
    sym (names_again c.args.items.now c.loop-i.i c.index-items-i.result c.loop-i-test.true c.index-items-i.is
    (sym c.has_item.ensures ∙ c.if-has_item.true) c.loop-i.invariant)

pub loop-i-preserved : goal.loop-i-preserved
loop-i-preserved c =
    names_past c.args.items.now c.loop-i.i c.index-items-i.result c.loop-i-test.true c.index-items-i.is
    (sym c.has_item.ensures ∙ c.if-has_item.false) c.loop-i.invariant

pub returns : goal.returns
returns c = sym (names_all c.args.items.now c.loop-i.i (omega arith) c.loop-i.invariant)
