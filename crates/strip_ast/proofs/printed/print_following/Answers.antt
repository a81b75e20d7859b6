use Rattle.std.proofs.Common.{◌∙◌}
use Rattle.strip_ast.proofs.PrintLemmas.{following_one}
use Rattle.strip_ast.proofs.printed.print_following.Goals as goal

pub loop-item-preserved : goal.loop-item-preserved
loop-item-preserved g c =
    following_one g.T.Printed.pieces c.loop-item.into c.mark.new.self c.print_to.new.into c.args.items.now c.loop-item.item-index c.item-item.result c.loop-item-test.true c.item-item.is c.in_ok-mark.ensures c.in_ok-print_to.ensures ∙ c.loop-item.invariant
