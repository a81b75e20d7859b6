use Rattle.std.proofs.Common.{arith}
use Rattle.strip_ast.proofs.CutLemmas.{token_step, solid_at}
use Rattle.strip_ast.proofs.cutting.tokens.Goals as goal

pub loop-left-preserved : goal.loop-left-preserved
loop-left-preserved c =
    token_step _ _ _ _ _ c.in-Ok.token c.in-Ok.len c.loop-left.invariant.0 c.loop-left.invariant.1 c.in-Ok.ensures.sized (solid_at c.loop-left.left.now (omega arith) cc) c.in-Ok.ensures.cut (cc (c.in-Ok-push.ensures.ok, c.placed.ensures)) c.split_at.ensures.back
