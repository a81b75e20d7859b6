use Rattle.std.proofs.Common.{arith, ap, ◌∙◌}
use Rattle.strip_gate.proofs.Keeps.{looking}
use Rattle.strip_gate.proofs.steps.await_turn.Goals as goal

pub load-served-requires : goal.load-served-requires
load-served-requires g c = let f = c.requires.fits in let i = c.loop-turn.invariant in let w = c.requires.waits in (
  i.0 ∙ f.0,
  omega (arith, f.1),
  looking g.S.Kept.kept g.S.Kept.fixed g.S.Kept.caller _ _ _ (ap (λ m. m.0.waits) i.1 ∙ w.0) (ap (λ m. m.0.holds) i.1 ∙ w.1),
)
