use Rattle.std.proofs.Common.{arith}
use Rattle.strip_gate.proofs.Keeps.{passing}
use Rattle.strip_gate.proofs.steps.pass_on.Goals as goal

pub fetch_add-requires : goal.fetch_add-requires
fetch_add-requires g c = let f = c.requires.fits in let x = c.requires.state in (
  f.0,
  omega (arith, f.1),
  passing g.S.Kept.kept g.S.Kept.fixed g.S.Kept.caller _ _ _ x.0 c.requires.turn x.1 x.2 x.3,
)
