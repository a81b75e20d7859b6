use Rattle.std.proofs.Common.{arith}
use Rattle.strip_gate.proofs.Keeps.{drawing}
use Rattle.strip_gate.proofs.steps.draw.Goals as goal

pub fetch_add-requires : goal.fetch_add-requires
fetch_add-requires g c = let f = c.requires.fits in (f.0, omega (arith, f.1), drawing g.S.Kept.kept g.S.Kept.fixed g.S.Kept.caller _ _ _ c.requires.idle)
