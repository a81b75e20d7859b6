use Rattle.std.proofs.Common.{arith}
use Rattle.strip_gate.proofs.Keeps.{marking}
use Rattle.strip_gate.proofs.steps.mark.Goals as goal

pub compare_exchange-requires : goal.compare_exchange-requires
compare_exchange-requires g c = let f = c.requires.fits in (f.0, omega (arith, f.1), marking g.S.Kept.kept g.S.Kept.fixed g.S.Kept.caller _ _ _ _)
