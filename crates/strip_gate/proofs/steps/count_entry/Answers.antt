use Rattle.std.proofs.Common.{arith}
use Rattle.strip_gate.proofs.Grows.{appending}
use Rattle.strip_gate.proofs.steps.count_entry.Goals as goal

pub fetch_add-requires : goal.fetch_add-requires
fetch_add-requires g c = let f = c.requires.fits in let e = c.requires.grew c.if-grew.true in (
  f.0,
  omega (arith, f.1),
  appending g.S.Kept.kept g.S.Kept.fixed g.S.Kept.caller _ _ _ e.0 _ _ _ c.requires.turn e.1 e.2 c.requires.own,
)
