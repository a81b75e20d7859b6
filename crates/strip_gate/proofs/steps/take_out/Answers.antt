use Rattle.std.proofs.Common.{Some, ◌∷◌, sym, ap, ◌∙◌}
use Rattle.atomic_table.specs.Table.{rest}
use Rattle.strip_gate.proofs.steps.take_out.Goals as goal

pub exchange-old-requires : goal.exchange-old-requires
exchange-old-requires g c = let x = c.requires.taken in (c.requires.fits.0, (Some x.0, x.1 ∙ ap (λ l. (0, Some x.0) ∷ rest l) (sym x.1)))
