use Rattle.std.proofs.Common.{[], ◌∷◌, refl, ap}
use Rattle.strip_gate.proofs.Passes.{has_entries, own_as}
use Rattle.strip_gate.proofs.gate.Gate.split.Goals as goal

pub returns-clause-entries : goal.returns-clause-entries
returns-clause-entries g c =
    let l = c.give-other.ensures.left in
    let r = c.give-other.ensures.right in
    let n = c.pass.inside.place.me.0.spare_from in (
      has_entries g.S.Kept.caller _ _ _ _ l.1 (own_as _ _ _ (ap (λ m. m.0.held) l.0) c.pass.invariant.own),
      has_entries g.S.Kept.caller _ _ _ n r.1 (own_as n _ ((n, []) ∷ []) (ap (λ m. m.0.held) r.0) refl),
    )
