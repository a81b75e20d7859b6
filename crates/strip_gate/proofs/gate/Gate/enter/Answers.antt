use Rattle.std.proofs.Common.{true, ap}
use Rattle.strip_gate.proofs.Passes.{has_entries, own_as}
use Rattle.strip_gate.proofs.gate.Gate.enter.Goals as goal

pub returns-clause-entries : goal.returns-clause-entries
returns-clause-entries g c =
    let e = c.begin_turn-state.ensures.enters in
    let n = c.pass.inside.caller in
    let old = c.pass.inside.place.me.0 in
    let new = c.begin_turn-state.new.place in
    has_entries g.S.Kept.caller new.table_id new.me.0 true n e.knows (own_as n new.me.0.held old.held (ap (λ m. m.0.held) e.now) c.pass.invariant.own)
