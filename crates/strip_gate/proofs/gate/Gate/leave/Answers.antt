use Rattle.std.proofs.Common.{false, ap, length, drop}
use Rattle.strip_gate.specs.History.{numbered}
use Rattle.strip_gate.specs.Steps.{with_mine}
use Rattle.strip_gate.proofs.Passes.{has_entries, own_as, own_more}
use Rattle.strip_gate.proofs.gate.Gate.leave.Goals as goal

pub returns-clause-entries : goal.returns-clause-entries
returns-clause-entries g c =
    let e = c.end_turn.ensures.leaves in
    let n = c.pass.inside.caller in
    let old = c.pass.inside.place.me.0 in
    let new = c.end_turn.new.place in
    let more = numbered (length old.seen) (drop (length old.seen) (g.S.Kept.kept c.turn.inside.state)) in
    has_entries g.S.Kept.caller new.table_id new.me.0 false n e.knows (own_as n new.me.0.held (with_mine more old.held) (ap (λ m. m.0.held) e.now) (own_more n more old.held c.pass.invariant.own))
