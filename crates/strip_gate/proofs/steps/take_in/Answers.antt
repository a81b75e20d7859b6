use Rattle.std.proofs.Common.{false, arith, ap, ◌∙◌}
use Rattle.strip_gate.specs.Steps.{pass_view}
use Rattle.strip_gate.proofs.Keeps.{settling}
use Rattle.strip_gate.proofs.Passes.{has_entries, own_as, own_append, joined_view}
use Rattle.strip_gate.proofs.Shares.{joining}
use Rattle.strip_gate.proofs.steps.take_in.Goals as goal

pub join_seat-requires : goal.join_seat-requires
join_seat-requires g c = let f = c.requires.fits in let idle = c.requires.idle in (
  f.0.0,
  f.1.0,
  idle.2,
  omega (arith, f.0.1),
  joining g.S.Kept.kept g.S.Kept.fixed g.S.Kept.caller _ _ _ _ idle.0 idle.1,
)

pub load-requires : goal.load-requires
load-requires g c = let f = c.requires.fits.0 in (c.join_seat.ensures.0 ∙ f.0, omega (arith, f.1), settling g.S.Kept.kept g.S.Kept.fixed g.S.Kept.caller _ _ _)

pub returns-clause-view : goal.returns-clause-view
returns-clause-view g c =
    let settled = c.load.ensures.2.0 ∙ c.join_seat.ensures.2 in
    (λ i. pass_view ((c.load.ensures.0 ∙ c.join_seat.ensures.0) i) (ap (λ m. m.0) settled i) false)
    ∙ joined_view g.S.Kept.caller c.args.place.now.table_id c.args.other.table_id c.args.place.now.me.0 c.args.other.me.0 false _ _ c.requires.own.0 c.requires.own.1

pub returns-clause-entries : goal.returns-clause-entries
returns-clause-entries g c =
    let settled = c.load.ensures.2.0 ∙ c.join_seat.ensures.2 in
    has_entries g.S.Kept.caller _ _ _ _ c.load.ensures.2.1 (own_as _ _ _ (ap (λ m. m.0.held) settled) (own_append _ _ _ c.requires.own.0))
