use Rattle.std.proofs.Common.{◌≡◌, [], sym, ap, ◌∙◌, subst, arith}
use Rattle.strip_gate.specs.Steps.{Knows, given, marked}
use Rattle.strip_gate.proofs.Passes.{knows_given}
use Rattle.strip_gate.proofs.Shares.{splitting}
use Rattle.strip_gate.proofs.steps.give.Goals as goal

pub split_seat-requires : goal.split_seat-requires
split_seat-requires g c =
    let f = c.requires.fits in
    let after = c.mark.ensures.after in
    let part : c.mark.new.place.me.0.part ≡ c.args.part = ap (λ m. m.0.part) after in
    let spare : c.mark.new.place.me.0.spare ≡ c.args.place.now.me.0.spare = ap (λ m. m.0.spare) after in
    let weight : c.mark.new.place.me.0.weight ≡ c.args.place.now.me.0.weight = ap (λ m. m.0.weight) after in
    let idle = c.requires.idle.0 in (
      c.mark.ensures.place ∙ f.0,
      omega (arith, f.1),
      splitting g.S.Kept.kept g.S.Kept.fixed g.S.Kept.caller _ (omega arith) (omega arith) (omega arith) _ (ap (λ m. m.0.waits) after ∙ idle.0) (ap (λ m. m.0.holds) after ∙ idle.1),
    )

pub returns-clause-right : goal.returns-clause-right
returns-clause-right g c =
    let now = c.split_seat.ensures.4 ∙ ap (λ m. (given m.0, [])) c.mark.ensures.after in
    let knows = c.mark.ensures.knows in
    let first = ap (λ m. m.0) c.mark.ensures.after in (
      now,
      subst (Knows g.S.Kept.caller) (sym (ap (λ m. m.0) now))
          (knows_given g.S.Kept.caller (marked c.args.part c.args.place.now.me.0) (subst (Knows g.S.Kept.caller) first knows.0) (omega arith) (knows.1 (omega arith))),
    )
