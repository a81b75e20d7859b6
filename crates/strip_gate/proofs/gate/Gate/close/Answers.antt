use Rattle.std.proofs.Common.{◌<◌, Some, sym, ap, ◌∙◌, subst}
use mathlib.Core.Option.{some-injective}
use Rattle.std.specs.Prelude.{All, is_some}
use Rattle.strip_gate.specs.Pass.{IsNamed}
use Rattle.std.proofs.lemmas.List.Elements.{All-weaker}
use Rattle.strip_gate.specs.Rule.{times_in}
use Rattle.strip_gate.proofs.Ends.{closes}
use Rattle.strip_gate.proofs.Passes.{idle_holds, is_named, same_value}
use Rattle.strip_gate.proofs.gate.Gate.close.Goals as goal

pub unreachable-requires : goal.unreachable-requires
unreachable-requires g c =
    let p = c.pass.inside in
    let idle = idle_holds p.place.me p.count c.pass.invariant.placed (ap (λ v. v.has_turn) c.pass.view_is ∙ c.requires.idle) in
    let end = closes g.S.Kept.kept g.S.Kept.fixed g.S.Kept.caller _ _ _ _ (ap (λ v. v.weight) c.pass.view_is ∙ c.requires.whole) idle c.close_with-closed.ensures.values.2 in
    c.in_default.not-Some end.state (some-injective _ _ (sym c.take-slot.ensures.value ∙ end.there))

pub returns-clause-kept : goal.returns-clause-kept
returns-clause-kept g c =
    let p = c.pass.inside in
    let idle = idle_holds p.place.me p.count c.pass.invariant.placed (ap (λ v. v.has_turn) c.pass.view_is ∙ c.requires.idle) in
    let end = closes g.S.Kept.kept g.S.Kept.fixed g.S.Kept.caller _ _ _ _ (ap (λ v. v.weight) c.pass.view_is ∙ c.requires.whole) idle c.close_with-closed.ensures.values.2 in
    let same = same_value _ _ _ (some-injective _ _ (sym c.take-slot.ensures.value ∙ end.there)) c.in-Some.is in
    ap g.S.Kept.kept (sym same) ∙ (end.all ∙ ap (λ v. v.seen) c.pass.view_is)

pub returns-clause-fixed : goal.returns-clause-fixed
returns-clause-fixed g c =
    let p = c.pass.inside in
    let idle = idle_holds p.place.me p.count c.pass.invariant.placed (ap (λ v. v.has_turn) c.pass.view_is ∙ c.requires.idle) in
    let end = closes g.S.Kept.kept g.S.Kept.fixed g.S.Kept.caller _ _ _ _ (ap (λ v. v.weight) c.pass.view_is ∙ c.requires.whole) idle c.close_with-closed.ensures.values.2 in
    let same = same_value _ _ _ (some-injective _ _ (sym c.take-slot.ensures.value ∙ end.there)) c.in-Some.is in
    ap (λ v. v.fixed) (sym c.requires.gate) ∙ (ap (λ v. v.gate.fixed) (sym c.pass.view_is) ∙ (end.same_fixed ∙ ap (λ s. Some (g.S.Kept.fixed s)) same))

pub returns-clause-named : goal.returns-clause-named
returns-clause-named g c =
    let p = c.pass.inside in
    let idle = idle_holds p.place.me p.count c.pass.invariant.placed (ap (λ v. v.has_turn) c.pass.view_is ∙ c.requires.idle) in
    let end = closes g.S.Kept.kept g.S.Kept.fixed g.S.Kept.caller _ _ _ _ (ap (λ v. v.weight) c.pass.view_is ∙ c.requires.whole) idle c.close_with-closed.ensures.values.2 in
    let same = same_value _ _ _ (some-injective _ _ (sym c.take-slot.ensures.value ∙ end.there)) c.in-Some.is in
    subst (λ (s : g.row.S.Denot). All (λ e. IsNamed c.args.pass (g.S.Kept.caller e)) (g.S.Kept.kept s)) same
    (All-weaker (λ e. 0 < times_in (g.S.Kept.caller e) p.place.me.0.held) (λ e. IsNamed c.args.pass (g.S.Kept.caller e))
    (λ e h. subst (λ v. IsNamed v (g.S.Kept.caller e)) c.pass.view_is (is_named p.place.table_id p.place.me.0 (is_some p.count) _ _ c.pass.invariant.own h)) _ end.named)
