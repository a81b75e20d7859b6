use Rattle.std.proofs.Common.{◌≡◌, [], ◌∷◌, ◌++◌, length, Some, Option, List, sym, ap, ◌∙◌, subst}
use Rattle.atomic_table.specs.Table.{opening}
use Rattle.strip_gate.specs.Rule.{IsKept}
use Rattle.strip_gate.specs.Steps.{opening_view}
use Rattle.strip_gate.proofs.Ends.{opens}
use Rattle.strip_gate.proofs.Passes.{opening_pass}
use Rattle.strip_gate.proofs.gate.Gate.new.Goals as goal

pub new-requires : goal.new-requires
new-requires g c =
    let kept = g.S.Kept.kept in
    let items : c.push_reserved.new.self.items ≡ Some c.args.state ∷ [] = c.push_reserved.ensures.items ∙ ap (λ l. l ++ Some c.args.state ∷ []) c.in-Ok.ensures.items in
    let value = c.of-about.ensures in
    subst
    (λ (z : List (Option g.row.S.Denot) × g.row.S.Denot). IsKept kept g.S.Kept.fixed g.S.Kept.caller (opening (c.entries.result ∷ 0 ∷ 0 ∷ []) z.0 (opening_view g.S.Kept.caller (kept z.1) (g.S.Kept.fixed z.1))))
    (λ i. (sym items i, sym value i))
    (opens kept g.S.Kept.fixed g.S.Kept.caller c.args.state c.entries.result c.entries.type_inv c.entries.ensures c.requires)

pub invariant_of-pass : goal.invariant_of-pass
invariant_of-pass g c =
    let items : c.push_reserved.new.self.items ≡ Some c.args.state ∷ [] = c.push_reserved.ensures.items ∙ ap (λ l. l ++ Some c.args.state ∷ []) c.in-Ok.ensures.items in
    let e = c.in-Ok-new.ensures.ok in
    opening_pass g.S.Kept.caller _ _ _ _ (ap (λ t. t.words) e.2 ∙ e.0) (ap (λ t. t.slots) e.2 ∙ (e.1 ∙ ap length items)) e.4
