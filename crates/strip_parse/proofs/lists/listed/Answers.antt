use Rattle.std.proofs.Common.{◌∙◌, ◌+◌, ◌-◌, ap, sym, Ok}
use Rattle.strip_parse.proofs.Loops.{list_stop, list_more, list_from}
use Rattle.strip_parse.proofs.lists.listed.Goals as goal

pub returns-then-not-skip : goal.returns-then-not-skip
returns-then-not-skip g c =
    c.loop-turn.invariant ∙ list_stop g.P.Part.taking c.loop-turn.items (c.most-turn-end.result - c.loop-turn._turn) c.loop-turn.cursor (sym c.if-not-skip.ensures.tested) ∙ ap (λ s. Ok (c.loop-turn.items, s)) (sym c.if-not-skip.ensures.kept)

pub loop-turn-preserved : goal.loop-turn-preserved
loop-turn-preserved g c =
    c.loop-turn.invariant ∙ list_more g.P.Part.taking c.loop-turn.items c.loop-turn._turn c.most-turn-end.result c.loop-turn.cursor c.skip.new.self c.take-in-loop-turn.new.cursor c.in_ok-item.item c.loop-turn-test.true (sym c.if-not-skip.ensures.tested) c.if-not-skip.ensures.taken c.in_ok-item.ensures ∙ ap (λ xs. list_from g.P.Part.taking xs (c.most-turn-end.result - (c.loop-turn._turn + 1)) c.take-in-loop-turn.new.cursor) (sym c.in_ok-push-2.ensures.ok)
