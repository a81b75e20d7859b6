use Rattle.std.proofs.Common.{◌∙◌, List, ap, length, arith}
use Rattle.std.specs.Vec.Iter.{into_iter_items}
use Rattle.strip_value.specs.declared.actions.FiredRule.{FiredRule}
use Rattle.strip_engine.proofs.QueueSteps.{pushing_begins, pushing_more, pushing_ends}
use Rattle.strip_engine.proofs.queue.push_fired.Goals as goal

pub loop-fired-init : goal.loop-fired-init
loop-fired-init c =
    let all = c.into_iter-fired-iterator.ensures.into_iter_gives.0 ∙ c.into_vec-fired-items.ensures in
    let count = ap (λ (fs : List FiredRule). length fs) all in
    (pushing_begins c.args.place c.args.moment c.args.waiting.now.items c.args.fired (into_iter_items c.into_iter-fired-iterator.result) all, omega arith)

pub push_back_reserved-requires : goal.push_back_reserved-requires
push_back_reserved-requires c =
    let next = ap (λ (fs : List FiredRule). length fs) c.in-Some.ensures.steps.0 in
    omega arith

pub loop-fired-preserved : goal.loop-fired-preserved
loop-fired-preserved c =
    let next = ap (λ (fs : List FiredRule). length fs) c.in-Some.ensures.steps.0 in (
      pushing_more c.args.place c.args.moment c.args.waiting.now.items c.args.fired c.loop-fired.waiting.items c.push_back_reserved.new.self.items (into_iter_items c.loop-fired.fired-iterator) (into_iter_items c.next.new.self) c.in-Some.fired c.loop-fired.invariant.0 c.in-Some.ensures.steps.0 c.push_back_reserved.ensures.items,
      omega arith,
    )

pub returns : goal.returns
returns c =
    pushing_ends c.args.place c.args.moment c.args.waiting.now.items c.args.fired c.loop-fired.waiting.items (into_iter_items c.loop-fired.fired-iterator) c.loop-fired.invariant.0 (omega (arith, c.in-None.ensures.steps.0))
