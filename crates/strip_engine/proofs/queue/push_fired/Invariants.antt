use Rattle.std.proofs.Common.{◌+◌, ◌≤◌, length}
use Rattle.std.specs.VecDeque.{deque_len, deque_capacity}
use Rattle.std.specs.Vec.Iter.{into_iter_items}
use Rattle.strip_engine.proofs.QueueSteps.{Pushing}
use Rattle.strip_engine.proofs.queue.push_fired.Given as goal

abbrev pub invariant-loop-fired : goal.invariant-loop-fired
invariant-loop-fired l =
    Pushing l.place l.moment l.fn.waiting.items l.fn.fired l.waiting.items (into_iter_items l.fired-iterator) × (deque_len l.waiting + length (into_iter_items l.fired-iterator) ≤ deque_capacity l.waiting)
