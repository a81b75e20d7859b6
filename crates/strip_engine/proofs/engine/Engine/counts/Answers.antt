use Rattle.std.proofs.Common.{◌≡◌, length, reverse, subst, arith}
use Rattle.strip_model.specs.Legal.{Legal}
use Rattle.strip_engine.specs.Built.{IsBuilt}
use Rattle.strip_engine.specs.State.{State, fixed, fixed_of, past}
use Rattle.strip_engine.proofs.KeeperRules.{rules_plain}
use Rattle.strip_engine.proofs.QueueKeeps.{queue_counts}
use Rattle.strip_engine.proofs.QuietCounts.{quiet_where}
use Rattle.strip_engine.proofs.engine.Engine.counts.Goals as goal

pub returns-clause-counts : goal.returns-clause-counts
returns-clause-counts c =
    let e = c.self.inside in
    let waits : c.len.result ≡ length e.queue.waiting.items = omega arith in
    let runs : c.len-2.result ≡ length e.queue.running.items = omega arith in
    rw (← c.self.view_is, waits, runs) (queue_counts (fixed_of e.catalog e.limits.bound_rows) (reverse e.history.entries) e.queue (rules_plain (fixed_of e.catalog e.limits.bound_rows) c.self.invariant.built) c.self.invariant.queued)

pub returns-clause-quiet : goal.returns-clause-quiet
returns-clause-quiet c =
    quiet_where c.args.self.now _ (subst (λ (s : State). IsBuilt (fixed s)) c.self.view_is c.self.invariant.built)
    (subst (λ (s : State). Legal (fixed s) (past s)) c.self.view_is c.self.invariant.legal) (returns-clause-counts c)
