use Rattle.std.proofs.Common.{◌+◌, ◌≤◌, length, Option, sym, subst, ◌∙◌, arith}
use Rattle.strip_engine.specs.declared.undo.Session.{Session}
use Rattle.strip_engine.specs.Keeps.{Keeps}
use Rattle.strip_engine.specs.State.{fixed_of}
use Rattle.strip_engine.proofs.Keeping.{keeps_act}
use Rattle.strip_engine.proofs.engine.Engine.act.Goals as goal

pub invariant_of-self : goal.invariant_of-self
invariant_of-self c =
    let own = c.self.inside in
    let f = fixed_of own.catalog own.limits.bound_rows in
    let session = sym c.take.ensures.value ∙ c.in-Some.is in
    let keeps = subst (λ (s : Option Session). Keeps f own.tables.items own.history.entries own.history.room s own.begins own.latest own.keepers.items own.queue) session c.self.invariant in
    let asked = rw (← c.self.view_is) at c.requires in
    let more : length own.queue.running.items + 1 ≤ c.perform-done.new.history.room = omega arith in
    keeps_act f own.tables.items own.history.entries own.history.room c.in-Some.live own.begins own.latest own.keepers.items own.queue c.args.act.now c.perform-done.new.session
    c.perform-done.new.tables.items c.perform-done.new.history.entries c.perform-done.new.history.room c.perform-done.result keeps asked c.perform-done.ensures.performs c.perform-done.ensures.same more
