use Rattle.std.proofs.Common.{arith}
use Rattle.strip_engine.specs.State.{fixed_of}
use Rattle.strip_engine.proofs.Keeping.{keeps_begin, begun_at_most}
use Rattle.strip_engine.proofs.engine.Engine.begin.Goals as goal

pub next_number-requires : goal.next_number-requires
next_number-requires c =
    let e = c.self.inside in
    begun_at_most (fixed_of e.catalog e.limits.bound_rows) e.tables.items e.history.entries e.history.room e.session e.begins e.latest e.keepers.items e.queue c.self.invariant

pub invariant_of-self-2 : goal.invariant_of-self-2
invariant_of-self-2 c =
    let e = c.self.inside in
    let none = rw (← c.self.view_is) at c.requires in
    let made = rw c.next_number.ensures at c.in-Ok.ensures in
    keeps_begin (fixed_of e.catalog e.limits.bound_rows) e.tables.items e.history.entries c.add_begin.new.history.entries e.history.room c.add_begin.new.history.room e.session e.begins e.latest e.keepers.items e.queue c.args.caller c.tables-count.result c.args.write.now c.args.read.now c.in-Ok.session c.self.invariant none made c.tables-count.ensures c.in-Ok-add_begin.ensures.0 (let more = c.in-Ok-add_begin.ensures.1 in omega arith)
