use Rattle.std.proofs.Common.{Option, Ok, subst, arith}
use Rattle.strip_value.specs.declared.tables.TableDef.{TableDef}
use Rattle.strip_engine.specs.Acting.{PreparesStart}
use Rattle.strip_engine.proofs.Keeping.{can_start, knows_first, start_keeps, start_says}
use Rattle.strip_engine.proofs.engine.Engine.start.Goals as goal

pub prepare_start-requires : goal.prepare_start-requires
prepare_start-requires c =
    let e = c.self.inside in
    rw (c.defs.ensures.all, c.as_slice.ensures.value) (knows_first e.catalog e.limits.bound_rows e.tables.items e.history.entries e.history.room e.session e.begins e.latest e.keepers.items e.queue c.self.invariant)

pub start_first-job-requires : goal.start_first-job-requires
start_first-job-requires c =
    let e = c.self.inside in
    let q = c.prepare_start.new.queue in
    let h = c.prepare_start.new.history in
    let defs_known = subst (λ ds. PreparesStart ds c.as_slice.result.now q h (Ok c.in_ok-prepared.prepared)) c.defs.ensures.all c.in_ok-prepared.ensures.prepared in
    let keepers_known = subst (λ ks. PreparesStart e.catalog.tables ks q h (Ok c.in_ok-prepared.prepared)) c.as_slice.ensures.value defs_known in
    let prepared = subst (λ (o : Option TableDef). PreparesStart e.catalog.tables e.keepers.items q h (Ok o)) c.in-Some.is keepers_known in
    can_start e.catalog e.limits.bound_rows e.tables.items e.history.entries e.history.room e.session e.begins e.latest e.keepers.items e.queue q h c.in-Some.def c.self.invariant c.in_ok-prepared.ensures.same c.in_ok-prepared.ensures.entries prepared

pub invariant_of-self-2 : goal.invariant_of-self-2
invariant_of-self-2 c =
    let e = c.self.inside in
    let q = c.prepare_start.new.queue in
    let h = c.prepare_start.new.history in
    let defs_known = subst (λ ds. PreparesStart ds c.as_slice.result.now q h (Ok c.in_ok-prepared.prepared)) c.defs.ensures.all c.in_ok-prepared.ensures.prepared in
    let keepers_known = subst (λ ks. PreparesStart e.catalog.tables ks q h (Ok c.in_ok-prepared.prepared)) c.as_slice.ensures.value defs_known in
    let prepared = subst (λ (o : Option TableDef). PreparesStart e.catalog.tables e.keepers.items q h (Ok o)) c.in-Some.is keepers_known in
    start_keeps e.catalog e.limits.bound_rows e.tables.items e.history.entries e.history.room e.session e.begins e.latest c.args.caller c.args.moment c.max-late.result e.keepers.items e.queue q h c.in-Some.def c.self.invariant (omega arith) c.in_ok-prepared.ensures.same c.in_ok-prepared.ensures.entries prepared (omega arith) c.start_first-job.new.queue c.start_first-job.new.history c.start_first-job.result (c.start_first-job.ensures prepared.0 prepared.1 prepared.2)

pub returns : goal.returns
returns c =
    let e = c.self.inside in
    let q = c.prepare_start.new.queue in
    let h = c.prepare_start.new.history in
    let defs_known = subst (λ ds. PreparesStart ds c.as_slice.result.now q h (Ok c.in_ok-prepared.prepared)) c.defs.ensures.all c.in_ok-prepared.ensures.prepared in
    let keepers_known = subst (λ ks. PreparesStart e.catalog.tables ks q h (Ok c.in_ok-prepared.prepared)) c.as_slice.ensures.value defs_known in
    let prepared = subst (λ (o : Option TableDef). PreparesStart e.catalog.tables e.keepers.items q h (Ok o)) c.in-Some.is keepers_known in
    rw (← c.self.view_is) (start_says e.catalog e.limits.bound_rows e.tables.items e.history.entries e.history.room e.session e.begins e.latest c.args.caller c.args.moment c.max-late.result e.keepers.items e.queue q h c.in-Some.def c.self.invariant (omega arith) c.in_ok-prepared.ensures.same c.in_ok-prepared.ensures.entries prepared (omega arith) c.start_first-job.new.queue c.start_first-job.new.history c.start_first-job.result (c.start_first-job.ensures prepared.0 prepared.1 prepared.2))
