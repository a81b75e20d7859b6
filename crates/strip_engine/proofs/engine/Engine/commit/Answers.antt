use Rattle.std.proofs.Common.{Option, Ok, Err, length, sym, ◌∙◌, ap, subst, arith}
use Rattle.strip_engine.specs.declared.undo.Session.{Session}
use Rattle.strip_engine.specs.Acting.{PreparesFor}
use Rattle.strip_engine.specs.Calls.{Commits}
use Rattle.strip_engine.specs.Keeps.{Keeps}
use Rattle.strip_engine.specs.State.{State, fixed_of}
use Rattle.strip_engine.specs.Undo.{changes_of}
use Rattle.strip_engine.proofs.Keeping.{commit_answers, few_here, fires_few, keeps_commit, prepared_one, refused_for, small_for}
use Rattle.strip_engine.proofs.engine.Engine.commit.Goals as goal

pub prepare_for-requires-clause-small : goal.prepare_for-requires-clause-small
prepare_for-requires-clause-small c =
    let e = c.self.inside in
    rw c.as_slice.ensures.value (small_for e.catalog e.limits.bound_rows e.tables.items e.history.entries e.history.room e.session e.begins e.latest e.keepers.items e.queue c.self.invariant)

pub prepare_for-requires-clause-few : goal.prepare_for-requires-clause-few
prepare_for-requires-clause-few c =
    let e = c.self.inside in
    rw c.as_slice.ensures.value (few_here e.catalog e.limits.bound_rows e.tables.items e.history.entries e.history.room e.session e.begins e.latest e.keepers.items e.queue c.self.invariant)

pub returns-in-Err : goal.returns-in-Err
returns-in-Err c =
    let e = c.self.inside in
    let old : State = record { catalog = e.catalog; bound_rows = e.limits.bound_rows; history = e.history.entries } in
    let known = subst (λ ks. PreparesFor e.session c.args.session ks e.queue.bound e.limits.bound_rows c.prepare_for.new.queue (Err c.in-Err.error)) c.as_slice.ensures.value c.in-Err.ensures.prepared in
    let refused = refused_for e.catalog e.limits.bound_rows e.tables.items e.history.entries e.history.room e.session e.begins e.latest c.args.session c.args.moment e.keepers.items e.queue c.prepare_for.new.queue c.in-Err.error c.self.invariant known in
    subst (λ v. Commits v c.args.session c.args.moment old (Err c.in-Err.error)) c.self.view_is refused

pub overflow_cast-fired : goal.overflow_cast-fired
overflow_cast-fired c =
    let e = c.self.inside in
    let here = sym c.take.ensures.value ∙ c.in-Some.is in
    let known = subst (λ ks. PreparesFor e.session c.args.session ks e.queue.bound e.limits.bound_rows c.prepare_for.new.queue (Ok c.in-Ok.binding)) c.as_slice.ensures.value c.in-Ok.ensures.prepared in
    let live = subst (λ (o : Option Session). PreparesFor o c.args.session e.keepers.items e.queue.bound e.limits.bound_rows c.prepare_for.new.queue (Ok c.in-Ok.binding)) here known in
    let prepared = prepared_one c.in-Some.live c.args.session e.keepers.items e.queue.bound e.limits.bound_rows c.prepare_for.new.queue c.in-Ok.binding live in
    let few = few_here e.catalog e.limits.bound_rows e.tables.items e.history.entries e.history.room e.session e.begins e.latest e.keepers.items e.queue c.self.invariant in
    let most = fires_few e.keepers.items (changes_of c.in-Some.live.log.items) few in
    let same = ap length prepared.1.0 in
    omega (arith, c.len.ensures)

pub invariant_of-self-2 : goal.invariant_of-self-2
invariant_of-self-2 c =
    let e = c.self.inside in
    let here = sym c.take.ensures.value ∙ c.in-Some.is in
    let known = subst (λ ks. PreparesFor e.session c.args.session ks e.queue.bound e.limits.bound_rows c.prepare_for.new.queue (Ok c.in-Ok.binding)) c.as_slice.ensures.value c.in-Ok.ensures.prepared in
    let live = subst (λ (o : Option Session). PreparesFor o c.args.session e.keepers.items e.queue.bound e.limits.bound_rows c.prepare_for.new.queue (Ok c.in-Ok.binding)) here known in
    let prepared = prepared_one c.in-Some.live c.args.session e.keepers.items e.queue.bound e.limits.bound_rows c.prepare_for.new.queue c.in-Ok.binding live in
    let keeps = subst (λ (o : Option Session). Keeps (fixed_of e.catalog e.limits.bound_rows) e.tables.items e.history.entries e.history.room o e.begins e.latest e.keepers.items e.queue) here c.self.invariant in
    let added = rw (← prepared.0) at c.push.ensures.entries in
    let merged = rw c.len-2.ensures.value at c.merge.ensures in
    rw c.take.ensures.after (keeps_commit e.catalog e.limits.bound_rows e.tables.items e.history.entries c.push.new.self.entries e.history.room c.push.new.self.room c.in-Some.live e.begins e.latest c.args.moment c.max-late.result e.keepers.items e.queue c.prepare_for.new.queue c.merge.new.queue c.in-Ok.binding keeps prepared.1 c.in-Ok.ensures.same merged (omega arith) added (omega (arith, c.push.ensures.room)))

pub returns : goal.returns
returns c =
    let e = c.self.inside in
    let here = sym c.take.ensures.value ∙ c.in-Some.is in
    let known = subst (λ ks. PreparesFor e.session c.args.session ks e.queue.bound e.limits.bound_rows c.prepare_for.new.queue (Ok c.in-Ok.binding)) c.as_slice.ensures.value c.in-Ok.ensures.prepared in
    let live = subst (λ (o : Option Session). PreparesFor o c.args.session e.keepers.items e.queue.bound e.limits.bound_rows c.prepare_for.new.queue (Ok c.in-Ok.binding)) here known in
    let prepared = prepared_one c.in-Some.live c.args.session e.keepers.items e.queue.bound e.limits.bound_rows c.prepare_for.new.queue c.in-Ok.binding live in
    let keeps = subst (λ (o : Option Session). Keeps (fixed_of e.catalog e.limits.bound_rows) e.tables.items e.history.entries e.history.room o e.begins e.latest e.keepers.items e.queue) here c.self.invariant in
    let count = c.len.ensures ∙ ap length prepared.1.0 in
    rw (← c.self.view_is, count, prepared.1.1) (commit_answers e.catalog e.limits.bound_rows e.tables.items e.history.entries e.history.room c.in-Some.live e.begins e.latest c.args.session c.args.moment e.keepers.items e.queue keeps (sym prepared.0) c.max-late.result c.push.new.self.entries (omega arith) c.push.ensures.entries prepared.1.2)
