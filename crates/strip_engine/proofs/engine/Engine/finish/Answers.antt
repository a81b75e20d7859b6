use Rattle.std.proofs.Common.{◌≡◌, ◌<◌, Some, refl, get_or, length, ap, sym, ◌∙◌, arith}
use Rattle.std.proofs.lemmas.List.{get_or_default}
use Rattle.strip_engine.specs.declared.keepers.Keeper.{Keeper}
use Rattle.strip_engine.specs.declared.queue.Started.{Started}
use Rattle.strip_engine.specs.Acting.{with_sums}
use Rattle.strip_engine.specs.Keepers.{no_keeper}
use Rattle.strip_engine.specs.Queue.{no_started, place_from}
use Rattle.strip_engine.proofs.Keeping.{at_there, can_add_here, finish_answers, keeper_there, keeps_finish, not_running_answers, rise_here, rows_there, table_there}
use Rattle.strip_engine.proofs.engine.Engine.finish.Goals as goal

pub place_of-requires : goal.place_of-requires
place_of-requires c =
    let e = c.self.inside in
    rw c.as_slice.ensures.value (rise_here e.catalog e.limits.bound_rows e.tables.items e.history.entries e.history.room e.session e.begins e.latest e.keepers.items e.queue c.self.invariant)

pub returns-in_default : goal.returns-in_default
returns-in_default c =
    let e = c.self.inside in
    let none = sym (ap (λ ss. place_from 0 ss c.number-number.result) c.as_slice.ensures.value) ∙ sym c.place_of.ensures ∙ c.in_default.is in
    let said = not_running_answers e.catalog e.limits.bound_rows e.tables.items e.history.entries e.history.room e.session e.begins e.latest e.keepers.items e.queue c.self.invariant c.number-number.result none in
    (rw (← c.self.view_is, ← c.number-number.ensures) said, refl)

pub index-requires : goal.index-requires
index-requires c =
    let e = c.self.inside in
    let at = c.in-Some.at in
    let is_at : place_from 0 e.queue.running.items c.number-number.result ≡ Some at = sym (ap (λ ss. place_from 0 ss c.number-number.result) c.as_slice.ensures.value) ∙ sym c.place_of.ensures ∙ c.in-Some.is in
    let there = at_there e.catalog e.limits.bound_rows e.tables.items e.history.entries e.history.room e.session e.begins e.latest e.keepers.items e.queue c.self.invariant c.number-number.result at is_at in
    omega arith

pub index-requires-2 : goal.index-requires-2
index-requires-2 c =
    let e = c.self.inside in
    let at = c.in-Some.at in
    let is_at : place_from 0 e.queue.running.items c.number-number.result ≡ Some at = sym (ap (λ ss. place_from 0 ss c.number-number.result) c.as_slice.ensures.value) ∙ sym c.place_of.ensures ∙ c.in-Some.is in
    let there = at_there e.catalog e.limits.bound_rows e.tables.items e.history.entries e.history.room e.session e.begins e.latest e.keepers.items e.queue c.self.invariant c.number-number.result at is_at in
    let one : c.index.result.now ≡ get_or e.queue.running.items at no_started = c.index.ensures ∙ get_or_default e.queue.running.items at c.index.result.now no_started there in
    let known = keeper_there e.catalog e.limits.bound_rows e.tables.items e.history.entries e.history.room e.session e.begins e.latest e.keepers.items e.queue c.self.invariant c.number-number.result at is_at in
    let rule_is : c.index.result.now.rule ≡ (get_or e.queue.running.items at no_started).rule = ap (λ (s : Started). s.rule) one in
    omega arith

pub add_sums-requires-clause-there : goal.add_sums-requires-clause-there
add_sums-requires-clause-there c =
    let e = c.self.inside in
    let at = c.in-Some.at in
    let is_at : place_from 0 e.queue.running.items c.number-number.result ≡ Some at = sym (ap (λ ss. place_from 0 ss c.number-number.result) c.as_slice.ensures.value) ∙ sym c.place_of.ensures ∙ c.in-Some.is in
    let there = at_there e.catalog e.limits.bound_rows e.tables.items e.history.entries e.history.room e.session e.begins e.latest e.keepers.items e.queue c.self.invariant c.number-number.result at is_at in
    let one : c.index.result.now ≡ get_or e.queue.running.items at no_started = c.index.ensures ∙ get_or_default e.queue.running.items at c.index.result.now no_started there in
    let known = keeper_there e.catalog e.limits.bound_rows e.tables.items e.history.entries e.history.room e.session e.begins e.latest e.keepers.items e.queue c.self.invariant c.number-number.result at is_at in
    let rule_is : c.index.result.now.rule ≡ (get_or e.queue.running.items at no_started).rule = ap (λ (s : Started). s.rule) one in
    let within : c.index.result.now.rule < length e.keepers.items = omega arith in
    let keeper_is : c.index-2.result.now ≡ get_or e.keepers.items (get_or e.queue.running.items at no_started).rule no_keeper = c.index-2.ensures ∙ get_or_default e.keepers.items c.index.result.now.rule c.index-2.result.now no_keeper within ∙ ap (λ n. get_or e.keepers.items n no_keeper) rule_is in
    let table_is = ap (λ (k : Keeper). k.table) keeper_is in
    let content = rw (← c.self.view_is) at c.requires.content in
    let alone = rw (← c.self.view_is) at c.requires.alone in
    let there_too = table_there e.catalog e.limits.bound_rows e.tables.items e.history.entries e.history.room e.session e.begins e.latest e.keepers.items e.queue c.self.invariant c.number-number.result at is_at c.args.done (sym c.number-number.ensures) content c.totals.result.now c.totals.ensures alone in
    omega arith

pub add_sums-requires-clause-can_add : goal.add_sums-requires-clause-can_add
add_sums-requires-clause-can_add c =
    let e = c.self.inside in
    let at = c.in-Some.at in
    let is_at : place_from 0 e.queue.running.items c.number-number.result ≡ Some at = sym (ap (λ ss. place_from 0 ss c.number-number.result) c.as_slice.ensures.value) ∙ sym c.place_of.ensures ∙ c.in-Some.is in
    let there = at_there e.catalog e.limits.bound_rows e.tables.items e.history.entries e.history.room e.session e.begins e.latest e.keepers.items e.queue c.self.invariant c.number-number.result at is_at in
    let one : c.index.result.now ≡ get_or e.queue.running.items at no_started = c.index.ensures ∙ get_or_default e.queue.running.items at c.index.result.now no_started there in
    let known = keeper_there e.catalog e.limits.bound_rows e.tables.items e.history.entries e.history.room e.session e.begins e.latest e.keepers.items e.queue c.self.invariant c.number-number.result at is_at in
    let rule_is : c.index.result.now.rule ≡ (get_or e.queue.running.items at no_started).rule = ap (λ (s : Started). s.rule) one in
    let within : c.index.result.now.rule < length e.keepers.items = omega arith in
    let keeper_is : c.index-2.result.now ≡ get_or e.keepers.items (get_or e.queue.running.items at no_started).rule no_keeper = c.index-2.ensures ∙ get_or_default e.keepers.items c.index.result.now.rule c.index-2.result.now no_keeper within ∙ ap (λ n. get_or e.keepers.items n no_keeper) rule_is in
    let table_is = ap (λ (k : Keeper). k.table) keeper_is in
    let content = rw (← c.self.view_is) at c.requires.content in
    let alone = rw (← c.self.view_is) at c.requires.alone in
    rw table_is (can_add_here e.catalog e.limits.bound_rows e.tables.items e.history.entries e.history.room e.session e.begins e.latest e.keepers.items e.queue c.self.invariant c.number-number.result at is_at c.args.done (sym c.number-number.ensures) content c.totals.result.now c.totals.ensures alone)

pub stop-started-requires-clause-there : goal.stop-started-requires-clause-there
stop-started-requires-clause-there c =
    let e = c.self.inside in
    let at = c.in-Some.at in
    let is_at : place_from 0 e.queue.running.items c.number-number.result ≡ Some at = sym (ap (λ ss. place_from 0 ss c.number-number.result) c.as_slice.ensures.value) ∙ sym c.place_of.ensures ∙ c.in-Some.is in
    let there = at_there e.catalog e.limits.bound_rows e.tables.items e.history.entries e.history.room e.session e.begins e.latest e.keepers.items e.queue c.self.invariant c.number-number.result at is_at in
    omega arith

pub stop-started-requires-clause-rows : goal.stop-started-requires-clause-rows
stop-started-requires-clause-rows c =
    let e = c.self.inside in
    let at = c.in-Some.at in
    let is_at : place_from 0 e.queue.running.items c.number-number.result ≡ Some at = sym (ap (λ ss. place_from 0 ss c.number-number.result) c.as_slice.ensures.value) ∙ sym c.place_of.ensures ∙ c.in-Some.is in
    rows_there e.catalog e.limits.bound_rows e.tables.items e.history.entries e.history.room e.session e.begins e.latest e.keepers.items e.queue c.self.invariant c.number-number.result at is_at

pub invariant_of-self-2 : goal.invariant_of-self-2
invariant_of-self-2 c =
    let e = c.self.inside in
    let at = c.in-Some.at in
    let is_at : place_from 0 e.queue.running.items c.number-number.result ≡ Some at = sym (ap (λ ss. place_from 0 ss c.number-number.result) c.as_slice.ensures.value) ∙ sym c.place_of.ensures ∙ c.in-Some.is in
    let there = at_there e.catalog e.limits.bound_rows e.tables.items e.history.entries e.history.room e.session e.begins e.latest e.keepers.items e.queue c.self.invariant c.number-number.result at is_at in
    let one : c.index.result.now ≡ get_or e.queue.running.items at no_started = c.index.ensures ∙ get_or_default e.queue.running.items at c.index.result.now no_started there in
    let known = keeper_there e.catalog e.limits.bound_rows e.tables.items e.history.entries e.history.room e.session e.begins e.latest e.keepers.items e.queue c.self.invariant c.number-number.result at is_at in
    let rule_is : c.index.result.now.rule ≡ (get_or e.queue.running.items at no_started).rule = ap (λ (s : Started). s.rule) one in
    let within : c.index.result.now.rule < length e.keepers.items = omega arith in
    let keeper_is : c.index-2.result.now ≡ get_or e.keepers.items (get_or e.queue.running.items at no_started).rule no_keeper = c.index-2.ensures ∙ get_or_default e.keepers.items c.index.result.now.rule c.index-2.result.now no_keeper within ∙ ap (λ n. get_or e.keepers.items n no_keeper) rule_is in
    let table_is = ap (λ (k : Keeper). k.table) keeper_is in
    let content = rw (← c.self.view_is) at c.requires.content in
    let alone = rw (← c.self.view_is) at c.requires.alone in
    let made = c.in-Ok.ensures.ok ∙ ap (λ id. with_sums e.tables.items id c.totals.result.now) table_is in
    keeps_finish e.catalog e.limits.bound_rows e.tables.items e.history.entries e.history.room e.session e.begins e.latest e.keepers.items e.queue c.self.invariant c.number-number.result at is_at c.args.done (sym c.number-number.ensures) content c.totals.result.now c.totals.ensures alone c.add_sums.new.tables.items c.push.new.self.entries c.push.new.self.room c.stop-started.new.queue c.stop-started.result c.stop-started.ensures made c.push.ensures.entries (omega (arith, c.push.ensures.room))

pub returns : goal.returns
returns c =
    let e = c.self.inside in
    let at = c.in-Some.at in
    let is_at : place_from 0 e.queue.running.items c.number-number.result ≡ Some at = sym (ap (λ ss. place_from 0 ss c.number-number.result) c.as_slice.ensures.value) ∙ sym c.place_of.ensures ∙ c.in-Some.is in
    let there = at_there e.catalog e.limits.bound_rows e.tables.items e.history.entries e.history.room e.session e.begins e.latest e.keepers.items e.queue c.self.invariant c.number-number.result at is_at in
    let one : c.index.result.now ≡ get_or e.queue.running.items at no_started = c.index.ensures ∙ get_or_default e.queue.running.items at c.index.result.now no_started there in
    let known = keeper_there e.catalog e.limits.bound_rows e.tables.items e.history.entries e.history.room e.session e.begins e.latest e.keepers.items e.queue c.self.invariant c.number-number.result at is_at in
    let rule_is : c.index.result.now.rule ≡ (get_or e.queue.running.items at no_started).rule = ap (λ (s : Started). s.rule) one in
    let within : c.index.result.now.rule < length e.keepers.items = omega arith in
    let keeper_is : c.index-2.result.now ≡ get_or e.keepers.items (get_or e.queue.running.items at no_started).rule no_keeper = c.index-2.ensures ∙ get_or_default e.keepers.items c.index.result.now.rule c.index-2.result.now no_keeper within ∙ ap (λ n. get_or e.keepers.items n no_keeper) rule_is in
    let table_is = ap (λ (k : Keeper). k.table) keeper_is in
    let content = rw (← c.self.view_is) at c.requires.content in
    let alone = rw (← c.self.view_is) at c.requires.alone in
    let said = finish_answers e.catalog e.limits.bound_rows e.tables.items e.history.entries e.history.room e.session e.begins e.latest e.keepers.items e.queue c.self.invariant c.number-number.result at is_at c.args.done (sym c.number-number.ensures) content c.totals.result.now c.totals.ensures alone c.push.new.self.entries c.stop-started.result c.stop-started.ensures.is c.push.ensures.entries in
    rw (← c.self.view_is, ← c.number-number.ensures) said
