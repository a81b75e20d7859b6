use Rattle.std.proofs.Common.{◌≡◌, ap, ◌∙◌, arith, rules, get_or}
use Rattle.std.proofs.lemmas.Int.{ints}
use Rattle.std.specs.Prelude.{FitsSigned}
use mir.Syntax.{w128}
use Rattle.strip_bag.specs.declared.bag.Entry.{Entry}
use Rattle.strip_bag.specs.Entries.{counted}
use Rattle.strip_bag.proofs.EntryLaws.{entry_found, entry_none}
use Rattle.strip_bag.proofs.bag.add_entry.Goals as goal

pub overflow_add-count : goal.overflow_add-count
overflow_add-count c =
    let found = rw c.as_slice.ensures.value at c.in-Ok.ensures.found in
    let there = entry_found c.args.entries.now.items c.args.row.now c.in-Ok.at c.requires.bag found in
    let count = there.count c.index.result.now in
    let here = c.index.ensures in
    let fits : FitsSigned w128 c.index.result.now.count = search rules in
    let small = c.requires.fits in
    let now : c.index.result.now.count ≡ (get_or c.args.entries.now.items c.in-Ok.at c.index.result.now).count = ap (λ (e : Entry). e.count) here in
    let times = c.ranges.times in
    search (rules, ints)

pub returns-then-times-eq0-clause-ok : goal.returns-then-times-eq0-clause-ok
returns-then-times-eq0-clause-ok c =
    let gap = rw c.as_slice.ensures.value at c.in-Err.ensures.gap in
    let there = entry_none c.args.entries.now.items c.args.row.now c.in-Err.at gap in
    let test = c.if-times-eq0.true in
    there.same c.args.times (let times = c.ranges.times in omega (arith, ints))

pub returns-then-count-eq0-clause-ok : goal.returns-then-count-eq0-clause-ok
returns-then-count-eq0-clause-ok c =
    let found = rw c.as_slice.ensures.value at c.in-Ok.ensures.found in
    let there = entry_found c.args.entries.now.items c.args.row.now c.in-Ok.at c.requires.bag found in
    let test = c.if-count-eq0.true in
    let fits : FitsSigned w128 c.index.result.now.count = search rules in
    let now : c.index.result.now.count ≡ (get_or c.args.entries.now.items c.in-Ok.at c.index.result.now).count = ap (λ (e : Entry). e.count) c.index.ensures in
    let small = c.requires.fits in
    let count = there.count c.index.result.now in
    let items = c.remove.ensures.items in
    let gone = there.gone c.args.times c.index.result.now (omega (arith, ints)) in
    cc

pub returns-else-count-eq0-clause-ok : goal.returns-else-count-eq0-clause-ok
returns-else-count-eq0-clause-ok c =
    let found = rw c.as_slice.ensures.value at c.in-Ok.ensures.found in
    let there = entry_found c.args.entries.now.items c.args.row.now c.in-Ok.at c.requires.bag found in
    let test = c.if-count-eq0.false in
    let fits : FitsSigned w128 c.index.result.now.count = search rules in
    let now : c.index.result.now.count ≡ (get_or c.args.entries.now.items c.in-Ok.at c.index.result.now).count = ap (λ (e : Entry). e.count) c.index.ensures in
    let small = c.requires.fits in
    let count = there.count c.index.result.now in
    let other = there.count c.index_mut.result.now in
    there.kept c.args.times c.index_mut.result.now _ (ap (λ (e : Entry). e.row) c.index_mut.ensures.value) (omega (arith, ints)) (λ zero. test (omega (arith, ints)))

pub returns-in_ok-insert-in-Err-clause-ok : goal.returns-in_ok-insert-in-Err-clause-ok
returns-in_ok-insert-in-Err-clause-ok c =
    let gap = rw c.as_slice.ensures.value at c.in-Err.ensures.gap in
    let there = entry_none c.args.entries.now.items c.args.row.now c.in-Err.at gap in
    let test = c.if-times-eq0.false in
    let items = c.in_ok-insert-in-Err.ensures.items in
    let copied = c.in_ok-row-in-Err.ensures in
    let times = c.ranges.times in
    ap counted items ∙ there.put c.args.times _ copied (omega (arith, ints)) (λ zero. test (omega (arith, ints)))
