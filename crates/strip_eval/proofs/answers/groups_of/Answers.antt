use Rattle.strip_eval.proofs.Grouped.{groups_on, next_big, next_suits}
use Rattle.strip_eval.proofs.answers.groups_of.Goals as goal

pub add_picked-requires-clause-suits : goal.add_picked-requires-clause-suits
add_picked-requires-clause-suits c =
    next_suits c.args.query.now c.args.places.now c.args.entry.now c.loop-row.one c.loop-row.row-iterator c.loop-row.groups.items
    c.in-Some.row.now c.next.new.self c.push.new.self c.loop-row.invariant c.in-Some.ensures.steps c.in_ok-push.ensures.ok c.requires.suits

pub add_picked-requires-clause-big : goal.add_picked-requires-clause-big
add_picked-requires-clause-big c =
    next_big c.args.query.now c.args.places.now c.args.entry.now c.loop-row.one c.loop-row.row-iterator c.loop-row.groups.items
    c.in-Some.row.now c.next.new.self c.push.new.self c.loop-row.invariant c.in-Some.ensures.steps c.in_ok-push.ensures.ok c.requires.grouped c.requires.suits c.requires.few

pub loop-row-preserved : goal.loop-row-preserved
loop-row-preserved c =
    groups_on c.args.query.now c.args.places.now c.args.entry.now c.loop-row.one c.loop-row.row-iterator c.loop-row.groups.items
    c.in-Some.row.now c.next.new.self c.push.new.self c.loop-row.invariant c.in-Some.ensures.steps c.in_ok-push.ensures.ok c.add_picked.new.groups.items c.pop.new.self c.in_ok-add_picked.ensures c.pop.ensures
