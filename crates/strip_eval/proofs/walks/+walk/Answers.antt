use Rattle.std.proofs.Common.{◌++◌, arith}
use Rattle.strip_eval.specs.Walks.{rows_behind}
use Rattle.strip_eval.proofs.Walked.{walks_in, walks_on}
use Rattle.strip_eval.proofs.walks.+walk.Goals as goal

pub walk-requires : goal.walk-requires
walk-requires t c =
    let long = c.in-Some.ensures.cases.1 in (
      omega (arith, c.decreases),
      (c.requires.plain, walks_in c.args.query.now c.in-Some.others.now c.loop-row.chosen c.loop-row.row-iterator c.in-Some-row.row.now c.next.new.self c.push.new.self c.loop-row.invariant.suits c.in-Some-row.ensures.steps c.in_ok-push.ensures.ok),
    )

pub loop-row-preserved : goal.loop-row-preserved
loop-row-preserved t c =
    walks_on c.args.query.now c.in-Some.others.now (c.args.into.now ++ rows_behind c.args.query.now c.args.chosen.now c.args.entries.now) c.args.chosen.now
    c.loop-row.into c.loop-row.chosen c.loop-row.row-iterator c.in-Some-row.row.now c.next.new.self c.push.new.self c.walk.new.into c.walk.new.chosen c.pop.new.self
    c.loop-row.invariant c.in-Some-row.ensures.steps c.in_ok-push.ensures.ok c.in_ok-walk.ensures.rows c.in_ok-walk.ensures.chosen c.pop.ensures
