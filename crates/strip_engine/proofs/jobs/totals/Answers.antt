use Rattle.strip_engine.proofs.JobSums.{job_kinds, job_small, job_folded}
use Rattle.strip_engine.proofs.jobs.totals.Goals as goal

pub fold-requires-clause-kinds : goal.fold-requires-clause-kinds
fold-requires-clause-kinds c =
    let plain = c.in_ok-rows.ensures in
    rw plain (job_kinds c.args.def.now c.args.bound.now c.requires)

pub fold-requires-clause-small : goal.fold-requires-clause-small
fold-requires-clause-small c =
    let plain = c.in_ok-rows.ensures in
    rw plain (job_small c.args.def.now c.args.bound.now c.requires)

pub returns : goal.returns
returns c =
    job_folded c.args.def.now c.args.bound.now c.in_ok-rows.rows c.fold.result c.requires c.in_ok-rows.ensures c.fold.ensures
