use Rattle.std.proofs.Common.{◌≡◌, take}
use Rattle.strip_engine.specs.Jobs.{rows_in}
use Rattle.strip_engine.proofs.jobs.plain_rows.Given as goal

abbrev pub invariant-loop-bound : goal.invariant-loop-bound
invariant-loop-bound l = l.rows ≡ rows_in (take l.bound-index l.bound-items)
