use Rattle.std.proofs.Common.{◌≡◌, ◌+◌, drop}
use Rattle.strip_model.specs.Says.{row_count}
use Rattle.strip_engine.proofs.deltas.rows_bound.Given as goal

abbrev pub invariant-loop-rule : goal.invariant-loop-rule
invariant-loop-rule l = l.count + row_count (drop l.rule-index l.rule-items) ≡ row_count l.fn.fired
