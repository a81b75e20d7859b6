use Rattle.std.proofs.Common.{◌≡◌, ◌+◌, drop}
use Rattle.strip_meaning.specs.Effect.{out_of_range}
use Rattle.strip_engine.proofs.causes.cause_of_range.Given as goal

abbrev pub invariant-loop-def : goal.invariant-loop-def
invariant-loop-def l =
    (l.column ≡ l.def-index + 1) × (out_of_range l.column (drop l.def-index l.columns) l.left ≡ out_of_range 1 l.columns l.row)
