use Rattle.std.proofs.Common.{◌≡◌, ◌+◌, drop}
use Rattle.strip_meaning.specs.Effect.{kind_mismatch}
use Rattle.strip_engine.proofs.causes.cause_of_kinds.Given as goal

abbrev pub invariant-loop-def : goal.invariant-loop-def
invariant-loop-def l =
    (l.column ≡ l.def-index + 1) × (kind_mismatch l.column (drop l.def-index l.columns) l.left ≡ kind_mismatch 1 l.columns l.row)
