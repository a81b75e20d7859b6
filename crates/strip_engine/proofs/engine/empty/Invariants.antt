use Rattle.std.proofs.Common.{◌≡◌, take}
use Rattle.strip_model.specs.History.{empty_tables}
use Rattle.strip_engine.proofs.engine.empty.Given as goal

abbrev pub invariant-loop-def : goal.invariant-loop-def
invariant-loop-def l = l.tables.items ≡ empty_tables (take l.def-index l.defs)
