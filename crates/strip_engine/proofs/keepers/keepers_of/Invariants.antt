use Rattle.std.proofs.Common.{◌≡◌, take}
use Rattle.strip_engine.specs.Built.{kept_tables}
use Rattle.strip_engine.specs.Keepers.{keepers_of}
use Rattle.strip_engine.proofs.keepers.keepers_of.Given as goal

abbrev pub invariant-loop-function : goal.invariant-loop-function
invariant-loop-function l = l.keepers.items ≡ keepers_of l.defs (kept_tables (take l.function-index l.functions))
