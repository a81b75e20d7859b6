use Rattle.std.proofs.Common.{◌≡◌}
use Rattle.strip_setup.specs.Catalog.{repeated}
use Rattle.strip_names.proofs.Repeated.{repeated_from}
use Rattle.strip_names.proofs.exists.check_repeated.Given as goal

abbrev pub invariant-loop-i : goal.invariant-loop-i
invariant-loop-i l = repeated l.names ≡ repeated_from l.names l.i
