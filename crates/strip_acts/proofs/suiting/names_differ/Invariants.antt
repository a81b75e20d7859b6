use Rattle.std.proofs.Common.{◌≡◌, map}
use Rattle.strip_setup.specs.Catalog.{repeated}
use Rattle.strip_names.proofs.Repeated.{repeated_from}
use Rattle.strip_acts.proofs.suiting.names_differ.Given as goal

abbrev pub invariant-loop-i : goal.invariant-loop-i
invariant-loop-i l = repeated (map (λ item. item.name) l.items) ≡ repeated_from (map (λ item. item.name) l.items) l.i
