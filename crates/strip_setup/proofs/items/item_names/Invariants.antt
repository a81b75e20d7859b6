use Rattle.std.proofs.Common.{◌≡◌, ◌++◌, ◌+◌, drop, map}
use Rattle.std.specs.List.{enumerate_from}
use Rattle.strip_setup.specs.Queries.{item_name}
use Rattle.strip_setup.proofs.items.item_names.Given as goal

abbrev pub invariant-loop-i : goal.invariant-loop-i
invariant-loop-i l = l.names ++ map item_name (enumerate_from (l.i + 1) (drop l.i l.items)) ≡ map item_name (enumerate_from 1 l.items)
