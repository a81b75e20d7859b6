use Rattle.std.proofs.Common.{◌≡◌, ◌++◌, drop, map}
use Rattle.strip_setup.specs.Resolve.{number_in}
use Rattle.strip_setup.proofs.tables.numbers_in.Given as goal

abbrev pub invariant-loop-name : goal.invariant-loop-name
invariant-loop-name l = l.numbers ++ map (number_in l.columns) (drop l.name-index l.names) ≡ map (number_in l.columns) l.names
