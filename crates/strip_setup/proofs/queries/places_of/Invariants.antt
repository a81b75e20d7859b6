use Rattle.std.proofs.Common.{◌≡◌, ◌++◌, drop, map}
use Rattle.strip_ast.specs.declared.queries.ColTree.{ColTree}
use Rattle.strip_setup.specs.Queries.{place_of}
use Rattle.strip_setup.proofs.queries.places_of.Given as goal

abbrev pub invariant-loop-column : goal.invariant-loop-column
invariant-loop-column l = l.places ++ map (λ (column : ColTree). place_of l.entries column.of column.name) (drop l.column-index l.columns) ≡ map (λ (column : ColTree). place_of l.entries column.of column.name) l.columns
