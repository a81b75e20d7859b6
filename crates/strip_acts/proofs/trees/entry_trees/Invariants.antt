use Rattle.std.proofs.Common.{◌≡◌, ◌++◌, ℕ, Some, drop, map}
use Rattle.std.specs.List.{enumerate_from}
use Rattle.strip_value.specs.declared.queries.Input.{Input}
use Rattle.strip_ast.specs.declared.queries.EntryTree.{EntryTree}
use Rattle.strip_value.specs.declared.tables.TableDef.{TableDef}
use Rattle.strip_acts.specs.Trees.{alias_at, entry_trees, origin_of}
use Rattle.strip_acts.proofs.Entries.{trees_from}
use Rattle.strip_acts.proofs.trees.entry_trees.Given as goal

abbrev pub invariant-loop-i : goal.invariant-loop-i
invariant-loop-i l = l.trees ++ trees_from l.tables l.i (drop l.i l.inputs) ≡ entry_trees l.tables l.inputs
