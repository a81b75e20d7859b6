use Rattle.std.proofs.Common.{◌≡◌, ◌++◌, drop, map}
use Rattle.strip_ast.specs.declared.queries.EntryTree.{EntryTree}
use Rattle.strip_setup.specs.Queries.{input_of}
use Rattle.strip_setup.proofs.queries.inputs_of.Given as goal

abbrev pub invariant-loop-entry : goal.invariant-loop-entry
invariant-loop-entry l = l.inputs ++ map (λ (entry : EntryTree). input_of l.tables entry.origin) (drop l.entry-index l.entries) ≡ map (λ (entry : EntryTree). input_of l.tables entry.origin) l.entries
