use Rattle.std.proofs.Common.{◌≡◌, ◌++◌, drop}
use Rattle.strip_meaning.specs.Effect.{tables_asked}
use Rattle.strip_script.proofs.alone.asked_tables.Given as goal

abbrev pub invariant-loop-entry : goal.invariant-loop-entry
invariant-loop-entry l = l.ids.items ++ tables_asked (drop l.entry-index l.entries) ≡ tables_asked l.entries
