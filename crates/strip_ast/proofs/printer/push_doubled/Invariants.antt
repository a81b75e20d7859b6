use Rattle.std.proofs.Common.{◌≡◌, ◌++◌, drop}
use Rattle.strip_value.specs.Print.{doubled}
use Rattle.strip_ast.proofs.printer.push_doubled.Given as goal

abbrev pub invariant-loop-byte : goal.invariant-loop-byte
invariant-loop-byte l =
    l.into.items ++ doubled (drop l.byte-index l.bytes) ≡ l.initial.into.items ++ doubled l.bytes
