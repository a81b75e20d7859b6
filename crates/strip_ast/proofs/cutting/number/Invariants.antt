use Rattle.std.proofs.Common.{◌≡◌, ◌<◌, ◌^◌, drop}
use Rattle.strip_ast.specs.Tokens.{number_from}
use Rattle.strip_ast.proofs.cutting.number.Given as goal

abbrev pub invariant-loop-byte : goal.invariant-loop-byte
invariant-loop-byte l =
    (number_from l.number (drop l.byte-index l.digits) ≡ number_from 0 l.digits) × (l.number < 10 ^ l.byte-index)
