use Rattle.std.proofs.Common.{◌≡◌, ◌≤◌, ◌-◌, length}
use Rattle.strip_ast.specs.Tokens.{tokens_from, behind_found}
use Rattle.strip_ast.proofs.cutting.tokens.Given as goal

abbrev pub invariant-loop-left : goal.invariant-loop-left
invariant-loop-left l =
    (tokens_from 0 0 l.bytes ≡ behind_found l.found (tokens_from 0 (length l.bytes - length l.left) l.left)) × (length l.left ≤ length l.bytes)

abbrev pub decreases-loop-left : goal.decreases-loop-left
decreases-loop-left l = length l.left
