use Rattle.std.proofs.Common.{◌≡◌, drop}
use Rattle.strip_ast.specs.Pieces.{after_all, following}
use Rattle.strip_ast.proofs.printed.print_following.Given as goal

abbrev pub invariant-loop-item : goal.invariant-loop-item
invariant-loop-item g l =
    after_all l.into (following g.T.Printed.pieces (drop l.item-index l.items)) ≡ after_all l.initial.into (following g.T.Printed.pieces l.items)
