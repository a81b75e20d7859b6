use Rattle.std.proofs.Common.{◌≡◌, ◌-◌}
use Rattle.strip_parse.specs.Taking.{listed_of}
use Rattle.strip_parse.proofs.Loops.{list_from}
use Rattle.strip_parse.proofs.lists.listed.Given as goal

abbrev pub invariant-loop-turn : goal.invariant-loop-turn
invariant-loop-turn g l =
    listed_of g.P.Part.taking l.fn.cursor ≡ list_from g.P.Part.taking l.items (l._turn-end - l._turn) l.cursor
