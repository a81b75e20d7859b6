use Rattle.std.proofs.Common.{◌≡◌, ◌-◌}
use Rattle.strip_ast.specs.Syntax.{columns}
use Rattle.strip_parse.specs.Reading.{part}
use Rattle.strip_parse.proofs.Loops.{columns_from}
use Rattle.strip_parse.proofs.setup.take_columns.Given as goal

abbrev pub invariant-loop-turn : goal.invariant-loop-turn
invariant-loop-turn l = part columns l.fn.cursor ≡ columns_from l.found (l._turn-end - l._turn) l.cursor
