use Rattle.std.proofs.Common.{◌≡◌, List, ℕ, ◌++◌, take, drop}
use Rattle.strip_value.specs.Pieces.{segments_of}
use Rattle.strip_lines.specs.Reading.{begun_with}
use Rattle.strip_lines.proofs.cuts.run_of.Given as goal

abbrev pub invariant-loop-i : goal.invariant-loop-i
invariant-loop-i l =
    (more : List ℕ) → segments_of l.initial.quoted (l.bytes ++ more) ≡ begun_with (take l.i l.bytes) (segments_of l.quoted (drop l.i l.bytes ++ more))
