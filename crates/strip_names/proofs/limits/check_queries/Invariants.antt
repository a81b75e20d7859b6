use Rattle.std.proofs.Common.{◌≡◌, ◌+◌, ◌++◌, length, drop}
use Rattle.std.specs.List.{enumerate_from, flat_map}
use Rattle.strip_names.specs.Limits.{limits_in_bound}
use Rattle.strip_names.proofs.limits.check_queries.Given as goal

abbrev pub invariant-loop-i : goal.invariant-loop-i
invariant-loop-i l =
    flat_map limits_in_bound (enumerate_from 1 (l.conditions ++ l.evaluate))
    ≡ flat_map limits_in_bound (enumerate_from (l.i + 1) (drop l.i l.conditions ++ l.evaluate))

abbrev pub invariant-loop-j : goal.invariant-loop-j
invariant-loop-j l =
    flat_map limits_in_bound (enumerate_from 1 (l.conditions ++ l.evaluate))
    ≡ flat_map limits_in_bound (enumerate_from (length l.conditions + l.j + 1) (drop l.j l.evaluate))
