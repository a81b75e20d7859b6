use Rattle.std.proofs.Common.{◌≡◌, ◌++◌, drop, filter, map, not}
use Rattle.std.specs.List.{enumerate_from}
use Rattle.strip_kinds.specs.Needs.{is_key}
use Rattle.strip_kinds.proofs.needs.columns_outside.Given as goal

abbrev pub invariant-loop-number : goal.invariant-loop-number
invariant-loop-number l =
    l.found ++ map (λ numbered. numbered.1) (filter (λ numbered. not (is_key l.key numbered)) (enumerate_from l.number (drop l.number l.columns)))
    ≡ map (λ numbered. numbered.1) (filter (λ numbered. not (is_key l.key numbered)) (enumerate_from 0 l.columns))
