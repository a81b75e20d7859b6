use Rattle.std.proofs.Common.{◌≡◌, ◌++◌, drop}
use Rattle.strip_value.specs.Print.{following_text}
use Rattle.strip_value.proofs.rows.push_values.Given as goal

abbrev pub invariant-loop-value : goal.invariant-loop-value
invariant-loop-value l =
    l.into.items ++ following_text (drop l.value-index l.others) ≡ l.initial.into.items ++ following_text l.others
