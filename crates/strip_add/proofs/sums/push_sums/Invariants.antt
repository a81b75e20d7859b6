use Rattle.std.proofs.Common.{◌++◌, drop, map}
use Rattle.strip_value.specs.declared.values.Value.TheVariants.{Int}
use Rattle.strip_meaning.specs.Sums.{plus}
use Rattle.strip_add.specs.Parts.{numbers}
use Rattle.strip_add.proofs.SumLaws.{Appends}
use Rattle.strip_add.proofs.sums.push_sums.Given as goal

abbrev pub invariant-loop-value : goal.invariant-loop-value
invariant-loop-value l =
    Appends l.into.items l.left (drop l.value-index l.more) (l.initial.into.items ++ map Int (plus (numbers l.old) (numbers l.more)))
