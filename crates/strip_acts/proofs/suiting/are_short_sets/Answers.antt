use Rattle.strip_value.specs.declared.queries.Set.{Set}
use Rattle.strip_acts.specs.Shapes.{is_short_calc}
use Rattle.strip_acts.proofs.Counts.{listed_is}
use Rattle.strip_acts.proofs.suiting.are_short_sets.Goals as goal

pub returns-then-not-is_empty : goal.returns-then-not-is_empty
returns-then-not-is_empty c =
    listed_is (λ (s : Set). is_short_calc s.value) c.args.sets.now c.is_empty.result c.all_short_sets.result c.is_empty.ensures
    c.if-not-is_empty.true c.all_short_sets.ensures
