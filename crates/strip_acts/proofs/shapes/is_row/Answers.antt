use Rattle.std.proofs.Common.{ap, ◌∙◌}
use Rattle.strip_acts.specs.Writable.{are_listed, is_value}
use Rattle.strip_acts.proofs.Counts.{listed_is}
use Rattle.strip_acts.proofs.shapes.is_row.Goals as goal

pub returns-then-not-is_empty : goal.returns-then-not-is_empty
returns-then-not-is_empty c =
    listed_is is_value c.values-values.result.now c.is_empty.result c.are_values.result c.is_empty.ensures c.if-not-is_empty.true
    c.are_values.ensures ∙ ap (are_listed is_value) c.values-values.ensures
