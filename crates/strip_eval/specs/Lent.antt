-- What is lent, as contracts see it.
use Rattle.std.specs.Prelude.{List}
use Rattle.strip_value.specs.declared.values.Value.{Value}
use Rattle.strip_value.specs.declared.values.Value.TheVariants as value
use Rattle.strip_eval.specs.declared.entries.Source.{Source}
use Rattle.strip_eval.specs.declared.entries.Source.TheVariants as source
use Rattle.strip_eval.specs.declared.entries.Left.{Left}
use Rattle.strip_eval.specs.declared.entries.Left.TheVariants as left
use Rattle.strip_eval.specs.declared.values.Seen.{Seen}
use Rattle.strip_eval.specs.declared.values.Seen.TheVariants as seen

-- the rows that stand there
abbrev pub rows_in : Source → List (List Value)
rows_in (source.Table table) = table.now.rows
rows_in (source.List rows) = rows.now

-- the rows that are left
abbrev pub left_in : Left → List (List Value)
left_in (left.Table rows) = rows
left_in (left.List rows) = rows.now

-- the value that is seen
abbrev pub shown : Seen → Value
shown (seen.Number n) = value.Int n
shown (seen.Text t) = value.Text t.now
