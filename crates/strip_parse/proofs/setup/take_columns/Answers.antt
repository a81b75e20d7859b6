use Rattle.std.proofs.Common.{◌∙◌, ap, sym}
use Rattle.strip_ast.specs.Syntax.{column}
use Rattle.strip_parse.specs.Reading.{part}
use Rattle.strip_parse.proofs.Loops.{columns_more}
use Rattle.strip_parse.proofs.setup.take_columns.Goals as goal

pub loop-turn-preserved : goal.loop-turn-preserved
loop-turn-preserved c =
    c.loop-turn.invariant ∙ columns_more c.loop-turn.found c.push-in-loop-turn.new.self c.loop-turn._turn c.most-turn-end.result c.loop-turn.cursor c.skip.new.self c.take_column-in-loop-turn.new.cursor c.in_ok-item.item c.loop-turn-test.true (sym c.if-not-skip.ensures.tested) c.if-not-skip.ensures.taken (sym c.if-skip.ensures.tested) (ap (λ s. part column s) (sym c.if-skip.ensures.kept) ∙ c.in_ok-item.ensures) c.in_ok-push-2.ensures.ok
