use Rattle.std.proofs.Common.{ap, sym, subst, ◌∙◌, ◌++◌, ◌∷◌, []}
use Rattle.strip_lines.specs.Reading.{fresh}
use Rattle.strip_lines.proofs.RunLaws.{Run, Run-piece}
use Rattle.strip_lines.proofs.TextLaws.{IsPiece-from_not_end, ReadsAll-end, ReadsAll-failed, ReadsAll-full}
use Rattle.strip_lines.proofs.texts.all_statements.Goals as goal

pub returns-in-Err : goal.returns-in-Err
returns-in-Err g c =
    ReadsAll-failed c.args.limit c.reading.reader c.next_statement.new.self _ _ _ _ _ _ c.reading.list c.in-Err.error c.reading.invariant.0 c.reading.invariant.1 c.in-Err.ensures.outcome

pub returns-in-End : goal.returns-in-End
returns-in-End g c =
    let outcome = rw c.in-End.is at c.in-Ok.ensures.outcome in
    ReadsAll-end c.args.limit c.reading.reader c.next_statement.new.self _ _ _ _ _ _ c.reading.list c.reading.invariant.0 c.reading.invariant.1 outcome
    (λ within done. let again = c.next_statement.ensures.stays_ended within done in (again.1, ap g.S.Source.left again.2))

pub reading-preserved : goal.reading-preserved
reading-preserved g c =
    let is_piece = IsPiece-from_not_end c.in-Ok.piece c.in_default.not-End in
    let run = Run-piece (fresh c.args.limit) c.reading.reader c.next_statement.new.self _ _ _ _ _ c.reading.list c.in-Ok.piece is_piece c.reading.invariant.0 c.in-Ok.ensures.outcome in
    let pushed = sym c.in-Ok-push.ensures.ok in
    (subst (Run (fresh c.args.limit) c.next_statement.new.self _ _) pushed run, c.in-Ok.ensures.outcome.faults ∙ c.reading.invariant.1)

pub returns-in_default-push : goal.returns-in_default-push
returns-in_default-push g c =
    let is_piece = IsPiece-from_not_end c.in-Ok.piece c.in_default.not-End in
    ReadsAll-full c.args.limit c.next_statement.new.self _ _ _ _ (c.reading.list ++ c.in-Ok.piece ∷ [])
    (Run-piece (fresh c.args.limit) c.reading.reader c.next_statement.new.self _ _ _ _ _ c.reading.list c.in-Ok.piece is_piece c.reading.invariant.0 c.in-Ok.ensures.outcome)
    (c.in-Ok.ensures.outcome.faults ∙ c.reading.invariant.1)
