use Rattle.std.proofs.Common.{ap, ◌∙◌, sym}
use Rattle.strip_lines.proofs.CallLaws.{Outcome-end, taken_within}
use Rattle.strip_lines.proofs.readers.Pieces.next_statement.Goals as goal

pub returns-then-self-2-clause-outcome : goal.returns-then-self-2-clause-outcome
returns-then-self-2-clause-outcome g c =
    let inside = c.self.inside in
    Outcome-end c.args.self.now _ _ (sym (ap (λ r. r.done) c.self.view_is) ∙ c.if-self-2.true)
    (taken_within inside.over inside.limit inside.taken _ _ (ap (λ r. r.taken) c.self.view_is) (ap (λ r. r.limit) c.self.view_is) c.if-self.false c.self.invariant.1)
