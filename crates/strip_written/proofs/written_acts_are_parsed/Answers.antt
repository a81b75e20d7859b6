use Rattle.strip_written.proofs.Within.{matched_parsed}
use Rattle.strip_written.proofs.BuildActs.{statement_built}
use Rattle.strip_written.proofs.written_acts_are_parsed.Goals as goal

pub returns : goal.returns
returns c = λ d passes.
    let (l, p) = statement_built d passes in
    matched_parsed p.tokens _ l p.sound p.matched
