use Rattle.strip_written.proofs.Within.{parsed_matched}
use Rattle.strip_written.proofs.ReadActs.{statement_given}
use Rattle.strip_written.proofs.parsed_acts_are_written.Goals as goal

pub returns : goal.returns
returns c = λ bytes d acts is.
    let (u, sound, (l, r)) = parsed_matched bytes _ is in
    statement_given u d 0 l acts sound r
