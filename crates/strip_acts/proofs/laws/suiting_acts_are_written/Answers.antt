use Rattle.strip_acts.proofs.SuitingWritten.{suiting_written}
use Rattle.strip_acts.proofs.laws.suiting_acts_are_written.Goals as goal

pub returns : goal.returns
returns c = suiting_written
