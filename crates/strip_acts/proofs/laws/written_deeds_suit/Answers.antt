use Rattle.strip_acts.proofs.WrittenSuit.{written_suit}
use Rattle.strip_acts.proofs.laws.written_deeds_suit.Goals as goal

pub returns : goal.returns
returns c = written_suit
