use Rattle.strip_add.proofs.LawProofs.{adding_adds}
use Rattle.strip_add.proofs.laws.adding_adds.Goals as goal

pub returns : goal.returns
returns c = λ def table totals key can. adding_adds def table totals can key
