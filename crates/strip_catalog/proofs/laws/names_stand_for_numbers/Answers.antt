use Rattle.strip_catalog.proofs.Numbering.{own_numbers}
use Rattle.strip_catalog.proofs.laws.names_stand_for_numbers.Goals as goal

pub returns : goal.returns
returns c = own_numbers
