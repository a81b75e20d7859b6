use Rattle.strip_query.proofs.BoundLaws.{parts_stay_narrow}
use Rattle.strip_query.proofs.laws.parts_stay_narrow.Goals as goal

pub returns : goal.returns
returns c = parts_stay_narrow
