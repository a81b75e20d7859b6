use Rattle.strip_eval.proofs.Asked.{columns_of_kinds}
use Rattle.strip_eval.proofs.tests.put.Goals as goal

pub put-requires : goal.put-requires
put-requires c = columns_of_kinds c.args.table.now.def.columns c.args.row c.requires
