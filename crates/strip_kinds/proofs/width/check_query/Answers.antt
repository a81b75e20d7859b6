use Rattle.strip_setup.specs.Parts.{query_wholes}
use Rattle.strip_kinds.proofs.Wide.{of_kinds}
use Rattle.strip_kinds.proofs.width.check_query.Goals as goal

pub returns : goal.returns
returns c = of_kinds _ c.args.entries.now (query_wholes c.args.query.now) c.check_wholes.result c.in-Ok.ensures c.check_wholes.ensures
