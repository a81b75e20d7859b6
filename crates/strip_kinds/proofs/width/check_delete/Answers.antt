use Rattle.strip_setup.specs.Parts.{filter_wholes}
use Rattle.strip_kinds.proofs.Wide.{of_kinds}
use Rattle.strip_kinds.proofs.width.check_delete.Goals as goal

pub returns : goal.returns
returns c = of_kinds _ c.args.entries.now (filter_wholes c.args.filter.now) c.check_filter.result c.in-Ok.ensures c.check_filter.ensures
