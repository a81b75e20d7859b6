use Rattle.strip_setup.specs.Parts.{update_wholes}
use Rattle.strip_kinds.proofs.Wide.{of_kinds}
use Rattle.strip_kinds.proofs.width.check_update.Goals as goal

pub returns : goal.returns
returns c = of_kinds _ c.args.entries.now (update_wholes c.args.sets.now c.args.filter.now) c.check_change.result c.in-Ok.ensures c.check_change.ensures
