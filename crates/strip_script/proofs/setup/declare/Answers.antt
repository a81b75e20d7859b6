use Rattle.std.proofs.Common.{sym, subst}
use Rattle.strip_catalog.specs.Calls.{Adds}
use Rattle.strip_script.proofs.BuiltSteps.{ready_adds}
use Rattle.strip_script.proofs.setup.declare.Goals as goal

pub returns-in-Ready : goal.returns-in-Ready
returns-in-Ready c = subst (λ statement. Adds c.args.catalog.now statement c.ready.new.self c.ready.result) (sym c.in-Ready.is) (ready_adds _ _ c.ready.result c.ready.ensures)
