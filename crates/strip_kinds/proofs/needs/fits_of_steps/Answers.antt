use Rattle.strip_kinds.specs.Needs.{step_fits}
use Rattle.strip_kinds.proofs.Made.{made-more}
use Rattle.strip_kinds.proofs.needs.fits_of_steps.Goals as goal

pub loop-step-preserved : goal.loop-step-preserved
loop-step-preserved c =
    made-more (step_fits c.args.tables.now c.args.bound.now c.args.bindings.now) c.args.steps.now c.loop-step.step-index c.step-item.result c.loop-step.fits c.push_step_fits.new.fits _
    c.loop-step-test.true c.step-item.is c.in_ok-push_step_fits.ensures c.loop-step.invariant
