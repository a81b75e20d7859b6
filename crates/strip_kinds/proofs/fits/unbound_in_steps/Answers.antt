use Rattle.std.proofs.Common.{◌∙◌}
use Rattle.std.proofs.lemmas.Result.{err_from_is_err_and}
use Rattle.strip_setup.specs.declared.errors.SetupError.TheVariants.{NotBound}
use Rattle.strip_kinds.specs.Bound.{unbound_in_step}
use Rattle.strip_setup.proofs.Firsts.{passed-item, refused_left}
use Rattle.strip_kinds.proofs.fits.unbound_in_steps.Goals as goal

pub returns-in_err-unbound_in_step : goal.returns-in_err-unbound_in_step
returns-in_err-unbound_in_step c =
    let p = err_from_is_err_and c.from_residual.result c.from_residual.ensures.1 in
    rw (p.1, p.2)
    (refused_left NotBound (unbound_in_step c.args.tables.now c.args.bound.now c.args.bindings.now) c.args.steps.now c.loop-step.step-index c.step-item.result _
    c.loop-step.invariant c.loop-step-test.true c.step-item.is c.in_err-unbound_in_step.ensures)

pub loop-step-preserved : goal.loop-step-preserved
loop-step-preserved c =
    c.loop-step.invariant
    ∙ passed-item NotBound (unbound_in_step c.args.tables.now c.args.bound.now c.args.bindings.now) c.args.steps.now c.loop-step.step-index c.step-item.result c.loop-step-test.true c.step-item.is c.in_ok-unbound_in_step.ensures
