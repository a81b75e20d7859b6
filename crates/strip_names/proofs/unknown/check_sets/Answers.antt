use Rattle.std.proofs.lemmas.Result.{err_from_is_err_and}
use Rattle.strip_setup.specs.declared.errors.SetupError.TheVariants.{Unknown}
use Rattle.strip_names.specs.Unknown.{unknown_in_set}
use Rattle.strip_setup.proofs.Firsts.{refused_left}
use Rattle.strip_names.proofs.unknown.check_sets.Goals as goal

pub returns-in_err-check_set : goal.returns-in_err-check_set
returns-in_err-check_set c =
    let p = err_from_is_err_and c.from_residual.result c.from_residual.ensures.1 in
    rw (p.1, p.2)
    (refused_left Unknown (unknown_in_set c.args.entries.now c.args.columns.now)
    c.args.sets.now c.loop-set.set-index c.set-item.result _ c.loop-set.invariant c.loop-set-test.true c.set-item.is c.in_err-check_set.ensures)
