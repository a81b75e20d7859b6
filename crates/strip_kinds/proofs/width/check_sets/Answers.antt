use Rattle.std.proofs.Common.{[], ◌∷◌, ◌∙◌}
use Rattle.std.proofs.lemmas.Result.{err_from_is_err_and}
use Rattle.strip_ast.specs.declared.deeds.SetTree.{SetTree}
use Rattle.strip_setup.specs.declared.errors.SetupError.TheVariants.{TooWide}
use Rattle.strip_setup.specs.Parts.{value}
use Rattle.strip_kinds.specs.Walks.{wide_wholes}
use Rattle.strip_setup.proofs.Firsts.{passed-item, refused_left}
use Rattle.strip_kinds.proofs.width.check_sets.Goals as goal

pub returns-in_err-check_set : goal.returns-in_err-check_set
returns-in_err-check_set c =
    let p = err_from_is_err_and c.from_residual.result c.from_residual.ensures.1 in
    rw (p.1, p.2)
    (refused_left TooWide (λ (s : SetTree). wide_wholes c.args.kinds.now c.args.entries.now (record { expr = s.value; purpose = value } ∷ []))
    c.args.sets.now c.loop-set.set-index c.set-item.result _ c.loop-set.invariant c.loop-set-test.true c.set-item.is c.in_err-check_set.ensures)

pub loop-set-preserved : goal.loop-set-preserved
loop-set-preserved c =
    c.loop-set.invariant ∙ passed-item TooWide (λ (s : SetTree). wide_wholes c.args.kinds.now c.args.entries.now (record { expr = s.value; purpose = value } ∷ [])) c.args.sets.now c.loop-set.set-index c.set-item.result c.loop-set-test.true c.set-item.is c.in_ok-check_set.ensures
