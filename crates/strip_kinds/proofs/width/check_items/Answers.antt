use Rattle.std.proofs.Common.{◌∙◌}
use Rattle.std.proofs.lemmas.Result.{err_from_is_err_and}
use Rattle.strip_ast.specs.declared.queries.ItemTree.{ItemTree}
use Rattle.strip_setup.specs.declared.errors.SetupError.TheVariants.{TooWide}
use Rattle.strip_setup.specs.Parts.{total_wholes}
use Rattle.strip_kinds.specs.Walks.{wide_wholes}
use Rattle.strip_setup.proofs.Firsts.{passed-item, refused_left}
use Rattle.strip_kinds.proofs.width.check_items.Goals as goal

pub returns-in_err-check_total : goal.returns-in_err-check_total
returns-in_err-check_total c =
    let p = err_from_is_err_and c.from_residual.result c.from_residual.ensures.1 in
    rw (p.1, p.2)
    (refused_left TooWide (λ (item : ItemTree). wide_wholes c.args.kinds.now c.args.entries.now (total_wholes item.what))
    c.args.items.now c.loop-item.item-index c.item-item.result _ c.loop-item.invariant c.loop-item-test.true c.item-item.is c.in_err-check_total.ensures)

pub loop-item-preserved : goal.loop-item-preserved
loop-item-preserved c =
    c.loop-item.invariant ∙ passed-item TooWide (λ (item : ItemTree). wide_wholes c.args.kinds.now c.args.entries.now (total_wholes item.what)) c.args.items.now c.loop-item.item-index c.item-item.result c.loop-item-test.true c.item-item.is c.in_ok-check_total.ensures
