use Rattle.std.proofs.Common.{filter, nat_le}
use Rattle.std.proofs.lemmas.Result.{err_from_is_err_and}
use Rattle.strip_ast.specs.declared.rules.BoundTree.{BoundTree}
use Rattle.strip_setup.specs.declared.errors.SetupError.TheVariants.{TooWide}
use Rattle.strip_kinds.specs.Width.{least_wide, magnitudes_in_query}
use Rattle.strip_setup.proofs.Firsts.{refused_left}
use Rattle.strip_kinds.proofs.rules.check_widths.Goals as goal

pub returns-in_err-check_query_widths : goal.returns-in_err-check_query_widths
returns-in_err-check_query_widths c =
    let p = err_from_is_err_and c.from_residual.result c.from_residual.ensures.1 in
    rw (p.1, p.2)
    (refused_left TooWide (λ (bound : BoundTree). filter (nat_le least_wide) (magnitudes_in_query c.args.scope.now bound.query))
    c.args.queries.now c.loop-bound.bound-index c.bound-item.result _ c.loop-bound.invariant c.loop-bound-test.true c.bound-item.is c.in_err-check_query_widths.ensures)
