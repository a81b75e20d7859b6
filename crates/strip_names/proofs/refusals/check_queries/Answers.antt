use Rattle.std.proofs.Common.{filter}
use Rattle.std.proofs.lemmas.Result.{err_from_is_err_and}
use Rattle.strip_ast.specs.declared.rules.BoundTree.{BoundTree}
use Rattle.strip_setup.specs.declared.errors.SetupError.TheVariants.{ReadsDerived}
use Rattle.strip_setup.specs.Catalog.{is_derived, table_named}
use Rattle.strip_setup.specs.Parts.{names_read}
use Rattle.strip_setup.proofs.Firsts.{refused_left}
use Rattle.strip_names.proofs.refusals.check_queries.Goals as goal

pub returns-in_err-check_query : goal.returns-in_err-check_query
returns-in_err-check_query c =
    let p = err_from_is_err_and c.from_residual.result c.from_residual.ensures.1 in
    rw (p.1, p.2)
    (refused_left ReadsDerived (λ (bound : BoundTree). filter (λ name. is_derived (table_named c.args.tables.now name)) (names_read bound.query))
    c.args.queries.now c.loop-bound.bound-index c.bound-item.result _ c.loop-bound.invariant c.loop-bound-test.true c.bound-item.is c.in_err-check_query.ensures)
