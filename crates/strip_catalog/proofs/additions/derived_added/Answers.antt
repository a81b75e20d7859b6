use Rattle.strip_ast.specs.declared.statements.Statement.TheVariants as st
use Rattle.strip_catalog.proofs.Added.{derived_is}
use Rattle.strip_catalog.proofs.Fitting.{derive_few, within}
use Rattle.strip_catalog.proofs.Grouping.{derive_grouped}
use Rattle.strip_catalog.proofs.additions.derived_added.Goals as goal

pub derived_of-requires-clause-few : goal.derived_of-requires-clause-few
derived_of-requires-clause-few c =
    derive_few c.args.setup.now c.args.name.now c.args.query.now (within c.args.setup.now (st.Derive c.args.name.now c.args.query.now) c.requires.accepted)

pub derived_of-requires-clause-grouped : goal.derived_of-requires-clause-grouped
derived_of-requires-clause-grouped c = derive_grouped c.args.setup.now c.args.name.now c.args.query.now c.requires.accepted

pub returns : goal.returns
returns c = derived_is c.args.setup.now c.defs.result.now c.args.name.now c.args.query.now c.in_ok-table.table c.defs.ensures c.in_ok-table.ensures
