use Rattle.strip_ast.specs.declared.statements.Statement.TheVariants as st
use Rattle.strip_catalog.proofs.Added.{table_is}
use Rattle.strip_catalog.proofs.Fitting.{table_limited, table_narrow, within}
use Rattle.strip_catalog.proofs.additions.table_added.Goals as goal

pub table_of-requires-clause-narrow : goal.table_of-requires-clause-narrow
table_of-requires-clause-narrow c =
    table_narrow c.args.setup.now c.args.name.now c.args.columns.now c.args.key.now c.args.limit (within c.args.setup.now (st.Table c.args.name.now c.args.columns.now c.args.key.now c.args.limit) c.requires.accepted)

pub table_of-requires-clause-limited : goal.table_of-requires-clause-limited
table_of-requires-clause-limited c =
    table_limited c.args.setup.now c.args.name.now c.args.columns.now c.args.key.now c.args.limit (within c.args.setup.now (st.Table c.args.name.now c.args.columns.now c.args.key.now c.args.limit) c.requires.accepted)

pub returns : goal.returns
returns c = table_is c.args.setup.now c.args.name.now c.args.columns.now c.args.key.now c.args.limit c.in_ok-table.table c.in_ok-table.ensures
