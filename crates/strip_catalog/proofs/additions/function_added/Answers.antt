use Rattle.strip_ast.specs.declared.statements.Statement.TheVariants as st
use Rattle.strip_catalog.proofs.Added.{function_is}
use Rattle.strip_catalog.proofs.Fitting.{function_few, within}
use Rattle.strip_catalog.proofs.additions.function_added.Goals as goal

pub function_of-requires-clause-few_steps : goal.function_of-requires-clause-few_steps
function_of-requires-clause-few_steps c =
    function_few c.args.setup.now c.args.name.now c.args.steps.now (within c.args.setup.now (st.Function c.args.name.now c.args.steps.now) c.requires.accepted)

pub returns : goal.returns
returns c =
    function_is c.args.setup.now c.defs-tables.result.now c.args.name.now c.args.steps.now c.in_ok-kept.kept c.in_ok-function.function c.defs-tables.ensures c.in_ok-function.ensures c.in_ok-kept.ensures
