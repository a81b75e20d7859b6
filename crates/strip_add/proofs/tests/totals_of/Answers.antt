use Rattle.strip_add.proofs.TestRows.{cells_fit, cells_small}
use Rattle.strip_add.proofs.tests.totals_of.Goals as goal

pub fold-requires-clause-kinds : goal.fold-requires-clause-kinds
fold-requires-clause-kinds c = cells_fit c.args.def.now c.args.rows.now c.requires.def c.requires.ints

pub fold-requires-clause-small : goal.fold-requires-clause-small
fold-requires-clause-small c = cells_small c.args.def.now c.args.rows.now c.requires.def c.requires.ints
