use Rattle.strip_add.proofs.TestRows.{cells_fit, cells_small, first_added}
use Rattle.strip_add.proofs.tests.added.Goals as goal

pub fold-requires-clause-kinds : goal.fold-requires-clause-kinds
fold-requires-clause-kinds c = cells_fit c.args.def.now c.args.rows.now c.requires.def c.requires.ints

pub fold-requires-clause-small : goal.fold-requires-clause-small
fold-requires-clause-small c = cells_small c.args.def.now c.args.rows.now c.requires.def c.requires.ints

pub apply-requires-clause-rise : goal.apply-requires-clause-rise
apply-requires-clause-rise c =
    (first_added c.args.def.now c.args.rows.now c.in_ok-totals.totals c.in_ok-table.table c.requires.def c.requires.ints c.requires.few c.in_ok-totals.ensures c.in_ok-table.ensures.0 c.in_ok-table.ensures.1).rise

pub apply-requires-clause-kinds : goal.apply-requires-clause-kinds
apply-requires-clause-kinds c =
    (first_added c.args.def.now c.args.rows.now c.in_ok-totals.totals c.in_ok-table.table c.requires.def c.requires.ints c.requires.few c.in_ok-totals.ensures c.in_ok-table.ensures.0 c.in_ok-table.ensures.1).kinds

pub apply-requires-clause-within : goal.apply-requires-clause-within
apply-requires-clause-within c =
    (first_added c.args.def.now c.args.rows.now c.in_ok-totals.totals c.in_ok-table.table c.requires.def c.requires.ints c.requires.few c.in_ok-totals.ensures c.in_ok-table.ensures.0 c.in_ok-table.ensures.1).within
