use Rattle.std.proofs.Common.{refl, slice_get, sym, ◌∙◌, ap}
use Rattle.std.proofs.lemmas.Option.{slice_get_read}
use Rattle.strip_eval.proofs.Fits.{table_fits}
use Rattle.strip_eval.proofs.entries.table_entry.Goals as goal

pub returns-in-Some-clause-fit : goal.returns-in-Some-clause-fit
returns-in-Some-clause-fit c = λ kinds has.
    let found = c.in-Some.ensures.lookup in
    let there = slice_get_read c.args.tables.now _ c.id.inside.0 c.in-Some.table.now refl found.3.0 found.1 in
    table_fits c.args.tables.now c.args.id c.in-Some.table.now kinds (ap (slice_get c.args.tables.now) (sym c.id.view_is) ∙ there) c.rows-rows.ensures.table has
