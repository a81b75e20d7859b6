use Rattle.std.proofs.Common.{◌≡◌, ◌<◌, ◌≤◌, None, length, arith, ap, sym, subst, ◌∙◌}
use Rattle.strip_value.specs.declared.tables.TableDef.{TableDef}
use Rattle.strip_value.specs.Table.{Keyed}
use Rattle.strip_meaning.specs.Effect.{table_at}
use Rattle.strip_engine.specs.Steps.{defs_of}
use Rattle.strip_engine.proofs.Fits.{table_read, one_of, narrow}
use Rattle.strip_engine.proofs.Restores.{put_answered, fits_unless}
use Rattle.strip_engine.proofs.steps.put.Goals as goal

-- a table without a query has few columns
pub cause_before_put-requires : goal.cause_before_put-requires
cause_before_put-requires c =
    let there : c.args.id < length c.args.tables.now.items = omega arith in
    let read = table_read c.args.tables.now.items c.args.id c.id.inside.0 c.index.result.now there c.id.view_is c.index.ensures in
    let one = one_of c.args.tables.now.items c.args.id c.requires.tables_are there in
    let def : c.def-def.result.now ≡ (table_at c.args.tables.now.items c.args.id).def = c.def-def.ensures ∙ ap (λ (t : Keyed). t.def) read in
    subst (λ (d : TableDef). d.query ≡ None → length d.columns ≤ 16) (sym def) (narrow (defs_of c.args.tables.now.items) (table_at c.args.tables.now.items c.args.id).def one)

-- no cause applies before the table is asked
pub put_into-requires-clause-fits : goal.put_into-requires-clause-fits
put_into-requires-clause-fits c =
    let tables = c.args.tables.now.items in
    let there : c.args.id < length tables = omega arith in
    let read = table_read tables c.args.id c.id.inside.0 c.index.result.now there c.id.view_is c.index.ensures in
    let def = c.def-def.ensures ∙ ap (λ (t : Keyed). t.def) read in
    let none = rw (def, c.values.ensures) at (sym c.in_default.ensures) in
    let fits = fits_unless c.args.holds.now tables c.args.id c.args.row.now c.requires.tables_are there none in
    let read_mut = table_read tables c.args.id c.id.inside.0 c.index_mut.result.now there c.id.view_is c.index_mut.ensures.value in
    rw (read_mut, c.in_ok-row.ensures) fits

pub returns : goal.returns
returns c =
    let tables = c.args.tables.now.items in
    let there : c.args.id < length tables = omega arith in
    let read = table_read tables c.args.id c.id.inside.0 c.index.result.now there c.id.view_is c.index.ensures in
    let def = c.def-def.ensures ∙ ap (λ (t : Keyed). t.def) read in
    let none = rw (def, c.values.ensures) at (sym c.in_default.ensures) in
    let fits = fits_unless c.args.holds.now tables c.args.id c.args.row.now c.requires.tables_are there none in
    let read_mut = table_read tables c.args.id c.id.inside.0 c.index_mut.result.now there c.id.view_is c.index_mut.ensures.value in
    let table = rw read_mut at c.put_into.ensures.table in
    let puts = rw (read_mut, c.in_ok-reserve.ensures.items, c.in_ok-row.ensures) at c.put_into.ensures.puts in
    rw c.id.view_is (put_answered c.args.holds.now tables c.args.log.now.items c.args.id c.args.row.now there table c.put_into.new.table c.put_into.new.log.items c.put_into.result none fits puts)
