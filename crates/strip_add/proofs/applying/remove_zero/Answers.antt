use Rattle.std.proofs.Common.{length, arith, ap, ◌∙◌, sym, List, take, true, false}
use Rattle.strip_value.specs.declared.values.Value.{Value}
use Rattle.strip_value.specs.declared.tables.TableDef.{TableDef}
use Rattle.strip_add.proofs.ApplyLaws.{zero_gone}
use Rattle.strip_add.proofs.SumLaws.{fits_length}
use Rattle.strip_add.proofs.applying.remove_zero.Goals as goal

pub split_at-requires : goal.split_at-requires
split_at-requires c =
    let long = fits_length c.args.table.now.def.columns c.args.row.now c.requires.fits in
    let within = c.requires.derived.key_within in
    let width = c.len-width.ensures ∙ ap (λ (d : TableDef). length d.key) c.def.ensures in
    let same = ap length c.values.ensures in
    omega arith

pub returns-then-gone : goal.returns-then-gone
returns-then-gone c =
    c.take_out.ensures.1 ∙ ap (λ (rs : List (List Value)). record c.args.table.now { rows = rs }) (sym (zero_gone c.args.table.now.def c.args.table.now.rows c.args.row.now c.split_at.result.0.now c.len-width.result _ true c.requires.derived c.requires.fits (c.len-width.ensures ∙ ap (λ (d : TableDef). length d.key) c.def.ensures) (c.split_at.ensures.front ∙ ap (take c.len-width.result) c.values.ensures) c.get.ensures (sym c.if-gone.true ∙ c.is_zero_row-gone.ensures)))

pub returns-else-gone : goal.returns-else-gone
returns-else-gone c =
    ap (λ (rs : List (List Value)). record c.args.table.now { rows = rs }) (sym (zero_gone c.args.table.now.def c.args.table.now.rows c.args.row.now c.split_at.result.0.now c.len-width.result _ false c.requires.derived c.requires.fits (c.len-width.ensures ∙ ap (λ (d : TableDef). length d.key) c.def.ensures) (c.split_at.ensures.front ∙ ap (take c.len-width.result) c.values.ensures) c.get.ensures (sym c.if-gone.false ∙ c.is_zero_row-gone.ensures)))
