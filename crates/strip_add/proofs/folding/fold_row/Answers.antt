use Rattle.std.proofs.Common.{sym, subst, ap, ◌∙◌}
use Rattle.strip_value.specs.Kinds.{FitsColumns}
use Rattle.strip_value.specs.Table.{with_row}
use Rattle.strip_meaning.specs.Sums.{as_derived, summed}
use Rattle.strip_add.proofs.SumLaws.{summed_there}
use Rattle.strip_add.proofs.folding.fold_row.Goals as goal

pub put-requires : goal.put-requires
put-requires c =
    let seen = as_derived c.args.from.now c.args.row.now in
    let there = summed_there c.args.sums.now.def c.args.sums.now.rows seen c.requires.derived c.requires.rows c.requires.fits in
    let made = c.in_ok-summed.ensures ∙ ap (summed c.args.sums.now.def c.args.sums.now.rows) (c.as_slice.ensures.value ∙ c.in_ok-seen.ensures ∙ ap (as_derived c.args.from.now) c.values.ensures) in
    subst (FitsColumns c.args.sums.now.def.columns) (sym made) (there.fits c.requires.sums)

pub returns-in-Ok : goal.returns-in-Ok
returns-in-Ok c =
    let made = c.in_ok-summed.ensures ∙ ap (summed c.args.sums.now.def c.args.sums.now.rows) (c.as_slice.ensures.value ∙ c.in_ok-seen.ensures ∙ ap (as_derived c.args.from.now) c.values.ensures) in
    c.in-Ok.ensures.puts.2 ∙ ap (λ r. record c.args.sums.now { rows = with_row c.args.sums.now.def.key c.args.sums.now.rows r }) made
