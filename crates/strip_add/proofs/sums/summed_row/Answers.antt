use Rattle.std.proofs.Common.{length, arith, ap, ◌∙◌, ◌++◌, map}
use Rattle.strip_value.specs.declared.tables.TableDef.{TableDef}
use Rattle.strip_value.specs.declared.values.Value.TheVariants.{Int}
use Rattle.strip_meaning.specs.Sums.{plus}
use Rattle.strip_add.specs.Parts.{numbers}
use Rattle.strip_add.proofs.SumLaws.{fits_length, sum_parts}
use Rattle.strip_add.proofs.sums.summed_row.Goals as goal

pub split_at-requires : goal.split_at-requires
split_at-requires c =
    let long = fits_length c.args.table.now.def.columns c.args.row.now c.requires.fits in
    let within = c.requires.derived.key_within in
    let width = c.len-width.ensures ∙ ap (λ (d : TableDef). length d.key) c.def.ensures in
    omega arith

pub push_sums-requires-clause-lengths : goal.push_sums-requires-clause-lengths
push_sums-requires-clause-lengths c =
    (sum_parts c.args.table.now.def c.args.table.now.rows c.args.row.now c.split_at.result.0.now c.split_at.result.1.now c.behind_key-old.result.now c.len-width.result _ c.requires.derived c.requires.rows c.requires.fits c.requires.sums (c.len-width.ensures ∙ ap (λ (d : TableDef). length d.key) c.def.ensures) c.split_at.ensures.front c.split_at.ensures.back c.get.ensures c.behind_key-old.ensures).lengths

pub push_sums-requires-clause-fit : goal.push_sums-requires-clause-fit
push_sums-requires-clause-fit c =
    (sum_parts c.args.table.now.def c.args.table.now.rows c.args.row.now c.split_at.result.0.now c.split_at.result.1.now c.behind_key-old.result.now c.len-width.result _ c.requires.derived c.requires.rows c.requires.fits c.requires.sums (c.len-width.ensures ∙ ap (λ (d : TableDef). length d.key) c.def.ensures) c.split_at.ensures.front c.split_at.ensures.back c.get.ensures c.behind_key-old.ensures).fit

pub returns : goal.returns
returns c =
    let sums = plus (numbers c.behind_key-old.result.now) (numbers c.split_at.result.1.now) in
    let copies = c.in_ok-push_copies.ensures ∙ ap (λ vs. vs ++ c.split_at.result.0.now) c.in_ok-values.ensures.items in
    c.of.ensures ∙ c.in_ok-push_sums.ensures ∙ ap (λ vs. vs ++ map Int sums) copies ∙ (sum_parts c.args.table.now.def c.args.table.now.rows c.args.row.now c.split_at.result.0.now c.split_at.result.1.now c.behind_key-old.result.now c.len-width.result _ c.requires.derived c.requires.rows c.requires.fits c.requires.sums (c.len-width.ensures ∙ ap (λ (d : TableDef). length d.key) c.def.ensures) c.split_at.ensures.front c.split_at.ensures.back c.get.ensures c.behind_key-old.ensures).made
