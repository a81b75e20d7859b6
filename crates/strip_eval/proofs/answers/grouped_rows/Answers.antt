use Rattle.std.proofs.Common.{◌≡◌, ◌∙◌, List, ap, ap₂, map}
use Rattle.std.proofs.lemmas.Result.{IfOk-weaker}
use Rattle.strip_value.specs.declared.values.Value.{Value}
use Rattle.strip_value.specs.Query.{in_order}
use Rattle.strip_eval.specs.Groups.{row_in}
use Rattle.strip_eval.specs.Reads.{rows_among}
use Rattle.strip_eval.proofs.Grouped.{grouped_all}
use Rattle.strip_eval.proofs.answers.grouped_rows.Goals as goal

pub returns : goal.returns
returns c =
    let query = c.args.query.now in
    let all = grouped_all query c.args.places.now c.index-entries-0.result c.args.entries.now c.in_ok-groups.groups.items c.requires.grouped c.requires.one c.index-entries-0.is c.in_ok-groups.ensures in
    IfOk-weaker c.rows_of_groups.result _ (λ (rows : List (List Value)). in_order rows ≡ in_order (rows_among query c.args.entries.now)) (λ rows e.
    ap in_order (e ∙ ap₂ (λ items groups. map (row_in items c.args.places.now) groups) c.as_slice.ensures c.as_slice-2.ensures.value) ∙ all) c.rows_of_groups.ensures
