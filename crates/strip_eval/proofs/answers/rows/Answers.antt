use Rattle.std.proofs.Common.{◌≡◌, ◌∙◌, List, ap, map, sym, subst}
use Rattle.std.proofs.lemmas.Result.{IfOk-weaker}
use Rattle.strip_value.specs.declared.values.Value.{Value}
use Rattle.strip_value.specs.Query.{entry_rows, mean}
use Rattle.strip_eval.specs.Near.{EntriesFit}
use Rattle.strip_eval.proofs.Grouped.{meant, one_entry, suits_rows}
use Rattle.strip_eval.proofs.answers.rows.Goals as goal

-- the entries are those of the query
abbrev read : (c : goal.After-as_slice-2) → c.as_slice-2.result.now ≡ map (entry_rows c.args.env.now) c.args.query.now.entries
read c = c.as_slice-2.ensures.value ∙ c.in_ok-entries.ensures.rows ∙ ap (map (entry_rows c.args.env.now)) c.as_slice.ensures

pub rows_among-requires-clause-suits : goal.rows_among-requires-clause-suits
rows_among-requires-clause-suits c =
    suits_rows c.args.query.now c.args.env.now c.as_slice-2.result.now c.requires.suits
    (subst (EntriesFit c.args.env.now c.args.query.now.entries) (sym c.as_slice-2.ensures.value) (rw c.as_slice.ensures at c.in_ok-entries.ensures.fit))

pub rows_among-requires-clause-one : goal.rows_among-requires-clause-one
rows_among-requires-clause-one c = one_entry c.args.query.now c.args.env.now c.as_slice-2.result.now c.requires.suits (read c)

pub returns : goal.returns
returns c =
    let lists = c.as_slice-2.ensures.value ∙ c.in_ok-entries.ensures.rows ∙ ap (map (entry_rows c.args.env.now)) c.as_slice.ensures in
    let all = c.in_ok-rows_among.ensures ∙ meant c.args.query.now c.args.env.now c.as_slice-2.result.now lists in
    IfOk-weaker c.in_order.result _ (λ (rows : List (List Value)). rows ≡ mean c.args.query.now c.args.env.now) (λ rows e. e ∙ all) c.in_order.ensures
