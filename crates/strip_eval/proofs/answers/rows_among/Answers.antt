use Rattle.std.proofs.Common.{◌≡◌, ◌∙◌, List, ap}
use Rattle.std.proofs.lemmas.Result.{IfOk-weaker}
use Rattle.strip_value.specs.declared.values.Value.{Value}
use Rattle.strip_value.specs.Query.{in_order}
use Rattle.strip_eval.specs.Reads.{rows_among}
use Rattle.strip_eval.proofs.Walked.{walked_all}
use Rattle.strip_eval.proofs.answers.rows_among.Goals as goal

pub returns-in-None : goal.returns-in-None
returns-in-None c =
    IfOk-weaker c.plain_rows.result _ (λ (rows : List (List Value)). in_order rows ≡ in_order (rows_among c.args.query.now c.args.entries.now))
    (λ rows e. ap in_order (e ∙ walked_all c.args.query.now c.args.entries.now c.in-None.is)) c.plain_rows.ensures
