use Rattle.strip_acts.proofs.Parts.{query_told, query_failed}
use Rattle.strip_acts.proofs.suiting.suits_query.Goals as goal

pub returns-then-suit_inputs : goal.returns-then-suit_inputs
returns-then-suit_inputs c =
    query_told c.args.tables.now c.args.query.now _ _ c.suit_inputs.result c.suits_over.result c.as_slice-entries.ensures
    c.new-reads.ensures c.suit_inputs.ensures c.if-suit_inputs.true c.suits_over.ensures

pub returns-else-suit_inputs : goal.returns-else-suit_inputs
returns-else-suit_inputs c =
    query_failed c.args.tables.now c.args.query.now _ c.suit_inputs.result c.as_slice-entries.ensures c.suit_inputs.ensures
    c.if-suit_inputs.false
