use Rattle.strip_setup.proofs.Small.{asked_few}
use Rattle.strip_kinds.proofs.rules.check_query_kinds.Goals as goal

pub mismatched_in_query-requires : goal.mismatched_in_query-requires
mismatched_in_query-requires c = record { few = asked_few c.args.scope.now c.args.query.now c.requires.small c.requires.few }
