use Rattle.strip_setup.proofs.Small.{asked_few}
use Rattle.strip_kinds.proofs.rules.check_query_widths.Goals as goal

pub magnitudes_in_query-requires : goal.magnitudes_in_query-requires
magnitudes_in_query-requires c = record { few = asked_few c.args.scope.now c.args.query.now c.requires.small c.requires.few }
