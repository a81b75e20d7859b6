use Rattle.strip_script.proofs.ShownLaws.{quiet_shows_are_queries as shown_as_queried}
use Rattle.strip_script.proofs.laws.quiet_shows_are_queries.Goals as goal

pub returns : goal.returns
returns c = shown_as_queried
