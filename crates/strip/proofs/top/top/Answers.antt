use Rattle.std.proofs.Common.{◌∙◌, ◌==◌, ap}
use Rattle.strip.specs.Statuses.{most_bytes, most_bound}
use Rattle.strip_script.proofs.ShownLaws.{quiet_shows_are_queries}
use Rattle.strip.proofs.StatusLaws.{past_limit}
use Rattle.strip.proofs.top.top.Goals as goal

pub returns-clause-script : goal.returns-clause-script
returns-clause-script g c asked =
    let run = c.run_script.ensures.run in
    record {
      result = c.run_script.result;
      run = run;
      counts = c.run_script.ensures.counts;
      is = c.status.ensures;
      past_limit = ap (λ s. s == 7) c.status.ensures ∙ past_limit most_bound most_bytes run.given run.wrote _ c.run_script.result run.told;
    }

pub returns-clause-quiet : goal.returns-clause-quiet
returns-clause-quiet g c = quiet_shows_are_queries

pub returns-then-not-is_script-clause-quiet : goal.returns-then-not-is_script-clause-quiet
returns-then-not-is_script-clause-quiet g c = quiet_shows_are_queries
