use Rattle.std.proofs.Common.{◌≡◌, drop}
use Rattle.strip_script.specs.Keeping.{job_place}
use Rattle.strip_script.proofs.jobs.place_of.Given as goal

abbrev pub invariant-loop-job : goal.invariant-loop-job
invariant-loop-job l =
    (l.at ≡ l.job-index) × (job_place l.at (drop l.job-index l.jobs) l.number ≡ job_place 0 l.jobs l.number)
