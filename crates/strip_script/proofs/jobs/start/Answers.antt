use Rattle.std.proofs.Common.{refl}
use Rattle.strip_script.specs.declared.database.Database.{Database}
use Rattle.strip_script.proofs.AnswerLaws.{started_step}
use Rattle.strip_script.proofs.IdleLaws.{start_idle}
use Rattle.strip_script.proofs.jobs.start.Goals as goal

pub returns : goal.returns
returns c =
    let database : Database = record { engine = c.start_job.new.engine; jobs = c.start_job.new.jobs } in
    let starts = c.in_ok-text.ensures in
    started_step c.args.database database _ starts (start_idle c.args.database database c.in_ok-text.text c.requires starts) refl c.at.ensures
