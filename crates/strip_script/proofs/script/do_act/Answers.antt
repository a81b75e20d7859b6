use Rattle.std.proofs.Common.{refl, ap, ◌∙◌}
use Rattle.strip_setup.specs.Catalog.{Catalog}
use Rattle.strip_engine.specs.State.{fixed, past}
use Rattle.strip_engine.proofs.Asked.{asked_names}
use Rattle.strip_script.specs.declared.database.Database.{Database}
use Rattle.strip_script.specs.Script.{acted, done_alone, outcome_text, is_refused_outcome}
use Rattle.strip_script.proofs.AnswerLaws.{running_step}
use Rattle.strip_script.proofs.IdleLaws.{act_idle}
use Rattle.strip_script.proofs.JobLaws.{shown, stage_went}
use Rattle.strip_script.proofs.script.do_act.Goals as goal

pub returns : goal.returns
returns c =
    let old = c.args.database in
    let one = c.args.act.now in
    let database : Database = record { engine = c.act_alone.new.engine; jobs = old.jobs } in
    let outcome = c.in_ok-outcome.outcome in
    let acts = c.in_ok-outcome.ensures in
    let ended = done_alone (fixed old.engine) (past old.engine) one in
    let stands = stage_went old.engine database.engine ended.past acts.catalog acts.alone.2 acts.alone.1 in
    running_step database (acted (shown old.engine) ended) _
    (c.in_ok-text.ensures.0 ∙ ap (λ defs. outcome_text defs outcome) c.defs.ensures.all ∙ ap (λ (k : Catalog). outcome_text k.tables outcome) (c.catalog.ensures ∙ acts.catalog) ∙ ap (outcome_text old.engine.catalog.tables) acts.alone.0)
    (c.in_ok-text.ensures.1 ∙ ap is_refused_outcome acts.alone.0) stands
    (act_idle old database one (asked_names old.engine.catalog.tables one c.requires.asked) c.requires.idle refl stands) c.at.ensures
