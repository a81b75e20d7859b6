use Rattle.std.proofs.Common.{true, false, length, refl, sym, ap, ◌∙◌, subst, arith}
use Rattle.std.proofs.lemmas.List.{get_or_default}
use Rattle.strip_value.proofs.Lists.{all_at}
use Rattle.strip_model.specs.Says.{Task}
use Rattle.strip_model.specs.Texts.{line_of_finished}
use Rattle.strip_engine.specs.State.{fixed, past}
use Rattle.strip_script.specs.Keeping.{IsJob, job_place, no_task}
use Rattle.strip_script.specs.declared.database.Database.{Database}
use Rattle.strip_script.specs.Session.{FinishesJob}
use Rattle.strip_script.specs.Stages.{IsRefused}
use Rattle.strip_script.proofs.AnswerLaws.{finished_step, if_ok, not_kept_step, refused_job_step}
use Rattle.strip_script.proofs.IdleLaws.{finish_idle}
use Rattle.strip_script.proofs.KeepingLaws.{place_has, place_within}
use Rattle.strip_script.proofs.jobs.finish.Goals as goal

pub returns-in_default : goal.returns-in_default
returns-in_default c =
    let none = ap (λ js. job_place 0 js c.args.number) (sym c.as_slice.ensures.value) ∙ sym c.place_of.ensures ∙ c.in_default.is in
    if_ok (IsRefused c.args.database c.args.number) _ c.not_running.result (λ a said. not_kept_step c.args.database c.args.number a c.requires none said) c.not_running.ensures

pub index-requires : goal.index-requires
index-requires c =
    let lt = place_within c.args.database.jobs.items c.args.number c.in-Some.at (ap (λ js. job_place 0 js c.args.number) (sym c.as_slice.ensures.value) ∙ sym c.place_of.ensures ∙ c.in-Some.is) in
    let same = ap length c.as_slice.ensures.value in
    let len = c.as_slice.ensures.len in
    omega arith

pub finish_job-requires-clause-there : goal.finish_job-requires-clause-there
finish_job-requires-clause-there c =
    let lt = place_within c.args.database.jobs.items c.args.number c.in-Some.at (ap (λ js. job_place 0 js c.args.number) (sym c.as_slice.ensures.value) ∙ sym c.place_of.ensures ∙ c.in-Some.is) in
    let same = ap length c.as_slice.ensures.value in
    let len = c.as_slice.ensures.len in
    omega arith

pub finish_job-requires-clause-content : goal.finish_job-requires-clause-content
finish_job-requires-clause-content c =
    let lt = place_within c.args.database.jobs.items c.args.number c.in-Some.at (ap (λ js. job_place 0 js c.args.number) (sym c.as_slice.ensures.value) ∙ sym c.place_of.ensures ∙ c.in-Some.is) in
    (all_at (IsJob (fixed c.args.database.engine) (past c.args.database.engine)) c.args.database.jobs.items c.in-Some.at no_task c.requires.keeping.each lt).content

pub returns-then-not-branch : goal.returns-then-not-branch
returns-then-not-branch c =
    let old = c.args.database in
    let kept = old.jobs.items in
    let place = ap (λ js. job_place 0 js c.args.number) (sym c.as_slice.ensures.value) ∙ sym c.place_of.ensures ∙ c.in-Some.is in
    let lt = place_within kept c.args.number c.in-Some.at place in
    let is = all_at (IsJob (fixed old.engine) (past old.engine)) kept c.in-Some.at no_task c.requires.keeping.each lt in
    let database : Database = record { engine = c.finish_job.new.engine; jobs = c.finish_job.new.jobs } in
    let finishes = subst (FinishesJob old.engine kept c.in-Some.at database.engine database.jobs.items) c.if-not-branch.true c.in_ok-finish_job.ensures in
    let idle = finish_idle old database c.in-Some.at false is c.requires finishes in
    if_ok (IsRefused database c.args.number) _ c.not_running-then-not-branch.result
    (λ a said. refused_job_step old database c.in-Some.at c.args.number a (place_has kept c.args.number c.in-Some.at place) finishes idle said) c.not_running-then-not-branch.ensures

pub returns : goal.returns
returns c =
    let old = c.args.database in
    let kept = old.jobs.items in
    let place = ap (λ js. job_place 0 js c.args.number) (sym c.as_slice.ensures.value) ∙ sym c.place_of.ensures ∙ c.in-Some.is in
    let lt = place_within kept c.args.number c.in-Some.at place in
    let is = all_at (IsJob (fixed old.engine) (past old.engine)) kept c.in-Some.at no_task c.requires.keeping.each lt in
    let database : Database = record { engine = c.finish_job.new.engine; jobs = c.finish_job.new.jobs } in
    let finishes = subst (FinishesJob old.engine kept c.in-Some.at database.engine database.jobs.items) c.if-not-branch.false c.in_ok-finish_job.ensures in
    let idle = finish_idle old database c.in-Some.at true is c.requires finishes in
    let shown = c.index.ensures ∙ get_or_default kept c.in-Some.at c.index.result.now no_task lt in
    finished_step old database c.in-Some.at c.args.number _ (place_has kept c.args.number c.in-Some.at place) finishes idle
    (c.in_ok-text.ensures ∙ ap line_of_finished (c.number.ensures ∙ ap (λ (t : Task). t.number) shown)) refl c.at.ensures
