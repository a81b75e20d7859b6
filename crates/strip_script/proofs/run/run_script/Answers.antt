use Rattle.std.proofs.Common.{◌∙◌, ap, sym, subst, Err}
use Rattle.strip_outside.proofs.FaultLemmas.{then-Rose}
use Rattle.strip_script.specs.declared.script.Answer.{Answer}
use Rattle.strip_script.specs.Runs.{Runs, Counts}
use Rattle.strip_script.proofs.RunState.{InRun-none, InRun-piece, InRun-end, InRun-failed, InRun-failed_counts, InRun-lacked, InRun-cut}
use Rattle.strip_script.proofs.run.run_script.Goals as goal

pub run-init : goal.run-init
run-init g c =
    InRun-none c.args.limits.bound_rows c.opening.result c.at-script.result c.args.limit c.new-reader.result _ _ _ _ c.at-script.ensures c.opening.ensures.stage (c.opening.ensures.steady c.requires)
    c.new-reader.ensures.fresh

pub returns-in-Err-clause-run : goal.returns-in-Err-clause-run
returns-in-Err-clause-run g c =
    subst (λ e. Runs c.args.limits.bound_rows c.args.limit (g.S.Source.left c.args.source.now) (g.S.Source.left c.next_statement.new.source) (g.K.Sink.written c.args.out.now) (g.K.Sink.written c.run.out) (Err e)) (sym c.error_of.ensures)
    (InRun-failed c.args.limits.bound_rows c.args.limit c.run.reader c.next_statement.new.self _ _ _ _ _ _ _ _ _ _ c.run.script c.run.refused c.in-Err.error c.run.invariant c.in-Err.ensures.outcome)

pub returns-in-Err-clause-counts : goal.returns-in-Err-clause-counts
returns-in-Err-clause-counts g c =
    subst (λ e. Counts (g.S.Source.faults c.args.source.now) (g.S.Source.faults c.next_statement.new.source) (g.K.Sink.faults c.args.out.now) (g.K.Sink.faults c.run.out) (Err e)) (sym c.error_of.ensures)
    (InRun-failed_counts c.args.limits.bound_rows c.args.limit c.run.reader c.next_statement.new.self _ _ _ _ _ _ _ _ _ _ c.run.script c.run.refused c.in-Err.error c.run.invariant c.in-Err.ensures.outcome)

pub returns-in-End-clause-run : goal.returns-in-End-clause-run
returns-in-End-clause-run g c =
    let outcome = rw c.in-End.is at c.in-Ok.ensures.outcome in
    InRun-end c.args.limits.bound_rows c.args.limit c.run.reader c.next_statement.new.self _ _ _ _ _ _ _ _ _ _ c.run.script c.run.refused c.run.invariant outcome
    (λ within done. let again = c.next_statement.ensures.stays_ended within done in (again.1, ap g.S.Source.left again.2))

pub returns-in_default-answer : goal.returns-in_default-answer
returns-in_default-answer g c =
    let inside = c.run.invariant in
    let outcome = c.in-Ok.ensures.outcome in
    record {
      run = InRun-lacked c.args.limits.bound_rows c.args.limit c.run.reader c.next_statement.new.self _ _ _ _ _ _ _ _ _ _ c.run.script c.run.refused c.in-Ok.piece c.in_default.not-End inside outcome;
      counts = outcome.faults ∙ inside.in_same;
    }

pub returns-in_default-write_all : goal.returns-in_default-write_all
returns-in_default-write_all g c =
    let inside = c.run.invariant in
    let outcome = c.in-Ok.ensures.outcome in
    let a : Answer = record { text = c.in-Ok-answer.said.text; refused = c.in-Ok-answer.said.refused; script = c.answer.new.self } in
    record {
      run = InRun-cut c.args.limits.bound_rows c.args.limit c.run.reader c.next_statement.new.self _ _ _ _ _ _ _ _ _ _ _ c.run.script c.run.refused c.in-Ok.piece a _ c.in_default-write_all.field-0 c.in_default.not-End
          inside outcome c.in-Ok-answer.ensures c.in_default-write_all.ensures.bytes c.as_slice.ensures.value;
      counts = (outcome.faults ∙ inside.in_same, then-Rose _ _ _ inside.out_kept c.in_default-write_all.ensures.counted);
    }

pub run-preserved : goal.run-preserved
run-preserved g c =
    let a : Answer = record { text = c.in-Ok-answer.said.text; refused = c.in-Ok-answer.said.refused; script = c.answer.new.self } in
    InRun-piece c.args.limits.bound_rows c.args.limit c.run.reader c.next_statement.new.self _ _ _ _ _ _ _ _ _ _ _ _ c.run.script c.run.refused c.in-Ok.piece a _ c.in_default.not-End
    c.run.invariant c.in-Ok.ensures.outcome c.in-Ok-answer.ensures c.in-Ok-write_all.ensures.bytes c.as_slice.ensures.value c.in-Ok-write_all.ensures.never_falls
