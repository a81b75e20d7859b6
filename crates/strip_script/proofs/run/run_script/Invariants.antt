use Rattle.strip_lines.specs.Reading.{most_left}
use Rattle.strip_script.proofs.RunState.{InRun}
use Rattle.strip_script.proofs.run.run_script.Given as goal

abbrev pub invariant-run : goal.invariant-run
invariant-run g l =
    InRun l.fn.limits.bound_rows l.limit l.reader (g.S.Source.left l.initial.source) (g.S.Source.left l.source) (g.S.Source.faults l.initial.source) (g.S.Source.faults l.source) (g.K.Sink.written l.initial.out) (g.K.Sink.written l.out) (g.K.Sink.faults l.initial.out) (g.K.Sink.faults l.out) l.script l.refused

abbrev pub decreases-run : goal.decreases-run
decreases-run g l = most_left l.reader
