use Rattle.std.proofs.Common.{length, ◌-◌}
use Rattle.strip_outside.proofs.PartLemmas.{HasWritten}
use Rattle.strip_outside.proofs.sinks.write_all.Given as goal

abbrev pub invariant-loop-at : goal.invariant-loop-at
invariant-loop-at g l =
    HasWritten (g.K.Sink.written l.initial.out) (g.K.Sink.written l.out) (g.K.Sink.faults l.initial.out) (g.K.Sink.faults l.out) l.piece l.at

abbrev pub decreases-loop-at : goal.decreases-loop-at
decreases-loop-at g l = length l.piece - l.at
