use Rattle.std.proofs.Common.{◌+◌, ◌∙◌, length, length-drop, take, ap, sym, subst, arith}
use Rattle.std.specs.Io.KnownBytes.{Appends}
use Rattle.strip_outside.proofs.PartLemmas.{Appends-more, stopped_at, slice_from}
use Rattle.strip_outside.proofs.sinks.write_all.Goals as goal

pub returns-in-Ok-eq0-clause-bytes : goal.returns-in-Ok-eq0-clause-bytes
returns-in-Ok-eq0-clause-bytes g c =
    let taken = c.in-Ok-eq0.field-0 in
    stopped_at _ _ c.args.piece.now (c.loop-at.at + taken)
    (Appends-more _ _ _ c.args.piece.now c.loop-at.at taken c.loop-at.invariant.appended c.in-Ok-eq0.ensures.bytes)

pub loop-at-preserved : goal.loop-at-preserved
loop-at-preserved g c =
    let rest = ap length (slice_from c.loop-at.at c.args.piece.now) ∙ length-drop c.loop-at.at c.args.piece.now in
    record {
      never_fell = omega (arith, c.in-Ok.ensures.never_falls, c.loop-at.invariant.never_fell);
      appended = Appends-more _ _ _ c.args.piece.now c.loop-at.at c.in-Ok.taken c.loop-at.invariant.appended c.in-Ok.ensures.bytes;
      within = omega (arith, rest, c.in-Ok.ensures.within_piece, c.loop-at.invariant.within);
    }

pub returns-in-Err-clause-bytes : goal.returns-in-Err-clause-bytes
returns-in-Err-clause-bytes g c =
    let same = c.in-Err.ensures.bytes in
    stopped_at _ _ c.args.piece.now c.loop-at.at
    (subst (λ known. Appends (g.K.Sink.written c.args.out.now) known (take c.loop-at.at c.args.piece.now)) (sym same) c.loop-at.invariant.appended)
