use Rattle.strip_lines.proofs.CallLaws.{Progress-looked, Progress-taken, Outcome-found, Outcome-last, Outcome-failed}
use Rattle.strip_lines.proofs.readers.Pieces.read_on.Goals as goal

pub returns-in-Ok-Some : goal.returns-in-Ok-Some
returns-in-Ok-Some g c =
    let cuts = rw c.in-Ok-Some.field-0-is at c.in-Ok-Some.ensures.cuts in
    Outcome-found c.args.self.now c.reading.self c.look.new.self _ _ _ _ c.in-Ok-Some.piece c.reading.invariant c.look.ensures.same cuts.0 cuts.1 cuts.2 c.look.ensures.among

pub reading-preserved : goal.reading-preserved
reading-preserved g c =
    let cuts = rw c.in-Ok-None.field-0-is at c.in-Ok-None.ensures.cuts in
    let takes = rw c.in-Ok-true.field-0-test at c.in-Ok-true.ensures in
    Progress-taken c.args.self.now c.look.new.self c.take_more.new.self _ _ _ _ _ _
    (Progress-looked c.args.self.now c.reading.self c.look.new.self _ _ _ _ c.reading.invariant c.look.ensures.same cuts.0 cuts.2)
    cuts.1 takes

pub returns-in-Ok-false : goal.returns-in-Ok-false
returns-in-Ok-false g c =
    let cuts = rw c.in-Ok-None.field-0-is at c.in-Ok-None.ensures.cuts in
    let takes = rw c.in-Ok-false.field-0-test at c.in-Ok-false.ensures in
    Outcome-last c.args.self.now c.look.new.self c.take_more.new.self c.finish.new.self _ _ _ _ _ _ c.finish.result
    (Progress-looked c.args.self.now c.reading.self c.look.new.self _ _ _ _ c.reading.invariant c.look.ensures.same cuts.0 cuts.2)
    cuts.1 takes c.finish.ensures.piece c.finish.ensures.last c.finish.ensures.done

pub returns-in-Err-take_more : goal.returns-in-Err-take_more
returns-in-Err-take_more g c =
    let cuts = rw c.in-Ok-None.field-0-is at c.in-Ok-None.ensures.cuts in
    Outcome-failed c.args.self.now c.look.new.self c.take_more.new.self _ _ _ _ _ _ c.in-Err-take_more.error
    (Progress-looked c.args.self.now c.reading.self c.look.new.self _ _ _ _ c.reading.invariant c.look.ensures.same cuts.0 cuts.2)
    cuts.1 c.in-Err-take_more.ensures
