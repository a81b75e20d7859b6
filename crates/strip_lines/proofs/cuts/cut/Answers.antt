use Rattle.std.proofs.Common.{◌<◌, ◌≤◌, [], ◌++◌, length, take, sym, ap, subst, arith}
use Rattle.strip_lines.specs.Steps.{IsLike, Looks}
use Rattle.strip_lines.proofs.SegmentLaws.{EndsAt-along, Looks-none, Looks-cut}
use Rattle.strip_lines.proofs.cuts.cut.Goals as goal

pub returns-then-not-whole : goal.returns-then-not-whole
returns-then-not-whole c =
    let room = c.as_slice-waiting.ensures in
    let run = c.run_of-run.result.0 in
    let ends = EndsAt-along _ c.args.begun.now.quoted _ c.go_on.new.self.quoted _ c.args.room.now run c.is_quoted.ensures (sym c.in_ok-go_on.ensures.quoted) room c.run_of-run.ensures in
    let like = subst (λ l. IsLike (c.args.begun.now.bytes ++ take run l) c.go_on.new.self.bytes) room c.in_ok-go_on.ensures.grown in
    let all = subst (λ l. length l ≤ run) room c.if-not-whole.true in
    let looks = Looks-none c.args.begun.now c.go_on.new.self c.args.room.now run ends like c.in_ok-go_on.ensures.from all in
    (subst (λ r. Looks c.args.begun.now c.go_on.new.self c.args.room.now r []) (sym c.clear.ensures) looks, c.clear.ensures, c.in_ok-go_on.ensures.from)

pub returns : goal.returns
returns c =
    let room = c.as_slice-waiting.ensures in
    let run = c.run_of-run.result.0 in
    let ends = EndsAt-along _ c.args.begun.now.quoted _ c.go_on.new.self.quoted _ c.args.room.now run c.is_quoted.ensures (sym c.in_ok-go_on.ensures.quoted) room c.run_of-run.ensures in
    let like = subst (λ l. IsLike (c.args.begun.now.bytes ++ take run l) c.go_on.new.self.bytes) room c.in_ok-go_on.ensures.grown in
    let some = subst (λ l. run < length l) room c.if-not-whole.false in
    let next = ap (λ s. s.from) c.end.ensures.next in (
      Looks-cut c.args.begun.now c.go_on.new.self c.end.new.self c.end.result c.args.room.now c.skip.new.self run ends like c.in_ok-go_on.ensures.from some c.end.ensures.piece c.end.ensures.next c.skip.ensures,
      c.end.ensures.whole,
      omega (arith, next, c.in_ok-go_on.ensures.from),
    )
