use Rattle.strip_lines.proofs.SegmentLaws.{begun_with-nil}
use Rattle.std.proofs.Common.{sym, ◌++◌}
use Rattle.strip_lines.proofs.cuts.run_of.Goals as goal

pub loop-i-init : goal.loop-i-init
loop-i-init c = λ more. sym (begun_with-nil c.args.quoted (c.args.bytes.now ++ more))
