use Rattle.std.proofs.Common.{ap, ◌∙◌, arith}
use Rattle.strip_acts.proofs.Entries.{bare_is, past_is, there_is}
use Rattle.strip_acts.proofs.trees.qualifier.Goals as goal

pub returns-then-not-named : goal.returns-then-not-named
returns-then-not-named c = bare_is c.args.named c.args.reads.now c.args.entry c.if-not-named.true

pub returns-in_ok-alias_at : goal.returns-in_ok-alias_at
returns-in_ok-alias_at c =
    there_is c.args.named c.args.reads.now c.args.entry c.in_ok-alias_at.field-0 c.if-not-named.false (omega arith)
    c.in_ok-alias_at.ensures

pub returns-else-entry-count : goal.returns-else-entry-count
returns-else-entry-count c = past_is c.args.named c.args.reads.now c.args.entry (omega arith)
