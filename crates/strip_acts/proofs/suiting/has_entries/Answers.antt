use Rattle.std.proofs.Common.{not, ap, ◌∙◌}
use Rattle.strip_acts.proofs.Apart.{empty_is}
use Rattle.strip_acts.proofs.suiting.has_entries.Goals as goal

pub returns : goal.returns
returns c = ap not (c.is_empty.ensures ∙ empty_is c.args.inputs.now)
