use Rattle.std.proofs.Common.{sym, ◌∙◌}
use Rattle.strip_acts.proofs.Apart.{named_among}
use Rattle.strip_acts.proofs.suiting.has_item.Goals as goal

pub returns : goal.returns
returns c = c.is_named.ensures ∙ sym (named_among c.args.items.now c.args.name.now)
