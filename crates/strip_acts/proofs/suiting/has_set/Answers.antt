use Rattle.std.proofs.Common.{not, sym, ap, ◌∙◌}
use Rattle.strip_acts.proofs.Apart.{among_sets}
use Rattle.strip_acts.proofs.suiting.has_set.Goals as goal

pub returns : goal.returns
returns c = ap not c.are_others.ensures ∙ sym (among_sets c.args.sets.now c.args.column)
