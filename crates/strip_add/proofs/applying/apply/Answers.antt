use Rattle.strip_add.proofs.ApplyLaws.{applied_end}
use Rattle.strip_add.proofs.applying.apply.Goals as goal

pub returns-clause-ok : goal.returns-clause-ok
returns-clause-ok c =
    applied_end c.args.table.now c.put_all.new.table c.remove_zeros.new.table c.args.totals.now c.as_slice-totals.result.now c.requires.derived c.sums_of.ensures.table c.requires.kinds c.as_slice-totals.ensures c.in_ok-put_all.ensures.def c.in_ok-put_all.ensures.ok c.remove_zeros.ensures.def c.remove_zeros.ensures.changed
