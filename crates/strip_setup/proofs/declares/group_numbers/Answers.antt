use Rattle.std.proofs.Common.{◌≤◌, arith, rules}
use Rattle.strip_setup.proofs.Declared.{group_short}
use Rattle.strip_setup.proofs.declares.group_numbers.Goals as goal

pub overflow_cast-len : goal.overflow_cast-len
overflow_cast-len c =
    let short : c.len.result ≤ 16 = group_short c.args.group.now c.in-Some.columns c.len.result c.in-Some.is c.len.ensures c.requires.few in
    first_of (omega (arith, short), search (rules, short))
