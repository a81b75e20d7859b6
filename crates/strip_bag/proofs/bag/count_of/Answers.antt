use Rattle.std.proofs.Common.{sym, arith, get_or}
use Rattle.std.proofs.lemmas.Int.{ints}
use Rattle.std.specs.Prelude.{FitsSigned}
use Rattle.std.proofs.Common.{rules}
use mir.Syntax.{w128}
use Rattle.strip_bag.proofs.EntryLaws.{entry_found, entry_none}
use Rattle.strip_bag.proofs.bag.count_of.Goals as goal

pub returns-in-Ok : goal.returns-in-Ok
returns-in-Ok c =
    let there = entry_found c.args.entries.now c.args.row.now c.in-Ok.at c.requires c.in-Ok.ensures.found in
    let count = there.count c.index-entries-at.result in
    let fits : FitsSigned w128 (get_or c.args.entries.now c.in-Ok.at c.index-entries-at.result).count = search rules in
    omega (arith, ints)

pub returns-in-Err : goal.returns-in-Err
returns-in-Err c = sym (entry_none c.args.entries.now c.args.row.now c.in-Err._gap c.in-Err.ensures.gap).count
