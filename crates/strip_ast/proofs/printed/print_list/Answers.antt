use Rattle.std.proofs.Common.{drop, take, length, ◌-◌, arith}
use Rattle.strip_ast.proofs.PrintLemmas.{listed_printed, head_first}
use Rattle.strip_ast.proofs.printed.print_list.Goals as goal

pub returns-in_ok-print_following-in-len1-up : goal.returns-in_ok-print_following-in-len1-up
returns-in_ok-print_following-in-len1-up g c =
    listed_printed g.T.Printed.pieces c.args.into.now c.print_to.new.into c.print_following.new.into c.args.items.now (take (length c.args.items.now - 1) (drop 1 c.args.items.now)) c.first-item.result (head_first c.args.items.now c.first-item.result (omega arith) c.first-item.is) (c.in_ok-print_to-in-len1-up).ensures (c.in_ok-print_following-in-len1-up).ensures
