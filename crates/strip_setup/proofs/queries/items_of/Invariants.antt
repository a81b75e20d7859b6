use Rattle.std.proofs.Common.{◌≡◌, ◌++◌, ◌+◌, drop, map}
use Rattle.std.proofs.Common.{ℕ, List}
use Rattle.std.specs.List.{enumerate_from}
use Rattle.strip_value.specs.declared.queries.Item.{Item}
use Rattle.strip_ast.specs.declared.queries.ItemTree.{ItemTree}
use Rattle.strip_setup.specs.declared.scope.Entry.{Entry}
use Rattle.strip_setup.specs.Queries.{item_name, what_of}
use Rattle.strip_setup.proofs.queries.items_of.Given as goal

abbrev item_of : List Entry → ℕ × ItemTree → Item
item_of entries item = record { name = item_name item; what = what_of entries (item.1).what }

abbrev pub invariant-loop-i : goal.invariant-loop-i
invariant-loop-i l = l.made ++ map (item_of l.entries) (enumerate_from (l.i + 1) (drop l.i l.items)) ≡ map (item_of l.entries) (enumerate_from 1 l.items)
