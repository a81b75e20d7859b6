use mir.Syntax.{w128}
use mir.Val.{to_z, of_z}
use Rattle.strip_bag.specs.Entries.{counted}
use Rattle.strip_bag.proofs.BagLaws.{bag_after}
use Rattle.strip_bag.proofs.bag.Bag.add.Goals as goal

pub invariant_of-self : goal.invariant_of-self
invariant_of-self c =
    bag_after (counted c.self.inside.entries.items) (counted c.add_entry.new.entries.items) c.args.row.now (to_z w128 (of_z w128 c.args.times)) c.add_entry.result c.self.invariant c.add_entry.ensures.ok c.add_entry.ensures.err
