use Rattle.strip_lines.proofs.RoomLaws.{taken_off}
use Rattle.strip_lines.proofs.rooms.Room.skip.Goals as goal

pub returns : goal.returns
returns c =
    taken_off c.self.inside.bytes c.self.inside.at c.self.inside.end c.args.count c.args.self.now c.self.invariant.0 (c.self.invariant.1) c.self.told c.self.view_is c.requires
