use Rattle.strip_catalog.proofs.Added.{stream_is}
use Rattle.strip_catalog.proofs.additions.stream_added.Goals as goal

pub returns : goal.returns
returns c = stream_is c.args.setup.now c.defs.result.now c.args.name.now c.args.table.now c.args.marked c.in_ok-stream.stream c.defs.ensures c.in_ok-stream.ensures
