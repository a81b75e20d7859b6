use Rattle.std.proofs.Common.{arith, rules, ◌≡◌, []}
use Rattle.std.proofs.lemmas.Grind.{common_steps}
use Rattle.strip_setup.specs.Catalog.{each_once}
use Rattle.strip_setup.proofs.Once.{once_all, once_is}
use Rattle.strip_setup.proofs.names.each_once.Goals as goal

pub returns : goal.returns
returns c =
    let e : each_once c.args.names.now ≡ once_all [] c.args.names.now = once_is c.args.names.now in
    first_of (search rules, grind (arith, common_steps))
