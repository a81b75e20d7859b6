use Rattle.std.proofs.Common.{◌≡◌, [], drop}
use Rattle.strip_setup.proofs.Once.{once_all}
use Rattle.strip_setup.proofs.names.each_once.Given as goal

abbrev pub invariant-loop-name : goal.invariant-loop-name
invariant-loop-name l = once_all [] l.names ≡ once_all l.made (drop l.name-index l.names)
