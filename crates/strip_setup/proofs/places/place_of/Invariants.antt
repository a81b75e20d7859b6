use Rattle.std.proofs.Common.{◌≡◌, drop}
use Rattle.strip_setup.specs.Catalog.{first}
use Rattle.strip_setup.specs.Queries.{places_of}
use Rattle.strip_setup.proofs.Meant.{places_from}
use Rattle.strip_setup.proofs.places.place_of.Given as goal

abbrev pub invariant-loop-i : goal.invariant-loop-i
invariant-loop-i l = first (places_from l.of l.name l.i (drop l.i l.entries)) ≡ first (places_of l.entries l.of l.name)
