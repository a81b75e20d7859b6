-- The names that two lists of queries bind, one list after the other.
use Rattle.std.proofs.Common.{◌≡◌, List, ◌++◌}
use Rattle.std.proofs.lemmas.List.Elements.{filter_map-append}
use Rattle.strip_value.specs.declared.rules.BoundDef.{BoundDef}
use Rattle.strip_value.specs.declared.rules.BoundQuery.{BoundQuery}
use Rattle.strip_kinds.specs.Bound.{bound_name_of, names_bound_by}

pub names_apart : (bound : List BoundDef) (conditions evaluate : List BoundQuery) → names_bound_by bound (conditions ++ evaluate) ≡ names_bound_by bound conditions ++ names_bound_by bound evaluate
names_apart bound conditions evaluate = filter_map-append (bound_name_of bound) conditions evaluate
