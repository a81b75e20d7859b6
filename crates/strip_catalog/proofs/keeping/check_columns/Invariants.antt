use Rattle.std.proofs.Common.{◌≡◌, [], ◌∷◌, drop, flat_map}
use Rattle.strip_names.specs.Unknown.{missing, names_of}
use Rattle.strip_catalog.proofs.keeping.check_columns.Given as goal

abbrev pub invariant-loop-name : goal.invariant-loop-name
invariant-loop-name l =
    missing (names_of l.columns) l.names ≡ flat_map (λ name. missing (names_of l.columns) (name ∷ [])) (drop l.name-index l.names)
