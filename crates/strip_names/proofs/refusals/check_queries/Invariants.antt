use Rattle.std.proofs.Common.{◌≡◌, drop, filter}
use Rattle.std.specs.List.{flat_map}
use Rattle.strip_setup.specs.Catalog.{is_derived, table_named}
use Rattle.strip_setup.specs.Parts.{names_read}
use Rattle.strip_names.proofs.refusals.check_queries.Given as goal

abbrev pub invariant-loop-bound : goal.invariant-loop-bound
invariant-loop-bound l =
    flat_map (λ bound. filter (λ name. is_derived (table_named l.tables name)) (names_read bound.query)) l.queries
    ≡ flat_map (λ bound. filter (λ name. is_derived (table_named l.tables name)) (names_read bound.query)) (drop l.bound-index l.queries)
