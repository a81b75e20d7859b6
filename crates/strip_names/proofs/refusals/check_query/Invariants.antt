use Rattle.std.proofs.Common.{◌≡◌, drop, filter}
use Rattle.std.specs.List.{filter_map}
use Rattle.strip_setup.specs.Catalog.{is_derived, table_named}
use Rattle.strip_setup.specs.Parts.{names_read}
use Rattle.strip_setup.specs.Queries.{origin_name}
use Rattle.strip_names.proofs.refusals.check_query.Given as goal

abbrev pub invariant-loop-entry : goal.invariant-loop-entry
invariant-loop-entry l =
    filter (λ name. is_derived (table_named l.tables name)) (names_read l.query)
    ≡ filter (λ name. is_derived (table_named l.tables name)) (filter_map (λ entry. origin_name entry.origin) (drop l.entry-index l.query.entries))
