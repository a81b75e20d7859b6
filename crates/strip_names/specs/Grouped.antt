-- Items and groups that don't go together.
use Rattle.std.specs.Prelude.{Bool, true, false, not, ◌&&◌, List, [], ◌∷◌, ◌++◌, map, Option, Some, None}
use Rattle.std.specs.List.{list_any, list_all}
use Rattle.strip_value.specs.declared.queries.Place.{Place}
use Rattle.strip_value.specs.declared.queries.Query.{Query}
use Rattle.strip_value.specs.declared.queries.What.{What}
use Rattle.strip_value.specs.declared.queries.What.TheVariants.{Plain}
use Rattle.strip_value.specs.Query.{is_column}
use Rattle.strip_ast.specs.declared.deeds.Deed.TheVariants as deed
use Rattle.strip_ast.specs.declared.statements.Statement.{Statement}
use Rattle.strip_ast.specs.declared.statements.Statement.TheVariants as st
use Rattle.strip_setup.specs.declared.errors.SetupError.{SetupError}
use Rattle.strip_setup.specs.declared.errors.SetupError.TheVariants.{NotGrouped}
use Rattle.strip_setup.specs.Catalog.{Catalog, refused_if, is_empty}
use Rattle.strip_setup.specs.Queries.{query_of}
use Rattle.strip_setup.specs.Resolve.{outside_rules, in_rule}

-- a sum or a count
abbrev pub is_total : What → Bool
is_total (Plain e) = false
is_total _ = true

-- the item is this group column
abbrev pub is_group_column : What → Place → Bool
is_group_column (Plain e) place = is_column place e
is_group_column _ place = false

-- an item that may not stand in the query: a total without groups, or a plain item that is no group column
abbrev pub is_misplaced : Option (List Place) → What → Bool
is_misplaced None w = is_total w
is_misplaced (Some places) w = not (is_total w) && not (list_any (is_group_column w) places)

-- the query has such an item
abbrev pub has_misplaced : Query → Bool
has_misplaced query = list_any (λ item. is_misplaced query.group item.what) query.items

-- the items are the group columns in their order, and then totals, one at least
abbrev pub are_keys_and_totals : List Place → List What → Bool
are_keys_and_totals [] whats = not (is_empty whats) && list_all is_total whats
are_keys_and_totals (place ∷ places) [] = false
are_keys_and_totals (place ∷ places) (w ∷ whats) = is_group_column w place && are_keys_and_totals places whats

-- the same of a query that has groups
abbrev pub has_keys_and_totals : Option (List Place) → List What → Bool
has_keys_and_totals None whats = false
has_keys_and_totals (Some places) whats = are_keys_and_totals places whats

-- the query can be a derived table's
abbrev pub is_derivable : Query → Bool
is_derivable query = has_keys_and_totals query.group (map (λ item. item.what) query.items)

-- groups and items of a statement's query don't go together; what can be derived has no item that may not stand there
abbrev pub is_ungrouped : Catalog → Statement → Bool
is_ungrouped catalog (st.Derive name query) = not (is_derivable (query_of (outside_rules catalog.tables) query))
is_ungrouped catalog (st.Rule name table events conditions evaluate function manner) =
    list_any (λ bound. has_misplaced (query_of (in_rule catalog.tables table) bound.query)) (conditions ++ evaluate)
is_ungrouped catalog (st.Deed caller (deed.Select query)) = has_misplaced (query_of (outside_rules catalog.tables) query)
is_ungrouped catalog _ = false

-- items and groups that don't go together
abbrev pub not_grouped : Catalog → Statement → Option SetupError
not_grouped catalog statement = refused_if (is_ungrouped catalog statement) NotGrouped
