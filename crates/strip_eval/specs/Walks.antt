-- The walk over the combinations of a query without groups.
use Rattle.std.specs.Prelude.{List, [], ◌∷◌, ◌++◌, if◌then◌else◌}
use Rattle.std.specs.List.{flat_map}
use Rattle.strip_value.specs.declared.values.Value.{Value}
use Rattle.strip_value.specs.declared.queries.Query.{Query}
use Rattle.strip_value.specs.Query.{plain_row, satisfies}

-- the row of the items, if the combination satisfies the filter
abbrev pub chosen_row : Query → List (List Value) → List (List Value)
chosen_row query rows = if satisfies query.filter rows then plain_row query.items rows ∷ [] else []

-- the rows of the combinations that begin with the chosen rows: each row of the next entry, before each combination of the others
abbrev pub rows_behind : Query → List (List Value) → List (List (List Value)) → List (List Value)
rows_behind query chosen [] = chosen_row query chosen
rows_behind query chosen (rows ∷ entries) = flat_map (λ row. rows_behind query (chosen ++ row ∷ []) entries) rows
