-- What queries read, as lists of rows, and what they give of them.
use Rattle.std.specs.Prelude.{◌≡◌, ◌^◌, ◌<◌, List, length, map, filter, Option, None, Some}
use Rattle.std.specs.List.{AllByRecursion}
use Rattle.strip_value.specs.declared.queries.Place.{Place}
use Rattle.strip_value.specs.declared.queries.Query.{Query}
use Rattle.strip_value.specs.declared.values.Value.{Value}
use Rattle.strip_value.specs.Query.{Environment, combinations, entry_rows, rows_of, satisfies}

-- where there are groups, each list has fewer than 2^62 rows
abbrev pub HaveFew : Option (List Place) → List (List (List Value)) → Type 0
HaveFew None entries = Unit {0}
HaveFew (Some places) entries = AllByRecursion (λ rows. length rows < 2 ^ 62) entries

-- where a query has groups, its entry has fewer than 2^62 rows
abbrev pub ReadsFew : Query → Environment → Type 0
ReadsFew query env = HaveFew query.group (map (entry_rows env) query.entries)

-- where there are groups, there is one entry
abbrev pub HaveOne : Option (List Place) → List (List (List Value)) → Type 0
HaveOne None entries = Unit {0}
HaveOne (Some places) entries = length entries ≡ 1

-- the rows that a query gives of its entries' rows, in no order
abbrev pub rows_among : Query → List (List (List Value)) → List (List Value)
rows_among query entries = rows_of query.items query.group (filter (satisfies query.filter) (combinations entries))
