-- The entries of a query that stands where numbers are small.
use Rattle.std.proofs.Common.{◌≡◌, ℕ, ◌≤◌, List, length, map, Option, option_map, refl, sym, subst}
use Rattle.std.specs.List.{enumerate_from}
use Rattle.strip_value.specs.declared.expressions.Test.{Test}
use Rattle.strip_value.specs.declared.queries.Input.{Input}
use Rattle.strip_value.specs.declared.queries.Item.{Item}
use Rattle.strip_value.specs.declared.queries.Place.{Place}
use Rattle.strip_value.specs.declared.queries.Query.{Query}
use Rattle.strip_value.specs.declared.tables.TableDef.{TableDef}
use Rattle.strip_ast.specs.declared.queries.ColTree.{ColTree}
use Rattle.strip_ast.specs.declared.queries.EntryTree.{EntryTree}
use Rattle.strip_ast.specs.declared.queries.ItemTree.{ItemTree}
use Rattle.strip_ast.specs.declared.queries.QueryTree.{QueryTree}
use Rattle.strip_setup.specs.declared.scope.Entry.{Entry}
use Rattle.strip_setup.specs.Small.{AreFew}
use Rattle.strip_setup.specs.Queries.{Scope, entries_of, filter_of, input_of, item_name, place_of, query_of, what_of}
use Rattle.strip_setup.specs.Small.{IsSmallScope}
use Rattle.strip_setup.proofs.Meant.{query_few}

pub entries_few : (scope : Scope) (query : QueryTree) (entries : List Entry) → entries ≡ entries_of scope query → IsSmallScope scope → length query.entries ≤ 3 → AreFew entries
entries_few scope query entries is small three = subst AreFew (sym is) (query_few scope query three small.narrow small.changed)

abbrev made_of : List Item → List Input → Test → Option (List Place) → Query
made_of items inputs filter group = record { items = items; entries = inputs; filter = filter; group = group }

-- what its parts stand for makes what a query stands for
pub query_made : (scope : Scope) (query : QueryTree) (es fs gs : List Entry) (trees : List ItemTree) (origins : List EntryTree) (tables : List TableDef) (items : List Item) (inputs : List Input) (filter : Test) (group : Option (List Place))
    → es ≡ entries_of scope query → fs ≡ entries_of scope query → gs ≡ entries_of scope query → trees ≡ query.items → origins ≡ query.entries → tables ≡ scope.tables
    → items ≡ map (λ (item : ℕ × ItemTree). record { name = item_name item; what = what_of es (item.1).what }) (enumerate_from 1 trees)
    → inputs ≡ map (λ (entry : EntryTree). input_of tables entry.origin) origins
    → filter ≡ filter_of fs query.filter
    → group ≡ option_map (map (λ (column : ColTree). place_of gs column.of column.name)) query.group
    → made_of items inputs filter group ≡ query_of scope query
query_made scope query es fs gs trees origins tables items inputs filter group es_is fs_is gs_is trees_are origins_are tables_are items_are inputs_are filter_is group_is =
    rw (items_are, inputs_are, filter_is, group_is, es_is, fs_is, gs_is, trees_are, origins_are, tables_are) refl

-- the entries of a query of at most three are few
pub asked_few : (scope : Scope) (query : QueryTree) → IsSmallScope scope → length query.entries ≤ 3 → AreFew (entries_of scope query)
asked_few scope query small three = query_few scope query three small.narrow small.changed
