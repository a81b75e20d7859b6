-- A derived table that isn't refused groups by at most 16 columns: its items begin with them.
use Rattle.std.proofs.Common.{◌≡◌, ℕ, ◌≤◌, Bool, true, false, not, ◌&&◌, List, [], ◌∷◌, map, length, Option, Some, None, option_map, refl, arith}
use Rattle.std.specs.List.{enumerate_from}
use Rattle.std.proofs.lemmas.List.FromFn.{length-range_with_len}
use Rattle.std.proofs.lemmas.List.{length-map}
use Rattle.strip_value.specs.declared.queries.Item.{Item}
use Rattle.strip_value.specs.declared.queries.Place.{Place}
use Rattle.strip_value.specs.declared.queries.What.{What}
use Rattle.strip_ast.specs.declared.queries.ColTree.{ColTree}
use Rattle.strip_ast.specs.declared.queries.ItemTree.{ItemTree}
use Rattle.strip_ast.specs.declared.queries.QueryTree.{QueryTree}
use Rattle.strip_ast.specs.declared.statements.Statement.TheVariants as st
use Rattle.strip_setup.specs.declared.errors.LimitKind.TheVariants as kind
use Rattle.strip_setup.specs.declared.errors.SetupError.TheVariants.{NotGrouped}
use Rattle.strip_setup.specs.declared.scope.Entry.{Entry}
use Rattle.strip_setup.specs.Catalog.{Catalog, refused_if}
use Rattle.strip_names.specs.Grouped.{are_keys_and_totals, has_keys_and_totals, is_derivable, is_group_column}
use Rattle.strip_names.specs.Limits.{limits_in_query, more_than, most_entries, one_more_than}
use Rattle.strip_setup.specs.Queries.{entries_of, item_name, place_of, query_of, what_of}
use Rattle.strip_catalog.specs.Refusals.{refusal}
use Rattle.strip_setup.specs.Resolve.{group_numbers, outside_rules}
use Rattle.strip_catalog.proofs.Causes.{at_most, both_empty, no_cause, no_limit}
use Rattle.strip_catalog.proofs.Sizes.{length-enumerate}

pub not_refused : (b : Bool) → refused_if (not b) NotGrouped ≡ None → b ≡ true
not_refused true e = refl
not_refused false e = cc

both_true : (a b : Bool) → (a && b) ≡ true → b ≡ true
both_true true b e = e
both_true false b e = cc

keys_fewer : (places : List Place) (whats : List What) → are_keys_and_totals places whats ≡ true → length places ≤ length whats
keys_fewer [] whats e = omega arith
keys_fewer (place ∷ places) [] e = cc
keys_fewer (place ∷ places) (w ∷ whats) e =
    let rest = keys_fewer places whats (both_true (is_group_column w place) (are_keys_and_totals places whats) e) in
    omega (arith, rest)

groups_fewer : (entries : List Entry) (group : Option (List ColTree)) (whats : List What) → has_keys_and_totals (option_map (map (λ (column : ColTree). place_of entries column.of column.name)) group) whats ≡ true → length (group_numbers group) ≤ length whats
groups_fewer entries None whats e = omega arith
groups_fewer entries (Some columns) whats e =
    let places : ColTree → Place = λ column. place_of entries column.of column.name in
    let fewer = keys_fewer (map places columns) whats e in
    let same = length-map columns places in
    let numbers = length-range_with_len 0 (length columns) in
    omega (arith, fewer, same, numbers)

pub derive_grouped : (catalog : Catalog) (name : List ℕ) (query : QueryTree) → refusal catalog (st.Derive name query) ≡ None → length (group_numbers query.group) ≤ 16
derive_grouped catalog name query e =
    let scope = outside_rules catalog.tables in
    let entries = entries_of scope query in
    let made = query_of scope query in
    let derivable = not_refused (is_derivable made) (no_cause catalog (st.Derive name query) e).1.1.1.1.1.1.1.1.1.1.0 in
    let fewer = groups_fewer entries query.group (map (λ (item : Item). item.what) made.items) derivable in
    let whats = length-map made.items (λ (item : Item). item.what) in
    let item_of : ℕ × ItemTree → Item = λ item. record { name = item_name item; what = what_of entries (item.1).what } in
    let items = length-map (enumerate_from 1 query.items) item_of in
    let numbered = length-enumerate 1 query.items in
    let none = no_limit catalog (st.Derive name query) e in
    let few = at_most 16 (length query.items) kind.Columns (both_empty (more_than 16 kind.Columns (length query.items)) (more_than (most_entries query.group) kind.Entries (length query.entries)) (both_empty (one_more_than 64 kind.Tables (length catalog.tables)) (limits_in_query query) none).1).0 in
    omega (arith, fewer, whats, items, numbered, few)
