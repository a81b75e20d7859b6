-- What an act that suits is made of, part by part.
use Rattle.std.proofs.Common.{◌≡◌, ℕ, ◌≤◌, Bool, true, false, not, ◌&&◌, List, [], ◌∷◌, map, length, nat_le, Option, Some, None, refl, sym, ap, ◌∙◌, arith}
use Rattle.std.specs.List.{list_all}
use Rattle.strip_value.specs.declared.expressions.Test.{Test}
use Rattle.strip_value.specs.declared.kinds.Kind.{Kind}
use Rattle.strip_value.specs.declared.queries.Input.{Input}
use Rattle.strip_value.specs.declared.queries.Input.TheVariants as input
use Rattle.strip_value.specs.declared.queries.Item.{Item}
use Rattle.strip_value.specs.declared.queries.Place.{Place}
use Rattle.strip_value.specs.declared.queries.Query.{Query}
use Rattle.strip_value.specs.declared.queries.Set.{Set}
use Rattle.strip_value.specs.declared.tables.ColumnDef.{ColumnDef}
use Rattle.strip_value.specs.declared.tables.TableDef.{TableDef}
use Rattle.strip_names.specs.Grouped.{has_misplaced}
use Rattle.strip_names.specs.Limits.{most_columns}
use Rattle.strip_acts.specs.Suiting.{all_differ, all_once, has_column, is_there, kinds_in, most_inputs, suits_filter, suits_group, suits_input, suits_item, suits_query, suits_value}
use Rattle.strip_acts.specs.Trees.{input_columns}
use Rattle.strip_acts.proofs.QueryParts.{in_parts}
use Rattle.strip_acts.proofs.Tests.{at_most, both, fails, middle_told, told}

-- ---- queries

few_inputs : (group : Option (List Place)) (n : ℕ) → nat_le n (most_inputs group) ≡ true → n ≤ 3
few_inputs None n few = at_most n 3 few
few_inputs (Some places) n few = let one = at_most n 1 few in omega arith

-- the kinds of the columns that a query reads
abbrev pub query_kinds : List TableDef → Query → List (List Kind)
query_kinds tables query = kinds_in (map (input_columns tables) query.entries)

pub record SuitsQuery (tables : List TableDef) (query : Query) : Type 0 where
  pub inputs : list_all (suits_input tables) query.entries ≡ true
  pub few : length query.entries ≤ 3
  pub once : all_once (map (λ item. item.name) query.items) ≡ true
  pub items : list_all (λ item. suits_item (query_kinds tables query) item.what) query.items ≡ true
  pub filter : suits_filter (query_kinds tables query) query.filter ≡ true
  pub group : suits_group (query_kinds tables query) query.group ≡ true
  pub placed : not (has_misplaced query) ≡ true

pub query_suits : (tables : List TableDef) (query : Query) → suits_query tables query ≡ true → SuitsQuery tables query
query_suits tables query suits =
    let parts = in_parts (suits_input tables) (input_columns tables) query suits in
    record {
      inputs = parts.inputs;
      few = few_inputs query.group (length query.entries) parts.few;
      once = parts.once;
      items = parts.items;
      filter = parts.filter;
      group = parts.group;
      placed = parts.placed;
    }

-- what a query asks for suits columns of these kinds
abbrev pub reads_suiting : List (List Kind) → Query → Bool
reads_suiting kinds query =
    list_all (λ item. suits_item kinds item.what) query.items
    && (suits_filter kinds query.filter && (suits_group kinds query.group && not (has_misplaced query)))

-- it is no larger than it may be
abbrev pub is_small : Query → Bool
is_small query =
    nat_le (length query.entries) (most_inputs query.group)
    && (nat_le (length query.items) most_columns && all_once (map (λ item. item.name) query.items))

-- over tables that are there, the rest decides
pub query_told : (tables : List TableDef) (query : Query) (entries : List Input) (r : List (List ColumnDef)) (x y : Bool)
    → entries ≡ query.entries → r ≡ map (input_columns tables) entries → x ≡ list_all (suits_input tables) entries → x ≡ true
    → y ≡ (is_small query && reads_suiting (kinds_in r) query) → y ≡ suits_query tables query
query_told tables query entries r x y entries_are r_is x_is passed y_is =
    let columns : r ≡ map (input_columns tables) query.entries =
    r_is ∙ ap (λ (inputs : List Input). map (input_columns tables) inputs) entries_are in
    middle_told (list_all (suits_input tables) query.entries) (nat_le (length query.entries) (most_inputs query.group))
    (nat_le (length query.items) most_columns) (all_once (map (λ (item : Item). item.name) query.items))
    (reads_suiting (query_kinds tables query) query) (suits_query tables query) x y
    refl
    (x_is ∙ ap (list_all (suits_input tables)) entries_are)
    passed
    (y_is ∙ ap (λ (cs : List (List ColumnDef)). is_small query && reads_suiting (kinds_in cs) query) columns)

pub query_failed : (tables : List TableDef) (query : Query) (entries : List Input) (x : Bool) → entries ≡ query.entries
    → x ≡ list_all (suits_input tables) entries → x ≡ false → x ≡ suits_query tables query
query_failed tables query entries x entries_are x_is failed =
    fails (list_all (suits_input tables) query.entries) _ x (x_is ∙ ap (list_all (suits_input tables)) entries_are) failed

-- ---- updates

-- the kinds of the columns of the table that an update or a delete reads
abbrev pub own_kinds : List TableDef → ℕ → List (List Kind)
own_kinds tables id = kinds_in (input_columns tables (input.Table id) ∷ [])

-- a set whose column is there, and whose value suits
abbrev pub suits_set : List (List Kind) → Set → Bool
suits_set kinds s = has_column kinds 0 s.column && suits_value kinds s.value

-- what is set and the filter suit columns of these kinds, and each column is set once
abbrev pub changes_suit : List (List Kind) → List Set → Test → Bool
changes_suit kinds sets filter =
    all_differ (map (λ s. s.column) sets) && (list_all (suits_set kinds) sets && suits_filter kinds filter)

pub record SuitsUpdate (tables : List TableDef) (id : ℕ) (sets : List Set) (filter : Test) : Type 0 where
  pub there : is_there tables id ≡ true
  pub apart : all_differ (map (λ s. s.column) sets) ≡ true
  pub valued : list_all (suits_set (own_kinds tables id)) sets ≡ true
  pub kept : suits_filter (own_kinds tables id) filter ≡ true

pub update_suits : (tables : List TableDef) (id : ℕ) (sets : List Set) (filter : Test)
    → (is_there tables id && changes_suit (own_kinds tables id) sets filter) ≡ true
    → SuitsUpdate tables id sets filter
update_suits tables id sets filter suits =
    let kept : Bool = suits_filter (own_kinds tables id) filter in
    let valued : Bool = list_all (suits_set (own_kinds tables id)) sets in
    let apart : Bool = all_differ (map (λ (s : Set). s.column) sets) in
    let of_table = both (is_there tables id) (apart && (valued && kept)) suits in
    let of_apart = both apart (valued && kept) of_table.1 in
    let of_sets = both valued kept of_apart.1 in
    record { there = of_table.0; apart = of_apart.0; valued = of_sets.0; kept = of_sets.1 }

-- over a table that is there, they decide
pub update_told : (tables : List TableDef) (id : ℕ) (sets : List Set) (filter : Test) (r : List (List ColumnDef)) (x y : Bool)
    → r ≡ input_columns tables (input.Table id) ∷ [] → x ≡ is_there tables id → x ≡ true
    → y ≡ changes_suit (kinds_in r) sets filter → y ≡ (is_there tables id && changes_suit (own_kinds tables id) sets filter)
update_told tables id sets filter r x y r_is x_is passed y_is =
    y_is ∙ ap (λ (cs : List (List ColumnDef)). changes_suit (kinds_in cs) sets filter) r_is
    ∙ sym (told (is_there tables id) (changes_suit (own_kinds tables id) sets filter) _ (sym x_is ∙ passed) refl)
