-- What the trees of a query and of an update are made from suits the columns that are read.
use Rattle.std.proofs.Common.{◌≡◌, ℕ, ◌&&◌, true, List, [], ◌∷◌, map, ap, ap₂, ◌∙◌}
use Rattle.std.specs.List.{list_all}
use Rattle.strip_value.specs.declared.acts.Act.TheVariants as act
use Rattle.strip_value.specs.declared.expressions.Test.{Test}
use Rattle.strip_value.specs.declared.queries.Input.{Input}
use Rattle.strip_value.specs.declared.queries.Input.TheVariants as input
use Rattle.strip_value.specs.declared.queries.Item.{Item}
use Rattle.strip_value.specs.declared.queries.Query.{Query}
use Rattle.strip_value.specs.declared.queries.Set.{Set}
use Rattle.strip_value.specs.declared.tables.ColumnDef.{ColumnDef}
use Rattle.strip_value.specs.declared.tables.TableDef.{TableDef}
use Rattle.strip_acts.specs.Suiting.{has_column, is_sound, kinds_in, suits_filter, suits_item, suits_query, suits_value}
use Rattle.strip_acts.specs.Trees.{input_columns}
use Rattle.strip_acts.proofs.Parts.{query_suits, update_suits}

pub items_suit : (tables : List TableDef) (query : Query) (inputs : List Input) (r : List (List ColumnDef)) (items : List Item)
    → inputs ≡ query.entries → r ≡ map (input_columns tables) inputs → items ≡ query.items → suits_query tables query ≡ true
    → list_all (λ item. suits_item (kinds_in r) item.what) items ≡ true
items_suit tables query inputs r items inputs_are r_is items_are suits =
    let columns : r ≡ map (input_columns tables) query.entries =
    r_is ∙ ap (λ (xs : List Input). map (input_columns tables) xs) inputs_are in
    ap₂ (λ (cs : List (List ColumnDef)) (xs : List Item). list_all (λ (item : Item). suits_item (kinds_in cs) item.what) xs)
    columns items_are
    ∙ (query_suits tables query suits).items

pub filter_suits : (tables : List TableDef) (query : Query) (inputs : List Input) (r : List (List ColumnDef)) → inputs ≡ query.entries
    → r ≡ map (input_columns tables) inputs → suits_query tables query ≡ true → suits_filter (kinds_in r) query.filter ≡ true
filter_suits tables query inputs r inputs_are r_is suits =
    let columns : r ≡ map (input_columns tables) query.entries =
    r_is ∙ ap (λ (xs : List Input). map (input_columns tables) xs) inputs_are in
    ap (λ (cs : List (List ColumnDef)). suits_filter (kinds_in cs) query.filter) columns ∙ (query_suits tables query suits).filter

pub sets_suit : (tables : List TableDef) (id : ℕ) (sets : List Set) (filter : Test) (r : List (List ColumnDef))
    → r ≡ input_columns tables (input.Table id) ∷ [] → is_sound tables (act.Update id sets filter) ≡ true
    → list_all (λ s. has_column (kinds_in r) 0 s.column && suits_value (kinds_in r) s.value) sets ≡ true
sets_suit tables id sets filter r r_is sound =
    ap (λ (cs : List (List ColumnDef)).
    list_all (λ (s : Set). has_column (kinds_in cs) 0 s.column && suits_value (kinds_in cs) s.value) sets) r_is
    ∙ (update_suits tables id sets filter sound).valued
