-- A query that suits tables suits others that have their columns, outside rules and in a rule.
use Rattle.std.proofs.Common.{◌≡◌, ℕ, ◌<◌, ◌≤◌, Bool, true, List, [], ◌∷◌, ◌++◌, length, map, Some, refl, sym, ap, ap₂, subst, arith, length-append}
use Rattle.std.specs.List.{list_all}
use Rattle.strip_value.specs.declared.queries.Input.{Input}
use Rattle.strip_value.specs.declared.queries.Input.TheVariants as input
use Rattle.strip_value.specs.declared.queries.Item.{Item}
use Rattle.strip_value.specs.declared.queries.Query.{Query}
use Rattle.strip_value.specs.declared.tables.ColumnDef.{ColumnDef}
use Rattle.strip_value.specs.declared.tables.TableDef.{TableDef}
use Rattle.strip_meaning.specs.Contents.{def_at}
use Rattle.strip_setup.specs.Queries.{moved_columns}
use Rattle.strip_acts.specs.Suiting.{is_there, kinds_in, suits_filter, suits_group, suits_input, suits_item, suits_over, suits_query}
use Rattle.strip_acts.specs.Trees.{input_columns}
use Rattle.strip_acts.proofs.Naming.{are_both, below, both_true, is_below}
use Rattle.strip_acts.proofs.QueryParts.{in_parts, of_parts}
use Rattle.strip_catalog.specs.RuleQueries.{columns_in_rule, suits_in_rule, suits_input_in_rule}
use Rattle.strip_catalog.proofs.SoundKept.{AreKept, def_before, kept_at, kept_length}

-- ---- inputs that stay

-- an input that may stand still may, and has the same columns
record Stays (may_stand may_still : Input → Bool) (columns others : Input → List ColumnDef) : Type 0 where
  stands : (one : Input) → may_stand one ≡ true → may_still one ≡ true
  same : (one : Input) → may_stand one ≡ true → others one ≡ columns one

module _ (may_stand may_still : Input → Bool) (columns others : Input → List ColumnDef) (stays : Stays may_stand may_still columns others) where
  inputs_still : (inputs : List Input) → list_all may_stand inputs ≡ true → list_all may_still inputs ≡ true
  inputs_still [] e = refl
  inputs_still (one ∷ inputs) e =
      let both = both_true (may_stand one) (list_all may_stand inputs) e in
      are_both (may_still one) (list_all may_still inputs) (stays.stands one both.0) (inputs_still inputs both.1)

  columns_still : (inputs : List Input) → list_all may_stand inputs ≡ true → map others inputs ≡ map columns inputs
  columns_still [] e = refl
  columns_still (one ∷ inputs) e =
      let both = both_true (may_stand one) (list_all may_stand inputs) e in
      ap₂ (λ (here : List ColumnDef) (more : List (List ColumnDef)). here ∷ more) (stays.same one both.0) (columns_still inputs both.1)

  still_over : (query : Query) → suits_over may_stand columns query ≡ true → suits_over may_still others query ≡ true
  still_over query e =
      let parts = in_parts may_stand columns query e in
      let same = sym (columns_still query.entries parts.inputs) in
      of_parts may_still others query (record {
        inputs = inputs_still query.entries parts.inputs;
        few = parts.few;
        narrow = parts.narrow;
        once = parts.once;
        items = subst (λ read. list_all (λ (item : Item). suits_item (kinds_in read) item.what) query.items ≡ true) same parts.items;
        filter = subst (λ read. suits_filter (kinds_in read) query.filter ≡ true) same parts.filter;
        group = subst (λ read. suits_group (kinds_in read) query.group ≡ true) same parts.group;
        placed = parts.placed;
      })

-- ---- tables that have the columns of others

-- each table of the ones is there in the others, with the same columns
pub record HasColumnsOf (ones others : List TableDef) : Type 0 where
  pub few : length ones ≤ length others
  pub same : (id : ℕ) → id < length ones → (def_at others id).columns ≡ (def_at ones id).columns

module _ (ones others : List TableDef) (has : HasColumnsOf ones others) where
  there_still : (id : ℕ) → is_there ones id ≡ true → is_there others id ≡ true
  there_still id e =
      let few = has.few in
      let there = below id (length ones) e in
      is_below id (length others) (omega (arith, few, there))

  same_at : (id : ℕ) → is_there ones id ≡ true → (def_at others id).columns ≡ (def_at ones id).columns
  same_at id e = has.same id (below id (length ones) e)

  input_still : (one : Input) → suits_input ones one ≡ true → suits_input others one ≡ true
  input_still (input.Table id) e = there_still id e
  input_still (input.Before id) e = cc
  input_still input.Inserted e = cc
  input_still input.Deleted e = cc
  input_still input.Old e = cc
  input_still input.New e = cc

  same_columns : (one : Input) → suits_input ones one ≡ true → input_columns others one ≡ input_columns ones one
  same_columns (input.Table id) e = same_at id e
  same_columns (input.Before id) e = refl
  same_columns input.Inserted e = refl
  same_columns input.Deleted e = refl
  same_columns input.Old e = refl
  same_columns input.New e = refl

  pub query_still : (query : Query) → suits_query ones query ≡ true → suits_query others query ≡ true
  query_still query e = still_over (suits_input ones) (suits_input others) (input_columns ones) (input_columns others) (record { stands = input_still; same = same_columns }) query e

  input_in_rule : (one : Input) → suits_input_in_rule ones one ≡ true → suits_input_in_rule others one ≡ true
  input_in_rule (input.Table id) e = there_still id e
  input_in_rule (input.Before id) e = there_still id e
  input_in_rule input.Inserted e = refl
  input_in_rule input.Deleted e = refl
  input_in_rule input.Old e = refl
  input_in_rule input.New e = refl

  module _ (on : ℕ) (there : on < length ones) where
    moved_same : moved_columns (Some (def_at others on).columns) ≡ moved_columns (Some (def_at ones on).columns)
    moved_same = ap (λ here. moved_columns (Some here)) (has.same on there)

    columns_same : (one : Input) → suits_input_in_rule ones one ≡ true → columns_in_rule others on one ≡ columns_in_rule ones on one
    columns_same (input.Table id) e = same_at id e
    columns_same (input.Before id) e = same_at id e
    columns_same input.Inserted e = moved_same
    columns_same input.Deleted e = moved_same
    columns_same input.Old e = moved_same
    columns_same input.New e = moved_same

    pub in_rule_still : (query : Query) → suits_in_rule ones on query ≡ true → suits_in_rule others on query ≡ true
    in_rule_still query e =
        still_over (suits_input_in_rule ones) (suits_input_in_rule others) (columns_in_rule ones on) (columns_in_rule others on) (record { stands = input_in_rule; same = columns_same }) query e

-- ---- tables that statements leave so

-- more tables behind them change nothing of these
pub longer_has : (tables more : List TableDef) → HasColumnsOf tables (tables ++ more)
longer_has tables more =
    let long = length-append tables more in
    record { few = omega (arith, long); same = λ id there. ap (λ (t : TableDef). t.columns) (def_before tables more id there) }

-- tables that are kept have the same columns
pub kept_has : (ones others : List TableDef) → AreKept ones others → HasColumnsOf ones others
kept_has ones others kept =
    let long = kept_length ones others kept in
    record { few = omega (arith, long); same = λ id there. ap (λ (t : TableDef). t.columns) (kept_at ones others id kept).is }
