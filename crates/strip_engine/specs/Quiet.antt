-- Where no action waits and none runs, derived tables are their queries over the base tables. And the laws beside it: what
-- is bound at a commit adds up to what changed, each bound row is in one action, and a part of a legal history is legal.
use Rattle.std.specs.Prelude.{◌≡◌, ℕ, ℤ, ◌<◌, pos, ◌-ℤ◌, Bool, true, false, List, [], ◌∷◌, ◌++◌, map, filter, length, Option, Some, None, is_some}
use Rattle.std.specs.List.{list_any}
use Rattle.strip_value.specs.declared.actions.ActionId.{ActionId}
use Rattle.strip_value.specs.declared.actions.Counts.{Counts}
use Rattle.strip_value.specs.declared.queries.Query.{Query}
use Rattle.strip_value.specs.declared.rules.Rule.{Rule}
use Rattle.strip_value.specs.declared.tables.TableDef.{TableDef}
use Rattle.strip_value.specs.declared.values.Value.{Value}
use Rattle.strip_value.specs.Query.{mean_now, number_of, rows_at, sum_of}
use Rattle.strip_value.specs.Table.{Keyed, column_of, has_key}
use Rattle.strip_meaning.specs.Actions.{BoundRow, Happened, all_rows, in_state, is_finished, is_pending, is_quiet, is_running, rows_of, same_action}
use Rattle.strip_meaning.specs.Contents.{def_at}
use Rattle.strip_meaning.specs.Effect.{table_at}
use Rattle.strip_meaning.specs.Sums.{sums_at, totals_at}
use Rattle.strip_model.specs.declared.entries.Entry.{Entry}
use Rattle.strip_model.specs.declared.entries.Entry.TheVariants.{Commit}
use Rattle.strip_model.specs.History.{base, changes}
use Rattle.strip_model.specs.Derived.{Fixed, beginning, happened, tables}
use Rattle.strip_model.specs.Legal.{Legal}
use Rattle.strip_engine.specs.declared.keepers.Keeper.{Keeper}
use Rattle.strip_engine.specs.Changes.{bound_by}
use Rattle.strip_engine.specs.Jobs.{rows_in}
use Rattle.strip_engine.specs.Built.{IsBuilt}
use Rattle.strip_engine.specs.Keepers.{all_keepers, keeper_at, kept_def}
use Rattle.strip_engine.specs.State.{State, fixed, past}

-- ---- derived tables are their queries

-- nothing waits, nothing runs
abbrev pub IsQuiet : Fixed → List Entry → Type 0
IsQuiet f past = is_quiet f.rules (happened f past) ≡ true

-- the rows of the query of a table of this definition over the base tables; none where it has no query
abbrev pub rows_by : Option Query → List Keyed → List (List Value)
rows_by None tables = []
rows_by (Some query) tables = mean_now query tables

abbrev pub query_rows : TableDef → List Keyed → List (List Value)
query_rows def tables = rows_by def.query tables

-- in a legal history after which nothing waits and nothing runs, each derived table that is declared to be kept has the rows
-- of its query over the base tables
abbrev pub QuietTablesAreQueries : Type 0
QuietTablesAreQueries =
    (f : Fixed) (past : List Entry) (id : ℕ) → IsBuilt f → Legal f past → IsQuiet f past
    → is_some (def_at f.defs id).query ≡ true → (def_at f.defs id).declared ≡ true
    → (table_at (tables f past) id).rows ≡ query_rows (def_at f.defs id) (base (beginning f) past)

-- where none waits and none runs, by these counts, each derived table that is declared to be kept has the rows of its query
-- over the base tables of the history
abbrev pub QuietWhere : State → Counts → Type 0
QuietWhere s counts =
    counts.pending ≡ 0 → counts.running ≡ 0
    → (id : ℕ) → is_some (def_at s.catalog.tables id).query ≡ true → (def_at s.catalog.tables id).declared ≡ true
    → (table_at (tables (fixed s) (past s)) id).rows ≡ query_rows (def_at s.catalog.tables id) (base (beginning (fixed s)) (past s))

-- ---- what is bound at a commit adds up

-- the rows of a base table that are of a group, by the group column of a keeper
abbrev pub group_rows : Keeper → List (List Value) → List Value → List (List Value)
group_rows k rows key = filter (has_key (k.group ∷ []) key) rows

-- the totals of a group: the sum of the value column over its rows, and their number; zeros where it has none
abbrev pub group_totals : Keeper → List (List Value) → List Value → List ℤ
group_totals k rows key =
    sum_of (map (λ row. number_of (column_of row k.value)) (group_rows k rows key)) ∷ pos (length (group_rows k rows key)) ∷ []

-- the query of a derived table that is kept has, per key, the totals of the group; where it has no row, they are zeros
abbrev pub QueryHasTotals : Type 0
QueryHasTotals =
    (f : Fixed) (ts : List Keyed) (rule : ℕ) (key : List Value) → IsBuilt f → rule < length (all_keepers f)
    → totals_at (kept_def f rule) (query_rows (kept_def f rule) ts) key ≡ group_totals (keeper_at f rule) (rows_at ts (keeper_at f rule).source) key

-- numbers less others, place by place
abbrev pub less : List ℤ → List ℤ → List ℤ
less (a ∷ one) (b ∷ two) = (a -ℤ b) ∷ less one two
less _ _ = []

-- at a commit after a legal history the rows that a keeper's rule binds have, per key, as sums the totals of the group in the
-- base table after the commit less those before it
abbrev pub DeltasAddUp : Type 0
DeltasAddUp =
    (f : Fixed) (past : List Entry) (caller session moment : ℕ) (rule : ℕ) (key : List Value) → IsBuilt f → Legal f past → rule < length (all_keepers f)
    → sums_at (kept_def f rule) (rows_in (bound_by (keeper_at f rule) (changes (beginning f) past session))) key
    ≡ less (group_totals (keeper_at f rule) (rows_at (base (beginning f) (Commit caller session moment ∷ past)) (keeper_at f rule).source) key)
    (group_totals (keeper_at f rule) (rows_at (base (beginning f) past) (keeper_at f rule).source) key)

-- ---- each bound row is in one action

-- the row stands among these
abbrev pub StandsAmong : List BoundRow → BoundRow → Type 0
StandsAmong rows row = (before : List BoundRow) × (after : List BoundRow) × (rows ≡ before ++ row ∷ after)

-- an action is among these
abbrev pub is_among : List BoundRow → ActionId → Bool
is_among those action = list_any (λ a. same_action a.action action) those

-- just one of the three is so
abbrev pub JustOne : Bool → Bool → Bool → Type 0
JustOne true false false = Unit {0}
JustOne false true false = Unit {0}
JustOne false false true = Unit {0}
JustOne _ _ _ = ⊥

-- a bound row is among the rows of an action, and of no other; and this action is just one of pending, running and finished
pub record InOneAction (rules : List Rule) (past : List Happened) (row : BoundRow) : Type 0 where
  pub action : ActionId
  pub among : StandsAmong (rows_of rules past action) row
  pub only : (other : ActionId) → StandsAmong (rows_of rules past other) row → other ≡ action
  pub state : JustOne (is_among (in_state is_pending rules past) action) (is_among (in_state is_running rules past) action) (is_among (in_state is_finished rules past) action)

-- so it is of each bound row, whatever the history and whatever the rules
abbrev pub EachRowInOneAction : Type 0
EachRowInOneAction = (f : Fixed) (past : List Entry) (row : BoundRow) → StandsAmong (all_rows f.rules (happened f past)) row → InOneAction f.rules (happened f past) row

-- ---- a part of a legal history

-- what a legal history was before its newest entries is legal
abbrev pub PrefixIsLegal : Type 0
PrefixIsLegal = (f : Fixed) (later past : List Entry) → Legal f (later ++ past) → Legal f past
