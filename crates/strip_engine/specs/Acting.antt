-- What the steps of a commit, a start and a finish do to the queue, the history and the tables.
use Rattle.std.specs.Prelude.{◌≡◌, ℕ, ◌+◌, ◌<◌, ◌≤◌, ◌==◌, false, ◌⊎◌, List, [], ◌∷◌, ◌++◌, get_or, length, vec_len, vec_capacity, Option, Some, None, Result, Ok, Err}
use Rattle.std.specs.declared.alloc.AllocError.{AllocError}
use Rattle.std.specs.List.{AllByRecursion}
use Rattle.std.specs.VecDeque.{deque_len, deque_capacity}
use Rattle.strip_value.specs.declared.actions.FiredRule.{FiredRule}
use Rattle.strip_value.specs.declared.tables.TableDef.{TableDef}
use Rattle.strip_value.specs.declared.values.Value.{Value}
use Rattle.strip_value.specs.Kinds.{FitsColumns}
use Rattle.strip_value.specs.Table.{Keyed, Rises}
use Rattle.strip_meaning.specs.Contents.{def_at}
use Rattle.strip_meaning.specs.Sums.{IsDerived, applied}
use Rattle.strip_meaning.specs.Effect.{with_rows, table_at}
use Rattle.strip_add.specs.Parts.{IsUnderAfter}
use Rattle.strip_model.specs.declared.entries.Entry.TheVariants.{Start}
use Rattle.strip_model.specs.Kept.{Kept}
use Rattle.strip_model.specs.Says.{Task, row_count}
use Rattle.strip_engine.specs.declared.answers.CommitError.{CommitError}
use Rattle.strip_engine.specs.declared.answers.CommitError.TheVariants as commit_error
use Rattle.strip_engine.specs.declared.committing.Binding.{Binding}
use Rattle.strip_engine.specs.declared.keepers.Keeper.{Keeper}
use Rattle.strip_engine.specs.declared.queue.Queue.{Queue}
use Rattle.strip_engine.specs.declared.queue.Waiting.{Waiting}
use Rattle.strip_engine.specs.declared.undo.Session.{Session}
use Rattle.strip_engine.specs.Changes.{fired_by}
use Rattle.strip_engine.specs.Undo.{changes_of}
use Rattle.strip_engine.specs.Jobs.{CanFold, content_of}
use Rattle.strip_engine.specs.Keepers.{no_keeper}
use Rattle.strip_engine.specs.Queue.{plain_id, waiting_at}

-- the same actions and counts; room aside
pub record SameQueue (old new : Queue) : Type 0 where
  pub waiting : new.waiting.items ≡ old.waiting.items
  pub running : new.running.items ≡ old.running.items
  pub bound : new.bound ≡ old.bound
  pub rows : new.rows ≡ old.rows
  pub jobs : new.jobs ≡ old.jobs

-- ---- a commit

-- what rules bind is within the limit, with room for it; or it passes the limit
abbrev pub Prepares : List FiredRule → ℕ → ℕ → Queue → Result Binding CommitError → Type 0
Prepares fires bound most new (Ok binding) =
    (binding.fired ≡ fires)
    × (binding.rows ≡ row_count fires)
    × (bound + row_count fires ≤ most)
    × (deque_len new.waiting + length fires ≤ deque_capacity new.waiting)
Prepares fires bound most new (Err (commit_error.NoSession session)) = ⊥
Prepares fires bound most new (Err (commit_error.Spent total)) = (total ≡ bound + row_count fires) × (most < total)
Prepares fires bound most new (Err commit_error.Memory) = Unit {0}

-- so for the session of a number; another isn't live
abbrev pub PreparesFor : Option Session → ℕ → List Keeper → ℕ → ℕ → Queue → Result Binding CommitError → Type 0
PreparesFor None number keepers bound most new result = result ≡ Err (commit_error.NoSession number)
PreparesFor (Some live) number keepers bound most new result =
    ((live.number ≡ number) × Prepares (fired_by 0 keepers (changes_of live.log.items)) bound most new result)
    ⊎ (((live.number == number) ≡ false) × (result ≡ Err (commit_error.NoSession number)))

-- what rules bound waits behind the others
pub record Merges (old : Queue) (place moment : ℕ) (binding : Binding) (new : Queue) : Type 0 where
  pub waiting : new.waiting.items ≡ old.waiting.items ++ waiting_at place moment binding.fired
  pub running : new.running.items ≡ old.running.items
  pub bound : new.bound ≡ old.bound + binding.rows
  pub rows : new.rows ≡ old.rows + binding.rows
  pub jobs : new.jobs ≡ old.jobs

-- ---- a start

-- the first action that waits is of a rule of these, which keeps a table of these
pub record KnowsFirst (defs : List TableDef) (keepers : List Keeper) (queue : Queue) : Type 0 where
  pub rules : AllByRecursion (λ (w : Waiting). w.fired.number < length keepers) queue.waiting.items
  pub tables : AllByRecursion (λ (k : Keeper). k.table < length defs) keepers

-- room for a start and its finish beside those of others, and the definition of its table; or nothing waits
abbrev pub PreparesStart : List TableDef → List Keeper → Queue → Kept → Result (Option TableDef) AllocError → Type 0
PreparesStart defs keepers new history (Ok None) = new.waiting.items ≡ []
PreparesStart defs keepers new history (Ok (Some def)) = (first : Waiting) × (others : List Waiting)
    × (new.waiting.items ≡ first ∷ others)
    × (def ≡ def_at defs (get_or keepers first.fired.number no_keeper).table)
    × (vec_len new.running < vec_capacity new.running)
    × (vec_len new.running + 3 ≤ history.room)
PreparesStart defs keepers new history (Err none) = Unit {0}

-- the first action that waits can be started
pub record CanStart (def : TableDef) (queue : Queue) (history : Kept) : Type 0 where
  pub first : Waiting
  pub others : List Waiting
  pub split : queue.waiting.items ≡ first ∷ others
  pub folds : CanFold def first.fired.rows
  pub room : vec_len queue.running < vec_capacity queue.running
  pub entry : 0 < history.room
  pub counted : queue.jobs ≤ length history.entries

-- the first one that waited runs
pub record StartsFirst (caller moment : ℕ) (def : TableDef) (old : Queue) (was : Kept) (first : Waiting) (others : List Waiting) (new : Queue) (now : Kept) (job : Task) : Type 0 where
  pub waiting : new.waiting.items ≡ others
  pub running : new.running.items ≡ old.running.items ++ record { number = old.jobs + 1; caller = caller; place = first.place; rule = first.fired.number; rows = length first.fired.rows } ∷ []
  pub bound : new.bound ≡ old.bound
  pub rows : new.rows ≡ old.rows
  pub jobs : new.jobs ≡ old.jobs + 1
  pub entries : now.entries ≡ was.entries ++ Start caller (old.jobs + 1) moment (plain_id first.place first.fired.number) first.moment (length first.fired.rows) ∷ []
  pub room : now.room + 1 ≡ was.room
  pub task : job ≡ record { number = old.jobs + 1; caller = caller; action = plain_id first.place first.fired.number; due = first.moment; rows = length first.fired.rows; content = content_of def first.fired.rows }

-- ---- a finish

-- the sums can be added to the table
pub record CanAdd (table : Keyed) (totals : List (List Value)) : Type 0 where
  pub derived : IsDerived table.def
  pub rise : Rises table.def.key totals
  pub kinds : AllByRecursion (FitsColumns table.def.columns) totals
  pub within : AllByRecursion (IsUnderAfter table.def table.rows) totals

-- the tables with sums added to one
abbrev pub with_sums : List Keyed → ℕ → List (List Value) → List Keyed
with_sums tables id totals = with_rows tables id (applied (table_at tables id).def (table_at tables id).rows totals)
