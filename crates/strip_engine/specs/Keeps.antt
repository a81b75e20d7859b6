-- What an engine keeps true of its fields.
use Rattle.std.specs.Prelude.{◌≡◌, ℕ, ◌+◌, ◌^◌, ◌≤◌, List, [], ◌∷◌, map, reverse, length, Option, Some, None}
use Rattle.std.specs.List.{AllByRecursion}
use Rattle.strip_value.specs.Table.{Keyed}
use Rattle.strip_meaning.specs.Effect.{run}
use Rattle.strip_model.specs.declared.entries.Entry.{Entry}
use Rattle.strip_model.specs.History.{acts, begins, holds, live, latest, jobs, job_count}
use Rattle.strip_model.specs.Derived.{Fixed, tables, at_begin, working, happened, bound_count}
use Rattle.strip_model.specs.Legal.{Legal}
use Rattle.strip_engine.specs.declared.keepers.Keeper.{Keeper}
use Rattle.strip_engine.specs.declared.queue.Queue.{Queue}
use Rattle.strip_engine.specs.declared.undo.Session.{Session}
use Rattle.strip_engine.specs.Built.{IsBuilt}
use Rattle.strip_engine.specs.Keepers.{all_keepers}
use Rattle.strip_engine.specs.Queue.{Queues}
use Rattle.strip_engine.specs.Undo.{all_restored, changes_of, IsLogged}

-- the session of the field is the one that is live; the tables are as it has made them, and its log has its changes and
-- leads back to the tables before it; there is room for the entry that ends it, and for so many finishes
pub record InProgress (f : Fixed) (now : List Keyed) (past : List Entry) (room running : ℕ) (session : Session) : Type 0 where
  pub only : live past ≡ record { session = session.number; caller = session.caller } ∷ []
  pub held : session.holds ≡ holds past session.number
  pub began : at_begin f past session.number ≡ tables f past
  pub made : now ≡ working f past session.number
  pub changed : changes_of session.log.items ≡ (run (holds past session.number) (at_begin f past session.number) (acts past session.number)).changes
  pub restores : AllByRecursion (IsLogged f.defs) session.log.items
  pub undoes : all_restored (reverse session.log.items) now ≡ tables f past
  pub room_to_end : running + 1 ≤ room

-- no session is live, and the tables are what committed transactions and finished actions made; there is room for so many
-- finishes
pub record AtRest (f : Fixed) (now : List Keyed) (past : List Entry) (room running : ℕ) : Type 0 where
  pub none : live past ≡ []
  pub committed : now ≡ tables f past
  pub room_to_finish : running ≤ room

abbrev pub Stands : Fixed → List Keyed → List Entry → ℕ → ℕ → Option Session → Type 0
Stands f now past room running None = AtRest f now past room running
Stands f now past room running (Some session) = InProgress f now past room running session

-- the history is legal, the counters and the queue are its own, and the tables are what it gives
pub record Keeps (f : Fixed) (now : List Keyed) (entries : List Entry) (room : ℕ) (session : Option Session) (count moment : ℕ) (keepers : List Keeper) (queue : Queue) : Type 0 where
  pub built : IsBuilt f
  pub bounded : f.most ≤ 2 ^ 60
  pub keeping : keepers ≡ all_keepers f
  pub defined : map (λ table. table.def) now ≡ f.defs
  pub legal : Legal f (reverse entries)
  pub counted : count ≡ begins (reverse entries)
  pub timed : moment ≡ latest (reverse entries)
  pub queued : Queues f.rules (happened f (reverse entries)) (jobs (reverse entries)) (bound_count f (reverse entries)) (job_count (reverse entries)) queue
  pub stands : Stands f now (reverse entries) room (length queue.running.items) session
