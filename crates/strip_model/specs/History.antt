-- What a history means. It stands newest entry first here: the entries before an entry are the tail, and the place of
-- an entry is the length of its tail.
use Rattle.std.specs.Prelude.{ℕ, ◌+◌, max, not, ◌==◌, if◌then◌else◌, List, [], ◌∷◌, ◌++◌, map, filter}
use Rattle.strip_value.specs.declared.actions.ActionId.{ActionId}
use Rattle.strip_value.specs.declared.acts.Act.{Act}
use Rattle.strip_value.specs.declared.acts.Holds.{Holds}
use Rattle.strip_value.specs.declared.changes.Change.{Change}
use Rattle.strip_value.specs.declared.tables.TableDef.{TableDef}
use Rattle.strip_value.specs.Table.{Keyed}
use Rattle.strip_model.specs.declared.entries.Entry.{Entry}
use Rattle.strip_model.specs.declared.entries.Entry.TheVariants.{Begin, Did, Commit, Undo, Start, Finish}
use Rattle.strip_meaning.specs.Effect.{run}

-- the tables at the beginning: each has its definition and no row
abbrev pub empty_tables : List TableDef → List Keyed
empty_tables defs = map (λ def. record { def = def; rows = [] }) defs

-- how many sessions have begun
abbrev pub begins : List Entry → ℕ
begins [] = 0
begins (Begin c s w r ∷ past) = begins past + 1
begins (Did c s a reply ∷ past) = begins past
begins (Commit c s m ∷ past) = begins past
begins (Undo c s ∷ past) = begins past
begins (Start c n m a d r ∷ past) = begins past
begins (Finish c n ∷ past) = begins past

-- the acts of a session, newest first
abbrev pub acts : List Entry → ℕ → List Act
acts [] session = []
acts (Begin c s w r ∷ past) session = acts past session
acts (Did c s a reply ∷ past) session = (if s == session then a ∷ [] else []) ++ acts past session
acts (Commit c s m ∷ past) session = acts past session
acts (Undo c s ∷ past) session = acts past session
acts (Start c n m a d r ∷ past) session = acts past session
acts (Finish c n ∷ past) session = acts past session

-- the tables that a session holds
abbrev pub holds : List Entry → ℕ → Holds
holds [] session = record { write = []; read = [] }
holds (Begin c s w r ∷ past) session = if s == session then record { write = w; read = r } else holds past session
holds (Did c s a reply ∷ past) session = holds past session
holds (Commit c s m ∷ past) session = holds past session
holds (Undo c s ∷ past) session = holds past session
holds (Start c n m a d r ∷ past) session = holds past session
holds (Finish c n ∷ past) session = holds past session

-- a session that is live, and who began it
pub record Live : Type 0 where
  pub session : ℕ
  pub caller : ℕ

-- the live sessions but for one
abbrev pub ended : ℕ → List Live → List Live
ended session lives = filter (λ l. not (l.session == session)) lives

-- the sessions that have begun and neither committed nor been undone, newest first
abbrev pub live : List Entry → List Live
live [] = []
live (Begin c s w r ∷ past) = record { session = s; caller = c } ∷ live past
live (Did c s a reply ∷ past) = live past
live (Commit c s m ∷ past) = ended s (live past)
live (Undo c s ∷ past) = ended s (live past)
live (Start c n m a d r ∷ past) = live past
live (Finish c n ∷ past) = live past

-- the tables that committed transactions have made of those at the beginning, each run whole at its commit
abbrev pub base : List Keyed → List Entry → List Keyed
base start [] = start
base start (Begin c s w r ∷ past) = base start past
base start (Did c s a reply ∷ past) = base start past
base start (Commit c s m ∷ past) = (run (holds past s) (base start past) (acts past s)).tables
base start (Undo c s ∷ past) = base start past
base start (Start c n m a d r ∷ past) = base start past
base start (Finish c n ∷ past) = base start past

-- the row changes of the transaction that commits next
abbrev pub changes : List Keyed → List Entry → ℕ → List Change
changes start past session = (run (holds past session) (base start past) (acts past session)).changes

-- the greatest moment so far
abbrev pub latest : List Entry → ℕ
latest [] = 0
latest (Begin c s w r ∷ past) = latest past
latest (Did c s a reply ∷ past) = latest past
latest (Commit c s m ∷ past) = max m (latest past)
latest (Undo c s ∷ past) = latest past
latest (Start c n m a d r ∷ past) = max m (latest past)
latest (Finish c n ∷ past) = latest past

-- how many actions were started
abbrev pub job_count : List Entry → ℕ
job_count [] = 0
job_count (Begin c s w r ∷ past) = job_count past
job_count (Did c s a reply ∷ past) = job_count past
job_count (Commit c s m ∷ past) = job_count past
job_count (Undo c s ∷ past) = job_count past
job_count (Start c n m a d r ∷ past) = job_count past + 1
job_count (Finish c n ∷ past) = job_count past

-- an action that was started and is running: the number of its start, and who started it
pub record Running : Type 0 where
  pub number : ℕ
  pub caller : ℕ
  pub action : ActionId

-- the running actions but for one
abbrev pub stopped : ℕ → List Running → List Running
stopped number jobs = filter (λ j. not (j.number == number)) jobs

-- the actions that were started and not finished, the newest first
abbrev pub jobs : List Entry → List Running
jobs [] = []
jobs (Begin c s w r ∷ past) = jobs past
jobs (Did c s a reply ∷ past) = jobs past
jobs (Commit c s m ∷ past) = jobs past
jobs (Undo c s ∷ past) = jobs past
jobs (Start c n m a d r ∷ past) = record { number = n; caller = c; action = a } ∷ jobs past
jobs (Finish c n ∷ past) = stopped n (jobs past)
