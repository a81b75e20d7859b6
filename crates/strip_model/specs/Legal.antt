-- Which histories are legal: each entry meets its line, given the entries before it.
use Rattle.std.specs.Prelude.{◌≡◌, ℕ, ◌+◌, ◌^◌, ◌<◌, ◌≤◌, Bool, not, ◌&&◌, ◌||◌, ◌==◌, List, [], ◌∷◌, length, map, find, get_or, IsTrue, Option, Some}
use Rattle.std.specs.List.{AllByRecursion, list_all, list_any}
use Rattle.strip_value.specs.declared.actions.ActionId.{ActionId}
use Rattle.strip_value.specs.declared.acts.Act.{Act}
use Rattle.strip_value.specs.declared.acts.Act.TheVariants.{Put, Select, Show}
use Rattle.strip_value.specs.declared.acts.Holds.{Holds}
use Rattle.strip_value.specs.declared.acts.Reply.{Reply}
use Rattle.strip_model.specs.declared.entries.Entry.{Entry}
use Rattle.strip_model.specs.declared.entries.Entry.TheVariants.{Begin, Did, Commit, Undo, Start, Finish}
use Rattle.strip_meaning.specs.Effect.{effect, has_id}
use Rattle.strip_value.specs.declared.queries.Input.{Input}
use Rattle.strip_value.specs.declared.queries.Input.TheVariants as input
use Rattle.strip_value.specs.declared.rules.Step.{Step}
use Rattle.strip_value.specs.declared.rules.Step.TheVariants.{Add, Redo}
use Rattle.strip_meaning.specs.Contents.{no_function}
use Rattle.strip_meaning.specs.Actions.{BoundRow, due_of, next, rows_of}
use Rattle.strip_model.specs.History.{begins, holds, live, latest, job_count, Running, jobs}
use Rattle.strip_model.specs.Derived.{Fixed, happened, bound_count, working}

-- the numbers rise, from `low` on, and are below `high`
abbrev pub Rise : ℕ → ℕ → List ℕ → Type 0
Rise low high [] = Unit {0}
Rise low high (id ∷ ids) = (low ≤ id) × (id < high) × Rise (id + 1) high ids

-- the lists share a number
abbrev pub meet : List ℕ → List ℕ → Bool
meet ids others = list_any (λ id. has_id others id) ids

-- two transactions conflict on a table that one has to write and the other has at all
abbrev pub conflict : Holds → Holds → Bool
conflict one other = meet one.write other.write || meet one.write other.read || meet one.read other.write

-- the session is live and the caller's
abbrev pub IsOpen : List Entry → ℕ → ℕ → Type 0
IsOpen past caller session = IsTrue (list_any (λ l. l.session == session && l.caller == caller) (live past))

-- the entry of a query is a table that is there
abbrev pub IsTableThere : ℕ → Input → Type 0
IsTableThere count (input.Table id) = id < count
IsTableThere count _ = ⊥

-- the act is one that is built, `Put`, `Select` or `Show`, and the tables that it names are there
abbrev pub Names : ℕ → Act → Type 0
Names count (Put id row) = id < count
Names count (Select query) = AllByRecursion (IsTableThere count) query.entries
Names count (Show id) = id < count
Names count _ = ⊥

-- what an act is answered within a session
abbrev pub reply_of : Fixed → List Entry → ℕ → Act → Reply
reply_of f past session act = (effect (holds past session) (working f past session) act).reply

-- a transaction may begin: its number is the next, its caller has none that is live, its lists rise and are apart, and it
-- conflicts with no live one
pub record Begins (count : ℕ) (past : List Entry) (caller session : ℕ) (write read : List ℕ) : Type 0 where
  pub next : session ≡ begins past + 1
  pub alone : IsTrue (list_all (λ l. not (l.caller == caller)) (live past))
  pub write_rises : Rise 0 count write
  pub read_rises : Rise 0 count read
  pub apart : IsTrue (list_all (λ id. not (has_id write id)) read)
  pub free : IsTrue (list_all (λ l. not (conflict (record { write = write; read = read }) (holds past l.session))) (live past))

-- an action may be started: its number is the next, the moment no earlier than those before, and it is the one that is next
-- at the moment, with its due moment and the number of its rows
pub record Starts (f : Fixed) (past : List Entry) (number moment : ℕ) (action : ActionId) (due rows : ℕ) : Type 0 where
  pub number_next : number ≡ job_count past + 1
  pub early : moment ≤ 2 ^ 63
  pub later : latest past ≤ moment
  pub first : BoundRow
  pub is_next : next f.rules (happened f past) moment ≡ Some first
  pub named : action ≡ first.action
  pub due_then : due ≡ due_of f.rules first
  pub counted : rows ≡ length (rows_of f.rules (happened f past) action)

-- the table that a step writes, and those that a function's steps write
abbrev pub step_table : Step → ℕ
step_table (Add table into) = into
step_table (Redo table by_) = table

abbrev pub written : Fixed → ActionId → List ℕ
written f action = map step_table (get_or f.functions action.function no_function).steps

-- a transaction has one of the tables
abbrev pub holds_one : Holds → List ℕ → Bool
holds_one held ids = meet ids held.write || meet ids held.read

-- the running action of a number
abbrev pub job_of : List Entry → ℕ → Option Running
job_of past number = find (λ j. j.number == number) (jobs past)

-- an action may be finished: it is running, the caller started it, and no live session has a table that its function writes
pub record Finishes (f : Fixed) (past : List Entry) (caller number : ℕ) : Type 0 where
  pub job : Running
  pub is_running : job_of past number ≡ Some job
  pub called : caller ≡ job.caller
  pub free : IsTrue (list_all (λ l. not (holds_one (holds past l.session) (written f job.action))) (live past))

-- the entry may follow these
abbrev pub Follows : Fixed → List Entry → Entry → Type 0
Follows f past (Begin caller session write read) = Begins (length f.defs) past caller session write read
Follows f past (Did caller session act reply) =
    IsOpen past caller session × Names (length f.defs) act × (reply ≡ reply_of f past session act)
Follows f past (Commit caller session moment) =
    IsOpen past caller session × (moment ≤ 2 ^ 63) × (latest past ≤ moment) × (bound_count f (Commit caller session moment ∷ past) ≤ f.most)
Follows f past (Undo caller session) = IsOpen past caller session
Follows f past (Start caller number moment action due rows) = Starts f past number moment action due rows
Follows f past (Finish caller number) = Finishes f past caller number

-- a history, newest entry first, whose entries each may follow those before
abbrev pub Legal : Fixed → List Entry → Type 0
Legal f [] = Unit {0}
Legal f (entry ∷ past) = Follows f past entry × Legal f past
