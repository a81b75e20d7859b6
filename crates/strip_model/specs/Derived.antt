-- What rules make of a history: the rows that they bound, the actions of these rows, and the tables with those that rules
-- keep. The newest entry stands first.
use Rattle.std.specs.Prelude.{ℕ, ◌+◌, ◌==◌, if◌then◌else◌, List, [], ◌∷◌, length, is_some}
use Rattle.strip_value.specs.declared.actions.Bound.{Bound}
use Rattle.strip_value.specs.declared.actions.FiredRule.{FiredRule}
use Rattle.strip_value.specs.declared.changes.Change.{Change}
use Rattle.strip_value.specs.declared.rules.Function.{Function}
use Rattle.strip_value.specs.declared.rules.Rule.{Rule}
use Rattle.strip_value.specs.declared.tables.TableDef.{TableDef}
use Rattle.strip_value.specs.declared.values.Value.{Value}
use Rattle.strip_value.specs.Table.{Keyed}
use Rattle.strip_meaning.specs.Effect.{run}
use Rattle.strip_meaning.specs.Firing.{fired}
use Rattle.strip_meaning.specs.Actions.{Happened, commit, start, finish, all_rows}
use Rattle.strip_meaning.specs.Contents.{summed_up}
use Rattle.strip_model.specs.declared.entries.Entry.{Entry}
use Rattle.strip_model.specs.declared.entries.Entry.TheVariants.{Begin, Did, Commit, Undo, Start, Finish}
use Rattle.strip_model.specs.History.{empty_tables, acts, holds, base, changes}

-- what never changes: the tables' definitions, the rules, the functions, and the most rows that rules may bind
pub record Fixed : Type 0 where
  pub defs : List TableDef
  pub rules : List Rule
  pub functions : List Function
  pub most : ℕ

-- the tables at the beginning
abbrev pub beginning : Fixed → List Keyed
beginning f = empty_tables f.defs

-- ---- what the rules bind

abbrev pub with_fired : ℕ → List Bound → List FiredRule → List FiredRule
with_fired number [] others = others
with_fired number (b ∷ bs) others = record { number = number; rows = b ∷ bs } ∷ others

-- each rule that binds a row, with its rows; the first rule has this number
abbrev pub fired_from : ℕ → List Rule → List Keyed → List Keyed → List Change → List FiredRule
fired_from number [] before after changed = []
fired_from number (rule ∷ rules) before after changed =
    with_fired number (fired rule before after changed) (fired_from (number + 1) rules before after changed)

-- what the rules bind where a session commits next
abbrev pub fired_at : Fixed → List Entry → ℕ → List FiredRule
fired_at f past session =
    let before = base (beginning f) past in
    fired_from 0 f.rules before (run (holds past session) before (acts past session)).tables (changes (beginning f) past session)

-- what happened to bound rows and their actions
abbrev pub happened : Fixed → List Entry → List Happened
happened f [] = []
happened f (Begin c s w r ∷ past) = happened f past
happened f (Did c s a reply ∷ past) = happened f past
happened f (Commit c s m ∷ past) = commit (length past) m (fired_at f past s) ∷ happened f past
happened f (Undo c s ∷ past) = happened f past
happened f (Start c n m a d r ∷ past) = start n a ∷ happened f past
happened f (Finish c n ∷ past) = finish n ∷ happened f past

-- how many rows the rules have bound
abbrev pub bound_count : Fixed → List Entry → ℕ
bound_count f past = length (all_rows f.rules (happened f past))

-- ---- the tables

-- base tables as they are, and derived tables with the rows of their numbers; the first table has this number
abbrev pub with_derived : ℕ → (ℕ → List (List Value)) → List Keyed → List Keyed
with_derived id rows [] = []
with_derived id rows (table ∷ tables) =
    (if is_some table.def.query then record table { rows = rows id } else table) ∷ with_derived (id + 1) rows tables

-- all tables: the base tables that committed transactions made, and the derived tables that finished actions made
abbrev pub tables : Fixed → List Entry → List Keyed
tables f past = with_derived 0 (summed_up f.defs f.functions f.rules (happened f past)) (base (beginning f) past)

-- the tables before a session began
abbrev pub at_begin : Fixed → List Entry → ℕ → List Keyed
at_begin f [] session = beginning f
at_begin f (Begin c s w r ∷ past) session = if s == session then tables f past else at_begin f past session
at_begin f (Did c s a reply ∷ past) session = at_begin f past session
at_begin f (Commit c s m ∷ past) session = at_begin f past session
at_begin f (Undo c s ∷ past) session = at_begin f past session
at_begin f (Start c n m a d r ∷ past) session = at_begin f past session
at_begin f (Finish c n ∷ past) session = at_begin f past session

-- the tables as a session has made them
abbrev pub working : Fixed → List Entry → ℕ → List Keyed
working f past session = (run (holds past session) (at_begin f past session) (acts past session)).tables
