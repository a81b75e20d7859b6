-- A run with a table that a rule keeps: what the engine says to each call, one after another.
use Rattle.std.specs.Prelude.{◌≡◌, ℕ, pos, List, [], ◌∷◌, Option, Some, None, refl}
use Rattle.strip_value.specs.declared.actions.ActionId.{ActionId}
use Rattle.strip_value.specs.declared.actions.Content.TheVariants.{Totals}
use Rattle.strip_value.specs.declared.acts.Act.TheVariants.{Put, Show}
use Rattle.strip_value.specs.declared.acts.ActError.TheVariants.{Derived}
use Rattle.strip_value.specs.declared.acts.Reply.TheVariants.{Rows, Count, Refused}
use Rattle.strip_value.specs.declared.values.Value.{Value}
use Rattle.strip_value.specs.Query.{mean}
use Rattle.strip_meaning.specs.Effect.{effect}
use Rattle.strip_meaning.specs.Firing.{fired as fired_by}
use Rattle.strip_meaning.specs.ActionExamples.{t, d, keep_d, keep_d_1, one, two, three}
use Rattle.strip_model.specs.declared.entries.Entry.{Entry}
use Rattle.strip_model.specs.Derived.{Fixed}
use Rattle.strip_model.specs.Says.{Call, to_begin, to_act, to_commit, to_undo, to_start, to_finish, Answer, opened, replied, fired, spent, undone, taken, done, none_pending, not_running, Task, says}

-- `d` is kept by the sums of `t`, and rules may bind so many rows
abbrev kept : ℕ → Fixed
kept most = record { defs = t ∷ d ∷ []; rules = keep_d_1 ∷ []; functions = keep_d ∷ []; most = most }

abbrev with_entry : List Entry → Option Entry → List Entry
with_entry past None = past
with_entry past (Some entry) = entry ∷ past

-- what is said to calls, one after another
abbrev answers : Fixed → List Entry → List Call → List Answer
answers f past [] = []
answers f past (call ∷ calls) =
    let said = says f past call in
    said.answer ∷ answers f (with_entry past said.entry) calls

-- a put into the table, and a table shown, before the other calls
abbrev putting : ℕ → List Value → List Call → List Call
putting session row calls = to_begin 0 (0 ∷ []) [] ∷ to_act session (Put 0 row) ∷ to_commit session 0 ∷ calls

abbrev showing : ℕ → List Call → List Call
showing session calls = to_begin 0 [] (1 ∷ []) ∷ to_act session (Show 1) ∷ to_commit session 0 ∷ calls

abbrev row : ℕ → ℕ → ℕ → List Value
row id g v = three (pos id) (pos g) (pos v)

abbrev task : ℕ → ActionId → ℕ → List Value → Task
task number action rows totals = record { number = number; caller = 0; action = action; due = 0; rows = rows; content = Totals (totals ∷ []) ∷ [] }

-- a row, and another in its place; both actions are started, and the second is finished first
pub run_of_two : answers (kept 10) [] (putting 1 (row 1 7 5) (putting 2 (row 1 7 6) (showing 3 (to_start 0 0 ∷ to_start 0 0 ∷ to_start 0 0 ∷ to_finish 2 ∷ showing 4 (to_finish 1 ∷ showing 5 (to_finish 1 ∷ []))))))
    ≡ opened 1 ∷ replied (Count 1) ∷ fired 1 1 ∷ opened 2 ∷ replied (Count 1) ∷ fired 1 2 ∷ opened 3 ∷ replied (Rows []) ∷ fired 0 0
    ∷ taken (task 1 one 1 (row 7 5 1)) ∷ taken (task 2 two 2 (row 7 1 0)) ∷ none_pending
    ∷ done ∷ opened 4 ∷ replied (Rows (row 7 1 0 ∷ [])) ∷ fired 0 0 ∷ done ∷ opened 5 ∷ replied (Rows (row 7 6 1 ∷ [])) ∷ fired 0 0 ∷ not_running 1 ∷ []
unfolding effect fired_by mean
run_of_two = refl

-- the third row would be one too many, and its transaction can still be undone; then a row may still come
pub limit_reached : answers (kept 2) [] (putting 1 (row 1 7 5) (putting 2 (row 1 7 6) (to_undo 2 ∷ putting 3 (row 2 7 6) [])))
    ≡ opened 1 ∷ replied (Count 1) ∷ fired 1 1 ∷ opened 2 ∷ replied (Count 1) ∷ spent 3 ∷ undone ∷ opened 3 ∷ replied (Count 1) ∷ fired 1 1 ∷ []
unfolding effect fired_by mean
limit_reached = refl

-- nobody puts into a table that rules keep
pub kept_by_rules : answers (kept 2) [] (to_begin 0 (1 ∷ []) [] ∷ to_act 1 (Put 1 (row 7 5 1)) ∷ []) ≡ opened 1 ∷ replied (Refused (Derived 1)) ∷ []
unfolding effect
kept_by_rules = refl
