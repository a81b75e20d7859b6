-- What contracts see of a job, and of one that was worked: the task that it is.
use Rattle.std.specs.Prelude.{◌≡◌, ℕ, ◌^◌, ◌<◌, List, [], ◌∷◌, map, length, Result, Ok, Err, refl}
use Rattle.std.specs.Coded.{Coded, code_by, coded×, coded_ℕ, coded_list}
use Rattle.std.specs.declared.alloc.AllocError.{AllocError}
use Rattle.std.specs.List.{AllByRecursion}
use Rattle.strip_value.specs.contracts.actions.ActionId as action_id
use Rattle.strip_value.specs.contracts.actions.Content as one_content
use Rattle.strip_value.specs.declared.actions.ActionId.{ActionId}
use Rattle.strip_value.specs.declared.actions.Bound.{Bound}
use Rattle.strip_value.specs.declared.actions.Content.{Content}
use Rattle.strip_value.specs.declared.actions.Content.TheVariants.{Totals}
use Rattle.strip_value.specs.declared.tables.TableDef.{TableDef}
use Rattle.strip_value.specs.declared.values.Value.{Value}
use Rattle.strip_value.specs.Kinds.{FitsColumns}
use Rattle.strip_meaning.specs.Sums.{IsDerived, IsUnder, folded, totals_of}
use Rattle.strip_model.specs.Says.{Task}

abbrev pub task_code : Coded Task
task_code =
    code_by (ℕ × (ℕ × (ActionId × (ℕ × (ℕ × List Content))))) (coded× coded_ℕ (coded× coded_ℕ (coded× action_id.the_row.coded (coded× coded_ℕ (coded× coded_ℕ (coded_list one_content.the_row.coded)))))) (λ t. (t.number, (t.caller, (t.action, (t.due, (t.rows, t.content)))))) (λ p. record { number = p.0; caller = p.1.0; action = p.1.1.0; due = p.1.1.1.0; rows = p.1.1.1.1.0; content = p.1.1.1.1.1 }) (λ _. refl)

-- the rows that are bound
abbrev pub rows_in : List Bound → List (List Value)
rows_in bounds = map (λ b. b.row) bounds

-- the sums of these rows are to be added to a table of this definition
abbrev pub content_of : TableDef → List Bound → List Content
content_of def bounds = Totals (folded def (rows_in bounds)) ∷ []

-- the rows are ones of the derived table, and their sums can be made
pub record CanFold (def : TableDef) (bounds : List Bound) : Type 0 where
  pub derived : IsDerived def
  pub wide : length def.columns ≡ 3
  pub fits : AllByRecursion (λ (b : Bound). FitsColumns def.columns b.row) bounds
  pub small : AllByRecursion (λ (b : Bound). AllByRecursion (IsUnder (2 ^ 63)) (totals_of def b.row)) bounds
  pub few : length bounds < 2 ^ 62

-- working a job leaves the task what it is; where memory is wanting, the job comes back
abbrev pub Works : Task → Result Task (Task × AllocError) → Type 0
Works job (Ok worked) = worked ≡ job
Works job (Err refused) = refused.0 ≡ job
