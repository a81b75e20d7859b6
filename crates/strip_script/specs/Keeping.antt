-- The jobs that a script keeps. Each was started in its history, and each that runs there is kept.
use Rattle.std.specs.Prelude.{ℕ, ◌+◌, ◌≤◌, ◌==◌, Bool, IsTrue, if◌then◌else◌, List, [], ◌∷◌, Option, Some, None}
use Rattle.strip_value.specs.declared.actions.KeyOf.TheVariants.{Plain}
use Rattle.std.specs.List.{AllByRecursion, list_any}
use Rattle.strip_model.specs.declared.entries.Entry.{Entry}
use Rattle.strip_model.specs.Derived.{Fixed}
use Rattle.strip_model.specs.History.{Running, job_count, jobs}
use Rattle.strip_model.specs.Says.{Task}
use Rattle.strip_engine.specs.Calls.{HasContent}

-- a job was started in the history, and where it is running it has the content of its action
pub record IsJob (f : Fixed) (past : List Entry) (job : Task) : Type 0 where
  pub started : job.number ≤ job_count past
  pub content : HasContent f past job

-- a job of this number is kept
abbrev pub has_job : List Task → ℕ → Bool
has_job kept number = list_any (λ job. job.number == number) kept

-- the place of the job of a number, counted on from `at`
abbrev pub job_place : ℕ → List Task → ℕ → Option ℕ
job_place at [] number = None
job_place at (job ∷ kept) number = if job.number == number then Some at else job_place (at + 1) kept number

-- each job that is running is kept
pub record Keeping (f : Fixed) (past : List Entry) (kept : List Task) : Type 0 where
  pub each : AllByRecursion (IsJob f past) kept
  pub all : AllByRecursion (λ (j : Running). IsTrue (has_job kept j.number)) (jobs past)

abbrev pub no_task : Task
no_task = record { number = 0; caller = 0; action = record { function = 0; key = Plain 0 0 }; due = 0; rows = 0; content = [] }
