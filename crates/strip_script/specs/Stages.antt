-- What the code's stage of a script stands for, and what it keeps.
use Rattle.std.specs.Prelude.{◌≡◌, ℕ, ◌≤◌, ◌^◌, true, false, List, [], None}
use Rattle.strip_value.specs.declared.tables.By.TheVariants as by
use Rattle.strip_ast.specs.declared.deeds.Deed.{Deed}
use Rattle.strip_ast.specs.declared.deeds.Deed.TheVariants as deed
use Rattle.strip_ast.specs.declared.statements.Statement.{Statement}
use Rattle.strip_ast.specs.declared.statements.Statement.TheVariants as st
use Rattle.strip_setup.specs.Catalog.{Catalog}
use Rattle.strip_catalog.specs.Accepted.{IsDeclared}
use Rattle.strip_model.specs.History.{live}
use Rattle.strip_model.specs.Legal.{Legal}
use Rattle.strip_model.specs.Texts.{line_of_not_running}
use Rattle.strip_engine.specs.Built.{IsBuilt}
use Rattle.strip_engine.specs.State.{fixed, fixed_of, past}
use Rattle.strip_script.specs.declared.database.Database.{Database}
use Rattle.strip_script.specs.declared.script.Answer.{Answer}
use Rattle.strip_script.specs.declared.script.Stage.{Stage as CodeStage}
use Rattle.strip_script.specs.declared.script.Stage.TheVariants as code
use Rattle.strip_script.specs.Keeping.{Keeping}
use Rattle.strip_script.specs.Script.{Stage, Step, fixed_at}

-- ---- the stages of the definition

-- what is so at each stage: the engine serves what is declared, the history is legal, no session is live, and nothing stands in it
-- before `ready`
pub record IsSound (stage : Stage) : Type 0 where
  pub declared : IsDeclared stage.catalog
  pub built : IsBuilt (fixed_at stage)
  pub legal : Legal (fixed_at stage) stage.past
  pub none : live stage.past ≡ []
  pub clean : stage.catalog.closed ≡ false → stage.past ≡ []

-- ---- the code's stages

-- a stage at which no session has begun
abbrev pub set_up_so : ℕ → Catalog → Stage
set_up_so most catalog = record { most = most; catalog = catalog; past = [] }

abbrev pub stage_of : CodeStage → Stage
stage_of (code.Setup limits catalog) = set_up_so limits.bound_rows catalog
stage_of (code.Running database) =
    record { most = database.engine.bound_rows; catalog = database.engine.catalog; past = past database.engine }

-- what is declared is such that an engine can be made of it
pub record IsSetUp (most : ℕ) (catalog : Catalog) : Type 0 where
  pub declared : IsDeclared catalog
  pub built : IsBuilt (fixed_of catalog most)
  pub bounded : most ≤ 2 ^ 60

-- a database between transactions, and the jobs that run
pub record IsIdle (database : Database) : Type 0 where
  pub sound : IsSound (stage_of (code.Running database))
  pub closed : database.engine.catalog.closed ≡ true
  pub keeping : Keeping (fixed database.engine) (past database.engine) database.jobs.items

abbrev pub IsSteady : CodeStage → Type 0
IsSteady (code.Setup limits catalog) = IsSetUp limits.bound_rows catalog × (catalog.closed ≡ false)
IsSteady (code.Running database) = IsIdle database

-- ---- answers

-- the answer is this step
pub record IsStep (step : Step) (answer : Answer) : Type 0 where
  pub text : answer.text.items ≡ step.text
  pub refused : answer.refused ≡ step.refused
  pub stage : stage_of answer.script ≡ step.stage
  pub steady : IsSteady answer.script

-- the number isn't running, and the database is as it was
pub record IsRefused (database : Database) (number : ℕ) (answer : Answer) : Type 0 where
  pub text : answer.text.items ≡ line_of_not_running number
  pub refused : answer.refused ≡ true
  pub script : answer.script ≡ code.Running database

-- a database that was just made
pub record Opens (most : ℕ) (catalog : Catalog) (database : Database) : Type 0 where
  pub stage : stage_of (code.Running database) ≡ set_up_so most catalog
  pub idle : IsIdle database

-- the stage of what is declared, and one that a script may be at
pub record IsReached (most : ℕ) (catalog : Catalog) (stage : CodeStage) : Type 0 where
  pub is : stage_of stage ≡ set_up_so most catalog
  pub steady : IsSteady stage

-- ---- statements

-- the `maintain` statement that is built, of a table of this name
abbrev pub maintain_by_sums : List ℕ → Statement
maintain_by_sums name = st.Maintain name by.Sum (record { unique = None; after = 0 })

-- the deed is a put, a query or a show
abbrev pub IsActing : Deed → Type 0
IsActing (deed.Put table row) = Unit {0}
IsActing (deed.Select query) = Unit {0}
IsActing (deed.Show table) = Unit {0}
IsActing _ = ⊥
