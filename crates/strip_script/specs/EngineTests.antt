-- What the tests of the engine speak of: jobs that can be finished.
use Rattle.strip_model.specs.Says.{Task}
use Rattle.strip_engine.specs.declared.answers.Taken.{Taken}
use Rattle.strip_engine.specs.declared.answers.Taken.TheVariants.{Job}
use Rattle.strip_engine.specs.Calls.{HasContent}
use Rattle.strip_engine.specs.State.{State, fixed, past}

-- the job has the content that a finish asks for
abbrev pub IsInOrder : State → Task → Type 0
IsInOrder s job = HasContent (fixed s) (past s) job

-- a job that a start gives is in order
abbrev pub Gives : State → Taken → Type 0
Gives new (Job job) = IsInOrder new job
Gives new _ = Unit {0}
