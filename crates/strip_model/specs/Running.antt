-- What stays of an action while it runs.
use Rattle.std.specs.Prelude.{◌≡◌, List, ◌++◌, Some}
use Rattle.std.specs.List.{AllByRecursion}
use Rattle.strip_meaning.specs.Actions.{rows_of}
use Rattle.strip_meaning.specs.Course.{IsPlainRule}
use Rattle.strip_model.specs.declared.entries.Entry.{Entry}
use Rattle.strip_model.specs.History.{Running}
use Rattle.strip_model.specs.Derived.{Fixed, happened}
use Rattle.strip_model.specs.Legal.{Legal, job_of}

-- where no rule is `unique`: while a number runs, whatever else happens, the bound rows of its action stay what they were
abbrev pub Stay : Type 0
Stay = (f : Fixed) (past later : List Entry) (job : Running) → AllByRecursion IsPlainRule f.rules → Legal f (later ++ past)
    → job_of past job.number ≡ Some job → job_of (later ++ past) job.number ≡ Some job
    → rows_of f.rules (happened f (later ++ past)) job.action ≡ rows_of f.rules (happened f past) job.action
