-- An action that is there keeps its bound rows, where no rule is `unique`. So does one that runs.
use Rattle.std.proofs.Common.{◌≡◌, ◌==◌, List, [], ◌∷◌, ◌++◌, map, length, Some, refl, ap, ◌∙◌, subst, append_assoc}
use Rattle.std.specs.List.{AllByRecursion}
use Rattle.strip_value.specs.declared.actions.ActionId.{ActionId}
use Rattle.strip_value.proofs.KeyedLaws.{find_all}
use Rattle.strip_meaning.specs.Actions.{rows_of, actions}
use Rattle.strip_meaning.specs.Course.{IsPlainRule, firings_at}
use Rattle.strip_meaning.proofs.ActionLaws.{Listed}
use Rattle.strip_meaning.proofs.PlainActions.{first_row, commit_actions, commit_rows_of}
use Rattle.strip_model.specs.declared.entries.Entry.{Entry}
use Rattle.strip_model.specs.declared.entries.Entry.TheVariants.{Begin, Did, Commit, Undo, Start, Finish}
use Rattle.strip_model.specs.History.{Running, jobs}
use Rattle.strip_model.specs.Derived.{Fixed, fired_at, happened}
use Rattle.strip_model.specs.Legal.{Legal, job_of}
use Rattle.strip_model.specs.Running.{Stay}
use Rattle.strip_model.proofs.Courses.{Runs, course_of, jobs_run}

-- an action of this identity is there
abbrev pub IsThere : Fixed → List Entry → ActionId → Type 0
IsThere f past action = Listed (actions f.rules (happened f past)) action

-- each job's action is there
pub job_there : (f : Fixed) (past : List Entry) (job : Running) → AllByRecursion IsPlainRule f.rules → Legal f past → job_of past job.number ≡ Some job → IsThere f past job.action
job_there f past job plain legal e =
    let runs = find_all (Runs f.rules (happened f past)) (λ j. j.number == job.number) (jobs past) job (jobs_run f past plain legal) e in
    record { front = runs.1; one = runs.0; back = runs.2; split = runs.3; is = runs.4 }

-- what is there stays there
pub there_stays : (f : Fixed) (e : Entry) (past : List Entry) (action : ActionId) → AllByRecursion IsPlainRule f.rules → Legal f (e ∷ past) → IsThere f past action → IsThere f (e ∷ past) action
there_stays f (Begin c s w r) past action plain legal there = there
there_stays f (Did c s a reply) past action plain legal there = there
there_stays f (Commit c s m) past action plain legal there =
    let rows = fired_at f past s in
    let new = map (first_row f.rules) (firings_at (length past) m rows) in
    record {
      front = there.front;
      one = there.one;
      back = there.back ++ new;
      split = commit_actions f.rules (length past) m rows (happened f past) (course_of f (Commit c s m ∷ past) plain legal)
          ∙ ap (λ old. old ++ new) there.split ∙ append_assoc there.front (there.one ∷ there.back) new;
      is = there.is;
    }
there_stays f (Undo c s) past action plain legal there = there
there_stays f (Start c n m a d r) past action plain legal there = there
there_stays f (Finish c n) past action plain legal there = there

-- and its rows stay: no entry adds one to it
pub there_keeps : (f : Fixed) (e : Entry) (past : List Entry) (action : ActionId) → AllByRecursion IsPlainRule f.rules → Legal f (e ∷ past) → IsThere f past action
    → rows_of f.rules (happened f (e ∷ past)) action ≡ rows_of f.rules (happened f past) action
there_keeps f (Begin c s w r) past action plain legal there = refl
there_keeps f (Did c s a reply) past action plain legal there = refl
there_keeps f (Commit c s m) past action plain legal there =
    subst (λ one. rows_of f.rules (happened f (Commit c s m ∷ past)) one ≡ rows_of f.rules (happened f past) one) there.is
    (commit_rows_of f.rules (length past) m (fired_at f past s) (happened f past) (course_of f (Commit c s m ∷ past) plain legal) there.front there.one there.back there.split)
there_keeps f (Undo c s) past action plain legal there = refl
there_keeps f (Start c n m a d r) past action plain legal there = refl
there_keeps f (Finish c n) past action plain legal there = refl

-- one more entry leaves the rows of a running action
pub rows_stay : (f : Fixed) (e : Entry) (past : List Entry) (job : Running) → AllByRecursion IsPlainRule f.rules → Legal f (e ∷ past) → job_of past job.number ≡ Some job
    → rows_of f.rules (happened f (e ∷ past)) job.action ≡ rows_of f.rules (happened f past) job.action
rows_stay f e past job plain legal is_running = there_keeps f e past job.action plain legal (job_there f past job plain legal.1 is_running)

-- a history leaves what its past left
later_there : (f : Fixed) (past later : List Entry) (action : ActionId) → AllByRecursion IsPlainRule f.rules → Legal f (later ++ past) → IsThere f past action → IsThere f (later ++ past) action
later_there f past [] action plain legal there = there
later_there f past (e ∷ later) action plain legal there = there_stays f e (later ++ past) action plain legal (later_there f past later action plain legal.1 there)

legal_past : (f : Fixed) (past later : List Entry) → Legal f (later ++ past) → Legal f past
legal_past f past [] legal = legal
legal_past f past (e ∷ later) legal = legal_past f past later legal.1

-- whatever else happens, an action that is there keeps its rows
pub later_keeps : (f : Fixed) (past later : List Entry) (action : ActionId) → AllByRecursion IsPlainRule f.rules → Legal f (later ++ past) → IsThere f past action
    → rows_of f.rules (happened f (later ++ past)) action ≡ rows_of f.rules (happened f past) action
later_keeps f past [] action plain legal there = refl
later_keeps f past (e ∷ later) action plain legal there =
    there_keeps f e (later ++ past) action plain legal (later_there f past later action plain legal.1 there) ∙ later_keeps f past later action plain legal.1 there

pub stay : Stay
stay f past later job plain legal ran runs = later_keeps f past later job.action plain legal (job_there f past job plain (legal_past f past later legal) ran)
