-- How many actions a history has that wait or run, and how many bound rows these have.
use Rattle.std.specs.Prelude.{ℕ, ◌+◌, List, [], ◌∷◌, length, map}
use Rattle.strip_value.specs.declared.actions.ActionId.{ActionId}
use Rattle.strip_value.specs.declared.actions.Counts.{Counts}
use Rattle.strip_meaning.specs.Actions.{in_state, is_pending, rows_of}
use Rattle.strip_model.specs.declared.entries.Entry.{Entry}
use Rattle.strip_model.specs.History.{jobs}
use Rattle.strip_model.specs.Derived.{Fixed, happened}

-- how many bound rows these actions have
abbrev pub rows_of_all : Fixed → List Entry → List ActionId → ℕ
rows_of_all f past [] = 0
rows_of_all f past (a ∷ as_) = length (rows_of f.rules (happened f past) a) + rows_of_all f past as_

-- the pending actions and those that were started and not finished
abbrev pub counts : Fixed → List Entry → Counts
counts f past =
    let waiting = in_state is_pending f.rules (happened f past) in
    record {
      pending = length waiting;
      running = length (jobs past);
      rows = rows_of_all f past (map (λ a. a.action) waiting) + rows_of_all f past (map (λ j. j.action) (jobs past));
    }
