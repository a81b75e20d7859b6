-- The transition tables of a table: the rows that a list of changes added, removed and replaced. Each row has behind it the
-- number of its change, counted from 1 over the whole list; the two rows of a replacement have one number.
use Rattle.std.specs.Prelude.{ℕ, ◌+◌, ◌==◌, if◌then◌else◌, pos, List, [], ◌∷◌, ◌++◌}
use Rattle.strip_value.specs.declared.values.Value.{Value}
use Rattle.strip_value.specs.declared.values.Value.TheVariants.{Int}
use Rattle.strip_value.specs.declared.changes.Change.{Change}
use Rattle.strip_value.specs.declared.changes.Moved.{Moved}
use Rattle.strip_value.specs.declared.changes.Shift.{Shift}
use Rattle.strip_value.specs.declared.changes.Shift.TheVariants.{Inserted, Deleted, Changed}
use Rattle.strip_value.specs.Query.{nothing_moved}

-- the row with the number behind it
abbrev pub numbered : ℕ → List Value → List Value
numbered n row = row ++ Int (pos n) ∷ []

-- the rows of one change before those of the others
abbrev pub with_shift : ℕ → Shift → Moved → Moved
with_shift n (Inserted row) others = record others { inserted = numbered n row ∷ others.inserted }
with_shift n (Deleted row) others = record others { deleted = numbered n row ∷ others.deleted }
with_shift n (Changed old new) others = record others { old = numbered n old ∷ others.old; new = numbered n new ∷ others.new }

-- the rows of the table's changes, the first change having this number
abbrev pub moved_from : ℕ → List Change → ℕ → Moved
moved_from n [] table = nothing_moved
moved_from n (c ∷ cs) table =
    let others = moved_from (n + 1) cs table in
    if c.table == table then with_shift n c.shift others else others

abbrev pub moved : List Change → ℕ → Moved
moved changes table = moved_from 1 changes table
