-- What opening a file and taking its feed back do to what the files tell.
use Rattle.std.specs.Prelude.{◌≡◌, ℕ, List, [], ◌∷◌, ◌++◌, ⊤, ◌⊎◌, Option, Some, None, Result, Ok, Err}
use Rattle.strip_outside.specs.declared.faults.OpenError.{OpenError}
use Rattle.strip_outside.specs.declared.faults.OpenError.TheVariants.{Fault, Memory}

-- a list that is told grows by one entry at its end
abbrev pub Adds : {A : Type 0} → Option (List A) → Option (List A) → A → Type 0
Adds None now entry = ⊤
Adds (Some entries) None entry = ⊥
Adds (Some entries) (Some more) entry = more ≡ entries ++ entry ∷ []

-- what an opening does to the paths that were asked for; at want of memory the path may be among them or not
abbrev pub Asks : {A : Type 0} → Option (List (List ℕ)) → Option (List (List ℕ)) → List ℕ → Result A OpenError → Type 0
Asks before now path (Ok feed) = Adds before now path
Asks before now path (Err Fault) = Adds before now path
Asks before now path (Err Memory) = (now ≡ before) ⊎ Adds before now path

-- the bytes that the files hold at a path, where they tell them and have the path
abbrev pub held_at : Option (List ℕ → Option (List ℕ)) → List ℕ → Option (List ℕ)
held_at None path = None
held_at (Some bytes_of) path = bytes_of path

-- a new feed has all the bytes that are held at its path; where none are, nothing is said
abbrev pub HasAll : Option (List ℕ) → Option (List ℕ) → Type 0
HasAll None left = ⊤
HasAll (Some bytes) left = left ≡ Some bytes
