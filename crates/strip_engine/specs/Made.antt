-- What the steps of a begin make.
use Rattle.std.specs.Prelude.{◌≡◌, ℕ, ◌+◌, ◌≤◌, List, [], ◌∷◌, ◌++◌, Result, Ok, Err}
use Rattle.std.specs.declared.alloc.AllocError.{AllocError}
use Rattle.strip_model.specs.declared.entries.Entry.TheVariants.{Begin}
use Rattle.strip_model.specs.Kept.{Kept}
use Rattle.strip_engine.specs.declared.undo.Session.{Session}
use Rattle.strip_engine.specs.Holding.{held_by}

-- the next session
pub record IsMade (caller number count : ℕ) (write read : List ℕ) (session : Session) : Type 0 where
  pub called : session.caller ≡ caller
  pub next : session.number ≡ number
  pub holding : session.holds ≡ held_by count write read
  pub clean : session.log.items ≡ []

-- its entry, with room for so many and one more; where memory is wanting there is no less room than before, or there was
abbrev pub AddsBegin : Kept → Session → ℕ → Kept → Result Unit AllocError → Type 0
AddsBegin old session running new (Ok done) =
    (new.entries ≡ old.entries ++ Begin session.caller session.number session.holds.write session.holds.read ∷ []) × (running + 1 ≤ new.room)
AddsBegin old session running new (Err none) = (new.entries ≡ old.entries) × (new.room ≡ old.room)
