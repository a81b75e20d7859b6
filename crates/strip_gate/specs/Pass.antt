-- What contracts see of a gate and of a pass.
use Rattle.std.specs.Prelude.{◌≡◌, ℕ, List, Bool, Option, All, Contains, ◌⊎◌}
use Rattle.atomic_table.specs.Seated.{TableId}
use Rattle.strip_gate.specs.History.{entries_of}

-- which gate it is, and `Some` of what no turn changes
pub record GateId (F : Type 0) : Type 0 where
  pub table : TableId
  pub fixed : Option F

pub record PassView (E F : Type 0) : Type 0 where
  -- the gate that it goes with
  pub gate : GateId F
  -- the number under which entries of this pass stand in the history
  pub caller : ℕ
  pub weight : ℕ
  -- its spare caller numbers are as many as `spare`, from `spare_from` on
  pub spare_from : ℕ
  pub spare : ℕ
  -- what it has seen of the history
  pub seen : List E
  -- the entries of its caller, each with its place
  pub mine : List (ℕ × E)
  -- each caller that ended in it, with that caller's entries and their places
  pub ended : List (ℕ × List (ℕ × E))
  -- how many turns it has had
  pub turns : ℕ
  pub has_turn : Bool

-- Of its caller the pass has seen just the entries of `mine`, and of each caller that ended in it just the entries kept there
pub record HasEntries {E F : Type 0} (caller : E → ℕ) (p : PassView E F) : Type 0 where
  pub own : p.mine ≡ entries_of caller p.caller p.seen
  pub others : All (λ h. h.1 ≡ entries_of caller h.0 p.seen) p.ended

-- c is the caller of the pass, or ended in it
abbrev pub IsNamed : {E F : Type 0} → PassView E F → ℕ → Type 0
IsNamed {E} {F} p c = (c ≡ p.caller) ⊎ ((h : ℕ × List (ℕ × E)) × Contains p.ended h × (h.0 ≡ c))
