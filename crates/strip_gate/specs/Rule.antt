-- What holds of a gate between any two steps: of its three words, of the slot for the state, and of what each pass knows.
use Rattle.std.specs.Prelude.{◌≡◌, ℕ, zero, suc, ◌+◌, ◌-◌, ◌%◌, ◌^◌, ◌<◌, ◌≤◌, List, [], ◌∷◌, length, ◌==◌, nat_lt, if◌then◌else◌, Option, Some, All}
use mathlib.Core.Option as maybe
use mathlib.Core.Option.{none, some}
use lib.ListN.{get_elem?}
use Rattle.atomic_table.specs.Table.{State}
use Rattle.strip_gate.specs.declared.view.View.{View}
use Rattle.strip_gate.specs.History.{StartsWith, entries_of}

-- a number of each of these, added up
abbrev pub total : {A : Type 0} → (A → ℕ) → List A → ℕ
total f [] = 0
total f (x ∷ xs) = f x + total f xs

-- 1 where two numbers are the same
abbrev pub same : ℕ → ℕ → ℕ
same c d = if d == c then 1 else 0

-- 1 where the one number is below the other
abbrev pub below : ℕ → ℕ → ℕ
below c n = if nat_lt c n then 1 else 0

-- 1 where c is among the n numbers from `from` on
abbrev pub in_spare : ℕ → ℕ → ℕ → ℕ
in_spare c from n = below c (from + n) - below c from

-- how often c is among the callers of these lists
abbrev pub times_in : {E : Type 0} → ℕ → List (ℕ × List (ℕ × E)) → ℕ
times_in c [] = 0
times_in c (h ∷ hs) = same c h.0 + times_in c hs

module _ {E F : Type 0} where
  abbrev pub weight_of : View E F → ℕ
  weight_of v = v.weight

  abbrev pub waits_of : View E F → ℕ
  waits_of v = v.waits

  abbrev pub holds_of : View E F → ℕ
  holds_of v = v.holds

  -- how often c is the caller of the pass or one that ended in it
  abbrev pub names : ℕ → View E F → ℕ
  names c v = times_in c v.held

  -- how often c is that or a spare number
  abbrev pub owns : ℕ → View E F → ℕ
  owns c v = times_in c v.held + in_spare c v.spare_from v.spare

-- a caller with just its entries in the history, each with its place
abbrev pub IsListOf : {E : Type 0} → (E → ℕ) → List E → ℕ × List (ℕ × E) → Type 0
IsListOf caller history h = h.1 ≡ entries_of caller h.0 history

-- Where a pass stands in the line for the turn, given the history and how many tickets were drawn and served
pub record IsInLine {E F : Type 0} (log : List E) (ticket serving : ℕ) (v : View E F) : Type 0 where
  -- it has one ticket at most, a ticket only if it has weight, and the turn only with a ticket
  pub one_ticket : v.waits ≤ 1
  pub needs_weight : v.waits ≤ v.weight
  pub needs_ticket : v.holds ≤ v.waits
  -- its ticket was drawn, and those that were served are earlier
  pub between : 0 < v.waits → (serving ≤ v.number) × (v.number < ticket)
  -- with the turn, its ticket is the one being served, and it has seen the whole history
  pub with_turn : 0 < v.holds → (v.number ≡ serving) × (v.seen ≡ log)

-- What a pass knows, given the history and what is fixed
pub record IsKnown {E F : Type 0} (caller : E → ℕ) (log : List E) (fact : F) (v : View E F) : Type 0 where
  -- it has seen a beginning of the history, and has heard of a beginning of that
  pub has_seen : StartsWith log v.seen
  pub has_heard : StartsWith v.seen v.heard
  pub is_fixed : 0 < v.weight → v.fixed ≡ Some fact
  -- each of its lists has just its caller's entries, in the history and in what it has seen
  pub in_log : All (IsListOf caller log) v.held
  pub in_seen : All (IsListOf caller v.seen) v.held
  -- a spare number has no entry
  pub unused : (c : ℕ) → 0 < in_spare c v.spare_from v.spare → entries_of caller c log ≡ []
  -- its numbers are below the whole weight, and its weight is above the number of spare ones
  pub callers_below : All (λ h. h.0 < 1048576) v.held
  pub spares_below : v.spare_from + v.spare ≤ 1048576
  pub spares_fit : 0 < v.weight → v.spare < v.weight
  -- without weight it names no caller
  pub without_weight : v.weight ≡ 0 → v.held ≡ []

-- no two of these have one ticket
abbrev pub Differ : {E F : Type 0} → List (View E F) → Type 0
Differ {E} {F} views = (i j : ℕ) (v w : View E F) → get_elem? views i ≡ some v → get_elem? views j ≡ some w → 0 < v.waits → 0 < w.waits → v.number ≡ w.number → i ≡ j

module _ {S E F : Type 0} (kept : S → List E) (fixed : S → F) (caller : E → ℕ) where
  -- The state is at home, with the whole history, while no pass has the turn, and else nothing is there
  abbrev pub Home : List E → F → List (maybe.Option (Option S)) → ℕ → Type 0
  Home log fact homes zero = (x : S) × (homes ≡ some (Some x) ∷ []) × (kept x ≡ log) × (fixed x ≡ fact)
  Home log fact homes (suc n) = homes ≡ none ∷ []

  -- The rule of the gate
  pub record IsKept (s : State (Option S) (View E F)) : Type 0 where
    -- there are one history, one fixed part, and numbers of tickets drawn and served
    pub log : List E
    pub fact : F
    pub ticket : ℕ
    pub serving : ℕ
    -- the three words count the entries, the tickets drawn and the tickets served
    pub words : s.words ≡ length log % 2 ^ 64 ∷ ticket % 2 ^ 64 ∷ serving % 2 ^ 64 ∷ []
    -- the weights add up to the whole
    pub whole : total weight_of s.views ≡ 1048576
    -- the tickets out are as many as those from the one being served up to the next to be drawn, and no two are the same
    pub tickets : ticket ≡ serving + total waits_of s.views
    pub differ : Differ s.views
    -- where each pass stands in the line
    pub in_line : (i : ℕ) (v : View E F) → get_elem? s.views i ≡ some v → IsInLine log ticket serving v
    -- the state is at home exactly while no pass has the turn
    pub home : Home log fact s.homes (total holds_of s.views)
    -- what each pass knows
    pub known : (i : ℕ) (v : View E F) → get_elem? s.views i ≡ some v → IsKnown caller log fact v
    -- some pass has seen all
    pub latest : (i : ℕ) × (v : View E F) × (get_elem? s.views i ≡ some v) × (0 < v.weight) × (v.seen ≡ log)
    -- callers, spare numbers and callers that ended all differ
    pub apart : (c : ℕ) → total (owns c) s.views ≤ 1
    -- each entry's caller is that of a pass, or ended in one
    pub named : All (λ e. 0 < total (names (caller e)) s.views) log
