-- What each step makes of the view of its pass, and what it tells.
use Rattle.std.specs.Prelude.{◌≡◌, ◌≢◌, ℕ, ◌+◌, ◌-◌, ◌%◌, ◌^◌, ◌<◌, ◌≤◌, List, [], ◌∷◌, ◌++◌, length, drop, Option, Some, None, All, Bool}
use Rattle.atomic_table.specs.Table.{Me, Step}
use Rattle.atomic_table.specs.Seated.{TableId}
use Rattle.strip_gate.specs.declared.view.View.{View}
use Rattle.strip_gate.specs.History.{StartsWith, longer, shorter, numbered, entries_of}
use Rattle.strip_gate.specs.Rule.{IsListOf}
use Rattle.strip_gate.specs.Pass.{PassView}

-- the seat is of this board, which has three words and one slot
abbrev pub Fits : TableId → TableId → Type 0
Fits board place = (place ≡ board) × (board.words ≡ 3) × (board.slots ≡ 1)

module _ {E : Type 0} where
  -- of the lists by caller: the first one's caller, its entries, and the others
  abbrev pub caller_in : List (ℕ × List (ℕ × E)) → ℕ
  caller_in [] = 0
  caller_in (h ∷ hs) = h.0

  abbrev pub mine_in : List (ℕ × List (ℕ × E)) → List (ℕ × E)
  mine_in [] = []
  mine_in (h ∷ hs) = h.1

  abbrev pub ended_in : List (ℕ × List (ℕ × E)) → List (ℕ × List (ℕ × E))
  ended_in [] = []
  ended_in (h ∷ hs) = hs

  -- the lists begin with the pass's own
  abbrev pub IsOwn : ℕ → List (ℕ × List (ℕ × E)) → Type 0
  IsOwn n hs = hs ≡ (n, mine_in hs) ∷ ended_in hs

  -- the caller's own list with more entries
  abbrev pub with_mine : List (ℕ × E) → List (ℕ × List (ℕ × E)) → List (ℕ × List (ℕ × E))
  with_mine es [] = []
  with_mine es (h ∷ hs) = (h.0, h.1 ++ es) ∷ hs

module _ {E F : Type 0} where
  -- with the ticket n
  abbrev pub waiting : ℕ → View E F → View E F
  waiting n v = record v { waits = 1; number = n }

  -- with the turn, having seen the whole history
  abbrev pub entered : List E → View E F → View E F
  entered log v = record v { holds = 1; seen = log; turns = v.turns + 1 }

  -- after the entries that make the history `log`
  abbrev pub appended : List E → View E F → View E F
  appended log v = record v { seen = log; held = with_mine (numbered (length v.seen) (drop (length v.seen) log)) v.held }

  -- without the turn
  abbrev pub rested : View E F → View E F
  rested v = record v { waits = 0; holds = 0 }

  -- about to give away so much weight
  abbrev pub marked : ℕ → View E F → View E F
  marked part v = record v { part = part }

  -- what is left to it
  abbrev pub lessened : View E F → View E F
  lessened v = record v { weight = v.weight - v.part; spare_from = v.spare_from + v.part; spare = v.spare - v.part }

  -- what a new pass gets
  abbrev pub given : View E F → View E F
  given v = record {
    seen = v.seen;
    heard = [];
    fixed = v.fixed;
    weight = v.part;
    waits = 0;
    number = 0;
    holds = 0;
    part = 0;
    held = (v.spare_from, []) ∷ [];
    spare_from = v.spare_from + 1;
    spare = v.part - 1;
    turns = 0;
  }

  -- two passes as one
  abbrev pub joined : View E F → View E F → View E F
  joined v w = record v { seen = longer v.seen w.seen; heard = shorter v.seen w.seen; weight = v.weight + w.weight; held = v.held ++ w.held }

  -- what is left of a pass that was joined
  abbrev pub spent : View E F
  spent = record {
    seen = [];
    heard = [];
    fixed = None;
    weight = 0;
    waits = 0;
    number = 0;
    holds = 0;
    part = 0;
    held = [];
    spare_from = 0;
    spare = 0;
    turns = 0;
  }

  -- the pass of the caller 0, with the whole weight
  abbrev pub opening_view : (E → ℕ) → List E → F → View E F
  opening_view caller log fact = record {
    seen = log;
    heard = [];
    fixed = Some fact;
    weight = 1048576;
    waits = 0;
    number = 0;
    holds = 0;
    part = 0;
    held = (0, entries_of caller 0 log) ∷ [];
    spare_from = 1;
    spare = 1048575;
    turns = 0;
  }

module _ {E F : Type 0} where
  -- a pass with no ticket
  abbrev pub IsIdle : View E F → Type 0
  IsIdle v = (v.waits ≡ 0) × (v.holds ≡ 0) × (0 < v.weight)

  -- a pass whose ticket is served and that took the state
  abbrev pub HasTurn : View E F → Type 0
  HasTurn v = (v.waits ≡ 1) × (v.holds ≡ 1)

  -- the history has one entry more than was seen, of the pass's caller
  abbrev pub IsGrown : (E → ℕ) → View E F → List E → Type 0
  IsGrown caller v log = (e : E) × (log ≡ v.seen ++ e ∷ []) × (caller e ≡ caller_in v.held)

-- What a pass may say at any time of what it knows
pub record Knows {E F : Type 0} (caller : E → ℕ) (v : View E F) : Type 0 where
  pub lists : All (IsListOf caller v.seen) v.held
  pub heard : StartsWith v.seen v.heard
  pub weight_below : v.weight ≤ 1048576

module _ {S E F : Type 0} where
  -- a ticket was drawn
  abbrev pub draws : Step (Option S) → Me (Option S) (View E F) → ℕ → Me (Option S) (View E F) → Type 0
  draws st me found me' = (n : ℕ) × (found ≡ n % 2 ^ 64) × (me' ≡ (waiting n me.0, me.1))

module _ {S E F : Type 0} (kept : S → List E) (fixed : S → F) (caller : E → ℕ) where
  -- the turn came, and the state was taken
  pub record Takes (me me' : Me (Option S) (View E F)) : Type 0 where
    pub state : S
    pub now : me' ≡ (entered (kept state) me.0, (0, Some state) ∷ me.1)
    pub longer : StartsWith (kept state) me.0.seen
    pub same : me.0.fixed ≡ Some (fixed state)
    pub knows : Knows caller me'.0

  -- a whole `enter`, which took this state
  pub record Enters (me me' : Me (Option S) (View E F)) (state : S) : Type 0 where
    pub number : ℕ
    pub now : me' ≡ (entered (kept state) (waiting number me.0), (0, None) ∷ [])
    pub longer : StartsWith (kept state) me.0.seen
    pub same : me.0.fixed ≡ Some (fixed state)
    pub knows : Knows caller me'.0

  -- the state is taken where the ticket is being served, and else nothing changes
  abbrev pub looks : Step (Option S) → Me (Option S) (View E F) → ℕ → Me (Option S) (View E F) → Type 0
  looks st me found me' = (found ≡ me.0.number % 2 ^ 64 → Takes me me') × (found ≢ me.0.number % 2 ^ 64 → me' ≡ me)

module _ {S E : Type 0} (kept : S → List E) where
  -- what a state has kept, if there is one
  abbrev pub log_in : Option S → List E
  log_in None = []
  log_in (Some x) = kept x

  -- what the state that was taken has kept
  abbrev pub log_of : List (ℕ × Option S) → List E
  log_of [] = []
  log_of (x ∷ xs) = log_in x.1

module _ {S E F : Type 0} (kept : S → List E) where
  -- the entry that the state has more is counted
  abbrev pub appends : Step (Option S) → Me (Option S) (View E F) → ℕ → Me (Option S) (View E F) → Type 0
  appends st me found me' = me' ≡ (appended (log_of kept me.1) me.0, me.1)

module _ {S E F : Type 0} (kept : S → List E) (caller : E → ℕ) where
  -- a whole `leave`, which gave this state back
  pub record Leaves (me me' : Me (Option S) (View E F)) (state : S) : Type 0 where
    pub now : me' ≡ (rested (appended (kept state) me.0), [])
    pub knows : Knows caller me'.0

module _ {S E F : Type 0} (caller : E → ℕ) where
  -- the turn was passed on
  abbrev pub passes : Step (Option S) → Me (Option S) (View E F) → ℕ → Me (Option S) (View E F) → Type 0
  passes st me found me' = (me' ≡ (rested me.0, [])) × Knows caller me'.0

  -- the weight to give away is noted, and no spare number has an entry
  abbrev pub marks : Step (Option S) → Me (Option S) (View E F) → ℕ → Me (Option S) (View E F) → Type 0
  marks st me found me' = (me' ≡ (marked st.first me.0, me.1)) × Knows caller me'.0 × (0 < me.0.spare → entries_of caller me.0.spare_from me.0.seen ≡ [])

  -- nothing changes
  abbrev pub settles : Step (Option S) → Me (Option S) (View E F) → ℕ → Me (Option S) (View E F) → Type 0
  settles st me found me' = (me' ≡ me) × Knows caller me'.0

-- what contracts see of a pass, from what its seat knows
abbrev pub pass_view : {E F : Type 0} → TableId → View E F → Bool → PassView E F
pass_view table v has_turn = record {
  gate = record { table = table; fixed = v.fixed };
  caller = caller_in v.held;
  weight = v.weight;
  spare_from = v.spare_from;
  spare = v.spare;
  seen = v.seen;
  mine = mine_in v.held;
  ended = ended_in v.held;
  turns = v.turns;
  has_turn = has_turn;
}

-- two passes as one: the callers of the other have ended in it
abbrev pub with_other : {E F : Type 0} → PassView E F → PassView E F → PassView E F
with_other p o = record p { weight = p.weight + o.weight; seen = longer p.seen o.seen; ended = p.ended ++ (o.caller, o.mine) ∷ o.ended }

module _ {S E F : Type 0} where
  -- a pass has the turn where the count of entries at its `enter` is kept, and its seat then has the slot
  abbrev pub IsPlaced : Me (Option S) (View E F) → Option ℕ → Type 0
  IsPlaced me None = (me.0.waits ≡ 0) × (me.0.holds ≡ 0) × (me.1 ≡ [])
  IsPlaced me (Some count) = (me.0.waits ≡ 1) × (me.0.holds ≡ 1) × (me.1 ≡ (0, None) ∷ []) × (count ≡ length me.0.seen)

-- what is true of a pass
pub record IsPass {S E F : Type 0} (caller : E → ℕ) (table : TableId) (me : Me (Option S) (View E F)) (number weight next spare : ℕ) (count : Option ℕ) : Type 0 where
  pub sized : (table.words ≡ 3) × (table.slots ≡ 1)
  pub placed : IsPlaced me count
  pub knows : Knows caller me.0
  pub own : IsOwn number me.0.held
  pub weight_is : me.0.weight ≡ weight
  pub next_is : me.0.spare_from ≡ next
  pub spare_is : me.0.spare ≡ spare
  pub fits : (spare < weight) × (weight ≤ 1048576) × (next + spare ≤ 1048576) × (number < 1048576)
