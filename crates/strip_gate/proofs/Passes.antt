-- What contracts see of a pass, from what its seat knows.
use Rattle.std.proofs.Common.{◌⊎◌, inl, inr, Some, None, false, ◌≡◌, ℕ, ◌<◌, ◌≤◌, List, [], ◌∷◌, ◌++◌, sym, refl, ap, ◌∙◌, subst, arith, Bool, Option}
use mathlib.Core.Logic.{dite}
use native.Mathlib.Decide.{ℕ_discrete}
use Rattle.std.specs.Prelude.{All, Contains, is_some}
use Rattle.std.proofs.lemmas.List.Elements.{All-nil, All-cons, All-head, All-tail}
use Rattle.atomic_table.specs.Table.{Me}
use Rattle.atomic_table.specs.Seated.{TableId}
use Rattle.strip_gate.specs.declared.view.View.{View}
use Rattle.strip_gate.specs.History.{entries_of}
use Rattle.strip_gate.specs.Rule.{IsListOf, times_in}
use Rattle.strip_gate.specs.Pass.{PassView, HasEntries, IsNamed}
use Rattle.strip_gate.specs.Steps.{Knows, given, joined, caller_in, mine_in, ended_in, with_mine, IsOwn, with_other, pass_view, opening_view, IsPlaced, IsPass}
use Rattle.strip_gate.proofs.Sums.{same_not}
use Rattle.strip_gate.proofs.Lists.{some_in}

module _ {E : Type 0} where
  pub own_as : (n : ℕ) (hs gs : List (ℕ × List (ℕ × E))) → hs ≡ gs → IsOwn n gs → IsOwn n hs
  own_as n hs gs e own = subst (IsOwn n) (sym e) own

  pub own_more : (n : ℕ) (es : List (ℕ × E)) (hs : List (ℕ × List (ℕ × E))) → IsOwn n hs → IsOwn n (with_mine es hs)
  own_more n es [] own = absurd (cc)
  own_more n es (h ∷ hs) own = ap (λ m. (m, h.1 ++ es) ∷ hs) (ap caller_in own)

  pub own_append : (n : ℕ) (hs gs : List (ℕ × List (ℕ × E))) → IsOwn n hs → IsOwn n (hs ++ gs)
  own_append n [] gs own = absurd (cc)
  own_append n (h ∷ hs) gs own = ap (λ m. (m, h.1) ∷ (hs ++ gs)) (ap caller_in own)

  -- the lists of two passes
  pub lists_append : (n : ℕ) (hs gs : List (ℕ × List (ℕ × E))) → IsOwn n hs → (caller_in (hs ++ gs) ≡ caller_in hs) × (mine_in (hs ++ gs) ≡ mine_in hs) × (ended_in (hs ++ gs) ≡ ended_in hs ++ gs)
  lists_append n [] gs own = absurd (cc)
  lists_append n (h ∷ hs) gs own = (refl, refl, refl)

  pub own_whole : (n : ℕ) (hs : List (ℕ × List (ℕ × E))) → IsOwn n hs → hs ≡ (caller_in hs, mine_in hs) ∷ ended_in hs
  own_whole n hs own = own ∙ ap (λ m. (m, mine_in hs) ∷ ended_in hs) (sym (ap caller_in own))

  parts : (caller : E → ℕ) (n : ℕ) (seen : List E) (hs : List (ℕ × List (ℕ × E))) → All (IsListOf caller seen) hs → IsOwn n hs
      → (mine_in hs ≡ entries_of caller (caller_in hs) seen) × All (IsListOf caller seen) (ended_in hs)
  parts caller n seen [] all own = absurd (cc)
  parts caller n seen (h ∷ hs) all own = (All-head (IsListOf caller seen) h hs all, All-tail (IsListOf caller seen) h hs all)

  pub found : (n c : ℕ) (hs : List (ℕ × List (ℕ × E))) → IsOwn n hs → 0 < times_in c hs → (c ≡ caller_in hs) ⊎ ((h : ℕ × List (ℕ × E)) × Contains (ended_in hs) h × (h.0 ≡ c))
  found n c [] own p = absurd (omega arith)
  found n c (h ∷ hs) own p = dite (ℕ_discrete h.0 c) (λ e. inl (sym e)) (λ ne. let z = same_not c h.0 ne in inr (some_in c hs (omega arith)))

module _ {E F : Type 0} (caller : E → ℕ) where
  pub has_entries : (table : TableId) (v : View E F) (turn : Bool) (n : ℕ) → Knows caller v → IsOwn n v.held → HasEntries caller (pass_view table v turn)
  has_entries table v turn n k own = let p = parts caller n v.seen v.held k.lists own in record { own = p.0; others = p.1 }

  -- a pass with no entry yet
  pub knows_given : (v : View E F) → Knows caller v → v.part ≤ v.weight → entries_of caller v.spare_from v.seen ≡ [] → Knows caller (given v)
  knows_given v k le none_yet = record {
    lists = All-cons (IsListOf caller v.seen) (v.spare_from, []) [] (sym none_yet) (All-nil (IsListOf caller v.seen));
    heard = (v.seen, refl);
    weight_below = let b = k.weight_below in omega arith;
  }

  -- what contracts see of two passes that became one
  pub joined_view : (table other : TableId) (v w : View E F) (turn : Bool) (n m : ℕ) → IsOwn n v.held → IsOwn m w.held
      → pass_view table (joined v w) turn ≡ with_other (pass_view table v turn) (pass_view other w turn)
  joined_view table other v w turn n m own_v own_w =
      let p = lists_append n v.held w.held own_v in
      let e : ended_in (v.held ++ w.held) ≡ ended_in v.held ++ (caller_in w.held, mine_in w.held) ∷ ended_in w.held = p.2 ∙ ap (λ hs. ended_in v.held ++ hs) (own_whole m w.held own_w) in
      λ i. record (pass_view table (joined v w) turn) { caller = p.0 i; mine = p.1 i; ended = e i }

module _ {E F : Type 0} where
  pub joined_as : (now p o a b : PassView E F) → a ≡ p → b ≡ o → p.has_turn ≡ false → now ≡ with_other (record a { has_turn = false }) b → now ≡ with_other p o
  joined_as now p o a b pa ob idle e = e ∙ (λ i. with_other (record (pa i) { has_turn = false }) (ob i)) ∙ (λ i. with_other (record p { has_turn = sym idle i }) o)

module _ {S E F : Type 0} where
  pub idle_holds : (me : Me (Option S) (View E F)) (count : Option ℕ) → IsPlaced me count → is_some count ≡ false → me.0.holds ≡ 0
  idle_holds me None p e = p.1
  idle_holds me (Some n) p e = absurd (cc)

  pub opening_pass : (caller : E → ℕ) (table : TableId) (me : Me (Option S) (View E F)) (log : List E) (fact : F) → table.words ≡ 3 → table.slots ≡ 1 → me ≡ (opening_view caller log fact, [])
      → IsPass caller table me 0 1048576 1 1048575 None
  opening_pass caller table me log fact words slots e = record {
    sized = (words, slots);
    placed = (ap (λ m. m.0.waits) e, ap (λ m. m.0.holds) e, ap (λ m. m.1) e);
    knows = subst (Knows caller) (sym (ap (λ m. m.0) e)) record {
      lists = All-cons (IsListOf caller log) (0, entries_of caller 0 log) [] refl (All-nil (IsListOf caller log));
      heard = (log, refl);
      weight_below = omega arith;
    };
    own = own_as 0 me.0.held ((0, entries_of caller 0 log) ∷ []) (ap (λ m. m.0.held) e) refl;
    weight_is = ap (λ m. m.0.weight) e;
    next_is = ap (λ m. m.0.spare_from) e;
    spare_is = ap (λ m. m.0.spare) e;
    fits = (omega arith, omega arith, omega arith, omega arith);
  }

module _ {E F : Type 0} where
  -- a caller that is counted among the lists of a pass is named by it
  pub is_named : (table : TableId) (v : View E F) (turn : Bool) (n c : ℕ) → IsOwn n v.held → 0 < times_in c v.held → IsNamed (pass_view table v turn) c
  is_named table v turn n c own p = found n c v.held own p

pub same_value : {A : Type 0} (r : Option A) (x y : A) → r ≡ Some x → r ≡ Some y → x ≡ y
same_value r x y a b = let e : Some x ≡ Some y = sym a ∙ b in cc
