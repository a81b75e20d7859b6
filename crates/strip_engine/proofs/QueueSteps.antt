-- The steps of the queue: what is put behind it, and where the one of a number stands.
use Rattle.std.proofs.Common.{◌≡◌, ℕ, zero, suc, ◌+◌, ◌<◌, ◌≤◌, ◌≢◌, Bool, true, false, cond, eqb, ◌⊎◌, List, [], ◌∷◌, ◌++◌, length, map, get_or, Some, None, Err, inl, inr, sym, ap, ◌∙◌, refl, subst, arith, append_assoc}
use Rattle.std.specs.List.{AllByRecursion, AllWithin, HoldsAt}
use Rattle.std.specs.List.Sorted.{IsBinarySearchResult, IsNonDecreasingBy}
use Rattle.std.specs.declared.cmp.Ordering.{Ordering}
use Rattle.std.specs.declared.cmp.Ordering.TheVariants.{Less, Equal, Greater}
use Rattle.std.specs.Ordering.{MatchOrdering, nat_cmp, ordering_index}
use Rattle.std.proofs.lemmas.Bool.{cases_lt, eq-eqb, ne_eqb, eqb-true, eqb-false}
use Rattle.std.proofs.lemmas.Cmp.{ranked}
use Rattle.std.proofs.lemmas.List.{append-nil}
use Rattle.std.proofs.lemmas.List.Elements.{recursion_from_All}
use Rattle.strip_value.specs.declared.actions.FiredRule.{FiredRule}
use Rattle.strip_value.proofs.Lists.{all_at}
use Rattle.strip_engine.specs.declared.queue.Started.{Started}
use Rattle.strip_engine.specs.declared.queue.Waiting.{Waiting}
use Rattle.strip_engine.specs.Queue.{NumbersRise, place_from, waiting_at}

-- ---- what is put behind the queue

-- a loop that puts actions behind what waits: what is left to put leads where all would
pub record Pushing (place moment : ℕ) (before : List Waiting) (fired : List FiredRule) (now : List Waiting) (left : List FiredRule) : Type 0 where
  pub leads : now ++ waiting_at place moment left ≡ before ++ waiting_at place moment fired

pub pushing_more : (place moment : ℕ) (before : List Waiting) (fired : List FiredRule) (now new : List Waiting) (left rest : List FiredRule) (one : FiredRule) → Pushing place moment before fired now left → left ≡ one ∷ rest → new ≡ now ++ record { place = place; moment = moment; fired = one } ∷ [] → Pushing place moment before fired new rest
pushing_more place moment before fired now new left rest one p next done = record {
  leads = ap (λ ws. ws ++ waiting_at place moment rest) done ∙ append_assoc now (record { place = place; moment = moment; fired = one } ∷ []) (waiting_at place moment rest) ∙ sym (ap (λ fs. now ++ waiting_at place moment fs) next) ∙ p.leads;
}

pub pushing_begins : (place moment : ℕ) (before : List Waiting) (fired left : List FiredRule) → left ≡ fired → Pushing place moment before fired before left
pushing_begins place moment before fired left all = record { leads = ap (λ fs. before ++ waiting_at place moment fs) all }

pub pushing_ends : (place moment : ℕ) (before : List Waiting) (fired : List FiredRule) (now : List Waiting) (left : List FiredRule) → Pushing place moment before fired now left → length left ≡ 0 → now ≡ before ++ waiting_at place moment fired
pushing_ends place moment before fired now [] p none = sym (append-nil now) ∙ p.leads
pushing_ends place moment before fired now (one ∷ left) p none = absurd (omega arith)

-- ---- where the action of a number stands

same_number : {A : Type 0} (a b : ℕ) (x y : A) → a ≡ b → cond (eqb a b) x y ≡ x
same_number a b x y e = ap (λ t. cond t x y) (eq-eqb a b e)

other_number : {A : Type 0} (a b : ℕ) (x y : A) → (a ≡ b → ⊥) → cond (eqb a b) x y ≡ y
other_number a b x y differ = ap (λ t. cond t x y) (ne_eqb a b differ)

-- where numbers rise, an action of the number stands at the place that is found
pub place_there : (at : ℕ) (ss : List Started) (number i : ℕ) (d : Started) → NumbersRise ss → i < length ss → (get_or ss i d).number ≡ number → place_from at ss number ≡ Some (at + i)
place_there at [] number i d rise lt same = absurd (omega arith)
place_there at (s ∷ ss) number zero d rise lt same =
    same_number s.number number (Some at) (place_from (at + 1) ss number) same ∙ ap Some (omega arith)
place_there at (s ∷ ss) number (suc i) d rise lt same =
    let later : s.number < (get_or ss i d).number = all_at (λ (t : Started). s.number < t.number) ss i d rise.0 (omega arith) in
    let differ : s.number ≡ number → ⊥ = λ e. omega arith in
    other_number s.number number (Some at) (place_from (at + 1) ss number) differ ∙ place_there (at + 1) ss number i d rise.1 (omega arith) same ∙ ap Some (omega arith)

pub place_nowhere : (at : ℕ) (ss : List Started) (number : ℕ) → AllByRecursion (λ (s : Started). s.number ≢ number) ss → place_from at ss number ≡ None
place_nowhere at [] number differ = refl
place_nowhere at (s ∷ ss) number differ =
    other_number s.number number (Some at) (place_from (at + 1) ss number) differ.0 ∙ place_nowhere (at + 1) ss number differ.1

-- the action at a place that is found has the number
pub record IsPlaced (at : ℕ) (ss : List Started) (number i : ℕ) : Type 0 where
  pub from : at ≤ i
  pub there : i < at + length ss
  pub has : (d : Started) (k : ℕ) → i ≡ at + k → (get_or ss k d).number ≡ number

placed_here : (at i : ℕ) (s : Started) (ss : List Started) (number : ℕ) → s.number ≡ number → Some at ≡ Some i → IsPlaced at (s ∷ ss) number i
placed_here at i s ss number same e =
    let here : at ≡ i = cc in record {
      from = omega arith;
      there = omega arith;
      has = λ d k is.
          let first : k ≡ 0 = omega arith in
          subst (λ j. (get_or (s ∷ ss) j d).number ≡ number) (sym first) same;
    }

has_later : (at i : ℕ) (s : Started) (ss : List Started) (number : ℕ) → IsPlaced (at + 1) ss number i → (d : Started) (k : ℕ) → i ≡ at + k → (get_or (s ∷ ss) k d).number ≡ number
has_later at i s ss number p d zero is = absurd (omega arith)
has_later at i s ss number p d (suc k) is = p.has d k (omega arith)

placed_later : (at i : ℕ) (s : Started) (ss : List Started) (number : ℕ) → IsPlaced (at + 1) ss number i → IsPlaced at (s ∷ ss) number i
placed_later at i s ss number p =
    record { from = omega arith; there = omega arith; has = has_later at i s ss number p }

placed_by : (b : Bool) (at i : ℕ) (s : Started) (ss : List Started) (number : ℕ) → eqb s.number number ≡ b → cond b (Some at) (place_from (at + 1) ss number) ≡ Some i → (place_from (at + 1) ss number ≡ Some i → IsPlaced (at + 1) ss number i) → IsPlaced at (s ∷ ss) number i
placed_by true at i s ss number test e others = placed_here at i s ss number (eqb-true s.number number test) e
placed_by false at i s ss number test e others = placed_later at i s ss number (others e)

placed_from : (at : ℕ) (ss : List Started) (number i : ℕ) → place_from at ss number ≡ Some i → IsPlaced at ss number i
placed_from at [] number i e = cc
placed_from at (s ∷ ss) number i e =
    placed_by (eqb s.number number) at i s ss number refl e (λ f. placed_from (at + 1) ss number i f)

pub place_within : (ss : List Started) (number i : ℕ) → place_from 0 ss number ≡ Some i → i < length ss
place_within ss number i e = omega (arith, (placed_from 0 ss number i e).there)

pub place_has : (ss : List Started) (number i : ℕ) (d : Started) → place_from 0 ss number ≡ Some i → (get_or ss i d).number ≡ number
place_has ss number i d e = (placed_from 0 ss number i e).has d i (omega arith)

-- where no place is found none has the number
none_by : (b : Bool) (at : ℕ) (s : Started) (ss : List Started) (number : ℕ) → eqb s.number number ≡ b → cond b (Some at) (place_from (at + 1) ss number) ≡ None → (place_from (at + 1) ss number ≡ None → AllByRecursion (λ (t : Started). t.number ≢ number) ss) → AllByRecursion (λ (t : Started). t.number ≢ number) (s ∷ ss)
none_by true at s ss number test e others = cc
none_by false at s ss number test e others = (eqb-false s.number number test, others e)

none_from : (at : ℕ) (ss : List Started) (number : ℕ) → place_from at ss number ≡ None → AllByRecursion (λ (t : Started). t.number ≢ number) ss
none_from at [] number e = tt
none_from at (s ∷ ss) number e = none_by (eqb s.number number) at s ss number refl e (λ f. none_from (at + 1) ss number f)

pub none_has : (ss : List Started) (number : ℕ) → place_from 0 ss number ≡ None → AllByRecursion (λ (t : Started). t.number ≢ number) ss
none_has ss number e = none_from 0 ss number e

-- ---- numbers that rise

abbrev pub Rising : List ℕ → Type 0
Rising [] = Unit {0}
Rising (n ∷ ns) = AllByRecursion (λ m. n < m) ns × Rising ns

all_mapped : {A B : Type 0} (f : A → B) (P : B → Type 0) (xs : List A) → AllByRecursion P (map f xs) → AllByRecursion (λ x. P (f x)) xs
all_mapped f P [] all = tt
all_mapped f P (x ∷ xs) all = (all.0, all_mapped f P xs all.1)

pub rise_by_numbers : (ss : List Started) → Rising (map (λ (s : Started). s.number) ss) → NumbersRise ss
rise_by_numbers [] rise = tt
rise_by_numbers (s ∷ ss) rise = (all_mapped (λ (t : Started). t.number) (λ m. s.number < m) ss rise.0, rise_by_numbers ss rise.1)

-- ---- a binary search by the number

index_by : (r s : Ordering) (a b n : ℕ) → a < b → MatchOrdering r (a < n) (a ≡ n) (n < a) → MatchOrdering s (b < n) (b ≡ n) (n < b) → ordering_index r ≤ ordering_index s
index_by Less s a b n lt p q = omega arith
index_by Equal Less a b n lt p q = absurd (omega arith)
index_by Equal Equal a b n lt p q = omega arith
index_by Equal Greater a b n lt p q = omega arith
index_by Greater Less a b n lt p q = absurd (omega arith)
index_by Greater Equal a b n lt p q = absurd (omega arith)
index_by Greater Greater a b n lt p q = omega arith

index_of_lower : (a b n : ℕ) → a < b → ordering_index (nat_cmp a n) ≤ ordering_index (nat_cmp b n)
index_of_lower a b n lt = index_by (nat_cmp a n) (nat_cmp b n) a b n lt (ranked a n (nat_cmp a n) refl) (ranked b n (nat_cmp b n) refl)

numbers_compare : (ss : List Started) (number : ℕ) → NumbersRise ss → IsNonDecreasingBy (λ (s : Started). ordering_index (nat_cmp s.number number)) ss
numbers_compare [] number rise i j d le lt = absurd (omega arith)
numbers_compare (s ∷ ss) number rise zero zero d le lt = omega arith
numbers_compare (s ∷ ss) number rise zero (suc j) d le lt =
    index_of_lower s.number (get_or ss j d).number number (all_at (λ (t : Started). s.number < t.number) ss j d rise.0 (omega arith))
numbers_compare (s ∷ ss) number rise (suc i) zero d le lt = absurd (omega arith)
numbers_compare (s ∷ ss) number rise (suc i) (suc j) d le lt = numbers_compare ss number rise.1 i j d (omega arith) (omega arith)

below_differs : (a n : ℕ) → nat_cmp a n ≡ Less → a ≢ n
below_differs a n e same =
    let below : a < n = ranked a n Less (sym e) in
    omega arith

above_differs : (a n : ℕ) → nat_cmp a n ≡ Greater → a ≢ n
above_differs a n e same =
    let above : n < a = ranked a n Greater (sym e) in
    omega arith

gap_differs : (ss : List Started) (number gap : ℕ) → AllWithin (λ (s : Started). nat_cmp s.number number ≡ Less) ss 0 gap → AllWithin (λ (s : Started). nat_cmp s.number number ≡ Greater) ss gap (length ss) → (k : ℕ) (d : Started) → k < length ss → (k < gap) ⊎ (gap ≤ k) → (get_or ss k d).number ≢ number
gap_differs ss number gap below above k d lt (inl before) = below_differs (get_or ss k d).number number (below k d (omega arith) before)
gap_differs ss number gap below above k d lt (inr behind) = above_differs (get_or ss k d).number number (above k d behind lt)

pub searched_place : (ss : List Started) (number at : ℕ) (d : Started) → NumbersRise ss → at < length ss → HoldsAt (λ (s : Started). nat_cmp s.number number ≡ Equal) ss at → place_from 0 ss number ≡ Some at
searched_place ss number at d rise lt equal =
    let same : (get_or ss at d).number ≡ number = ranked (get_or ss at d).number number Equal (sym (equal d)) in
    place_there 0 ss number at d rise lt same ∙ ap Some (omega arith)

pub searched_gap : (ss : List Started) (number gap : ℕ) → NumbersRise ss → IsBinarySearchResult (λ (s : Started). nat_cmp s.number number) ss (Err gap) → place_from 0 ss number ≡ None
searched_gap ss number gap rise answer =
    let parts = answer (numbers_compare ss number rise) in
    place_nowhere 0 ss number (recursion_from_All (λ (s : Started). s.number ≢ number) ss (λ k d lt. gap_differs ss number gap parts.0 parts.1 k d lt (cases_lt k gap)))
