-- The rule of the gate at the opening, and what is known at the close.
use Rattle.std.proofs.Common.{◌≡◌, ◌≢◌, ℕ, zero, suc, ◌^◌, ◌<◌, List, [], ◌∷◌, length, get_or, sym, refl, ap, ◌∙◌, subst, arith, Option, Some}
use mathlib.Core.Logic.{dite}
use mathlib.Core.Option.{some, some-injective, some-ne-none}
use native.Mathlib.Decide.{ℕ_discrete}
use lib.ListN.{get_elem?}
use Rattle.std.specs.Prelude.{All}
use Rattle.std.proofs.lemmas.List.Elements.{All-nil, All-cons, All-weaker}
use Rattle.atomic_table.specs.Table.{opening, Final, Seen}
use Rattle.strip_gate.specs.declared.view.View.{View}
use Rattle.strip_gate.specs.History.{entries_of}
use Rattle.strip_gate.specs.Rule.{total, times_in, weight_of, holds_of, names, IsListOf, IsInLine, IsKnown, Home}
use Rattle.strip_gate.specs.Steps.{opening_view}
use Rattle.strip_gate.proofs.Sums.{one_value, sum_two, sum_zero, sum_only, same_is}
use Rattle.strip_gate.proofs.Lists.{starts_self, entries_none, spare_le, spare_first}
use Rattle.strip_gate.proofs.Keeps.{Rule}

module _ {S E F : Type 0} (kept : S → List E) (fixed : S → F) (caller : E → ℕ) where
  abbrev V : Type 0
  V = View E F

  pub opens : (x : S) (n : ℕ) → n < 2 ^ 64 → n ≡ length (kept x) → All (λ e. caller e ≡ 0) (kept x)
      → Rule kept fixed caller (opening (n ∷ 0 ∷ 0 ∷ []) (Some x ∷ []) (opening_view caller (kept x) (fixed x)))
  opens x n small count own =
      let v : V = opening_view caller (kept x) (fixed x) in
      let only : (P : V → Type 0) → P v → (i : ℕ) (u : V) → get_elem? (v ∷ []) i ≡ some u → P u = λ P h i u at. subst P (one i u at).1 h in
      let list : All (IsListOf caller (kept x)) v.held = All-cons (IsListOf caller (kept x)) (0, entries_of caller 0 (kept x)) [] refl (All-nil (IsListOf caller (kept x))) in record {
        log = kept x;
        fact = fixed x;
        ticket = 0;
        serving = 0;
        words = ap (λ m. m ∷ 0 ∷ 0 ∷ []) (omega arith);
        whole = refl;
        tickets = refl;
        differ = λ i j a b ai bj _ _ _. (one i a ai).0 ∙ sym (one j b bj).0;
        in_line = only (IsInLine (kept x) 0 0) record { one_ticket = omega arith; needs_weight = omega arith; needs_ticket = omega arith; between = λ p. absurd (omega arith); with_turn = λ p. absurd (omega arith) };
        home = (x, refl, refl, refl);
        known = only (IsKnown caller (kept x) (fixed x)) record {
          has_seen = starts_self (kept x);
          has_heard = (kept x, refl);
          is_fixed = λ _. refl;
          in_log = list;
          in_seen = list;
          unused = λ c p. entries_none caller c 0 (kept x) (λ k d lt e. let zero_is : caller (get_or (kept x) k d) ≡ 0 = own k d lt in let first = spare_first c 0 1048576 (omega arith) in let le = spare_le c 0 1048576 in let one = same_is c 0 (sym zero_is ∙ e) in absurd (omega arith));
          callers_below = All-cons (λ h. h.0 < 1048576) (0, entries_of caller 0 (kept x)) [] (omega arith) (All-nil (λ h. h.0 < 1048576));
          spares_below = omega arith;
          spares_fit = λ _. omega arith;
          without_weight = λ z. absurd (omega arith);
        };
        latest = (0, v, refl, (omega arith), refl);
        apart = λ c. let first = spare_first c 0 1048576 (omega arith) in let le = spare_le c 0 1048576 in omega arith;
        named = λ k d lt. let one = same_is (caller (get_or (kept x) k d)) 0 (sym (own k d lt)) in omega arith;
      }
    where
      one : (i : ℕ) (u : V) → get_elem? (opening_view caller (kept x) (fixed x) ∷ []) i ≡ some u → (i ≡ 0) × (opening_view caller (kept x) (fixed x) ≡ u)
      one zero u at = (refl, some-injective (opening_view caller (kept x) (fixed x)) u at)
      one (suc i) u at = absurd (some-ne-none u (sym at))

  -- what a pass that has the whole weight finds at the close
  pub record Closes (v : V) (slots : List (Option S)) : Type 0 where
    pub state : S
    pub there : get_elem? slots 0 ≡ some (Some state)
    pub all : kept state ≡ v.seen
    pub same_fixed : v.fixed ≡ Some (fixed state)
    pub named : All (λ e. 0 < times_in (caller e) v.held) (kept state)

  pub closes : (id : ℕ) (v : V) (words : List ℕ) (slots : List (Option S)) → v.weight ≡ 1048576 → v.holds ≡ 0 → Final (Seen (Rule kept fixed caller) id v) words slots → Closes v slots
  closes id v words slots whole idle f =
      let s = f.0 in
      let k = f.1.0 in
      let at = f.1.1 in
      let light : (j : ℕ) (u : V) → j ≢ id → get_elem? s.views j ≡ some u → u.weight ≡ 0 =
      λ j u ne there. let two = sum_two weight_of s.views j id u v ne there at in let all = k.whole in omega arith in
      let none_out : total holds_of s.views ≡ 0 = sum_zero holds_of s.views (λ j u there. dite (ℕ_discrete j id)
      (λ e. ap (λ (z : V). z.holds) (one_value s.views j id u v there at e) ∙ idle)
      (λ ne. let z = light j u ne there in let a = (k.in_line j u there).needs_weight in let b = (k.in_line j u there).needs_ticket in omega arith)) in
      let home = subst (Home kept fixed caller k.log k.fact s.homes) none_out k.home in
      let last = k.latest in
      let heavy = last.3 in
      let seen : v.seen ≡ k.log = dite (ℕ_discrete last.0 id)
      (λ e. ap (λ (z : V). z.seen) (sym (one_value s.views last.0 id last.1 v last.2 at e)) ∙ last.4)
      (λ ne. let z = light last.0 last.1 ne last.2 in absurd (omega arith)) in
      let named : (c : ℕ) → total (names c) s.views ≡ times_in c v.held = λ c. sum_only (names c) s.views id v at
      (λ j u ne there. ap (times_in c) ((k.known j u there).without_weight (light j u ne there))) in record {
        state = home.0;
        there = f.4 0 (Some home.0) (ap (λ hs. get_elem? hs 0) home.1);
        all = home.2 ∙ sym seen;
        same_fixed = (k.known id v at).is_fixed (omega arith) ∙ ap Some (sym home.3);
        named = subst (All (λ e. 0 < times_in (caller e) v.held)) (sym home.2)
            (All-weaker (λ e. 0 < total (names (caller e)) s.views) (λ e. 0 < times_in (caller e) v.held) (λ e p. subst (λ (n : ℕ). 0 < n) (named (caller e)) p) k.log k.named);
      }
