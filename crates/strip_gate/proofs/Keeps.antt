-- The rule of the gate, at the steps that leave the history as it is.
use Rattle.std.proofs.Common.{◌≡◌, ◌≢◌, ℕ, zero, suc, ◌+◌, ◌%◌, ◌^◌, ◌<◌, ◌≤◌, List, [], ◌∷◌, length, get_or, set, sym, refl, ap, ◌∙◌, subst, ⊎_elim, arith, Option, Some, eqb}
use mathlib.Core.Logic.{dite}
use mathlib.Core.Option as maybe
use mathlib.Core.Option.{none, some, some-injective, some-ne-none}
use native.Mathlib.Decide.{ℕ_discrete}
use lib.ListN.{get_elem?}
use lib.Seq.{set-get_or}
use prog.Atomic.{either}
use Rattle.std.proofs.lemmas.List.Elements.{All-weaker}
use Rattle.atomic_table.specs.Table.{State, Me, step, Act, keeps, takes, gives, stepped, rest, put_back, carried_after, Valid, Allows}
use Rattle.atomic_table.proofs.Lists.{at_set, set_else, set_again, one_turn, exchanged}
use Rattle.strip_gate.specs.declared.view.View.{View}
use Rattle.strip_gate.specs.History.{StartsWith, entries_of}
use Rattle.strip_gate.specs.Rule.{total, in_spare, times_in, weight_of, waits_of, holds_of, names, owns, IsInLine, IsKnown, Differ, Home, IsKept}
use Rattle.strip_gate.specs.Steps.{IsIdle, HasTurn, waiting, entered, rested, marked, Knows, draws, Takes, looks, passes, marks, settles}
use Rattle.strip_gate.proofs.Sums.{put_here, one_value, sum_set, sum_at, sum_zero, sum_le, zero_or, same_is}
use Rattle.strip_gate.proofs.Lists.{starts_self, starts_trans, entries_begin, spare_first}

module _ {E F : Type 0} where
  -- a number that the one pass counts as before
  pub total_same : (f : View E F → ℕ) (views : List (View E F)) (id : ℕ) (v w : View E F) → get_elem? views id ≡ some v → f w ≡ f v → total f (set views id w) ≡ total f views
  total_same f views id v w at e = let s = sum_set f views id v w at in omega arith

  -- what holds of the one pass and of each other
  pub each_set : (P : View E F → Type 0) (views : List (View E F)) (id : ℕ) (w : View E F) → P w → ((j : ℕ) (u : View E F) → j ≢ id → get_elem? views j ≡ some u → P u)
      → (j : ℕ) (u : View E F) → get_elem? (set views id w) j ≡ some u → P u
  each_set P views id w mine others j u at = ⊎_elim (λ (t : (j ≡ id) × (w ≡ u)). subst P t.1 mine) (λ (t : (j ≢ id) × (get_elem? views j ≡ some u)). others j u t.0 t.1) (at_set views id j w u at)

  pub differ_set : (views : List (View E F)) (id : ℕ) (w : View E F) → Differ views
      → ((j : ℕ) (u : View E F) → j ≢ id → get_elem? views j ≡ some u → 0 < w.waits → 0 < u.waits → w.number ≡ u.number → ⊥) → Differ (set views id w)
  differ_set views id w old fresh i j a b at bt wa wb e = ⊎_elim
      (λ (t : (i ≡ id) × (w ≡ a)). ⊎_elim
      (λ (r : (j ≡ id) × (w ≡ b)). t.0 ∙ sym r.0)
      (λ (r : (j ≢ id) × (get_elem? views j ≡ some b)). absurd (fresh j b r.0 r.1 (subst (λ (z : View E F). 0 < z.waits) (sym t.1) wa) wb (ap (λ (z : View E F). z.number) t.1 ∙ e)))
      (at_set views id j w b bt))
      (λ (t : (i ≢ id) × (get_elem? views i ≡ some a)). ⊎_elim
      (λ (r : (j ≡ id) × (w ≡ b)). absurd (fresh i a t.0 t.1 (subst (λ (z : View E F). 0 < z.waits) (sym r.1) wb) wa (ap (λ (z : View E F). z.number) r.1 ∙ sym e)))
      (λ (r : (j ≢ id) × (get_elem? views j ≡ some b)). old i j a b t.1 r.1 wa wb e)
      (at_set views id j w b bt))
      (at_set views id i w a at)

module _ {S E F : Type 0} (kept : S → List E) (fixed : S → F) (caller : E → ℕ) where
  abbrev V : Type 0
  V = View E F

  abbrev St : Type 0
  St = State (Option S) V

  abbrev M : Type 0
  M = Me (Option S) V

  abbrev Homes : Type 0
  Homes = List (maybe.Option (Option S))

  abbrev pub Rule : St → Type 0
  Rule = IsKept kept fixed caller

  -- while a pass has the turn, nothing is at home
  pub away : (log : List E) (fact : F) (homes : Homes) (n : ℕ) → 0 < n → Home kept fixed caller log fact homes n → homes ≡ none ∷ []
  away log fact homes zero p h = absurd (omega arith)
  away log fact homes (suc n) p h = h

  pub away_again : (log : List E) (fact : F) (homes : Homes) (n : ℕ) → 0 < n → homes ≡ none ∷ [] → Home kept fixed caller log fact homes n
  away_again log fact homes zero p h = absurd (omega arith)
  away_again log fact homes (suc n) p h = h

  -- beside the pass whose ticket is being served no pass has the turn
  pub nobody_else : (s : St) (k : Rule s) (id : ℕ) (v : V) → get_elem? s.views id ≡ some v → 0 < v.waits → v.number ≡ k.serving
      → (j : ℕ) (u : V) → j ≢ id → get_elem? s.views j ≡ some u → u.holds ≡ 0
  nobody_else s k id v at waits served j u ne there = zero_or u.holds
      (λ h. let q = k.in_line j u there in let n = (q.with_turn h).0 in let t = q.needs_ticket in ne (k.differ j id u v there at (omega arith) waits (n ∙ sym served)))

  -- with the turn, the ticket of the pass is the one being served
  pub knows : (s : St) (k : Rule s) (id : ℕ) (v : V) → get_elem? s.views id ≡ some v → Knows caller v
  knows s k id v at = let q = k.known id v at in let w = sum_at weight_of s.views id v at in let all = k.whole in record { lists = q.in_seen; heard = q.has_heard; weight_below = omega arith }

  -- a step after which the one pass has its weight, lists and spare numbers as before, and the history is the same
  pub moved : (s : St) (k : Rule s) (id : ℕ) (v w : V) (words' : List ℕ) (homes' : Homes) (ticket' serving' : ℕ) → get_elem? s.views id ≡ some v
      → w.weight ≡ v.weight → w.held ≡ v.held → w.spare_from ≡ v.spare_from → w.spare ≡ v.spare → (v.seen ≡ k.log → w.seen ≡ k.log)
      → words' ≡ length k.log % 2 ^ 64 ∷ ticket' % 2 ^ 64 ∷ serving' % 2 ^ 64 ∷ []
      → ticket' ≡ serving' + total waits_of (set s.views id w)
      → ((j : ℕ) (u : V) → j ≢ id → get_elem? s.views j ≡ some u → 0 < w.waits → 0 < u.waits → w.number ≡ u.number → ⊥)
      → IsInLine k.log ticket' serving' w
      → ((j : ℕ) (u : V) → j ≢ id → get_elem? s.views j ≡ some u → IsInLine k.log ticket' serving' u)
      → Home kept fixed caller k.log k.fact homes' (total holds_of (set s.views id w))
      → IsKnown caller k.log k.fact w
      → Rule record { words = words'; homes = homes'; views = set s.views id w }
  moved s k id v w words' homes' ticket' serving' at ew eh ef es seen words tickets fresh line lines home known =
      let last = k.latest in record {
        log = k.log;
        fact = k.fact;
        ticket = ticket';
        serving = serving';
        words = words;
        whole = total_same weight_of s.views id v w at ew ∙ k.whole;
        tickets = tickets;
        differ = differ_set s.views id w k.differ fresh;
        in_line = each_set (IsInLine k.log ticket' serving') s.views id w line lines;
        home = home;
        known = each_set (IsKnown caller k.log k.fact) s.views id w known (λ j u _ there. k.known j u there);
        latest = dite (ℕ_discrete last.0 id)
            (λ e. let same : last.1 ≡ v = one_value s.views last.0 id last.1 v last.2 at e in
            let p = last.3 in let pw = ap (λ (z : V). z.weight) same in
            (id, w, put_here s.views id v w at, (omega arith), seen (ap (λ (z : V). z.seen) (sym same) ∙ last.4)))
            (λ ne. (last.0, last.1, set_else s.views id last.0 w ne ∙ last.2, last.3, last.4));
        apart = λ c. subst (λ (n : ℕ). n ≤ 1) (sym (total_same (owns c) s.views id v w at (λ i. times_in c (eh i) + in_spare c (ef i) (es i)))) (k.apart c);
        named = All-weaker (λ e. 0 < total (names (caller e)) s.views) (λ e. 0 < total (names (caller e)) (set s.views id w))
            (λ e p. subst (λ (n : ℕ). 0 < n) (sym (total_same (names (caller e)) s.views id v w at (ap (times_in (caller e)) eh))) p) k.log k.named;
      }

  -- nothing changes
  pub unmoved : (s : St) (k : Rule s) (i id : ℕ) (v : V) → get_elem? s.views id ≡ some v → Rule record { words = set s.words i (get_or s.words i 0); homes = s.homes; views = set s.views id v }
  unmoved s k i id v at = subst (λ (z : List ℕ × List V). Rule record { words = z.0; homes = s.homes; views = z.1 }) (λ t. (sym (set-get_or s.words i 0) t, sym (set_again s.views id v at) t)) k

  -- what was known of a pass stays known while its ticket and its turn change
  pub known_still : (log : List E) (fact : F) (v : V) (waits number holds part turns : ℕ) → IsKnown caller log fact v
      → IsKnown caller log fact (record v { waits = waits; number = number; holds = holds; part = part; turns = turns })
  known_still log fact v waits number holds part turns q = record {
    has_seen = q.has_seen;
    has_heard = q.has_heard;
    is_fixed = q.is_fixed;
    in_log = q.in_log;
    in_seen = q.in_seen;
    unused = q.unused;
    callers_below = q.callers_below;
    spares_below = q.spares_below;
    spares_fit = q.spares_fit;
    without_weight = q.without_weight;
  }

  -- it may have seen the whole history
  pub known_all : (log : List E) (fact : F) (v : V) (holds turns : ℕ) → IsKnown caller log fact v → IsKnown caller log fact (record v { holds = holds; seen = log; turns = turns })
  known_all log fact v holds turns q = record {
    has_seen = starts_self log;
    has_heard = starts_trans log v.seen v.heard q.has_seen q.has_heard;
    is_fixed = q.is_fixed;
    in_log = q.in_log;
    in_seen = q.in_log;
    unused = q.unused;
    callers_below = q.callers_below;
    spares_below = q.spares_below;
    spares_fit = q.spares_fit;
    without_weight = q.without_weight;
  }

  pub drawing : (slots id : ℕ) (me : M) → IsIdle me.0 → Allows Rule slots id me 1 (λ n. (n + 1) % 2 ^ 64) (draws (step slots 1 1 0 none) me)
  drawing slots id me idle s k sized at small =
      let v = me.0 in
      let w : V = waiting k.ticket v in
      let q = k.in_line id v at in
      let t = k.tickets in
      let sum = sum_set waits_of s.views id v w at in
      let w0 : v.waits ≡ 0 = idle.0 in let h0 : v.holds ≡ 0 = idle.1 in let p0 : 0 < v.weight = idle.2 in (
        w,
        keeps,
        tt,
        moved s k id v w _ s.homes (k.ticket + 1) k.serving at refl refl refl refl (λ e. e)
            (ap (λ ws. set ws 1 ((get_or ws 1 0 + 1) % 2 ^ 64)) k.words ∙ ap (λ n. length k.log % 2 ^ 64 ∷ n ∷ k.serving % 2 ^ 64 ∷ []) (omega arith))
            (omega arith)
            (λ j u ne there _ wu e. let b = (k.in_line j u there).between wu in absurd (omega arith))
            record { one_ticket = omega arith; needs_weight = omega arith; needs_ticket = omega arith; between = λ _. (omega arith, omega arith); with_turn = λ h. absurd (omega arith) }
            (λ j u ne there. let o = k.in_line j u there in record {
              one_ticket = o.one_ticket;
              needs_weight = o.needs_weight;
              needs_ticket = o.needs_ticket;
              between = λ p. let b = o.between p in (b.0, omega arith);
              with_turn = o.with_turn;
            })
            (subst (Home kept fixed caller k.log k.fact s.homes) (sym (total_same holds_of s.views id v w at refl)) k.home)
            (known_still k.log k.fact v 1 k.ticket v.holds v.part v.turns (k.known id v at)),
        (k.ticket, ap (λ ws. get_or ws 1 0) k.words, refl),
      )

  module _ (s : St) (k : Rule s) (id : ℕ) (v : V) (at : get_elem? s.views id ≡ some v) where
    -- the line is never longer than the whole weight
    short_line : k.ticket ≤ k.serving + 1048576
    short_line = let n = sum_le waits_of weight_of s.views (λ j u there. (k.in_line j u there).needs_weight) in let t = k.tickets in let w = k.whole in omega arith

    -- a ticket that reads as the one being served is that one
    pub its_turn : 0 < v.waits → k.serving % 2 ^ 64 ≡ v.number % 2 ^ 64 → v.number ≡ k.serving
    its_turn waits e = let b = (k.in_line id v at).between waits in let n = short_line in sym (one_turn k.serving v.number 18446744073709551616 b.0 (let lt = b.1 in omega arith) e)

    -- while its ticket is served and it hasn't the turn, no pass has it
    pub nobody : 0 < v.waits → v.holds ≡ 0 → v.number ≡ k.serving → total holds_of s.views ≡ 0
    nobody waits none_yet served = sum_zero holds_of s.views (λ j u there. dite (ℕ_discrete j id)
        (λ e. ap (λ (z : V). z.holds) (one_value s.views j id u v there at e) ∙ none_yet)
        (λ ne. nobody_else s k id v at waits served j u ne there))

    -- the turn came, and the state is taken
    entering : 0 < v.waits → v.waits ≤ 1 → v.holds ≡ 0 → v.number ≡ k.serving → (x : S) → s.homes ≡ some (Some x) ∷ [] → kept x ≡ k.log
        → Rule record { words = set s.words 2 (get_or s.words 2 0); homes = set s.homes 0 none; views = set s.views id (entered (kept x) v) }
    entering waits one none_yet served x homes log =
        let w : V = entered (kept x) v in
        let o = k.in_line id v at in
        let z = nobody waits none_yet served in
        let sum = sum_set holds_of s.views id v w at in
        let count : total holds_of (set s.views id w) ≡ 1 = omega arith in
        moved s k id v w _ (set s.homes 0 none) k.ticket k.serving at refl refl refl refl (λ _. log)
        (set-get_or s.words 2 0 ∙ k.words)
        (let n = total_same waits_of s.views id v w at refl in let t = k.tickets in omega arith)
        (λ j u ne there wv wu e. ne (sym (k.differ id j v u at there wv wu e)))
        record { one_ticket = o.one_ticket; needs_weight = o.needs_weight; needs_ticket = omega arith; between = o.between; with_turn = λ _. (served, log) }
        (λ j u ne there. k.in_line j u there)
        (subst (Home kept fixed caller k.log k.fact (set s.homes 0 none)) (sym count) (ap (λ hs. set hs 0 none) homes))
        (subst (λ l. IsKnown caller k.log k.fact (entered l v)) (sym log) (known_all k.log k.fact v 1 (v.turns + 1) (k.known id v at)))

    enters : (c : List (ℕ × Option S)) → v.waits ≡ 1 → v.holds ≡ 0 → k.serving % 2 ^ 64 ≡ v.number % 2 ^ 64
        → (w : V) × (a : Act (Option S)) × Valid s.homes c a × Rule (stepped s 2 (get_or s.words 2 0) id c w a) × Takes kept fixed caller (v, c) (w, carried_after c a)
    enters c waits none_yet e =
        let p : 0 < v.waits = omega arith in
        let served = its_turn p e in
        let there = subst (Home kept fixed caller k.log k.fact s.homes) (nobody p none_yet served) k.home in
        let x = there.0 in
        let w : V = entered (kept x) v in
        let k' = entering p (omega arith) none_yet served x there.1 there.2 in
        let q = k.known id v at in
        let has = k.in_line id v at in (
          w,
          takes 0 (Some x),
          ap (λ hs. get_elem? hs 0) there.1,
          k',
          record {
            state = x;
            now = refl;
            longer = subst (λ l. StartsWith l v.seen) (sym there.2) q.has_seen;
            same = q.is_fixed (let n = has.needs_weight in omega arith) ∙ ap Some (sym there.3);
            knows = knows (stepped s 2 (get_or s.words 2 0) id c w (takes 0 (Some x))) k' id w (put_here s.views id v w at);
          },
        )

  pub looking : (slots id : ℕ) (me : M) → me.0.waits ≡ 1 → me.0.holds ≡ 0 → Allows Rule slots id me 2 (λ n. n) (looks kept fixed caller (step slots 2 0 0 none) me)
  looking slots id me waits none_yet s k sized at small =
      let found : get_or s.words 2 0 ≡ k.serving % 2 ^ 64 = ap (λ ws. get_or ws 2 0) k.words in
      dite (ℕ_discrete (get_or s.words 2 0) (me.0.number % 2 ^ 64))
      (λ e. let t = enters s k id me.0 at me.1 waits none_yet (sym found ∙ e) in (t.0, t.1, t.2, t.3, ((λ _. t.4), λ ne. absurd (ne e))))
      (λ ne. (me.0, keeps, tt, unmoved s k 2 id me.0 at, ((λ e. absurd (ne e)), λ _. refl)))

  pub settling : (slots id : ℕ) (me : M) → Allows Rule slots id me 0 (λ n. n) (settles caller (step slots 0 0 0 none) me)
  settling slots id me s k sized at small = (me.0, keeps, tt, unmoved s k 0 id me.0 at, (refl, knows s k id me.0 at))

  pub marking : (slots id : ℕ) (me : M) (part : ℕ) → Allows Rule slots id me 0 (λ n. either (eqb n part) part n) (marks caller (step slots 0 part part none) me)
  marking slots id me part s k sized at small =
      let v = me.0 in
      let w : V = marked part v in
      let n : ℕ = get_or s.words 0 0 in
      let stays : either (eqb n part) part n ≡ n = exchanged n part part (λ z. z ≡ n) (λ e. sym e) (λ _. refl) in
      let q = k.known id v at in
      let o = k.in_line id v at in
      let k' = moved s k id v w (set s.words 0 (either (eqb n part) part n)) s.homes k.ticket k.serving at refl refl refl refl (λ e. e)
      (ap (set s.words 0) stays ∙ (set-get_or s.words 0 0 ∙ k.words))
      (let m = total_same waits_of s.views id v w at refl in let t = k.tickets in omega arith)
      (λ j u ne there wv wu e. ne (sym (k.differ id j v u at there wv wu e)))
      record { one_ticket = o.one_ticket; needs_weight = o.needs_weight; needs_ticket = o.needs_ticket; between = o.between; with_turn = o.with_turn }
      (λ j u ne there. k.in_line j u there)
      (subst (Home kept fixed caller k.log k.fact s.homes) (sym (total_same holds_of s.views id v w at refl)) k.home)
      (known_still k.log k.fact v v.waits v.number v.holds part v.turns q) in (
        w,
        keeps,
        tt,
        k',
        (
          refl,
          knows (stepped s 0 (either (eqb n part) part n) id me.1 w keeps) k' id w (put_here s.views id v w at),
          λ p.
              let one = same_is v.spare_from v.spare_from refl in
              let first = spare_first v.spare_from v.spare_from v.spare p in
              let none_in_log = q.unused v.spare_from (omega arith) in
              entries_begin caller v.spare_from 0 v.seen q.has_seen.0 (ap (entries_of caller v.spare_from) (sym q.has_seen.1) ∙ none_in_log),
        ),
      )

  pub passing : (slots id : ℕ) (me : M) (x : S) → HasTurn me.0 → me.1 ≡ (0, Some x) ∷ [] → kept x ≡ me.0.seen → me.0.fixed ≡ Some (fixed x)
      → Allows Rule slots id me 2 (λ n. (n + 1) % 2 ^ 64) (passes caller (step slots 2 1 0 none) me)
  passing slots id me x turn slot all same_fixed s k sized at small =
      let v = me.0 in
      let w : V = rested v in
      let o = k.in_line id v at in
      let q = k.known id v at in
      let waits : v.waits ≡ 1 = turn.0 in
      let holds : v.holds ≡ 1 = turn.1 in
      let mine = o.with_turn (omega arith) in
      let served : v.number ≡ k.serving = mine.0 in
      let others = nobody_else s k id v at (omega arith) served in
      let sum = sum_set waits_of s.views id v w at in
      let t = k.tickets in
      let one = sum_at holds_of s.views id v at in
      let gone = away k.log k.fact s.homes (total holds_of s.views) (omega arith) k.home in
      let none_after : total holds_of (set s.views id w) ≡ 0 = sum_zero holds_of (set s.views id w) (each_set (λ u. u.holds ≡ 0) s.views id w refl others) in
      let homes' : Homes = put_back s.homes me.1 in
      let back : homes' ≡ some (Some x) ∷ [] = ap (put_back s.homes) slot ∙ ap (λ hs. set hs 0 (some (Some x))) gone in
      let fact : Some (fixed x) ≡ Some k.fact = sym same_fixed ∙ q.is_fixed (let n = o.needs_weight in omega arith) in
      let fact' : fixed x ≡ k.fact = cc in
      let k' = moved s k id v w (set s.words 2 ((get_or s.words 2 0 + 1) % 2 ^ 64)) homes' k.ticket (k.serving + 1) at refl refl refl refl (λ e. e)
      (ap (λ ws. set ws 2 ((get_or ws 2 0 + 1) % 2 ^ 64)) k.words ∙ ap (λ n. length k.log % 2 ^ 64 ∷ k.ticket % 2 ^ 64 ∷ n ∷ []) (omega arith))
      (omega arith)
      (λ j u ne there wv. absurd (omega arith))
      record { one_ticket = omega arith; needs_weight = omega arith; needs_ticket = omega arith; between = λ p. absurd (omega arith); with_turn = λ p. absurd (omega arith) }
      (λ j u ne there. let r = k.in_line j u there in let z = others j u ne there in record {
        one_ticket = r.one_ticket;
        needs_weight = r.needs_weight;
        needs_ticket = r.needs_ticket;
        between = λ p. let b = r.between p in let apart : u.number ≢ v.number = λ e. ne (k.differ j id u v there at p (omega arith) e) in (omega arith, b.1);
        with_turn = λ p. absurd (omega arith);
      })
      (subst (Home kept fixed caller k.log k.fact homes') (sym none_after) (x, back, all ∙ mine.1, fact'))
      (known_still k.log k.fact v 0 v.number 0 v.part v.turns q) in (
        w,
        gives,
        tt,
        k',
        (ap (λ c. (w, rest c)) slot, knows (stepped s 2 ((get_or s.words 2 0 + 1) % 2 ^ 64) id me.1 w gives) k' id w (put_here s.views id v w at)),
      )
