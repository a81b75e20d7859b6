-- The rule of the gate, where a pass is cut in two and where two passes become one.
use Rattle.std.proofs.Common.{◌≡◌, ℕ, ◌+◌, ◌<◌, ◌≤◌, ◌⊎◌, inl, inr, List, [], ◌∷◌, ◌++◌, get_or, set, sym, refl, ap, ◌∙◌, subst, ⊎_elim, arith}
use mathlib.Core.Logic.{dite}
use mathlib.Core.Option.{some}
use native.Mathlib.Decide.{ℕ_discrete}
use lib.ListN.{get_elem?}
use Rattle.std.proofs.lemmas.List.Elements.{All-weaker, All-nil, All-cons, All-append}
use Rattle.atomic_table.specs.Table.{Splits, Joins}
use Rattle.atomic_table.proofs.Lists.{at_snoc, at_longer, set_else}
use Rattle.strip_gate.specs.declared.view.View.{View}
use Rattle.strip_gate.specs.History.{entries_of}
use Rattle.strip_gate.specs.Rule.{total, same, in_spare, weight_of, waits_of, holds_of, names, owns, IsListOf, IsInLine, IsKnown, Differ, Home}
use Rattle.strip_gate.specs.Steps.{IsIdle, lessened, given, joined, spent}
use Rattle.strip_gate.proofs.Sums.{put_here, one_value, sum_set, sum_push, same_is}
use Rattle.strip_gate.proofs.Lists.{entries_begin, spare_cut, spare_first, longer_starts, shorter_starts, longer_whole, longer_both, lists_between, times_append}
use Rattle.strip_gate.proofs.Keeps.{each_set, differ_set, Rule}

module _ {S E F : Type 0} (kept : S → List E) (fixed : S → F) (caller : E → ℕ) where
  abbrev V : Type 0
  V = View E F

  -- a pass with no ticket
  idle_line : (log : List E) (ticket serving : ℕ) (v : V) → v.waits ≡ 0 → v.holds ≡ 0 → IsInLine log ticket serving v
  idle_line log ticket serving v w h = record {
    one_ticket = omega arith;
    needs_weight = omega arith;
    needs_ticket = omega arith;
    between = λ p. absurd (omega arith);
    with_turn = λ p. absurd (omega arith);
  }

  -- what is left to a pass, and what is given away
  module _ (v : V) (some_part : 0 < v.part) (part : v.part ≤ v.spare) (fits : v.spare < v.weight) where
    abbrev L : V
    L = lessened v

    abbrev R : V
    R = given v

    spares_cut : (c : ℕ) → in_spare c v.spare_from v.spare ≡ same c v.spare_from + in_spare c R.spare_from R.spare + in_spare c L.spare_from L.spare
    spares_cut c = let a = spare_cut c v.spare_from v.spare v.part part in let b = spare_first c v.spare_from v.part some_part in omega arith

    known_left : (log : List E) (fact : F) → IsKnown caller log fact v → IsKnown caller log fact L
    known_left log fact q = record {
      has_seen = q.has_seen;
      has_heard = q.has_heard;
      is_fixed = λ p. q.is_fixed (omega arith);
      in_log = q.in_log;
      in_seen = q.in_seen;
      unused = λ c p. let e = spares_cut c in q.unused c (omega arith);
      callers_below = q.callers_below;
      spares_below = let b = q.spares_below in omega arith;
      spares_fit = λ p. omega arith;
      without_weight = λ z. absurd (omega arith);
    }

    known_right : (log : List E) (fact : F) → IsKnown caller log fact v → IsKnown caller log fact R
    known_right log fact q =
        let one = same_is v.spare_from v.spare_from refl in
        let e = spares_cut v.spare_from in
        let none_yet = q.unused v.spare_from (omega arith) in
        let none_seen = entries_begin caller v.spare_from 0 v.seen q.has_seen.0 (ap (entries_of caller v.spare_from) (sym q.has_seen.1) ∙ none_yet) in
        let b = q.spares_below in record {
          has_seen = q.has_seen;
          has_heard = (v.seen, refl);
          is_fixed = λ p. q.is_fixed (omega arith);
          in_log = All-cons (IsListOf caller log) (v.spare_from, []) [] (sym none_yet) (All-nil (IsListOf caller log));
          in_seen = All-cons (IsListOf caller v.seen) (v.spare_from, []) [] (sym none_seen) (All-nil (IsListOf caller v.seen));
          unused = λ c p. let n = spares_cut c in q.unused c (omega arith);
          callers_below = All-cons (λ h. h.0 < 1048576) (v.spare_from, []) [] (omega arith) (All-nil (λ h. h.0 < 1048576));
          spares_below = omega arith;
          spares_fit = λ p. omega arith;
          without_weight = λ z. absurd (omega arith);
        }

    pub splitting : (id : ℕ) → v.waits ≡ 0 → v.holds ≡ 0 → Splits (Rule kept fixed caller) id v L R
    splitting id waits holds s k at =
        let left : List V = set s.views id L in
        let views : List V = left ++ R ∷ [] in
        let after : (f : V → ℕ) → total f views + f v ≡ total f s.views + f L + f R = λ f. let a = sum_set f s.views id v L at in let b = sum_push f left R in omega arith in
        let last = k.latest in
        let each : (P : V → Type 0) → P L → P R → ((j : ℕ) (u : V) → get_elem? s.views j ≡ some u → P u) → (j : ℕ) (u : V) → get_elem? views j ≡ some u → P u =
        λ P l r others j u there. ⊎_elim (each_set P s.views id L l (λ i z _. others i z) j u) (λ (e : R ≡ u). subst P e r) (at_snoc left R u j there) in
        let apart : Differ left = differ_set s.views id L k.differ (λ j u ne there p. absurd (omega arith)) in record {
          log = k.log;
          fact = k.fact;
          ticket = k.ticket;
          serving = k.serving;
          words = k.words;
          whole = let n = after weight_of in let w = k.whole in omega arith;
          tickets = let n = after waits_of in let t = k.tickets in omega arith;
          differ = λ i j a b ai bj wa wb e. ⊎_elim
              (λ (x : get_elem? left i ≡ some a). ⊎_elim (λ (y : get_elem? left j ≡ some b). apart i j a b x y wa wb e) (λ (y : R ≡ b). let z : 0 ≡ b.waits = ap (λ (u : V). u.waits) y in absurd (omega arith)) (at_snoc left R b j bj))
              (λ (x : R ≡ a). let z : 0 ≡ a.waits = ap (λ (u : V). u.waits) x in absurd (omega arith))
              (at_snoc left R a i ai);
          in_line = each (IsInLine k.log k.ticket k.serving) (idle_line k.log k.ticket k.serving L waits holds) (idle_line k.log k.ticket k.serving R refl refl) k.in_line;
          home = let n = after holds_of in let same_count : total holds_of views ≡ total holds_of s.views = omega arith in subst (Home kept fixed caller k.log k.fact s.homes) (sym same_count) k.home;
          known = each (IsKnown caller k.log k.fact) (known_left k.log k.fact (k.known id v at)) (known_right k.log k.fact (k.known id v at)) k.known;
          latest = dite (ℕ_discrete last.0 id)
              (λ e. let is : last.1 ≡ v = one_value s.views last.0 id last.1 v last.2 at e in
              (id, L, at_longer left (R ∷ []) id L (put_here s.views id v L at), (omega arith), ap (λ (z : V). z.seen) (sym is) ∙ last.4))
              (λ ne. (last.0, last.1, at_longer left (R ∷ []) last.0 last.1 (set_else s.views id last.0 L ne ∙ last.2), last.3, last.4));
          apart = λ c. let n = after (owns c) in let o = k.apart c in let cut = spares_cut c in omega arith;
          named = All-weaker (λ e. 0 < total (names (caller e)) s.views) (λ e. 0 < total (names (caller e)) views) (λ e p. let n = after (names (caller e)) in omega arith) k.log k.named;
        }

  pub joining : (id : ℕ) (v : V) (other : ℕ) (w : V) → IsIdle v → IsIdle w → Joins (Rule kept fixed caller) id v other w (joined v w) spent
  joining id v other w iv iw s k at ne there =
      let b : V = joined v w in
      let z : V = spent in
      let mid : List V = set s.views id b in
      let views : List V = set mid other z in
      let was : get_elem? s.views other ≡ some w = sym (set_else s.views id other b ne) ∙ there in
      let after : (f : V → ℕ) → total f views + f v + f w ≡ total f s.views + f b + f z = λ f. let x = sum_set f s.views id v b at in let y = sum_set f mid other w z there in omega arith in
      let last = k.latest in
      let p = k.known id v at in
      let q = k.known other w was in
      let wv : v.waits ≡ 0 = iv.0 in let hv : v.holds ≡ 0 = iv.1 in let pv : 0 < v.weight = iv.2 in
      let ww : w.waits ≡ 0 = iw.0 in let hw : w.holds ≡ 0 = iw.1 in let pw : 0 < w.weight = iw.2 in
      let each : (P : V → Type 0) → P b → P z → ((j : ℕ) (u : V) → get_elem? s.views j ≡ some u → P u) → (j : ℕ) (u : V) → get_elem? views j ≡ some u → P u =
      λ P x y others. each_set P mid other z y (λ j u _. each_set P s.views id b x (λ i a _. others i a) j u) in
      let seen = longer_starts k.log v.seen w.seen p.has_seen q.has_seen in
      let short = shorter_starts k.log v.seen w.seen p.has_seen q.has_seen in
      let known : IsKnown caller k.log k.fact b = record {
        has_seen = seen;
        has_heard = short;
        is_fixed = λ _. p.is_fixed pv;
        in_log = All-append (IsListOf caller k.log) v.held w.held p.in_log q.in_log;
        in_seen = All-append (IsListOf caller b.seen) v.held w.held
            (λ i d lt. lists_between caller k.log b.seen v.seen (get_or v.held i d) seen (longer_both v.seen w.seen short).0 (p.in_log i d lt) (p.in_seen i d lt))
            (λ i d lt. lists_between caller k.log b.seen w.seen (get_or w.held i d) seen (longer_both v.seen w.seen short).1 (q.in_log i d lt) (q.in_seen i d lt));
        unused = p.unused;
        callers_below = All-append (λ h. h.0 < 1048576) v.held w.held p.callers_below q.callers_below;
        spares_below = p.spares_below;
        spares_fit = λ _. let f = p.spares_fit pv in omega arith;
        without_weight = λ e. absurd (omega arith);
      } in
      let known_spent : IsKnown caller k.log k.fact z = record {
        has_seen = (k.log, refl);
        has_heard = ([], refl);
        is_fixed = λ e. absurd (omega arith);
        in_log = All-nil (IsListOf caller k.log);
        in_seen = All-nil (IsListOf caller []);
        unused = λ c e. absurd (omega arith);
        callers_below = All-nil (λ h. h.0 < 1048576);
        spares_below = omega arith;
        spares_fit = λ e. absurd (omega arith);
        without_weight = λ _. refl;
      } in
      let apart : Differ views = differ_set mid other z (differ_set s.views id b k.differ (λ j u n a x. absurd (omega arith))) (λ j u n a x. absurd (omega arith)) in record {
        log = k.log;
        fact = k.fact;
        ticket = k.ticket;
        serving = k.serving;
        words = k.words;
        whole = let n = after weight_of in let t = k.whole in omega arith;
        tickets = let n = after waits_of in let t = k.tickets in omega arith;
        differ = apart;
        in_line = each (IsInLine k.log k.ticket k.serving) (idle_line k.log k.ticket k.serving b wv hv) (idle_line k.log k.ticket k.serving z refl refl) k.in_line;
        home = let n = after holds_of in let same_count : total holds_of views ≡ total holds_of s.views = omega arith in subst (Home kept fixed caller k.log k.fact s.homes) (sym same_count) k.home;
        known = each (IsKnown caller k.log k.fact) known known_spent k.known;
        latest = let here : get_elem? views id ≡ some b = set_else mid other id z (λ e. ne (sym e)) ∙ put_here s.views id v b at in
            let all : (v.seen ≡ k.log) ⊎ (w.seen ≡ k.log) → b.seen ≡ k.log = longer_whole k.log v.seen w.seen p.has_seen q.has_seen in
            dite (ℕ_discrete last.0 id)
            (λ e. let is : last.1 ≡ v = one_value s.views last.0 id last.1 v last.2 at e in (id, b, here, (omega arith), all (inl (ap (λ (u : V). u.seen) (sym is) ∙ last.4))))
            (λ n. dite (ℕ_discrete last.0 other)
            (λ e. let is : last.1 ≡ w = one_value s.views last.0 other last.1 w last.2 was e in (id, b, here, (omega arith), all (inr (ap (λ (u : V). u.seen) (sym is) ∙ last.4))))
            (λ m. (last.0, last.1, set_else mid other last.0 z m ∙ (set_else s.views id last.0 b n ∙ last.2), last.3, last.4)));
        apart = λ c. let n = after (owns c) in let o = k.apart c in let t = times_append c v.held w.held in omega arith;
        named = All-weaker (λ e. 0 < total (names (caller e)) s.views) (λ e. 0 < total (names (caller e)) views)
            (λ e r. let n = after (names (caller e)) in let t = times_append (caller e) v.held w.held in omega arith) k.log k.named;
      }
