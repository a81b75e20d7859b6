-- The rule of the gate, where an entry is appended to the history.
use Rattle.std.proofs.Common.{◌≡◌, ◌≢◌, ℕ, ◌+◌, ◌%◌, ◌^◌, ◌<◌, ◌≤◌, List, [], ◌∷◌, ◌++◌, length, get_or, set, drop, sym, refl, ap, ◌∙◌, subst, arith, Option, length-append}
use mathlib.Core.Option.{none, some}
use lib.ListN.{get_elem?}
use Rattle.std.specs.Prelude.{All}
use Rattle.std.proofs.lemmas.List.Elements.{All-weaker, All-push, All-cons, All-head, All-tail}
use Rattle.atomic_table.specs.Table.{State, Me, step, keeps, Allows}
use Rattle.strip_gate.specs.declared.view.View.{View}
use Rattle.strip_gate.specs.History.{numbered, entries_of}
use Rattle.strip_gate.specs.Rule.{total, same, in_spare, times_in, weight_of, waits_of, holds_of, names, owns, IsListOf, IsInLine, IsKnown}
use Rattle.strip_gate.specs.Steps.{HasTurn, with_mine, log_of, appended, appends}
use Rattle.strip_gate.proofs.Sums.{put_here, sum_at, sum_two, same_is}
use Rattle.strip_gate.proofs.Lists.{starts_self, starts_trans, starts_more, entries_other, entries_own, none_in, drop_begin}
use Rattle.strip_gate.proofs.Keeps.{total_same, each_set, differ_set, Rule, away, away_again, nobody_else}

module _ {S E F : Type 0} (kept : S → List E) (fixed : S → F) (caller : E → ℕ) where
  abbrev V : Type 0
  V = View E F

  abbrev St : Type 0
  St = State (Option S) V

  abbrev Entries : Type 0
  Entries = List (ℕ × List (ℕ × E))

  -- lists of other callers have all of their entries still
  lists_other : (log : List E) (e : E) (c : ℕ) (hs : Entries) → caller e ≡ c → All (λ h. h.0 ≢ c) hs → All (IsListOf caller log) hs → All (IsListOf caller (log ++ e ∷ [])) hs
  lists_other log e c hs is ne all k d lt = all k d lt ∙ sym (entries_other caller (get_or hs k d).0 0 log e (λ z. ne k d lt (sym z ∙ is)))

  -- a pass that doesn't name the caller knows what it knew
  known_other : (log : List E) (fact : F) (e : E) (c : ℕ) (u : V) → caller e ≡ c → owns c u ≡ 0 → IsKnown caller log fact u → IsKnown caller (log ++ e ∷ []) fact u
  known_other log fact e c u is z q = record {
    has_seen = starts_more log u.seen (e ∷ []) q.has_seen;
    has_heard = q.has_heard;
    is_fixed = q.is_fixed;
    in_log = lists_other log e c u.held is (none_in c u.held (omega arith)) q.in_log;
    in_seen = q.in_seen;
    unused = λ d p. entries_other caller d 0 log e (λ w. let same_number : c ≡ d = sym is ∙ w in let z' : owns d u ≡ 0 = ap (λ n. owns n u) (sym same_number) ∙ z in absurd (omega arith)) ∙ q.unused d p;
    callers_below = q.callers_below;
    spares_below = q.spares_below;
    spares_fit = q.spares_fit;
    without_weight = q.without_weight;
  }

  -- the pass after the entry
  abbrev grown : (log : List E) (e : E) (c : ℕ) (l : List (ℕ × E)) (hs : Entries) (v : V) → V
  grown log e c l hs v = record v { seen = log ++ e ∷ []; held = (c, l ++ (length log, e) ∷ []) ∷ hs }

  known_own : (log : List E) (fact : F) (e : E) (c : ℕ) (l : List (ℕ × E)) (hs : Entries) (v : V) → caller e ≡ c → v.held ≡ (c, l) ∷ hs → owns c v ≤ 1
      → IsKnown caller log fact v → 0 < v.weight → IsKnown caller (log ++ e ∷ []) fact (grown log e c l hs v)
  known_own log fact e c l hs v is held one q heavy =
      let head = same_is c c refl in
      let count : times_in c v.held ≡ same c c + times_in c hs = ap (times_in c) held in
      let others : All (λ h. h.0 ≢ c) hs = none_in c hs (omega arith) in
      let lists : All (IsListOf caller log) ((c, l) ∷ hs) = subst (All (IsListOf caller log)) held q.in_log in
      let small : All (λ h. h.0 < 1048576) ((c, l) ∷ hs) = subst (All (λ h. h.0 < 1048576)) held q.callers_below in
      let own : IsListOf caller (log ++ e ∷ []) (c, l ++ (length log, e) ∷ []) =
      ap (λ xs. xs ++ (length log, e) ∷ []) (All-head (IsListOf caller log) (c, l) hs lists) ∙ (ap (λ n. entries_of caller c log ++ (n, e) ∷ []) (omega arith) ∙ sym (entries_own caller c 0 log e is)) in
      let now : All (IsListOf caller (log ++ e ∷ [])) ((c, l ++ (length log, e) ∷ []) ∷ hs) =
      All-cons (IsListOf caller (log ++ e ∷ [])) (c, l ++ (length log, e) ∷ []) hs own (lists_other log e c hs is others (All-tail (IsListOf caller log) (c, l) hs lists)) in record {
        has_seen = starts_self (log ++ e ∷ []);
        has_heard = starts_trans (log ++ e ∷ []) v.seen v.heard (starts_more log v.seen (e ∷ []) q.has_seen) q.has_heard;
        is_fixed = q.is_fixed;
        in_log = now;
        in_seen = now;
        unused = λ d p. entries_other caller d 0 log e (λ w. let same_number : c ≡ d = sym is ∙ w in
            let z : in_spare c v.spare_from v.spare ≡ in_spare d v.spare_from v.spare = ap (λ n. in_spare n v.spare_from v.spare) same_number in absurd (omega arith)) ∙ q.unused d p;
        callers_below = All-cons (λ h. h.0 < 1048576) (c, l ++ (length log, e) ∷ []) hs (All-head (λ h. h.0 < 1048576) (c, l) hs small) (All-tail (λ h. h.0 < 1048576) (c, l) hs small);
        spares_below = q.spares_below;
        spares_fit = q.spares_fit;
        without_weight = λ z. absurd (omega arith);
      }

  growing : (s : St) (k : Rule kept fixed caller s) (id : ℕ) (v : V) (e : E) (c : ℕ) (l : List (ℕ × E)) (hs : Entries) → get_elem? s.views id ≡ some v → HasTurn v → caller e ≡ c → v.held ≡ (c, l) ∷ hs
      → Rule kept fixed caller record { words = set s.words 0 ((get_or s.words 0 0 + 1) % 2 ^ 64); homes = s.homes; views = set s.views id (grown k.log e c l hs v) }
  growing s k id v e c l hs at turn is held =
      let w : V = grown k.log e c l hs v in
      let o = k.in_line id v at in
      let q = k.known id v at in
      let waits : v.waits ≡ 1 = turn.0 in
      let holds : v.holds ≡ 1 = turn.1 in
      let served = (o.with_turn (omega arith)).0 in
      let others = nobody_else kept fixed caller s k id v at (omega arith) served in
      let log' : List E = k.log ++ e ∷ [] in
      let grew = length-append k.log (e ∷ []) in
      let heavy : 0 < v.weight = let n = o.needs_weight in omega arith in
      let head = same_is c c refl in
      let mine : times_in c v.held ≡ same c c + times_in c hs = ap (times_in c) held in
      let all = k.apart c in
      let mine_once : owns c v ≤ 1 = let n = sum_at (owns c) s.views id v at in omega arith in
      let named_as : (d : ℕ) → total (names d) (set s.views id w) ≡ total (names d) s.views = λ d. total_same (names d) s.views id v w at (ap (times_in d) (sym held)) in record {
        log = log';
        fact = k.fact;
        ticket = k.ticket;
        serving = k.serving;
        words = ap (λ ws. set ws 0 ((get_or ws 0 0 + 1) % 2 ^ 64)) k.words ∙ ap (λ n. n ∷ k.ticket % 2 ^ 64 ∷ k.serving % 2 ^ 64 ∷ []) (omega arith);
        whole = total_same weight_of s.views id v w at refl ∙ k.whole;
        tickets = let n = total_same waits_of s.views id v w at refl in let t = k.tickets in omega arith;
        differ = differ_set s.views id w k.differ (λ j u ne there wv wu num. ne (sym (k.differ id j v u at there wv wu num)));
        in_line = each_set (IsInLine log' k.ticket k.serving) s.views id w
            record { one_ticket = o.one_ticket; needs_weight = o.needs_weight; needs_ticket = o.needs_ticket; between = o.between; with_turn = λ _. (served, refl) }
            (λ j u ne there. let r = k.in_line j u there in let z = others j u ne there in record {
              one_ticket = r.one_ticket;
              needs_weight = r.needs_weight;
              needs_ticket = r.needs_ticket;
              between = r.between;
              with_turn = λ p. absurd (omega arith);
            });
        home = let one = sum_at holds_of s.views id v at in let n = total_same holds_of s.views id v w at refl in
            away_again kept fixed caller log' k.fact s.homes (total holds_of (set s.views id w)) (omega arith) (away kept fixed caller k.log k.fact s.homes (total holds_of s.views) (omega arith) k.home);
        known = each_set (IsKnown caller log' k.fact) s.views id w (known_own k.log k.fact e c l hs v is held mine_once q heavy)
            (λ j u ne there. let two = sum_two (owns c) s.views j id u v ne there at in known_other k.log k.fact e c u is (omega arith) (k.known j u there));
        latest = (id, w, put_here s.views id v w at, heavy, refl);
        apart = λ d. subst (λ (n : ℕ). n ≤ 1) (sym (total_same (owns d) s.views id v w at (ap (λ n. n + in_spare d v.spare_from v.spare) (ap (times_in d) (sym held))))) (k.apart d);
        named = All-push (λ x. 0 < total (names (caller x)) (set s.views id w)) k.log e
            (All-weaker (λ x. 0 < total (names (caller x)) s.views) (λ x. 0 < total (names (caller x)) (set s.views id w)) (λ x p. subst (λ (n : ℕ). 0 < n) (sym (named_as (caller x))) p) k.log k.named)
            (subst (λ (d : ℕ). 0 < total (names d) (set s.views id w)) (sym is) (let n = sum_at (names c) s.views id v at in let m = named_as c in omega arith));
      }

  -- `appended`, at a pass that has seen the whole history
  appended_is : (log log' : List E) (e : E) (c : ℕ) (l : List (ℕ × E)) (hs : Entries) (v : V) → v.seen ≡ log → v.held ≡ (c, l) ∷ hs → log' ≡ v.seen ++ e ∷ [] → grown log e c l hs v ≡ appended log' v
  appended_is log log' e c l hs v seen held is =
      let whole : log ++ e ∷ [] ≡ log' = sym (is ∙ ap (λ xs. xs ++ e ∷ []) seen) in
      let added : numbered (length v.seen) (drop (length v.seen) log') ≡ (length log, e) ∷ [] =
      ap (λ xs. numbered (length v.seen) (drop (length v.seen) xs)) is ∙ (ap (numbered (length v.seen)) (drop_begin v.seen (e ∷ [])) ∙ ap (λ xs. (length xs, e) ∷ []) seen) in
      let lists : (c, l ++ (length log, e) ∷ []) ∷ hs ≡ with_mine (numbered (length v.seen) (drop (length v.seen) log')) v.held =
      sym (ap (λ (z : List (ℕ × E) × Entries). with_mine z.0 z.1) (λ i. (added i, held i))) in
      ap (λ (z : List E × Entries). record v { seen = z.0; held = z.1 }) (λ i. (whole i, lists i))

  pub appending : (slots id : ℕ) (me : Me (Option S) V) (e : E) (c : ℕ) (l : List (ℕ × E)) (hs : Entries) → HasTurn me.0 → log_of kept me.1 ≡ me.0.seen ++ e ∷ [] → caller e ≡ c → me.0.held ≡ (c, l) ∷ hs
      → Allows (Rule kept fixed caller) slots id me 0 (λ n. (n + 1) % 2 ^ 64) (appends kept (step slots 0 1 0 none) me)
  appending slots id me e c l hs turn log is held s k sized at small =
      let seen = ((k.in_line id me.0 at).with_turn (let h = turn.1 in omega arith)).1 in (
        grown k.log e c l hs me.0,
        keeps,
        tt,
        growing s k id me.0 e c l hs at turn is held,
        ap (λ (w : V). (w, me.1)) (appended_is k.log (log_of kept me.1) e c l hs me.0 seen held log),
      )
