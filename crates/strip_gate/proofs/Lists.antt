-- Entries of callers in a history, beginnings of a history, and lists by caller.
use Rattle.std.proofs.Common.{◌≡◌, ◌≢◌, ℕ, suc, ◌+◌, ◌-◌, ◌<◌, ◌≤◌, ◌⊎◌, List, [], ◌∷◌, ◌++◌, length, drop, sym, refl, ap, ◌∙◌, subst, ⊎_elim, arith, Bool, true, false, cond, eqb, ltb, eq-eqb, ne_eqb, append_assoc, append-nil, length-append}
use mathlib.Core.Logic.{dite}
use native.Mathlib.Decide.{ℕ_discrete, dec_le}
use Rattle.std.proofs.lemmas.Bool.Decides.{nat_tests}
use Rattle.std.proofs.lemmas.List.Elements.{All-nil, All-cons}
use Rattle.std.specs.Prelude.{All, Contains, Result, Ok, Err, IfOk}
use Rattle.strip_gate.specs.History.{StartsWith, StandsAt, longer, shorter, entries_from, entries_of}
use Rattle.strip_gate.specs.Rule.{same, below, in_spare, times_in, IsListOf}
use Rattle.strip_gate.proofs.Sums.{same_is, same_not, below_is, below_not}

-- n numbers are the first a of them and the others
pub spare_cut : (c from n a : ℕ) → a ≤ n → in_spare c from n ≡ in_spare c from a + in_spare c (from + a) (n - a)
spare_cut c from n a le =
    let e : from + a + (n - a) ≡ from + n = omega arith in
    dite (dec_le (suc c) from)
    (λ h. let p = below_is c from h in let q = below_is c (from + a) (omega arith) in let r = below_is c (from + n) (omega arith) in let r' = ap (below c) e in omega arith)
    (λ h. let p = below_not c from (omega arith) in let r' = ap (below c) e in
    dite (dec_le (suc c) (from + a))
    (λ k. let q = below_is c (from + a) k in let r = below_is c (from + n) (omega arith) in omega arith)
    (λ k. let q = below_not c (from + a) (omega arith) in omega arith))

pub spare_one : (c from : ℕ) → in_spare c from 1 ≡ same c from
spare_one c from = dite (ℕ_discrete from c)
    (λ e. let p = below_not c from (omega arith) in let q = below_is c (from + 1) (omega arith) in let r = same_is c from e in omega arith)
    (λ ne. let r = same_not c from ne in dite (dec_le (suc c) from)
    (λ h. let p = below_is c from h in let q = below_is c (from + 1) (omega arith) in omega arith)
    (λ h. let p = below_not c from (omega arith) in let q = below_not c (from + 1) (omega arith) in omega arith))

pub spare_le : (c from n : ℕ) → in_spare c from n ≤ 1
spare_le c from n = dite (dec_le (suc c) (from + n))
    (λ h. let p = below_is c (from + n) h in omega arith)
    (λ h. let p = below_not c (from + n) (omega arith) in omega arith)

-- the least of the numbers, and those after it
pub spare_first : (c from n : ℕ) → 0 < n → in_spare c from n ≡ same c from + in_spare c (from + 1) (n - 1)
spare_first c from n h = let p = spare_cut c from n 1 (omega arith) in let q = spare_one c from in omega arith

module _ {E : Type 0} where
  pub starts_self : (l : List E) → StartsWith l l
  starts_self l = ([], sym (append-nil l))

  pub starts_trans : (a b c : List E) → StartsWith a b → StartsWith b c → StartsWith a c
  starts_trans a b c ab bc = (bc.0 ++ ab.0, ab.1 ∙ (ap (λ l. l ++ ab.0) bc.1 ∙ append_assoc c bc.0 ab.0))

  pub starts_more : (a b m : List E) → StartsWith a b → StartsWith (a ++ m) b
  starts_more a b m ab = (ab.0 ++ m, ap (λ l. l ++ m) ab.1 ∙ append_assoc b ab.0 m)

  -- an entry keeps its place while the history grows
  pub stands_more : (a b : List E) (n : ℕ) (e : E) → StartsWith a b → StandsAt b n e → StandsAt a n e
  stands_more a b n e ab at = (at.0, starts_trans a b (at.0 ++ e ∷ []) ab at.1, at.2)

  pub stands_ok : {X : Type 0} (a b : List E) (r : Result ℕ X) (e : E) → StartsWith a b → IfOk r (λ n. StandsAt b n e) → IfOk r (λ n. StandsAt a n e)
  stands_ok a b (Ok n) e ab at = stands_more a b n e ab at
  stands_ok a b (Err x) e ab at = at

  pub starts_length : (a b : List E) → StartsWith a b → length b ≤ length a
  starts_length a b ab = let e = ap length ab.1 in omega (arith, length-append b ab.0)

  -- a beginning as long as the whole is the whole
  pub starts_whole : (a b : List E) → StartsWith a b → length a ≤ length b → b ≡ a
  starts_whole a b (rest, e) le = let n = ap length e in let none = no_rest rest (omega (arith, length-append b rest)) in sym (e ∙ (ap (λ r. b ++ r) none ∙ append-nil b))
    where
      no_rest : (r : List E) → length r ≡ 0 → r ≡ []
      no_rest [] z = refl
      no_rest (x ∷ xs) z = absurd (omega arith)

  -- of two beginnings of one list the shorter begins the longer
  pub starts_both : (a b c : List E) → StartsWith a b → StartsWith a c → length c ≤ length b → StartsWith b c
  starts_both a b [] ab ac le = (b, refl)
  starts_both a [] (y ∷ c) ab ac le = absurd (omega arith)
  starts_both [] (x ∷ b) (y ∷ c) ab ac le = absurd (let e = ap length ab.1 in omega (arith, length-append (x ∷ b) ab.0))
  starts_both (z ∷ a) (x ∷ b) (y ∷ c) ab ac le =
      let p = parts z x a (b ++ ab.0) ab.1 in
      let q = parts z y a (c ++ ac.0) ac.1 in
      let r = starts_both a b c (ab.0, p.1) (ac.0, q.1) (omega arith) in
      (r.0, λ i. (sym p.0 ∙ q.0) i ∷ r.1 i)
    where
      parts : (x y : E) (xs ys : List E) → x ∷ xs ≡ y ∷ ys → (x ≡ y) × (xs ≡ ys)
      parts x y xs ys e = (cc, cc)

  pub longer_is : (b c : List E) → length b < length c → longer b c ≡ c
  longer_is b c h = let e : ltb (length b) (length c) ≡ true = grind (arith, nat_tests) in ap (λ t. cond t c b) e

  pub longer_not : (b c : List E) → length c ≤ length b → longer b c ≡ b
  longer_not b c h = let e : ltb (length b) (length c) ≡ false = grind (arith, nat_tests) in ap (λ t. cond t c b) e

  pub shorter_is : (b c : List E) → length b < length c → shorter b c ≡ b
  shorter_is b c h = let e : ltb (length b) (length c) ≡ true = grind (arith, nat_tests) in ap (λ t. cond t b c) e

  pub shorter_not : (b c : List E) → length c ≤ length b → shorter b c ≡ c
  shorter_not b c h = let e : ltb (length b) (length c) ≡ false = grind (arith, nat_tests) in ap (λ t. cond t b c) e

  -- what two passes have seen together, of one history
  pub longer_starts : (a b c : List E) → StartsWith a b → StartsWith a c → StartsWith a (longer b c)
  longer_starts a b c ab ac = dite (dec_le (suc (length b)) (length c))
      (λ h. subst (StartsWith a) (sym (longer_is b c h)) ac)
      (λ h. subst (StartsWith a) (sym (longer_not b c (omega arith))) ab)

  pub shorter_starts : (a b c : List E) → StartsWith a b → StartsWith a c → StartsWith (longer b c) (shorter b c)
  shorter_starts a b c ab ac = dite (dec_le (suc (length b)) (length c))
      (λ h. subst (λ (z : List E × List E). StartsWith z.0 z.1) (λ i. (sym (longer_is b c h) i, sym (shorter_is b c h) i)) (starts_both a c b ac ab (omega arith)))
      (λ h. let le : length c ≤ length b = omega arith in subst (λ (z : List E × List E). StartsWith z.0 z.1) (λ i. (sym (longer_not b c le) i, sym (shorter_not b c le) i)) (starts_both a b c ab ac le))

  pub longer_whole : (a b c : List E) → StartsWith a b → StartsWith a c → (b ≡ a) ⊎ (c ≡ a) → longer b c ≡ a
  longer_whole a b c ab ac is =
      let m = starts_length a b ab in
      let n = starts_length a c ac in
      dite (dec_le (suc (length b)) (length c))
      (λ h. longer_is b c h ∙ ⊎_elim (λ (e : b ≡ a). let z = ap length e in absurd (omega arith)) (λ (e : c ≡ a). e) is)
      (λ h. longer_not b c (omega arith) ∙ ⊎_elim (λ (e : b ≡ a). e) (λ (e : c ≡ a). let z = ap length e in starts_whole a b ab (omega arith)) is)

  -- it begins with both
  pub longer_both : (b c : List E) → StartsWith (longer b c) (shorter b c) → StartsWith (longer b c) b × StartsWith (longer b c) c
  longer_both b c h = dite (dec_le (suc (length b)) (length c))
      (λ k. (subst (StartsWith (longer b c)) (shorter_is b c k) h, subst (λ l. StartsWith l c) (sym (longer_is b c k)) (starts_self c)))
      (λ k. let le : length c ≤ length b = omega arith in (subst (λ l. StartsWith l b) (sym (longer_not b c le)) (starts_self b), subst (StartsWith (longer b c)) (shorter_not b c le) h))

  module _ (caller : E → ℕ) where
    pub entries_other : (c at : ℕ) (l : List E) (e : E) → caller e ≢ c → entries_from caller c at (l ++ e ∷ []) ≡ entries_from caller c at l
    entries_other c at [] e ne = ap (λ b. cond b ((at, e) ∷ []) []) (ne_eqb (caller e) c ne)
    entries_other c at (x ∷ xs) e ne = ap (λ r. cond (eqb (caller x) c) ((at, x) ∷ r) r) (entries_other c (at + 1) xs e ne)

    pub entries_own : (c at : ℕ) (l : List E) (e : E) → caller e ≡ c → entries_from caller c at (l ++ e ∷ []) ≡ entries_from caller c at l ++ (at + length l, e) ∷ []
    entries_own c at [] e is = ap (λ b. cond b ((at, e) ∷ []) []) (eq-eqb (caller e) c is) ∙ ap (λ n. (n, e) ∷ []) (omega arith)
    entries_own c at (x ∷ xs) e is =
        let n : at + 1 + length xs ≡ at + length (x ∷ xs) = omega arith in
        ap (λ r. cond (eqb (caller x) c) ((at, x) ∷ r) r) (entries_own c (at + 1) xs e is ∙ ap (λ m. entries_from caller c (at + 1) xs ++ (m, e) ∷ []) n)
        ∙ pushed (eqb (caller x) c) (entries_from caller c (at + 1) xs) (at, x) (at + length (x ∷ xs), e)
      where
        pushed : (b : Bool) (r : List (ℕ × E)) (y z : ℕ × E) → cond b (y ∷ (r ++ z ∷ [])) (r ++ z ∷ []) ≡ cond b (y ∷ r) r ++ z ∷ []
        pushed true r y z = refl
        pushed false r y z = refl

    entries_append : (c at : ℕ) (l m : List E) → entries_from caller c at (l ++ m) ≡ entries_from caller c at l ++ entries_from caller c (at + length l) m
    entries_append c at [] m = ap (λ n. entries_from caller c n m) (omega arith)
    entries_append c at (x ∷ xs) m =
        let n : at + 1 + length xs ≡ at + length (x ∷ xs) = omega arith in
        ap (λ r. cond (eqb (caller x) c) ((at, x) ∷ r) r) (entries_append c (at + 1) xs m ∙ ap (λ i. entries_from caller c (at + 1) xs ++ entries_from caller c i m) n)
        ∙ pushed (eqb (caller x) c) (entries_from caller c (at + 1) xs) (at, x) (entries_from caller c (at + length (x ∷ xs)) m)
      where
        pushed : (b : Bool) (r : List (ℕ × E)) (y : ℕ × E) (z : List (ℕ × E)) → cond b (y ∷ (r ++ z)) (r ++ z) ≡ cond b (y ∷ r) r ++ z
        pushed true r y z = refl
        pushed false r y z = refl

    entries_starts : (c : ℕ) (l m : List E) → StartsWith l m → StartsWith (entries_of caller c l) (entries_of caller c m)
    entries_starts c l m lm = (entries_from caller c (0 + length m) lm.0, ap (entries_of caller c) lm.1 ∙ entries_append c 0 m lm.0)

    -- no entry in the whole, so none in a beginning
    pub entries_begin : (c at : ℕ) (l m : List E) → entries_from caller c at (l ++ m) ≡ [] → entries_from caller c at l ≡ []
    entries_begin c at [] m e = refl
    entries_begin c at (x ∷ xs) m e = from (eqb (caller x) c) (entries_from caller c (at + 1) (xs ++ m)) (entries_from caller c (at + 1) xs) (at, x) (entries_begin c (at + 1) xs m) e
      where
        from : (b : Bool) (whole r : List (ℕ × E)) (y : ℕ × E) → (whole ≡ [] → r ≡ []) → cond b (y ∷ whole) whole ≡ [] → cond b (y ∷ r) r ≡ []
        from true whole r y f h = absurd (cc)
        from false whole r y f h = f h

    pub entries_none : (c at : ℕ) (l : List E) → All (λ e. caller e ≢ c) l → entries_from caller c at l ≡ []
    entries_none c at [] h = refl
    entries_none c at (x ∷ xs) h =
        ap (λ b. cond b ((at, x) ∷ entries_from caller c (at + 1) xs) (entries_from caller c (at + 1) xs)) (ne_eqb (caller x) c (h 0 x (omega arith)))
        ∙ entries_none c (at + 1) xs (λ k d lt. h (suc k) d (omega arith))

  -- a caller that isn't counted is none of these
  pub none_in : (c : ℕ) (hs : List (ℕ × List (ℕ × E))) → times_in c hs ≡ 0 → All (λ h. h.0 ≢ c) hs
  none_in c [] z = All-nil (λ h. h.0 ≢ c)
  none_in c (h ∷ hs) z = All-cons (λ x. x.0 ≢ c) h hs (λ e. let one = same_is c h.0 e in absurd (omega arith)) (none_in c hs (omega arith))

  pub times_append : (c : ℕ) (hs gs : List (ℕ × List (ℕ × E))) → times_in c (hs ++ gs) ≡ times_in c hs + times_in c gs
  times_append c [] gs = omega arith
  times_append c (h ∷ hs) gs = let r = times_append c hs gs in omega arith

  pub some_in : (c : ℕ) (hs : List (ℕ × List (ℕ × E))) → 0 < times_in c hs → (h : ℕ × List (ℕ × E)) × Contains hs h × (h.0 ≡ c)
  some_in c [] p = absurd (omega arith)
  some_in c (h ∷ hs) p = dite (ℕ_discrete h.0 c)
      (λ e. (h, (0, omega arith, refl), e))
      (λ ne. let z = same_not c h.0 ne in let r = some_in c hs (omega arith) in (r.0, (suc r.1.0, (let lt = r.1.1 in omega arith), r.1.2), r.2))

  pub drop_begin : (l m : List E) → drop (length l) (l ++ m) ≡ m
  drop_begin [] m = refl
  drop_begin (x ∷ xs) m = drop_begin xs m

module _ {E : Type 0} (caller : E → ℕ) where
  -- what are all entries in a shorter and in a longer history are all in one between
  pub lists_between : (log mid low : List E) (h : ℕ × List (ℕ × E)) → StartsWith log mid → StartsWith mid low → IsListOf caller log h → IsListOf caller low h → IsListOf caller mid h
  lists_between log mid low h lm ml in_log in_low =
      let a = starts_length (entries_of caller h.0 mid) (entries_of caller h.0 low) (entries_starts caller h.0 mid low ml) in
      let b = ap length in_log in
      let d = ap length in_low in
      in_log ∙ sym (starts_whole (entries_of caller h.0 log) (entries_of caller h.0 mid) (entries_starts caller h.0 log mid lm) (omega arith))
