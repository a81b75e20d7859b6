-- The numbers of the actions that run: they rise, and each is found at its place.
use Rattle.std.proofs.Common.{◌≡◌, ℕ, ◌+◌, ◌<◌, Bool, true, false, not, ◌==◌, cond, List, [], ◌∷◌, ◌++◌, map, reverse, filter, length, get_or, remove, find, Some, None, refl, sym, ap, ap₂, ◌∙◌, subst, arith, append-nil, append_assoc}
use Rattle.std.specs.List.{AllByRecursion}
use Rattle.std.proofs.lemmas.List.{map-append, reverse-append, reverse-reverse, length-append}
use Rattle.std.proofs.lemmas.List.Elements.{filter-append}
use Rattle.std.proofs.Math.Seq.{get_or-append_seam}
use borrow.Author.Tests.{eqb-true, eq-eqb, ne_eqb}
use Rattle.strip_value.proofs.Lists.{all_weaker, all_append, filter_all}
use Rattle.strip_meaning.proofs.Behind.{AllBehind, all_middle, all_map, behind_append, filter_skips}
use Rattle.strip_model.specs.History.{Running, stopped}
use Rattle.strip_model.proofs.Courses.{Falls}
use Rattle.strip_engine.specs.declared.queue.Started.{Started}
use Rattle.strip_engine.specs.Queue.{NumbersRise, running_of, no_started, place_from}

-- ---- lists the other way round

-- what each element is, each is in a list that is turned round
pub all_reverse : {A : Type 0} (P : A → Type 0) (xs : List A) → AllByRecursion P xs → AllByRecursion P (reverse xs)
all_reverse P [] all = tt
all_reverse P (x ∷ xs) all = subst (AllByRecursion P) (sym (reverse-append (x ∷ []) xs)) (all_append P (reverse xs) (x ∷ []) (all_reverse P xs all.1) (all.0, tt))

-- what each element of a mapped list is, each image is
pub all_unmap : {A B : Type 0} (P : B → Type 0) (f : A → B) (xs : List A) → AllByRecursion P (map f xs) → AllByRecursion (λ x. P (f x)) xs
all_unmap P f [] all = tt
all_unmap P f (x ∷ xs) all = (all.0, all_unmap P f xs all.1)

-- where each element stands so to each behind it, each stands the other way to each behind it once the list is turned round
behind_reverse : {A : Type 0} (R : A → A → Type 0) (xs : List A) → AllBehind R xs → AllBehind (λ x y. R y x) (reverse xs)
behind_reverse R [] all = tt
behind_reverse R (x ∷ xs) all =
    subst (AllBehind (λ y z. R z y)) (sym (reverse-append (x ∷ []) xs))
    (behind_append (λ y z. R z y) (reverse xs) (x ∷ []) (behind_reverse R xs all.1) (tt, tt)
    (all_weaker (R x) (λ y. AllByRecursion (λ z. R z y) (x ∷ [])) (λ y r. (r, tt)) (reverse xs) (all_reverse (R x) xs all.0)))

-- a list is another turned round where that one is it turned round
pub turned : {A : Type 0} (xs ys : List A) → xs ≡ reverse ys → ys ≡ reverse xs
turned xs ys e = sym (reverse-reverse ys) ∙ ap reverse (sym e)

-- ---- the numbers rise

rises_so : (ss : List Started) → AllBehind (λ j k. j.number < k.number) (map running_of ss) → NumbersRise ss
rises_so [] all = tt
rises_so (s ∷ ss) all = (all_unmap (λ (k : Running). s.number < k.number) running_of ss all.0, rises_so ss all.1)

pub numbers_rise : (jobs : List Running) (ss : List Started) → AllBehind Falls jobs → map running_of ss ≡ reverse jobs → NumbersRise ss
numbers_rise jobs ss falls e = rises_so ss (subst (AllBehind (λ j k. j.number < k.number)) (sym e) (behind_reverse Falls jobs falls))

-- ---- an action is found by its number

-- the list cut at the action of a number: those before have lower numbers, those behind have higher ones
pub record CutAt (ss : List Started) (number place : ℕ) : Type 0 where
  pub front : List Started
  pub one : Started
  pub back : List Started
  pub split : ss ≡ front ++ one ∷ back
  pub at : length front ≡ place
  pub numbered : one.number ≡ number
  pub before : AllByRecursion (λ (s : Started). s.number < number) front
  pub after : AllByRecursion (λ (s : Started). number < s.number) back

-- the same with one more action before all others
cut_behind : (s : Started) (ss : List Started) (number place : ℕ) → AllByRecursion (λ (t : Started). s.number < t.number) ss → CutAt ss number place → CutAt (s ∷ ss) number (place + 1)
cut_behind s ss number place above c =
    let next : s.number < c.one.number = all_middle (λ (t : Started). s.number < t.number) c.front c.one c.back (subst (AllByRecursion (λ (t : Started). s.number < t.number)) c.split above) in
    let same = c.numbered in
    let there = c.at in
    record {
      front = s ∷ c.front;
      one = c.one;
      back = c.back;
      split = ap (λ ts. s ∷ ts) c.split;
      at = omega arith;
      numbered = c.numbered;
      before = (omega arith, c.before);
      after = c.after;
    }

-- the place that was found, counted on from `from`
cut_from : (from : ℕ) (ss : List Started) (number at : ℕ) → NumbersRise ss → place_from from ss number ≡ Some at → (place : ℕ) × (at ≡ from + place) × CutAt ss number place
cut_from from [] number at rise e = absurd (cc)
cut_from from (s ∷ ss) number at rise e = by_test (s.number == number) refl e (cut_from (from + 1) ss number at rise.1)
  where
    by_test : (b : Bool) → (s.number == number) ≡ b → cond b (Some from) (place_from (from + 1) ss number) ≡ Some at
        → (place_from (from + 1) ss number ≡ Some at → (place : ℕ) × (at ≡ from + 1 + place) × CutAt ss number place) → (place : ℕ) × (at ≡ from + place) × CutAt (s ∷ ss) number place
    by_test true t e rest =
        let here : from ≡ at = cc in
        let same = eqb-true s.number number t in (
          0,
          omega arith,
          record {
            front = [];
            one = s;
            back = ss;
            split = refl;
            at = refl;
            numbered = same;
            before = tt;
            after = subst (λ n. AllByRecursion (λ (t : Started). n < t.number) ss) same rise.0;
          },
        )
    by_test false t e rest =
        let there = rest e in
        let counted = there.1 in
        (there.0 + 1, omega arith, cut_behind s ss number there.0 rise.0 there.2)

pub cut_at : (ss : List Started) (number at : ℕ) → NumbersRise ss → place_from 0 ss number ≡ Some at → CutAt ss number at
cut_at ss number at rise e =
    let there = cut_from 0 ss number at rise e in
    let counted = there.1 in
    let same : there.0 ≡ at = omega arith in
    subst (CutAt ss number) same there.2

-- the action at the place is the one that was cut out
pub cut_is : (ss : List Started) (number at : ℕ) → (c : CutAt ss number at) → get_or ss at no_started ≡ c.one
cut_is ss number at c =
    ap (λ ts. get_or ts at no_started) c.split ∙ ap (λ n. get_or (c.front ++ c.one ∷ c.back) n no_started) (sym c.at) ∙ get_or-append_seam c.front c.one c.back no_started

-- ---- a job is found by its number

-- the job has this number
abbrev pub has_number : ℕ → Running → Bool
has_number number j = j.number == number

-- the first that passes stands behind those that fail
find_behind : {A : Type 0} (test : A → Bool) (xs : List A) (y : A) (ys : List A) → AllByRecursion (λ x. test x ≡ false) xs → test y ≡ true → find test (xs ++ y ∷ ys) ≡ Some y
find_behind test [] y ys none e = ap (λ b. cond b (Some y) (find test ys)) e
find_behind test (x ∷ xs) y ys none e = ap (λ b. cond b (Some x) (find test (xs ++ y ∷ ys))) none.0 ∙ find_behind test xs y ys none.1 e

find_fails : {A : Type 0} (test : A → Bool) (xs : List A) → AllByRecursion (λ x. test x ≡ false) xs → find test xs ≡ None
find_fails test [] none = refl
find_fails test (x ∷ xs) none = ap (λ b. cond b (Some x) (find test xs)) none.0 ∙ find_fails test xs none.1

-- a list that was cut at one, mapped and turned round
turned_cut : {A B : Type 0} (f : A → B) (front : List A) (one : A) (back : List A) → reverse (map f (front ++ one ∷ back)) ≡ reverse (map f back) ++ f one ∷ reverse (map f front)
turned_cut f front one back =
    ap reverse (map-append f front (one ∷ back)) ∙ reverse-append (map f front) (map f (one ∷ back)) ∙ ap (λ those. those ++ reverse (map f front)) (reverse-append (f one ∷ []) (map f back))
    ∙ append_assoc (reverse (map f back)) (f one ∷ []) (reverse (map f front))

pub place_found : (jobs : List Running) (ss : List Started) (number at : ℕ) → NumbersRise ss → map running_of ss ≡ reverse jobs → place_from 0 ss number ≡ Some at
    → (find (λ j. j.number == number) jobs ≡ Some (running_of (get_or ss at no_started))) × (at < length ss) × ((get_or ss at no_started).number ≡ number)
place_found jobs ss number at rise e found =
    let c = cut_at ss number at rise found in
    let is = cut_is ss number at c in
    let those : jobs ≡ reverse (map running_of c.back) ++ running_of c.one ∷ reverse (map running_of c.front) =
    turned (map running_of ss) jobs e ∙ ap (λ ts. reverse (map running_of ts)) c.split ∙ turned_cut running_of c.front c.one c.back in
    let higher = all_reverse (λ j. has_number number j ≡ false) (map running_of c.back) (all_map (λ j. has_number number j ≡ false) running_of c.back
    (all_weaker (λ (s : Started). number < s.number) (λ s. (s.number == number) ≡ false) (λ s above. ne_eqb s.number number (λ same. omega arith)) c.back c.after)) in
    let longer = ap length c.split ∙ length-append c.front (c.one ∷ c.back) in
    let there = c.at in
    (ap (find (has_number number)) those ∙ find_behind (has_number number) (reverse (map running_of c.back)) (running_of c.one) (reverse (map running_of c.front)) higher (eq-eqb c.one.number number c.numbered) ∙ ap (λ s. Some (running_of s)) (sym is), omega arith, ap (λ (s : Started). s.number) is ∙ c.numbered)

-- where no place is found none has the number
none_from : (from : ℕ) (ss : List Started) (number : ℕ) → place_from from ss number ≡ None → AllByRecursion (λ (s : Started). (s.number == number) ≡ false) ss
none_from from [] number e = tt
none_from from (s ∷ ss) number e = by_test (s.number == number) refl e (none_from (from + 1) ss number)
  where
    by_test : (b : Bool) → (s.number == number) ≡ b → cond b (Some from) (place_from (from + 1) ss number) ≡ None → (place_from (from + 1) ss number ≡ None → AllByRecursion (λ (t : Started). (t.number == number) ≡ false) ss)
        → AllByRecursion (λ (t : Started). (t.number == number) ≡ false) (s ∷ ss)
    by_test true t e rest = absurd (cc)
    by_test false t e rest = (t, rest e)

pub place_none : (jobs : List Running) (ss : List Started) (number : ℕ) → map running_of ss ≡ reverse jobs → place_from 0 ss number ≡ None → find (λ j. j.number == number) jobs ≡ None
place_none jobs ss number e none =
    ap (find (has_number number)) (turned (map running_of ss) jobs e)
    ∙ find_fails (has_number number) (reverse (map running_of ss)) (all_reverse (λ j. has_number number j ≡ false) (map running_of ss) (all_map (λ j. has_number number j ≡ false) running_of ss (none_from 0 ss number none)))

-- ---- the jobs but for one

-- a filter of a mapped list
filter_mapped : {A B : Type 0} (test : B → Bool) (f : A → B) (xs : List A) → filter test (map f xs) ≡ map f (filter (λ x. test (f x)) xs)
filter_mapped test f [] = refl
filter_mapped test f (x ∷ xs) = by_test (test (f x)) (filter_mapped test f xs)
  where
    by_test : (b : Bool) → filter test (map f xs) ≡ map f (filter (λ y. test (f y)) xs) → cond b (f x ∷ filter test (map f xs)) (filter test (map f xs)) ≡ map f (cond b (x ∷ filter (λ y. test (f y)) xs) (filter (λ y. test (f y)) xs))
    by_test true e = ap (λ ys. f x ∷ ys) e
    by_test false e = e

-- a filter of a list that is turned round
filter_reverse : {A : Type 0} (test : A → Bool) (xs : List A) → filter test (reverse xs) ≡ reverse (filter test xs)
filter_reverse test [] = refl
filter_reverse test (x ∷ xs) = ap (filter test) (reverse-append (x ∷ []) xs) ∙ filter-append test (reverse xs) (x ∷ []) ∙ ap (λ those. those ++ filter test (x ∷ [])) (filter_reverse test xs) ∙ by_test (test x)
  where
    by_test : (b : Bool) → reverse (filter test xs) ++ cond b (x ∷ []) [] ≡ reverse (cond b (x ∷ filter test xs) (filter test xs))
    by_test true = sym (reverse-append (x ∷ []) (filter test xs))
    by_test false = append-nil (reverse (filter test xs))

remove_seam : {A : Type 0} (front : List A) (one : A) (back : List A) → remove (front ++ one ∷ back) (length front) ≡ front ++ back
remove_seam [] one back = refl
remove_seam (x ∷ front) one back = ap (λ rest. x ∷ rest) (remove_seam front one back)

-- what is left of the actions, and what each element was each that is left is
pub removed : (ss : List Started) (number at : ℕ) → (c : CutAt ss number at) → remove ss at ≡ c.front ++ c.back
removed ss number at c = ap₂ remove c.split (sym c.at) ∙ remove_seam c.front c.one c.back

pub without : {A : Type 0} (P : A → Type 0) (front : List A) (one : A) (back : List A) → AllByRecursion P (front ++ one ∷ back) → AllByRecursion P (front ++ back)
without P [] one back all = all.1
without P (x ∷ front) one back all = (all.0, without P front one back all.1)

-- the actions that are left are the jobs that are left
pub stopped_run : (jobs : List Running) (ss : List Started) (number at : ℕ) → NumbersRise ss → map running_of ss ≡ reverse jobs → place_from 0 ss number ≡ Some at → map running_of (remove ss at) ≡ reverse (stopped number jobs)
stopped_run jobs ss number at rise e found =
    let c = cut_at ss number at rise found in
    let others = λ (s : Started). not (s.number == number) in
    let lower = all_weaker (λ (s : Started). s.number < number) (λ s. others s ≡ true) (λ s below. ap not (ne_eqb s.number number (λ same. omega arith))) c.front c.before in
    let higher = all_weaker (λ (s : Started). number < s.number) (λ s. others s ≡ true) (λ s above. ap not (ne_eqb s.number number (λ same. omega arith))) c.back c.after in
    let left : filter others ss ≡ c.front ++ c.back =
    ap (filter others) c.split ∙ filter-append others c.front (c.one ∷ c.back)
    ∙ ap₂ (λ one other. one ++ other) (filter_all others c.front lower) (filter_skips others c.one c.back (ap not (eq-eqb c.one.number number c.numbered)) ∙ filter_all others c.back higher) in
    ap (map running_of) (removed ss number at c ∙ sym left) ∙ sym (filter_mapped (λ j. not (j.number == number)) running_of ss) ∙ ap (filter (λ j. not (j.number == number))) e ∙ filter_reverse (λ j. not (j.number == number)) jobs
