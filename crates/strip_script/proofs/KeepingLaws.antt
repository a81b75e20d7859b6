-- The jobs that a script keeps stay jobs of the history, whatever is added to it.
use Rattle.std.proofs.Common.{◌≡◌, ◌≢◌, ℕ, zero, suc, ◌+◌, ◌≤◌, ◌<◌, Bool, true, false, not, ◌||◌, ◌==◌, cond, find, get_or, List, [], ◌∷◌, ◌++◌, length, Option, Some, None, IfSome, refl, sym, ap, ◌∙◌, subst, arith}
use Rattle.std.specs.List.{AllByRecursion, remove}
use Rattle.std.proofs.lemmas.Bool.{eqb-true}
use Rattle.strip_value.specs.declared.actions.ActionId.{ActionId}
use Rattle.strip_value.proofs.KeyedLaws.{find_all}
use Rattle.strip_value.proofs.Lists.{all_append, all_weaker}
use Rattle.strip_meaning.specs.Actions.{rows_of}
use Rattle.strip_meaning.specs.Contents.{contents, no_function}
use Rattle.strip_meaning.specs.Course.{IsPlainRule}
use Rattle.strip_model.specs.declared.entries.Entry.{Entry}
use Rattle.strip_model.specs.declared.entries.Entry.TheVariants.{Start, Finish}
use Rattle.strip_model.specs.History.{Running, job_count, jobs, stopped}
use Rattle.strip_model.specs.Derived.{Fixed, happened}
use Rattle.strip_model.specs.Legal.{Legal, job_of}
use Rattle.strip_model.specs.Says.{Task}
use Rattle.strip_model.proofs.Courses.{Runs, jobs_run}
use Rattle.strip_model.proofs.HistoryLaws.{itself}
use Rattle.strip_model.proofs.JobsStay.{IsThere, there_keeps}
use Rattle.strip_script.specs.Keeping.{IsJob, Keeping, has_job, job_place, no_task}

-- ---- plain facts

not_both : (b : Bool) → b ≡ true → b ≡ false → ⊥
not_both b one other = cc

none_some : {A : Type 0} (x : A) → None ≡ Some x → ⊥
none_some x e = cc

same_some : {A : Type 0} (x y : A) → Some x ≡ Some y → x ≡ y
same_some x y e = cc

le_next : (n m : ℕ) → n ≤ m → n ≤ m + 1
le_next n m le = omega arith

next_le : (n k m : ℕ) → n ≡ k → k ≡ m + 1 → n ≤ m + 1
next_le n k m same next = omega arith

above : (n k m : ℕ) → n ≡ m + 1 → k ≤ m → n ≡ k → ⊥
above n k m next le same = absurd (omega arith)

either : (b c d : Bool) → (b || c) ≡ true → (c ≡ true → d ≡ true) → (b || d) ≡ true
either true c d e more = refl
either false c d e more = more e

-- ---- one more, one less

any_left : (kept more : List Task) (number : ℕ) → has_job kept number ≡ true → has_job (kept ++ more) number ≡ true
any_left [] more number e = absurd (not_both false e refl)
any_left (t ∷ kept) more number e = either (t.number == number) (has_job kept number) (has_job (kept ++ more) number) e (any_left kept more number)

any_last : (kept : List Task) (job : Task) (number : ℕ) → (job.number == number) ≡ true → has_job (kept ++ job ∷ []) number ≡ true
any_last [] job number e = ap (λ b. b || false) e
any_last (t ∷ kept) job number e = skip (t.number == number) (any_last kept job number e)
  where
    skip : (b : Bool) → has_job (kept ++ job ∷ []) number ≡ true → (b || has_job (kept ++ job ∷ []) number) ≡ true
    skip true rest = refl
    skip false rest = rest

any_removed : (kept : List Task) (at number : ℕ) → ((get_or kept at no_task).number == number) ≡ false → has_job kept number ≡ true → has_job (remove kept at) number ≡ true
any_removed [] at number other e = absurd (not_both false e refl)
any_removed (t ∷ kept) zero number other e = ap (λ b. b || has_job kept number) (sym other) ∙ e
any_removed (t ∷ kept) (suc at) number other e = either (t.number == number) (has_job kept number) (has_job (remove kept at) number) e (any_removed kept at number other)

all_removed : {A : Type 0} (P : A → Type 0) (xs : List A) (at : ℕ) → AllByRecursion P xs → AllByRecursion P (remove xs at)
all_removed P [] zero all = tt
all_removed P [] (suc at) all = tt
all_removed P (x ∷ xs) zero all = all.1
all_removed P (x ∷ xs) (suc at) all = (all.0, all_removed P xs at all.1)

-- ---- the contents of jobs

module _ (f : Fixed) (plain : AllByRecursion IsPlainRule f.rules) where
  -- a job has the content of an action
  abbrev content_at : List Entry → Task → Running → Type 0
  content_at past job j = job.content ≡ contents f.defs (get_or f.functions j.action.function no_function) (rows_of f.rules (happened f past) j.action)

  there : (past : List Entry) (number : ℕ) (j : Running) → Legal f past → job_of past number ≡ Some j → IsThere f past j.action
  there past number j legal e =
      let runs = find_all (Runs f.rules (happened f past)) (λ (k : Running). k.number == number) (jobs past) j (jobs_run f past plain legal) e in
      record { front = runs.1; one = runs.0; back = runs.2; split = runs.3; is = runs.4 }

  content_stays : (e : Entry) (past : List Entry) (job : Task) (o : Option Running) → Legal f (e ∷ past) → job_of past job.number ≡ o → IfSome o (content_at past job) → IfSome o (content_at (e ∷ past) job)
  content_stays e past job None legal is content = tt
  content_stays e past job (Some j) legal is content =
      content ∙ ap (contents f.defs (get_or f.functions j.action.function no_function)) (sym (there_keeps f e past j.action plain legal (there past job.number j legal.1 is)))

  -- an entry that starts nothing and finishes nothing
  pub keeping_same : (e : Entry) (past : List Entry) (kept : List Task) → jobs (e ∷ past) ≡ jobs past → job_count (e ∷ past) ≡ job_count past → Legal f (e ∷ past) → Keeping f past kept → Keeping f (e ∷ past) kept
  keeping_same e past kept same count legal keeping = record {
    each = all_weaker (IsJob f past) (IsJob f (e ∷ past)) (λ job is. record {
      started = subst (λ n. job.number ≤ n) (sym count) is.started;
      content = subst (λ js. IfSome (find (λ (j : Running). j.number == job.number) js) (content_at (e ∷ past) job)) (sym same) (content_stays e past job (job_of past job.number) legal refl is.content);
    }) kept keeping.each;
    all = subst (AllByRecursion (λ (j : Running). has_job kept j.number ≡ true)) (sym same) keeping.all;
  }

  -- ---- a start

  -- numbers that differ
  other_number : (n m : ℕ) → n ≢ m → (n == m) ≡ false
  other_number n m differ = by_test (n == m) refl
    where
      by_test : (b : Bool) → (n == m) ≡ b → b ≡ false
      by_test false e = refl
      by_test true e = absurd (differ (eqb-true n m e))

  pub keeping_started : (c n m : ℕ) (a : ActionId) (d r : ℕ) (past : List Entry) (kept : List Task) (job : Task) → Legal f (Start c n m a d r ∷ past) → job.number ≡ n
      → job.content ≡ contents f.defs (get_or f.functions a.function no_function) (rows_of f.rules (happened f past) a) → Keeping f past kept → Keeping f (Start c n m a d r ∷ past) (kept ++ job ∷ [])
  keeping_started c n m a d r past kept job legal number content keeping =
      let next : n ≡ job_count past + 1 = legal.0.number_next in
      let newest : Running = record { number = n; caller = c; action = a } in
      let found : (job_number : ℕ) (b : Bool) → (n == job_number) ≡ b → job_of (Start c n m a d r ∷ past) job_number ≡ cond b (Some newest) (job_of past job_number) = λ k b e. ap (λ t. cond t (Some newest) (job_of past k)) e in
      record {
        each = all_append (IsJob f (Start c n m a d r ∷ past)) kept (job ∷ [])
            (all_weaker (IsJob f past) (IsJob f (Start c n m a d r ∷ past)) (λ one is. record {
              started = le_next one.number (job_count past) is.started;
              content = subst (λ o. IfSome o (content_at past one)) (sym (found one.number false (other_number n one.number (above n one.number (job_count past) next is.started)))) is.content;
            }) kept keeping.each) (
              record {
                started = omega arith;
                content = subst (λ o. IfSome o (content_at past job)) (sym (found job.number true (ap (λ k. n == k) number ∙ itself n))) content;
              },
              tt,
            );
        all = (
          any_last kept job n (ap (λ k. k == n) number ∙ itself n),
          all_weaker (λ (j : Running). has_job kept j.number ≡ true) (λ (j : Running). has_job (kept ++ job ∷ []) j.number ≡ true) (λ j has. any_left kept (job ∷ []) j.number has) (jobs past) keeping.all,
        );
      }

  -- ---- a finish

  none_stopped : (n : ℕ) (js : List Running) → find (λ (j : Running). j.number == n) (stopped n js) ≡ None
  none_stopped n [] = refl
  none_stopped n (j ∷ js) = by_test (j.number == n) refl (none_stopped n js)
    where
      by_test : (b : Bool) → (j.number == n) ≡ b → find (λ (k : Running). k.number == n) (stopped n js) ≡ None → find (λ (k : Running). k.number == n) (cond (not b) (j ∷ stopped n js) (stopped n js)) ≡ None
      by_test true e rest = rest
      by_test false e rest = ap (λ b. cond b (Some j) (find (λ (k : Running). k.number == n) (stopped n js))) e ∙ rest

  same_stopped : (m n : ℕ) (js : List Running) → m ≢ n → find (λ (j : Running). j.number == m) (stopped n js) ≡ find (λ (j : Running). j.number == m) js
  same_stopped m n [] differ = refl
  same_stopped m n (j ∷ js) differ = by_test (j.number == n) refl (same_stopped m n js differ)
    where
      by_test : (b : Bool) → (j.number == n) ≡ b → find (λ (k : Running). k.number == m) (stopped n js) ≡ find (λ (k : Running). k.number == m) js
          → find (λ (k : Running). k.number == m) (cond (not b) (j ∷ stopped n js) (stopped n js)) ≡ cond (j.number == m) (Some j) (find (λ (k : Running). k.number == m) js)
      by_test true e rest =
          let is_n = eqb-true j.number n e in
          rest ∙ sym (ap (λ b. cond b (Some j) (find (λ (k : Running). k.number == m) js)) (other_number j.number m (λ is_m. differ (sym is_m ∙ is_n))))
      by_test false e rest = ap (cond (j.number == m) (Some j)) rest

  -- what is so of the job that is found is so of one that is still found
  still_found : (m n : ℕ) (js : List Running) (P : Running → Type 0) → IfSome (find (λ (j : Running). j.number == m) js) P → IfSome (find (λ (j : Running). j.number == m) (stopped n js)) P
  still_found m n js P is = by_test (m == n) refl
    where
      by_test : (b : Bool) → (m == n) ≡ b → IfSome (find (λ (j : Running). j.number == m) (stopped n js)) P
      by_test true e = subst (λ k. IfSome (find (λ (j : Running). j.number == k) (stopped n js)) P) (sym (eqb-true m n e)) (subst (λ o. IfSome o P) (sym (none_stopped n js)) tt)
      by_test false e = subst (λ o. IfSome o P) (sym (same_stopped m n js (λ same. not_both (m == n) (ap (λ k. k == n) same ∙ itself n) e))) is

  -- each that still runs has another number
  others_kept : (n at : ℕ) (kept : List Task) (js : List Running) → (get_or kept at no_task).number ≡ n → AllByRecursion (λ (j : Running). has_job kept j.number ≡ true) js → AllByRecursion (λ (j : Running). has_job (remove kept at) j.number ≡ true) (stopped n js)
  others_kept n at kept [] number all = tt
  others_kept n at kept (j ∷ js) number all = by_test (j.number == n) refl (others_kept n at kept js number all.1)
    where
      by_test : (b : Bool) → (j.number == n) ≡ b → AllByRecursion (λ (k : Running). has_job (remove kept at) k.number ≡ true) (stopped n js) → AllByRecursion (λ (k : Running). has_job (remove kept at) k.number ≡ true) (cond (not b) (j ∷ stopped n js) (stopped n js))
      by_test true e rest = rest
      by_test false e rest =
          let differ : n ≢ j.number = λ same. not_both (j.number == n) (ap (λ k. j.number == k) same ∙ itself j.number) e in
          (any_removed kept at j.number (ap (λ k. k == j.number) number ∙ other_number n j.number differ) all.0, rest)

  pub keeping_finished : (c n : ℕ) (past : List Entry) (kept : List Task) (at : ℕ) → (get_or kept at no_task).number ≡ n → Keeping f past kept → Keeping f (Finish c n ∷ past) (remove kept at)
  keeping_finished c n past kept at number keeping = record {
    each = all_removed (IsJob f (Finish c n ∷ past)) kept at (all_weaker (IsJob f past) (IsJob f (Finish c n ∷ past)) (λ job is. record {
      started = is.started;
      content = still_found job.number n (jobs past) (content_at past job) is.content;
    }) kept keeping.each);
    all = others_kept n at kept (jobs past) number keeping.all;
  }

-- a job that is kept last in place of where it was
pub keeping_moved : (f : Fixed) (past : List Entry) (kept : List Task) (at : ℕ) → IsJob f past (get_or kept at no_task) → Keeping f past kept → Keeping f past (remove kept at ++ get_or kept at no_task ∷ [])
keeping_moved f past kept at is keeping = record {
  each = all_append (IsJob f past) (remove kept at) (get_or kept at no_task ∷ []) (all_removed (IsJob f past) kept at keeping.each) (is, tt);
  all = all_weaker (λ (j : Running). has_job kept j.number ≡ true) (λ (j : Running). has_job (remove kept at ++ get_or kept at no_task ∷ []) j.number ≡ true) (λ j has. moved j.number has) (jobs past) keeping.all;
}
  where
    moved : (number : ℕ) → has_job kept number ≡ true → has_job (remove kept at ++ get_or kept at no_task ∷ []) number ≡ true
    moved number has = by_test ((get_or kept at no_task).number == number) refl
      where
        by_test : (b : Bool) → ((get_or kept at no_task).number == number) ≡ b → has_job (remove kept at ++ get_or kept at no_task ∷ []) number ≡ true
        by_test true e = any_last (remove kept at) (get_or kept at no_task) number e
        by_test false e = any_left (remove kept at) (get_or kept at no_task ∷ []) number (any_removed kept at number e has)

-- a number that isn't kept isn't running
none_of : (kept : List Task) (number : ℕ) (js : List Running) → has_job kept number ≡ false → AllByRecursion (λ (j : Running). has_job kept j.number ≡ true) js → find (λ (j : Running). j.number == number) js ≡ None
none_of kept number [] missing all = refl
none_of kept number (j ∷ js) missing all = by_test (j.number == number) refl (none_of kept number js missing all.1)
  where
    by_test : (b : Bool) → (j.number == number) ≡ b → find (λ (k : Running). k.number == number) js ≡ None → cond b (Some j) (find (λ (k : Running). k.number == number) js) ≡ None
    by_test false e rest = rest
    by_test true e rest = absurd (not_both (has_job kept number) (sym (ap (has_job kept) (eqb-true j.number number e)) ∙ all.0) missing)

pub not_kept : (f : Fixed) (past : List Entry) (kept : List Task) (number : ℕ) → has_job kept number ≡ false → Keeping f past kept → job_of past number ≡ None
not_kept f past kept number missing keeping = none_of kept number (jobs past) missing keeping.all

-- ---- where a job stands

record IsPlaced (from : ℕ) (kept : List Task) (number at : ℕ) : Type 0 where
  pub i : ℕ
  pub is : at ≡ from + i
  pub within : i < length kept
  pub has : (get_or kept i no_task).number ≡ number

first_place : (from at : ℕ) → from ≡ at → at ≡ from + 0
first_place from at e = omega arith

next_place : (from at i : ℕ) → at ≡ (from + 1) + i → at ≡ from + suc i
next_place from at i e = omega arith

zero_within : (kept : List Task) → 0 < suc (length kept)
zero_within kept = omega arith

next_within : (i n : ℕ) → i < n → suc i < suc n
next_within i n lt = omega arith

from_zero : (at i n : ℕ) → at ≡ 0 + i → i < n → at < n
from_zero at i n e lt = omega arith

same_place : (at i : ℕ) → at ≡ 0 + i → at ≡ i
same_place at i e = omega arith

placed : (from : ℕ) (kept : List Task) (number at : ℕ) → job_place from kept number ≡ Some at → IsPlaced from kept number at
placed from [] number at e = absurd (none_some at e)
placed from (job ∷ kept) number at e = by_test (job.number == number) refl e (placed (from + 1) kept number at)
  where
    by_test : (b : Bool) → (job.number == number) ≡ b → cond b (Some from) (job_place (from + 1) kept number) ≡ Some at → (job_place (from + 1) kept number ≡ Some at → IsPlaced (from + 1) kept number at) → IsPlaced from (job ∷ kept) number at
    by_test true same here rest = record { i = 0; is = first_place from at (same_some from at here); within = zero_within kept; has = eqb-true job.number number same }
    by_test false other here rest =
        let behind = rest here in
        record { i = suc behind.i; is = next_place from at behind.i behind.is; within = next_within behind.i (length kept) behind.within; has = behind.has }

pub place_within : (kept : List Task) (number at : ℕ) → job_place 0 kept number ≡ Some at → at < length kept
place_within kept number at e = let p = placed 0 kept number at e in from_zero at p.i (length kept) p.is p.within

pub place_has : (kept : List Task) (number at : ℕ) → job_place 0 kept number ≡ Some at → (get_or kept at no_task).number ≡ number
place_has kept number at e =
    let p = placed 0 kept number at e in
    subst (λ k. (get_or kept k no_task).number ≡ number) (sym (same_place at p.i p.is)) p.has

no_place_from : (from : ℕ) (kept : List Task) (number : ℕ) → job_place from kept number ≡ None → has_job kept number ≡ false
no_place_from from [] number e = refl
no_place_from from (job ∷ kept) number e = by_test (job.number == number) e (no_place_from (from + 1) kept number)
  where
    by_test : (b : Bool) → cond b (Some from) (job_place (from + 1) kept number) ≡ None → (job_place (from + 1) kept number ≡ None → has_job kept number ≡ false) → (b || has_job kept number) ≡ false
    by_test true here rest = absurd (none_some from (sym here))
    by_test false here rest = rest here

pub no_place : (kept : List Task) (number : ℕ) → job_place 0 kept number ≡ None → has_job kept number ≡ false
no_place kept number e = no_place_from 0 kept number e
