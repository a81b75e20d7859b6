-- Laws of histories.
use Rattle.std.proofs.Common.{◌≡◌, ℕ, zero, suc, ◌+◌, ◌^◌, ◌<◌, ◌≤◌, Bool, true, false, not, ◌&&◌, ◌||◌, ◌==◌, cond, List, [], ◌∷◌, ◌++◌, length, map, refl, sym, ap, ◌∙◌, subst, arith}
use Rattle.std.specs.List.{AllByRecursion, list_all, list_any}
use borrow.Author.Tests.{eqb-true, eq-eqb}
use Rattle.strip_value.specs.declared.tables.TableDef.{TableDef}
use Rattle.strip_value.specs.Table.{Keyed}
use Rattle.strip_value.proofs.Lists.{all_weaker, all_filter}
use Rattle.strip_meaning.specs.Effect.{has_id}
use Rattle.strip_model.specs.declared.entries.Entry.{Entry}
use Rattle.strip_model.specs.declared.entries.Entry.TheVariants.{Begin, Did, Commit, Undo, Start, Finish}
use Rattle.strip_model.specs.History.{empty_tables, begins, acts, Live, live, latest}
use Rattle.strip_model.specs.Derived.{Fixed}
use Rattle.strip_model.specs.Legal.{Legal, IsOpen, Rise}
use Rattle.strip_model.specs.Says.{chosen, read_besides}

-- no more sessions than entries have begun
pub begins_at_most : (past : List Entry) → begins past ≤ length past
begins_at_most [] = omega arith
begins_at_most (Begin c s w r ∷ past) = let rest = begins_at_most past in omega arith
begins_at_most (Did c s a reply ∷ past) = let rest = begins_at_most past in omega arith
begins_at_most (Commit c s m ∷ past) = let rest = begins_at_most past in omega arith
begins_at_most (Undo c s ∷ past) = let rest = begins_at_most past in omega arith
begins_at_most (Start c n m a d r ∷ past) = let rest = begins_at_most past in omega arith
begins_at_most (Finish c n ∷ past) = let rest = begins_at_most past in omega arith

abbrev pub Begun : ℕ → Live → Type 0
Begun count l = l.session ≤ count

-- each live session of a legal history has begun
pub live_begun : (f : Fixed) (past : List Entry) → Legal f past → AllByRecursion (Begun (begins past)) (live past)
live_begun f [] legal = tt
live_begun f (Begin c s w r ∷ past) legal =
    (omega (arith, legal.0.next), all_weaker (Begun (begins past)) (Begun (begins past + 1)) (λ l le. omega arith) (live past) (live_begun f past legal.1))
live_begun f (Did c s a reply ∷ past) legal = live_begun f past legal.1
live_begun f (Commit c s m ∷ past) legal = all_filter (Begun (begins past)) (λ l. not (l.session == s)) (live past) (live_begun f past legal.1)
live_begun f (Undo c s ∷ past) legal = all_filter (Begun (begins past)) (λ l. not (l.session == s)) (live past) (live_begun f past legal.1)
live_begun f (Start c n m a d r ∷ past) legal = live_begun f past legal.1
live_begun f (Finish c n ∷ past) legal = live_begun f past legal.1

-- an open session has begun
begun_here : (session count : ℕ) (l : Live) (b c rest : Bool) → (l.session == session) ≡ b → ((b && c) || rest) ≡ true → Begun count l → (rest ≡ true → session ≤ count) → session ≤ count
begun_here session count l true c rest e any le more = let same = eqb-true l.session session e in omega arith
begun_here session count l false c rest e any le more = more any

any_begun : (caller session count : ℕ) (lives : List Live) → AllByRecursion (Begun count) lives → list_any (λ l. l.session == session && l.caller == caller) lives ≡ true → session ≤ count
any_begun caller session count [] all any = cc
any_begun caller session count (l ∷ ls) all any =
    begun_here session count l (l.session == session) (l.caller == caller) (list_any (λ k. k.session == session && k.caller == caller) ls) refl any all.0 (any_begun caller session count ls all.1)

pub open_begun : (f : Fixed) (past : List Entry) (caller session : ℕ) → Legal f past → IsOpen past caller session → session ≤ begins past
open_begun f past caller session legal opened = any_begun caller session (begins past) (live past) (live_begun f past legal) opened

differs : (m n : ℕ) → m < n → (m == n) ≡ false
differs m n lt = not_equal (m == n) refl
  where
    not_equal : (b : Bool) → (m == n) ≡ b → b ≡ false
    not_equal true e = let same = eqb-true m n e in absurd (omega arith)
    not_equal false e = refl

pub itself : (n : ℕ) → (n == n) ≡ true
itself n = eq-eqb n n refl

-- a session that hasn't begun has no acts
pub no_acts : (f : Fixed) (past : List Entry) (session : ℕ) → Legal f past → begins past < session → acts past session ≡ []
no_acts f [] session legal later = refl
no_acts f (Begin c s w r ∷ past) session legal later = no_acts f past session legal.1 (omega arith)
no_acts f (Did c s a reply ∷ past) session legal later =
    let begun = open_begun f past c s legal.1 legal.0.0 in
    let other = differs s session (omega arith) in
    ap (λ b. cond b (a ∷ []) [] ++ acts past session) other ∙ no_acts f past session legal.1 later
no_acts f (Commit c s m ∷ past) session legal later = no_acts f past session legal.1 later
no_acts f (Undo c s ∷ past) session legal later = no_acts f past session legal.1 later
no_acts f (Start c n m a d r ∷ past) session legal later = no_acts f past session legal.1 later
no_acts f (Finish c n ∷ past) session legal later = no_acts f past session legal.1 later

-- no moment is after the last one
pub latest_in_time : (f : Fixed) (past : List Entry) → Legal f past → latest past ≤ 2 ^ 63
latest_in_time f [] legal = omega arith
latest_in_time f (Begin c s w r ∷ past) legal = latest_in_time f past legal.1
latest_in_time f (Did c s a reply ∷ past) legal = latest_in_time f past legal.1
latest_in_time f (Commit c s m ∷ past) legal =
    let rest = latest_in_time f past legal.1 in
    let here = legal.0.1 in
    omega arith
latest_in_time f (Undo c s ∷ past) legal = latest_in_time f past legal.1
latest_in_time f (Start c n m a d r ∷ past) legal =
    let rest = latest_in_time f past legal.1 in
    let here = legal.0.early in
    omega arith
latest_in_time f (Finish c n ∷ past) legal = latest_in_time f past legal.1

-- what is chosen rises within its bounds
rises_if : (b : Bool) (from high : ℕ) (ids : List ℕ) → from < high → Rise (from + 1) high ids → Rise from high (cond b (from ∷ []) [] ++ ids)
rises_if true from high ids lt rest = (omega arith, lt, rest)
rises_if false from high ids lt rest = rises_lower from (from + 1) high ids (omega arith) rest
  where
    rises_lower : (low more high : ℕ) (ids : List ℕ) → low ≤ more → Rise more high ids → Rise low high ids
    rises_lower low more high [] le rise = tt
    rises_lower low more high (id ∷ ids) le rise = (omega arith, rise.1, rise.2)

pub chosen_rises : (passes : ℕ → Bool) (from count : ℕ) → Rise from (from + count) (chosen passes from count)
chosen_rises passes from zero = tt
chosen_rises passes from (suc count) =
    let same : (from + 1) + count ≡ from + suc count = omega arith in
    let rest = subst (λ high. Rise (from + 1) high (chosen passes (from + 1) count)) same (chosen_rises passes (from + 1) count) in
    rises_if (passes from) from (from + suc count) (chosen passes (from + 1) count) (omega arith) rest

-- what is chosen passes
has_passes : (passes : ℕ → Bool) (id from : ℕ) (b : Bool) (ids : List ℕ) → passes from ≡ b → passes id ≡ false → has_id ids id ≡ false → has_id (cond b (from ∷ []) [] ++ ids) id ≡ false
has_passes passes id from true ids e fails rest = has_other (from == id) refl
  where
    has_other : (b : Bool) → (from == id) ≡ b → (b || has_id ids id) ≡ false
    has_other true same = let equal = eqb-true from id same in let here : passes id ≡ true = ap passes (sym equal) ∙ e in cc
    has_other false same = rest
has_passes passes id from false ids e fails rest = rest

pub chosen_lacks : (passes : ℕ → Bool) (id from count : ℕ) → passes id ≡ false → has_id (chosen passes from count) id ≡ false
chosen_lacks passes id from zero fails = refl
chosen_lacks passes id from (suc count) fails =
    has_passes passes id from (passes from) (chosen passes (from + 1) count) refl fails (chosen_lacks passes id (from + 1) count fails)

-- the tables to read aren't among those to write
besides_apart : (write read ids : List ℕ) (id : ℕ) (b : Bool) (count : ℕ) → read_besides write read id ≡ b → list_all (λ one. not (has_id (chosen (has_id write) 0 count) one)) ids ≡ true → list_all (λ one. not (has_id (chosen (has_id write) 0 count) one)) (cond b (id ∷ []) [] ++ ids) ≡ true
besides_apart write read ids id true count e rest = rw (ap not (chosen_lacks (has_id write) id 0 count (apart (has_id read id) (has_id write id) e))) rest
  where
    apart : (r w : Bool) → (r && not w) ≡ true → w ≡ false
    apart true true e = cc
    apart true false e = refl
    apart false w e = cc
besides_apart write read ids id false count e rest = rest

pub chosen_apart : (write read : List ℕ) (from count all : ℕ) → list_all (λ id. not (has_id (chosen (has_id write) 0 all) id)) (chosen (read_besides write read) from count) ≡ true
chosen_apart write read from zero all = refl
chosen_apart write read from (suc count) all =
    besides_apart write read (chosen (read_besides write read) (from + 1) count) from (read_besides write read from) all refl (chosen_apart write read (from + 1) count all)

-- the tables at the beginning are those of their definitions
pub defs_of_empty : (defs : List TableDef) → map (λ (table : Keyed). table.def) (empty_tables defs) ≡ defs
defs_of_empty [] = refl
defs_of_empty (d ∷ ds) = ap (λ rest. d ∷ rest) (defs_of_empty ds)

pub length_of_empty : (defs : List TableDef) → length (empty_tables defs) ≡ length defs
length_of_empty [] = refl
length_of_empty (d ∷ ds) = ap suc (length_of_empty ds)
