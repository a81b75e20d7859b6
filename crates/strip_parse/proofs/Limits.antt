-- Reading with limits against reading without.
use Rattle.std.proofs.Common.{◌≡◌, ℕ, zero, suc, ◌≤◌, ◌<◌, Bool, true, false, List, [], ◌∷◌, ◌++◌, length, Option, Some, None, Ok, Err, refl, sym, ◌∙◌, ap, subst, append_assoc, length-append, nat_lt, nat_le, if◌then◌else◌, arith}
use Rattle.strip_ast.specs.declared.faults.Why.{Why}
use Rattle.strip_ast.specs.declared.faults.Why.TheVariants as why
use Rattle.strip_ast.specs.declared.marks.Mark.TheVariants as m
use Rattle.strip_ast.specs.declared.token_types.Placed.{Placed}
use Rattle.strip_ast.specs.declared.expressions.Expr.{Expr}
use Rattle.strip_ast.specs.Grammar.{Terminal, Grammar, mark, operator, name, number, caller, text, terminal, empty, made, both, either, many, commas, outermost, or_enclosed, takes}
use Rattle.strip_parse.specs.Deciding.{Class, marks, begins_in, nullable, firsts, is_decided}
use Rattle.strip_parse.specs.Reading.{Read, and_then, one_of, read_one, read_many, behind, read_commas, read_enclosed, read, State, Out, out_then, halted, with_left, with_operator, limited_one, take_from, take_one, take_many, past_one, take_commas, take_enclosed, fresh, take}
use Rattle.strip_parse.proofs.Begins.{both_true, not_true}
use Rattle.strip_parse.proofs.Laws.{InnerSound, sound, starts, starts_some}

-- the tokens that are left stand at the end of those that were
abbrev pub IsEnd : List Placed → List Placed → Type 0
IsEnd ts rest = (u : List Placed) × (ts ≡ u ++ rest)

-- what is left of a list, read or not
abbrev pub Ends : {A : Type 0} → List Placed → Read A → Type 0
Ends ts (Ok (a, rest)) = IsEnd ts rest
Ends ts (Err rest) = IsEnd ts rest

-- fewer tokens are left than these
abbrev pub Past : {A : Type 0} → List Placed → Read A → Type 0
Past far (Ok (a, rest)) = length rest < length far
Past far (Err rest) = length rest < length far

-- with limits the answer is the same, or what is read without goes on past where it stops
abbrev pub FitsWhy : {A : Type 0} → List Placed → Read A → Why → List Placed → Type 0
FitsWhy ts r why.Unexpected rest = r ≡ Err rest
FitsWhy ts r _ rest = Past rest r × IsEnd ts rest

abbrev pub Fits : {A : Type 0} → List Placed → ℕ → Read A → Out A → Type 0
Fits ts most r (Ok (a, s)) = (r ≡ Ok (a, s.left)) × (s.most ≡ most)
Fits ts most r (Err halt) = FitsWhy ts r halt.why halt.left

end_end : (ts v m u rest : List Placed) → ts ≡ v ++ m → m ≡ u ++ rest → ts ≡ (v ++ u) ++ rest
end_end ts v m u rest one two = one ∙ ap (λ x. v ++ x) two ∙ sym (append_assoc v u rest)

is_end : (ts m rest : List Placed) → IsEnd ts m → IsEnd m rest → IsEnd ts rest
is_end ts m rest a b = (a.0 ++ b.0, end_end ts a.0 m b.0 rest a.1 b.1)

-- ---- a reader leaves an end of its list

abbrev pub Shrinks : {A : Type 0} → (List Placed → Read A) → Type 0
Shrinks p = (ts : List Placed) → Ends ts (p ts)

one_shrinks : {A : Type 0} (p : Placed) (ps : List Placed) (o : Option A) → Ends (p ∷ ps) (one_of o p ps)
one_shrinks p ps None = ([], refl)
one_shrinks p ps (Some a) = (p ∷ [], refl)

read_one_shrinks : {A : Type 0} (t : Terminal A) → Shrinks (read_one t)
read_one_shrinks t [] = ([], refl)
read_one_shrinks t (p ∷ ps) = one_shrinks p ps (takes t p.token)

ends_along : {A : Type 0} (ts m : List Placed) (r : Read A) → IsEnd ts m → Ends m r → Ends ts r
ends_along ts m (Ok (a, rest)) one two = is_end ts m rest one two
ends_along ts m (Err rest) one two = is_end ts m rest one two

then_ends : {A B : Type 0} (ts : List Placed) (r : Read A) (k : A → List Placed → Read B) → Ends ts r → ((a : A) → Shrinks (k a)) → Ends ts (and_then r k)
then_ends ts (Ok (a, rest)) k e f = ends_along ts rest (k a rest) e (f a rest)
then_ends ts (Err rest) k e f = e

choice_ends : {A : Type 0} (ts : List Placed) (b : Bool) (x y : Read A) → Ends ts x → Ends ts y → Ends ts (if b then x else y)
choice_ends ts true x y e f = e
choice_ends ts false x y e f = f

pure_shrinks : {A : Type 0} (a : A) → Shrinks (λ ts. Ok (a, ts))
pure_shrinks a ts = ([], refl)

many_shrinks : {A : Type 0} (cs : List Class) (p : List Placed → Read A) → Shrinks p → (n : ℕ) → Shrinks (read_many cs p n)
many_shrinks cs p f zero ts = ([], refl)
many_shrinks cs p f (suc n) ts =
    choice_ends ts (begins_in cs ts) _ _ (then_ends ts (p ts) _ (f ts) (λ a rest. then_ends rest (read_many cs p n rest) _ (many_shrinks cs p f n rest) (λ as_. pure_shrinks (a ∷ as_)))) ([], refl)

behind_end : (ts : List Placed) → IsEnd ts (behind ts)
behind_end [] = ([], refl)
behind_end (p ∷ ps) = (p ∷ [], refl)

commas_shrinks : {A B : Type 0} (cs : List Class) (p : List Placed → Read A) (q : List Placed → Read B) → Shrinks p → Shrinks q → (n : ℕ) → Shrinks (read_commas cs p q n)
commas_shrinks cs p q f g zero ts = ([], refl)
commas_shrinks cs p q f g (suc n) ts =
    choice_ends ts (begins_in (marks m.Comma ∷ []) ts) _ _ (choice_ends ts (begins_in cs (behind ts)) _ _ (then_ends ts (q (behind ts)) _ (ends_along ts (behind ts) (q (behind ts)) (behind_end ts) (g (behind ts))) (λ b ts'. ([], refl))) (then_ends ts (p (behind ts)) _ (ends_along ts (behind ts) (p (behind ts)) (behind_end ts) (f (behind ts))) (λ a rest. then_ends rest (read_commas cs p q n rest) _ (commas_shrinks cs p q f g n rest) (λ c ts'. ([], refl))))) ([], refl)

abbrev pub InnerShrinks : Option (List Placed → Read Expr) → Type 0
InnerShrinks None = Unit {0}
InnerShrinks (Some f) = Shrinks f

close_shrinks : (e : Expr) → Shrinks (λ rest. and_then (read_one (mark m.Close) rest) (λ _ rest'. Ok (e, rest')))
close_shrinks e rest = then_ends rest (read_one (mark m.Close) rest) _ (read_one_shrinks (mark m.Close) rest) (λ _. pure_shrinks e)

enclosed_shrinks : (r : Option (List Placed → Read Expr)) (p : List Placed → Read Expr) → InnerShrinks r → Shrinks p → Shrinks (read_enclosed r p)
enclosed_shrinks None p inner f ts = f ts
enclosed_shrinks (Some i) p inner f ts =
    choice_ends ts (begins_in (marks m.Open ∷ []) ts) _ _ (then_ends ts (i (behind ts)) _ (ends_along ts (behind ts) (i (behind ts)) (behind_end ts) (inner (behind ts))) close_shrinks) (f ts)

pub shrinks : (most : ℕ) (r : Option (List Placed → Read Expr)) → InnerShrinks r → {A : Type 0} (g : Grammar A) → Shrinks (read most r g)
shrinks most r inner (terminal t) ts = read_one_shrinks t ts
shrinks most r inner (empty a) ts = ([], refl)
shrinks most r inner (made g f) ts = then_ends ts (read most r g ts) _ (shrinks most r inner g ts) (λ a. pure_shrinks (f a))
shrinks most r inner (both g h) ts =
    then_ends ts (read most r g ts) _ (shrinks most r inner g ts) (λ a rest. then_ends rest (read most r h rest) _ (shrinks most r inner h rest) (λ b ts'. ([], refl)))
shrinks most r inner (either g h) ts = choice_ends ts (begins_in (firsts g) ts) _ _ (shrinks most r inner g ts) (shrinks most r inner h ts)
shrinks most r inner (many g) ts = many_shrinks (firsts g) (read most r g) (λ ts'. shrinks most r inner g ts') most ts
shrinks most r inner (commas g h) ts =
    commas_shrinks (firsts h) (read most r g) (read most r h) (λ ts'. shrinks most r inner g ts') (λ ts'. shrinks most r inner h ts') most ts
shrinks most r inner (outermost g) ts = shrinks most r inner g ts
shrinks most r inner (or_enclosed g) ts = enclosed_shrinks r (read most r g) inner (λ ts'. shrinks most r inner g ts') ts

-- ---- with limits against without

one_fits : {A : Type 0} (t : Terminal A) (s : State) (p : Placed) (ps : List Placed) → s.left ≡ p ∷ ps → (o : Option A) → takes t p.token ≡ o → Fits s.left s.most (one_of o p ps) (limited_one t o s ps)
one_fits t s p ps left None is = ap Err (sym left)
one_fits (operator a) s p ps left (Some x) is = by_room (nat_lt s.operators 256)
  where
    by_room : (b : Bool) → Fits s.left s.most (one_of (Some x) p ps) (if b then Ok (x, with_operator s ps) else halted why.TooDeep s.left)
    by_room true = (refl, refl)
    by_room false = (rw left (omega arith), ([], refl))
one_fits caller s p ps left (Some n) is = by_size (nat_le n 4294967295)
  where
    by_size : (b : Bool) → Fits s.left s.most (one_of (Some n) p ps) (if b then Ok (n, with_left s ps) else halted why.TooLong s.left)
    by_size true = (refl, refl)
    by_size false = (rw left (omega arith), ([], refl))
one_fits (mark a) s p ps left (Some x) is = (refl, refl)
one_fits name s p ps left (Some x) is = (refl, refl)
one_fits number s p ps left (Some x) is = (refl, refl)
one_fits text s p ps left (Some x) is = (refl, refl)

from_fits : {A : Type 0} (t : Terminal A) (s : State) (ts : List Placed) → s.left ≡ ts → Fits s.left s.most (read_one t ts) (take_from t s ts)
from_fits t s [] left = refl
from_fits t s (p ∷ ps) left = one_fits t s p ps left (takes t p.token) refl

pub take_one_fits : {A : Type 0} (t : Terminal A) (s : State) → Fits s.left s.most (read_one t s.left) (take_one t s)
take_one_fits t s = from_fits t s s.left refl

past_along : {A : Type 0} (far m : List Placed) (r : Read A) → length m < length far → Ends m r → Past far r
past_along far m (Ok (a, rest)) less e = omega (arith, ap length e.1, length-append e.0 rest)
past_along far m (Err rest) less e = omega (arith, ap length e.1, length-append e.0 rest)

past_then : {A B : Type 0} (far : List Placed) (r : Read A) (k : A → List Placed → Read B) → Past far r → ((a : A) → Shrinks (k a)) → Past far (and_then r k)
past_then far (Ok (a, rest)) k less f = past_along far rest (k a rest) less (f a rest)
past_then far (Err rest) k less f = less

why_then : {A B : Type 0} (ts : List Placed) (r : Read A) (k : A → List Placed → Read B) (w : Why) (rest : List Placed) → FitsWhy ts r w rest → ((a : A) → Shrinks (k a)) → FitsWhy ts (and_then r k) w rest
why_then ts r k why.Unexpected rest is f = rw is refl
why_then ts r k why.NoToken rest is f = (past_then rest r k is.0 f, is.1)
why_then ts r k why.TooLong rest is f = (past_then rest r k is.0 f, is.1)
why_then ts r k why.TooDeep rest is f = (past_then rest r k is.0 f, is.1)
why_then ts r k why.Ended rest is f = (past_then rest r k is.0 f, is.1)

why_further : {A : Type 0} (ts m : List Placed) (r : Read A) (w : Why) (rest : List Placed) → IsEnd ts m → FitsWhy m r w rest → FitsWhy ts r w rest
why_further ts m r why.Unexpected rest e is = is
why_further ts m r why.NoToken rest e is = (is.0, is_end ts m rest e is.1)
why_further ts m r why.TooLong rest e is = (is.0, is_end ts m rest e is.1)
why_further ts m r why.TooDeep rest e is = (is.0, is_end ts m rest e is.1)
why_further ts m r why.Ended rest e is = (is.0, is_end ts m rest e is.1)

fits_further : {A : Type 0} (ts m : List Placed) (most : ℕ) (r : Read A) (o : Out A) → IsEnd ts m → Fits m most r o → Fits ts most r o
fits_further ts m most r (Ok (a, s)) e is = is
fits_further ts m most r (Err halt) e is = why_further ts m r halt.why halt.left e is

ends_of_ok : {A : Type 0} (ts : List Placed) (r : Read A) (a : A) (m : List Placed) → Ends ts r → r ≡ Ok (a, m) → IsEnd ts m
ends_of_ok ts r a m e is = rw is at e

-- one after the other
then_fits : {A B : Type 0} (ts : List Placed) (most : ℕ) (r : Read A) (o : Out A) (k : A → List Placed → Read B) (l : A → State → Out B) → Ends ts r → Fits ts most r o → ((a : A) → Shrinks (k a)) → ((a : A) (s : State) → r ≡ Ok (a, s.left) → s.most ≡ most → Fits s.left most (k a s.left) (l a s)) → Fits ts most (and_then r k) (out_then o l)
then_fits ts most r (Ok (a, s)) k l e is f next = rw is.0 (fits_further ts s.left most (k a s.left) (l a s) (ends_of_ok ts r a s.left e is.0) (next a s is.0 is.1))
then_fits ts most r (Err halt) k l e is f next = why_then ts r k halt.why halt.left is f

choice_fits : {A : Type 0} (ts : List Placed) (most : ℕ) (b : Bool) (x y : Read A) (o p : Out A) → (b ≡ true → Fits ts most x o) → (b ≡ false → Fits ts most y p) → Fits ts most (if b then x else y) (if b then o else p)
choice_fits ts most true x y o p f g = f refl
choice_fits ts most false x y o p f g = g refl

pure_fits : {A : Type 0} (ts : List Placed) (a : A) (s : State) (most : ℕ) → s.most ≡ most → Fits ts most (Ok (a, s.left)) (Ok (a, s))
pure_fits ts a s most same = (refl, same)

-- at each state of so many turns
abbrev pub FitsAll : {A : Type 0} → ℕ → (List Placed → Read A) → (State → Out A) → Type 0
FitsAll most p q = (s : State) → s.most ≡ most → length s.left ≤ most → Fits s.left most (p s.left) (q s)

abbrev pub Consumes : {A : Type 0} → List Class → (List Placed → Read A) → Type 0
Consumes cs p = (ts rest : List Placed) (a : _) → begins_in cs ts ≡ true → p ts ≡ Ok (a, rest) → length rest < length ts

begins_nothing : (cs : List Class) (ts : List Placed) → length ts ≤ 0 → begins_in cs ts ≡ false
begins_nothing cs [] few = refl
begins_nothing cs (p ∷ ps) few = absurd (omega arith)

many_fits : {A : Type 0} (most : ℕ) (cs : List Class) (p : List Placed → Read A) (q : State → Out A) → Shrinks p → Consumes cs p → FitsAll most p q → (n k : ℕ) (s : State) → s.most ≡ most → length s.left ≤ most → length s.left ≤ n → length s.left ≤ k → Fits s.left most (read_many cs p k s.left) (take_many cs q n s)
many_fits most cs p q f c fit zero zero s same len few few' = (refl, same)
many_fits most cs p q f c fit zero (suc k) s same len few few' =
    let gone : begins_in cs s.left ≡ false = begins_nothing cs s.left few in
    rw gone (refl, same)
many_fits most cs p q f c fit (suc n) zero s same len few few' =
    let gone : begins_in cs s.left ≡ false = begins_nothing cs s.left few' in
    rw gone (refl, same)
many_fits most cs p q f c fit (suc n) (suc k) s same len few few' =
    choice_fits s.left most (begins_in cs s.left) _ _ _ _
    (λ here. then_fits s.left most (p s.left) (q s) _ _ (f s.left) (fit s same len) (λ a rest. then_ends rest (read_many cs p k rest) _ (many_shrinks cs p f k rest) (λ as_ ts'. ([], refl)))
    (λ a s' is same'.
    let less = c s.left s'.left a here is in
    then_fits s'.left most (read_many cs p k s'.left) (take_many cs q n s') _ _ (many_shrinks cs p f k s'.left) (many_fits most cs p q f c fit n k s' same' (omega (arith, less, len)) (omega (arith, less, few)) (omega (arith, less, few'))) (λ as_ ts'. ([], refl)) (λ as_ s'' is' same''. (refl, same''))))
    (λ _. (refl, same))

behind_less : (b : _) (ts : List Placed) → begins_in (marks b ∷ []) ts ≡ true → length (behind ts) < length ts
behind_less b [] is = cc
behind_less b (p ∷ ps) is = omega arith

end_length : (ts m : List Placed) → IsEnd ts m → length m ≤ length ts
end_length ts m e = omega (arith, ap length e.1, length-append e.0 m)

commas_fits : {A B : Type 0} (most : ℕ) (cs : List Class) (p : List Placed → Read A) (q : List Placed → Read B) (p' : State → Out A) (q' : State → Out B) → Shrinks p → Shrinks q → FitsAll most p p' → FitsAll most q q' → (n k : ℕ) (s : State) → s.most ≡ most → length s.left ≤ most → length s.left ≤ n → length s.left ≤ k → Fits s.left most (read_commas cs p q k s.left) (take_commas cs p' q' n s)
commas_fits most cs p q p' q' f g fit fit' zero zero s same len few few' = (refl, same)
commas_fits most cs p q p' q' f g fit fit' zero (suc k) s same len few few' =
    let gone : begins_in (marks m.Comma ∷ []) s.left ≡ false = begins_nothing (marks m.Comma ∷ []) s.left few in
    rw gone (refl, same)
commas_fits most cs p q p' q' f g fit fit' (suc n) zero s same len few few' =
    let gone : begins_in (marks m.Comma ∷ []) s.left ≡ false = begins_nothing (marks m.Comma ∷ []) s.left few' in
    rw gone (refl, same)
commas_fits most cs p q p' q' f g fit fit' (suc n) (suc k) s same len few few' =
    choice_fits s.left most (begins_in (marks m.Comma ∷ []) s.left) _ _ _ _
    (λ comma.
    let less = behind_less m.Comma s.left comma in
    choice_fits s.left most (begins_in cs (behind s.left)) _ _ _ _
    (λ _. fits_further s.left (behind s.left) most _ _ (behind_end s.left) (then_fits (behind s.left) most (q (behind s.left)) (q' (past_one s)) _ _ (g (behind s.left)) (fit' (past_one s) same (omega (arith, less, len))) (λ b ts'. ([], refl)) (λ b s' is same'. (refl, same'))))
    (λ _. fits_further s.left (behind s.left) most _ _ (behind_end s.left) (then_fits (behind s.left) most (p (behind s.left)) (p' (past_one s)) _ _ (f (behind s.left)) (fit (past_one s) same (omega (arith, less, len))) (λ a rest. then_ends rest (read_commas cs p q k rest) _ (commas_shrinks cs p q f g k rest) (λ c ts'. ([], refl)))
    (λ a s' is same'.
    let shorter = end_length (behind s.left) s'.left (ends_of_ok (behind s.left) (p (behind s.left)) a s'.left (f (behind s.left)) is) in
    then_fits s'.left most (read_commas cs p q k s'.left) (take_commas cs p' q' n s') _ _ (commas_shrinks cs p q f g k s'.left) (commas_fits most cs p q p' q' f g fit fit' n k s' same' (omega (arith, less, shorter, len)) (omega (arith, less, shorter, few)) (omega (arith, less, shorter, few'))) (λ c ts'. ([], refl)) (λ c s'' is' same''. (refl, same''))))))
    (λ _. (refl, same))

-- without limits at least one more parenthesis may be open than with them
abbrev pub InnerFits : ℕ → Option (State → Out Expr) → Option (List Placed → Read Expr) → Type 0
InnerFits most None (Some f) = Shrinks f
InnerFits most (Some l) (Some f) = Shrinks f × FitsAll most f l
InnerFits most _ None = ⊥

enclosed_fits : (most : ℕ) (l : Option (State → Out Expr)) (r : Option (List Placed → Read Expr)) (p : List Placed → Read Expr) (q : State → Out Expr) → InnerFits most l r → FitsAll most p q → FitsAll most (read_enclosed r p) (take_enclosed l q)
enclosed_fits most None None p q inner fit s same len = absurd inner
enclosed_fits most (Some l) None p q inner fit s same len = absurd inner
enclosed_fits most None (Some f) p q inner fit s same len =
    choice_fits s.left most (begins_in (marks m.Open ∷ []) s.left) _ _ _ _
    (λ here. (past_along s.left (behind s.left) _ (behind_less m.Open s.left here) (then_ends (behind s.left) (f (behind s.left)) _ (inner (behind s.left)) close_shrinks), ([], refl)))
    (λ _. fit s same len)
enclosed_fits most (Some l) (Some f) p q inner fit s same len =
    choice_fits s.left most (begins_in (marks m.Open ∷ []) s.left) _ _ _ _
    (λ here.
    let less = behind_less m.Open s.left here in
    fits_further s.left (behind s.left) most _ _ (behind_end s.left) (then_fits (behind s.left) most (f (behind s.left)) (l (past_one s)) _ _ (inner.0 (behind s.left)) (inner.1 (past_one s) same (omega (arith, less, len))) close_shrinks
    (λ e s' is same'. then_fits s'.left most (read_one (mark m.Close) s'.left) (take_one (mark m.Close) s') _ _ (read_one_shrinks (mark m.Close) s'.left) (subst (λ n. Fits s'.left n (read_one (mark m.Close) s'.left) (take_one (mark m.Close) s')) same' (take_one_fits (mark m.Close) s')) (λ _ ts'. ([], refl)) (λ _ s'' is' same''. (refl, same'')))))
    (λ _. fit s same len)

consumes : (I : List Placed → Expr → Type 0) (k : ℕ) (r : Option (List Placed → Read Expr)) → InnerSound I r → {A : Type 0} (g : Grammar A) → is_decided g ≡ true → nullable g ≡ false → (cs : List Class) → Consumes cs (read k r g)
consumes I k r inner g d some cs ts rest a here is =
    let u = sound k I r inner g ts rest a is in
    let begins : begins_in (firsts g) (u.0 ++ []) ≡ true = starts_some (nullable g) (firsts g) u.0 (starts I g d u.0 a u.2) some [] in
    let long = not_empty (firsts g) (u.0 ++ []) begins in
    omega (arith, ap length u.1, length-append u.0 rest, length-append u.0 [], long)
  where
    not_empty : (cs' : List Class) (xs : List Placed) → begins_in cs' xs ≡ true → 0 < length xs
    not_empty cs' [] is = cc
    not_empty cs' (p ∷ ps) is = omega arith

-- reading with limits fits reading without
pub fits : (I : List Placed → Expr → Type 0) (most k : ℕ) → most ≤ k → (l : Option (State → Out Expr)) (r : Option (List Placed → Read Expr)) → InnerSound I r → InnerShrinks r → InnerFits most l r → {A : Type 0} (g : Grammar A) → is_decided g ≡ true → FitsAll most (read k r g) (take l g)
fits I most k fewer l r sound' ends inner (terminal t) d s same len =
    subst (λ n. Fits s.left n (read_one t s.left) (take_one t s)) same (take_one_fits t s)
fits I most k fewer l r sound' ends inner (empty a) d s same len = (refl, same)
fits I most k fewer l r sound' ends inner (made g f) d s same len =
    then_fits s.left most (read k r g s.left) (take l g s) _ _ (shrinks k r ends g s.left) (fits I most k fewer l r sound' ends inner g d s same len) (λ a ts'. ([], refl)) (λ a s' is same'. (refl, same'))
fits I most k fewer l r sound' ends inner (both g h) d s same len =
    then_fits s.left most (read k r g s.left) (take l g s) _ _ (shrinks k r ends g s.left) (fits I most k fewer l r sound' ends inner g (both_true _ _ d).0 s same len) (λ a rest. then_ends rest (read k r h rest) _ (shrinks k r ends h rest) (λ b ts'. ([], refl)))
    (λ a s' is same'.
    let shorter = end_length s.left s'.left (ends_of_ok s.left (read k r g s.left) a s'.left (shrinks k r ends g s.left) is) in
    then_fits s'.left most (read k r h s'.left) (take l h s') _ _ (shrinks k r ends h s'.left) (fits I most k fewer l r sound' ends inner h (both_true _ _ (both_true _ _ d).1).0 s' same' (omega (arith, shorter, len))) (λ b ts'. ([], refl)) (λ b s'' is' same''. (refl, same'')))
fits I most k fewer l r sound' ends inner (either g h) d s same len =
    choice_fits s.left most (begins_in (firsts g) s.left) _ _ _ _ (λ _. fits I most k fewer l r sound' ends inner g (both_true _ _ d).0 s same len) (λ _. fits I most k fewer l r sound' ends inner h (both_true _ _ (both_true _ _ d).1).0 s same len)
fits I most k fewer l r sound' ends inner (many g) d s same len =
    let dg = (both_true _ _ d).0 in
    many_fits most (firsts g) (read k r g) (take l g) (λ ts'. shrinks k r ends g ts') (consumes I k r sound' g dg (not_true _ (both_true _ _ (both_true _ _ d).1).0) (firsts g)) (λ s' same' len'. fits I most k fewer l r sound' ends inner g dg s' same' len') s.most k s same len (omega (arith, same, len)) (omega (arith, len, fewer))
fits I most k fewer l r sound' ends inner (commas g h) d s same len =
    commas_fits most (firsts h) (read k r g) (read k r h) (take l g) (take l h) (λ ts'. shrinks k r ends g ts') (λ ts'. shrinks k r ends h ts') (λ s' same' len'. fits I most k fewer l r sound' ends inner g (both_true _ _ d).0 s' same' len') (λ s' same' len'. fits I most k fewer l r sound' ends inner h (both_true _ _ (both_true _ _ d).1).0 s' same' len') s.most k s same len (omega (arith, same, len)) (omega (arith, len, fewer))
fits I most k fewer l r sound' ends inner (outermost g) d s same len = fits I most k fewer l r sound' ends inner g d (fresh s) same len
fits I most k fewer l r sound' ends inner (or_enclosed g) d s same len =
    enclosed_fits most l r (read k r g) (take l g) inner (λ s' same' len'. fits I most k fewer l r sound' ends inner g (both_true _ _ d).0 s' same' len') s same len
