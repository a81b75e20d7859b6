-- What is matched within the limits is taken.
use Rattle.std.proofs.Common.{◌≡◌, ℕ, zero, suc, ◌≤◌, Bool, true, false, not, ◌&&◌, List, [], ◌∷◌, ◌++◌, length, Option, Some, None, Ok, inl, inr, refl, ◌∙◌, ap, subst, append_assoc, length-append, arith}
use Rattle.strip_ast.specs.declared.marks.Mark.TheVariants as m
use Rattle.strip_ast.specs.declared.token_types.Placed.{Placed}
use Rattle.strip_ast.specs.declared.expressions.Expr.{Expr}
use Rattle.strip_ast.specs.Grammar.{Terminal, Grammar, mark, operator, name, number, caller, text, terminal, empty, made, both, either, many, commas, outermost, or_enclosed, takes}
use Rattle.strip_ast.specs.Syntax.{expression}
use Rattle.strip_parse.specs.Deciding.{Class, marks, begins_in, disjoint, classes_if, nullable, firsts, goes, is_decided}
use Rattle.strip_parse.specs.Reading.{State, Out, limited, take_one, take_many, take_commas, take_enclosed, take, take_inside}
use Rattle.strip_parse.proofs.Begins.{both_true, not_true, apart_begins, begins_none, taken_class, Starts, none, first}
use Rattle.strip_parse.proofs.Laws.{starts, starts_some, starts_behind, starts_join, begins_item}
use Rattle.strip_parse.proofs.Completeness.{mark_begins}
use Rattle.strip_parse.proofs.Exact.{expression_decided, expression_closes}
use Rattle.strip_parse.proofs.Counted.{Inside, Spans, limits, Step, OneCounted, BehindCounted, EachCounted, MaybeCounted, Counted, CountedWithin, uncounted}
use Rattle.strip_parse.proofs.CountedSound.{OrEnclosedCounted}

-- before these tokens, behind so many operators
abbrev pub state_of : List Placed → ℕ → ℕ → State
state_of ts k most = record { left = ts; operators = k; most = most }

-- what is matched is taken, where none of these classes follows
abbrev pub TakesAll : {A : Type 0} → ℕ → Spans A → List Class → (State → Out A) → Type 0
TakesAll most R cs p =
    (u rest : List Placed) (a : _) (k l : ℕ) → length (u ++ rest) ≤ most → R u a k l → begins_in cs rest ≡ false → p (state_of (u ++ rest) k most) ≡ Ok (a, state_of rest l most)

abbrev pub BeginsCounted : {A : Type 0} → Spans A → List Class → Type 0
BeginsCounted R cs = (v : List Placed) (a : _) (k l : ℕ) → R v a k l → (w : List Placed) → begins_in cs (v ++ w) ≡ true

limited_is : {A : Type 0} (t : Terminal A) (a : A) (ts ps : List Placed) (k l most : ℕ) → Step limits t a k l → limited t a (state_of ts k most) ps ≡ Ok (a, state_of ps l most)
limited_is (mark w) a ts ps k l most is = rw is refl
limited_is (operator w) a ts ps k l most (few, is) = rw (few, is) refl
limited_is name a ts ps k l most is = rw is refl
limited_is number a ts ps k l most is = rw is refl
limited_is caller a ts ps k l most (few, is) = rw (few, is) refl
limited_is text a ts ps k l most is = rw is refl

take_one_all : {A : Type 0} (t : Terminal A) (u rest : List Placed) (a : A) (k l most : ℕ) → OneCounted limits t u a k l → take_one t (state_of (u ++ rest) k most) ≡ Ok (a, state_of rest l most)
take_one_all t u rest a k l most ((p, split, taken), step) = rw (split, taken) (limited_is t a (p ∷ rest) rest k l most step)

each_stops : {A : Type 0} (R : Spans A) (cs gs : List Class) → BeginsCounted R cs → disjoint gs cs ≡ true → (u rest : List Placed) (as_ : List A) (k l : ℕ) → EachCounted R u as_ k l → begins_in gs rest ≡ false → begins_in gs (u ++ rest) ≡ false
each_stops R cs gs begins apart u rest [] k l (nil, is) stops = rw nil stops
each_stops R cs gs begins apart u rest (a ∷ as_) k l (v, w, split, j, r, more) stops =
    let yes : begins_in cs ((v ++ w) ++ rest) ≡ true = rw (append_assoc v w rest) (begins v a k j r (w ++ rest)) in
    rw split (apart_begins gs cs ((v ++ w) ++ rest) apart yes)

many_all : {A : Type 0} (most : ℕ) (R : Spans A) (cs gs : List Class) (p : State → Out A) → TakesAll most R gs p → BeginsCounted R cs → disjoint gs cs ≡ true → (n : ℕ) (u rest : List Placed) (as_ : List A) (k l : ℕ) → length (u ++ rest) ≤ n → length (u ++ rest) ≤ most → EachCounted R u as_ k l → begins_in gs rest ≡ false → begins_in cs rest ≡ false → take_many cs p n (state_of (u ++ rest) k most) ≡ Ok (as_, state_of rest l most)
many_all most R cs gs p all begins apart zero u rest [] k l few fits (nil, is) stops ends = rw (nil, is) refl
many_all most R cs gs p all begins apart zero u rest (a ∷ as_) k l few fits (v, w, split, j, r, more) stops ends =
    let some = begins_item cs v (begins v a k j r []) in
    absurd (omega (arith, length-append u rest, length-append v w, ap length split))
many_all most R cs gs p all begins apart (suc n) u rest [] k l few fits (nil, is) stops ends = rw (nil, ends, is) refl
many_all most R cs gs p all begins apart (suc n) u rest (a ∷ as_) k l few fits (v, w, split, j, r, more) stops ends =
    let joined : u ++ rest ≡ v ++ (w ++ rest) = ap (λ x. x ++ rest) split ∙ append_assoc v w rest in
    let some = begins_item cs v (begins v a k j r []) in
    let yes : begins_in cs (v ++ (w ++ rest)) ≡ true = begins v a k j r (w ++ rest) in
    let item : p (state_of (v ++ (w ++ rest)) k most) ≡ Ok (a, state_of (w ++ rest) j most) = all v (w ++ rest) a k j (subst (λ x. length x ≤ most) joined fits) r (each_stops R cs gs begins apart w rest as_ j l more stops) in
    let fewer : length (w ++ rest) ≤ n = omega (arith, ap length joined, length-append v (w ++ rest)) in
    let fit : length (w ++ rest) ≤ most = omega (arith, ap length joined, length-append v (w ++ rest)) in
    let others : take_many cs p n (state_of (w ++ rest) j most) ≡ Ok (as_, state_of rest l most) = many_all most R cs gs p all begins apart n w rest as_ j l fewer fit more stops ends in
    rw (joined, yes, item, others) refl

starts_each_counted : {A : Type 0} (R : Spans A) (cs : List Class) → BeginsCounted R cs → (u : List Placed) (as_ : List A) (k l : ℕ) → EachCounted R u as_ k l → Starts true cs u
starts_each_counted R cs begins u [] k l (nil, is) = none nil refl
starts_each_counted R cs begins u (a ∷ as_) k l (v, w, split, j, r, more) =
    first (λ z. rw (split, append_assoc v w z) (begins v a k j r (w ++ z)))

starts_maybe_counted : {A : Type 0} (b : _) (R : Spans A) (u : List Placed) (o : Option A) (k l : ℕ) → MaybeCounted (BehindCounted (mark b) R) u o k l → Starts true (marks b ∷ []) u
starts_maybe_counted b R u None k l (nil, is) = none nil refl
starts_maybe_counted b R u (Some a) k l r = first (starts_behind b (λ v x. R v x k l) u a r)

tail_stops : {A B : Type 0} (R : Spans A) (S : Spans B) (gs : List Class) (v w rest : List Placed) (as_ : List A) (o : Option B) (k j l : ℕ) → disjoint gs (marks m.Comma ∷ []) ≡ true → EachCounted (BehindCounted (mark m.Comma) R) v as_ k j → MaybeCounted (BehindCounted (mark m.Comma) S) w o j l → begins_in gs rest ≡ false → begins_in gs ((v ++ w) ++ rest) ≡ false
tail_stops R S gs v w rest as_ o k j l apart each maybe stops =
    by_start (starts_join (marks m.Comma ∷ []) v w (starts_each_counted (BehindCounted (mark m.Comma) R) (marks m.Comma ∷ []) (λ v' a i i' r' w'. starts_behind m.Comma (λ x b. R x b i i') v' a r' w') v as_ k j each) (starts_maybe_counted m.Comma S w o j l maybe))
  where
    by_start : Starts true (marks m.Comma ∷ []) (v ++ w) → begins_in gs ((v ++ w) ++ rest) ≡ false
    by_start (none nil is) = rw nil stops
    by_start (first f) = apart_begins gs (marks m.Comma ∷ []) ((v ++ w) ++ rest) apart (f rest)

last_all : {A B : Type 0} (most : ℕ) (S : Spans B) (cs hs : List Class) (p : State → Out A) (q : State → Out B) → TakesAll most S hs q → BeginsCounted S cs → (n : ℕ) (u rest : List Placed) (o : Option B) (k l : ℕ) → length (u ++ rest) ≤ n → length (u ++ rest) ≤ most → MaybeCounted (BehindCounted (mark m.Comma) S) u o k l → begins_in hs rest ≡ false → begins_in (marks m.Comma ∷ []) rest ≡ false → take_commas cs p q n (state_of (u ++ rest) k most) ≡ Ok (([], o), state_of rest l most)
last_all most S cs hs p q all begins zero u rest None k l few fits (nil, is) stops ends = rw (nil, is) refl
last_all most S cs hs p q all begins (suc n) u rest None k l few fits (nil, is) stops ends = rw (nil, ends, is) refl
last_all most S cs hs p q all begins zero u rest (Some b) k l few fits (x, v, split, some, s) stops ends =
    absurd (omega (arith, length-append u rest, ap length split))
last_all most S cs hs p q all begins (suc n) u rest (Some b) k l few fits (x, v, split, some, s) stops ends =
    let yes : begins_in (marks m.Comma ∷ []) (x ∷ (v ++ rest)) ≡ true = mark_begins m.Comma x (v ++ rest) some in
    let last : begins_in cs (v ++ rest) ≡ true = begins v b k l s rest in
    let fit : length (v ++ rest) ≤ most = omega (arith, length-append u rest, length-append v rest, ap length split, fits) in
    let item : q (state_of (v ++ rest) k most) ≡ Ok (b, state_of rest l most) = all v rest b k l fit s stops in
    rw (split, yes, last, item) refl

commas_all : {A B : Type 0} (most : ℕ) (R : Spans A) (S : Spans B) (fs cs gs hs : List Class) (p : State → Out A) (q : State → Out B) → TakesAll most R gs p → TakesAll most S hs q → BeginsCounted R fs → BeginsCounted S cs → disjoint cs fs ≡ true → disjoint gs (marks m.Comma ∷ []) ≡ true → (n : ℕ) (u v w rest : List Placed) (as_ : List A) (o : Option B) (k j l : ℕ) → u ≡ v ++ w → length (u ++ rest) ≤ n → length (u ++ rest) ≤ most → EachCounted (BehindCounted (mark m.Comma) R) v as_ k j → MaybeCounted (BehindCounted (mark m.Comma) S) w o j l → begins_in gs rest ≡ false → begins_in hs rest ≡ false → begins_in (marks m.Comma ∷ []) rest ≡ false → take_commas cs p q n (state_of (u ++ rest) k most) ≡ Ok ((as_, o), state_of rest l most)
commas_all most R S fs cs gs hs p q all_p all_q begins_p begins_q apart apart' n u v w rest [] o k j l split few fits (nil, is) maybe stops_g stops_h ends =
    let same : u ≡ w = split ∙ ap (λ x. x ++ w) nil in
    last_all most S cs hs p q all_q begins_q n u rest o k l few fits (rw (same, ← is) maybe) stops_h ends
commas_all most R S fs cs gs hs p q all_p all_q begins_p begins_q apart apart' zero u v w rest (a ∷ as_) o k j l split few fits (v1, v2, split', i, (x, y, split'', some, r), more) maybe stops_g stops_h ends =
    absurd (omega (arith, length-append u rest, length-append v w, length-append v1 v2, ap length split, ap length split', ap length split''))
commas_all most R S fs cs gs hs p q all_p all_q begins_p begins_q apart apart' (suc n) u v w rest (a ∷ as_) o k j l split few fits (v1, v2, split', i, (x, y, split'', some, r), more) maybe stops_g stops_h ends =
    let tail = (v2 ++ w) ++ rest in
    let joined : u ++ rest ≡ x ∷ (y ++ tail) = rw (split, split', split'', append_assoc y v2 w, append_assoc y (v2 ++ w) rest) refl in
    let yes : begins_in (marks m.Comma ∷ []) (x ∷ (y ++ tail)) ≡ true = mark_begins m.Comma x (y ++ tail) some in
    let item_next : begins_in cs (y ++ tail) ≡ false = apart_begins cs fs (y ++ tail) apart (begins_p y a k i r tail) in
    let stops = tail_stops R S gs v2 w rest as_ o i j l apart' more maybe stops_g in
    let fit : length (y ++ tail) ≤ most = omega (arith, ap length joined, fits) in
    let item : p (state_of (y ++ tail) k most) ≡ Ok (a, state_of tail i most) = all_p y tail a k i fit r stops in
    let few' : length tail ≤ n = omega (arith, ap length joined, few, length-append y tail) in
    let fit' : length tail ≤ most = omega (arith, fit, length-append y tail) in
    let others : take_commas cs p q n (state_of tail i most) ≡ Ok ((as_, o), state_of rest l most) = commas_all most R S fs cs gs hs p q all_p all_q begins_p begins_q apart apart' n (v2 ++ w) v2 w rest as_ o i j l refl few' fit' more maybe stops_g stops_h ends in
    rw (joined, yes, item_next, item, others) refl

-- before a `)`, an expression in parentheses is taken as it is matched
abbrev pub InnerAll : ℕ → Inside → Option (State → Out Expr) → Type 0
InnerAll most I None = (v : List Placed) (e : Expr) (k l : ℕ) → I v e k l → ⊥
InnerAll most I (Some f) = (v rest : List Placed) (p : Placed) (e : Expr) (k l : ℕ) → length (v ++ p ∷ rest) ≤ most → I v e k l → takes (mark m.Close) p.token ≡ Some tt → f (state_of (v ++ p ∷ rest) k most) ≡ Ok (e, state_of (p ∷ rest) l most)

enclosed_all : (most : ℕ) (I : Inside) (R : Spans Expr) (r : Option (State → Out Expr)) (fs gs : List Class) (p : State → Out Expr) → InnerAll most I r → TakesAll most R gs p → BeginsCounted R fs → disjoint (marks m.Open ∷ []) fs ≡ true → TakesAll most (OrEnclosedCounted I R) gs (take_enclosed r p)
enclosed_all most I R None fs gs p inner all begins apart u rest e k l fits (inl s) stops =
    let no : begins_in (marks m.Open ∷ []) (u ++ rest) ≡ false = apart_begins (marks m.Open ∷ []) fs (u ++ rest) apart (begins u e k l s rest) in
    rw no (all u rest e k l fits s stops)
enclosed_all most I R None fs gs p inner all begins apart u rest e k l fits (inr (x, y, split, some, (v, w, split', i, c))) stops =
    absurd (inner v e k l i)
enclosed_all most I R (Some f) fs gs p inner all begins apart u rest e k l fits (inl s) stops =
    let no : begins_in (marks m.Open ∷ []) (u ++ rest) ≡ false = apart_begins (marks m.Open ∷ []) fs (u ++ rest) apart (begins u e k l s rest) in
    rw no (all u rest e k l fits s stops)
enclosed_all most I R (Some f) fs gs p inner all begins apart u rest e k l fits (inr (x, y, split, some, (v, w, split', i, (z, single, taken)))) stops =
    let joined : u ++ rest ≡ x ∷ (v ++ z ∷ rest) = rw (split, split', single, append_assoc v (z ∷ []) rest) refl in
    let yes : begins_in (marks m.Open ∷ []) (x ∷ (v ++ z ∷ rest)) ≡ true = mark_begins m.Open x (v ++ z ∷ rest) some in
    let fit : length (v ++ z ∷ rest) ≤ most = omega (arith, ap length joined, fits) in
    let inside : f (state_of (v ++ z ∷ rest) k most) ≡ Ok (e, state_of (z ∷ rest) l most) = inner v rest z e k l fit i taken in
    rw (joined, yes, inside, taken) refl

next_stops : (gs fs : List Class) (n : Bool) (w rest : List Placed) → Starts n fs w → disjoint gs fs ≡ true → begins_in (classes_if n gs) rest ≡ false → begins_in gs (w ++ rest) ≡ false
next_stops gs fs n w rest (none nil is) apart stops = rw nil (rw is at stops)
next_stops gs fs n w rest (first f) apart stops = apart_begins gs fs (w ++ rest) apart (f rest)

-- what is inside of parentheses, whatever the counts
abbrev Somehow : Inside → List Placed → Expr → Type 0
Somehow I u e = (k : ℕ) × (l : ℕ) × I u e k l

starts_counted : (I : Inside) {A : Type 0} (g : Grammar A) → is_decided g ≡ true → (u : List Placed) (a : A) (k l : ℕ) → Counted limits I g u a k l → Starts (nullable g) (firsts g) u
starts_counted I g d u a k l r =
    starts (Somehow I) g d u a (uncounted limits I (Somehow I) (λ v e i j s. (i, j, s)) g u a k l r)

begins_counted : (I : Inside) {A : Type 0} (g : Grammar A) → is_decided g ≡ true → nullable g ≡ false → BeginsCounted (Counted limits I g) (firsts g)
begins_counted I g d some v a k l r w = starts_some _ _ v (starts_counted I g d v a k l r) some w

-- what is matched within the limits is taken, where what follows can't be taken as more of it
pub takes_all : (most : ℕ) (I : Inside) (r : Option (State → Out Expr)) → InnerAll most I r → {A : Type 0} (g : Grammar A) → is_decided g ≡ true → TakesAll most (Counted limits I g) (goes g) (take r g)
takes_all most I r inner (terminal t) d u rest a k l fits s stops = take_one_all t u rest a k l most s
takes_all most I r inner (empty b) d u rest a k l fits (nil, is, same) stops = rw (nil, is, same) refl
takes_all most I r inner (made g f) d u rest b k l fits (a, s, is) stops =
    let e = takes_all most I r inner g d u rest a k l fits s stops in
    rw (e, is) refl
takes_all most I r inner (both g h) d u rest c k l fits (v, w, split, j, s, t) stops =
    let dg = (both_true _ _ d).0 in
    let dh = (both_true _ _ (both_true _ _ d).1).0 in
    let apart = (both_true _ _ (both_true _ _ d).1).1 in
    let parts = begins_none (goes h) (classes_if (nullable h) (goes g)) rest stops in
    let joined : u ++ rest ≡ v ++ (w ++ rest) = ap (λ x. x ++ rest) split ∙ append_assoc v w rest in
    let fit : length (v ++ (w ++ rest)) ≤ most = subst (λ x. length x ≤ most) joined fits in
    let fit' : length (w ++ rest) ≤ most = omega (arith, fit, length-append v (w ++ rest)) in
    let one : take r g (state_of (v ++ (w ++ rest)) k most) ≡ Ok (c.0, state_of (w ++ rest) j most) = takes_all most I r inner g dg v (w ++ rest) c.0 k j fit s (next_stops (goes g) (firsts h) (nullable h) w rest (starts_counted I h dh w c.1 j l t) apart parts.1) in
    let two : take r h (state_of (w ++ rest) j most) ≡ Ok (c.1, state_of rest l most) = takes_all most I r inner h dh w rest c.1 j l fit' t parts.0 in
    rw (joined, one, two) refl
takes_all most I r inner (either g h) d u rest a k l fits (inl s) stops =
    let dg = (both_true _ _ d).0 in
    let more = (both_true _ _ (both_true _ _ d).1).1 in
    let yes : begins_in (firsts g) (u ++ rest) ≡ true = begins_counted I g dg (not_true _ (both_true _ _ more).0) u a k l s rest in
    let parts = begins_none (goes g) (goes h ++ classes_if (nullable h) (firsts g)) rest stops in
    rw yes (takes_all most I r inner g dg u rest a k l fits s parts.0)
takes_all most I r inner (either g h) d u rest a k l fits (inr s) stops =
    let d2 : (is_decided h && (not (nullable g) && disjoint (firsts g) (firsts h))) ≡ true = (both_true (is_decided g) _ d).1 in
    let dh : is_decided h ≡ true = (both_true (is_decided h) _ d2).0 in
    let more : (not (nullable g) && disjoint (firsts g) (firsts h)) ≡ true = (both_true (is_decided h) _ d2).1 in
    let parts = begins_none (goes g) (goes h ++ classes_if (nullable h) (firsts g)) rest stops in
    let parts' = begins_none (goes h) (classes_if (nullable h) (firsts g)) rest parts.1 in
    let no : begins_in (firsts g) (u ++ rest) ≡ false = next_stops (firsts g) (firsts h) (nullable h) u rest (starts_counted I h dh u a k l s) (both_true (not (nullable g)) (disjoint (firsts g) (firsts h)) more).1 parts'.1 in
    rw no (takes_all most I r inner h dh u rest a k l fits s parts'.0)
takes_all most I r inner (many g) d u rest as_ k l fits s stops =
    let dg = (both_true _ _ d).0 in
    let more = (both_true _ _ d).1 in
    let parts = begins_none (goes g) (firsts g) rest stops in
    many_all most (Counted limits I g) (firsts g) (goes g) (take r g) (λ u' rest' a' k' l' fits' s' stops'. takes_all most I r inner g dg u' rest' a' k' l' fits' s' stops') (begins_counted I g dg (not_true _ (both_true _ _ more).0)) (both_true _ _ more).1 most u rest as_ k l fits fits s parts.0 parts.1
takes_all most I r inner (commas g h) d u rest c k l fits (v, w, split, j, each, maybe) stops =
    let dg = (both_true _ _ d).0 in
    let d2 = (both_true _ _ d).1 in
    let dh = (both_true _ _ d2).0 in
    let d3 = (both_true _ _ d2).1 in
    let d4 = (both_true _ _ d3).1 in
    let d5 = (both_true _ _ d4).1 in
    let parts = begins_none (marks m.Comma ∷ []) (goes g ++ goes h) rest stops in
    let parts' = begins_none (goes g) (goes h) rest parts.1 in
    commas_all most (Counted limits I g) (Counted limits I h) (firsts g) (firsts h) (goes g) (goes h) (take r g) (take r h) (λ u' rest' a' k' l' fits' s' stops'. takes_all most I r inner g dg u' rest' a' k' l' fits' s' stops') (λ u' rest' a' k' l' fits' s' stops'. takes_all most I r inner h dh u' rest' a' k' l' fits' s' stops') (begins_counted I g dg (not_true _ (both_true _ _ d3).0)) (begins_counted I h dh (not_true _ (both_true _ _ d4).0)) (both_true _ _ d5).0 (both_true _ _ d5).1 most u v w rest c.0 c.1 k j l split fits fits each maybe parts'.0 parts'.1 parts.0
takes_all most I r inner (outermost g) d u rest a k l fits s stops = takes_all most I r inner g d u rest a 0 l fits s stops
takes_all most I r inner (or_enclosed g) d u rest a k l fits s stops =
    let dg = (both_true _ _ d).0 in
    let more = (both_true _ _ d).1 in
    enclosed_all most I (Counted limits I g) r (firsts g) (goes g) (take r g) inner (λ u' rest' a' k' l' fits' s' stops'. takes_all most I r inner g dg u' rest' a' k' l' fits' s' stops') (begins_counted I g dg (not_true _ (both_true _ _ more).0)) (both_true _ _ more).1 u rest a k l fits s stops

pub inside_all : (most room : ℕ) → InnerAll most (CountedWithin limits room) (take_inside room)
unfolding take_inside
inside_all most zero = λ v e k l w. w
inside_all most (suc room) = λ v rest p e k l fit w taken. takes_all most (CountedWithin limits room) (take_inside room) (inside_all most room) expression expression_decided v (p ∷ rest) e k l fit w (apart_begins (goes expression) (marks m.Close ∷ []) (p ∷ rest) expression_closes (taken_class (mark m.Close) p.token tt taken))
