-- What a grammar matches, with its operators counted.
use Rattle.std.proofs.Common.{◌≡◌, ℕ, zero, suc, ◌+◌, ◌≤◌, Bool, true, nat_lt, nat_le, List, [], ◌∷◌, ◌++◌, Option, Some, None, ◌⊎◌, inl, inr, refl, arith}
use Rattle.std.proofs.lemmas.Bool.Decides.{nat_tests}
use Rattle.strip_ast.specs.declared.marks.Mark.TheVariants as m
use Rattle.strip_ast.specs.declared.token_types.Placed.{Placed}
use Rattle.strip_ast.specs.declared.expressions.Expr.{Expr}
use Rattle.strip_ast.specs.Grammar.{Terminal, Grammar, mark, operator, name, number, caller, text, terminal, empty, made, both, either, many, commas, outermost, or_enclosed, One, Behind, Each, Maybe, Closed, Matches}
use Rattle.strip_ast.specs.Syntax.{expression, Within}

-- whether one more operator may follow so many, and which numbers may stand for a caller
pub record Bounds : Type 0 where
  pub counts : ℕ → Bool
  pub calls : ℕ → Bool

-- nothing is bounded
abbrev pub unbounded : Bounds
unbounded = record { counts = λ k. true; calls = λ n. true }

-- what reading with limits allows
abbrev pub limits : Bounds
limits = record { counts = λ k. nat_lt k 256; calls = λ n. nat_le n 4294967295 }

-- what stands in parentheses, from so many operators before it to so many behind it
abbrev pub Inside : Type 1
Inside = List Placed → Expr → ℕ → ℕ → Type 0

-- one token counts as an operator or not
abbrev pub Step : {A : Type 0} → Bounds → Terminal A → A → ℕ → ℕ → Type 0
Step b (operator a) x k l = (b.counts k ≡ true) × (l ≡ k + 1)
Step b caller n k l = (b.calls n ≡ true) × (l ≡ k)
Step b _ x k l = l ≡ k

-- what a grammar matches: lists, their trees, and the operators before and behind
abbrev pub Spans : Type 0 → Type 1
Spans A = List Placed → A → ℕ → ℕ → Type 0

abbrev pub OneCounted : {A : Type 0} → Bounds → Terminal A → Spans A
OneCounted b t u a k l = One t u a × Step b t a k l

abbrev pub SeqCounted : {A B : Type 0} → Spans A → Spans B → List Placed → A → B → ℕ → ℕ → Type 0
SeqCounted R S u a b k l = (v : List Placed) × (w : List Placed) × (u ≡ v ++ w) × (j : ℕ) × R v a k j × S w b j l

-- a keyword or a symbol before it counts as nothing
abbrev pub BehindCounted : {A : Type 0} → Terminal (Unit {0}) → Spans A → Spans A
BehindCounted t R u a k l = Behind t (λ v b. R v b k l) u a

abbrev pub EachCounted : {A : Type 0} → Spans A → List Placed → List A → ℕ → ℕ → Type 0
EachCounted R u [] k l = (u ≡ []) × (l ≡ k)
EachCounted R u (a ∷ as_) k l =
    (v : List Placed) × (w : List Placed) × (u ≡ v ++ w) × (j : ℕ) × R v a k j × EachCounted R w as_ j l

abbrev pub MaybeCounted : {A : Type 0} → Spans A → List Placed → Option A → ℕ → ℕ → Type 0
MaybeCounted R u None k l = (u ≡ []) × (l ≡ k)
MaybeCounted R u (Some a) k l = R u a k l

abbrev pub ClosedCounted : Inside → Spans Expr
ClosedCounted I u e k l = Closed (λ v f. I v f k l) u e

-- the list is matched as the tree, from so many operators before it to so many behind it; an expression that is no
-- part of another is counted anew
abbrev pub Counted : {A : Type 0} → Bounds → Inside → Grammar A → List Placed → A → ℕ → ℕ → Type 0
Counted b I (terminal t) u a k l = OneCounted b t u a k l
Counted b I (empty x) u a k l = (u ≡ []) × (a ≡ x) × (l ≡ k)
Counted b I (made g f) u c k l = (a : _) × Counted b I g u a k l × (c ≡ f a)
Counted b I (both g h) u c k l = SeqCounted (Counted b I g) (Counted b I h) u c.0 c.1 k l
Counted b I (either g h) u a k l = Counted b I g u a k l ⊎ Counted b I h u a k l
Counted b I (many g) u a k l = EachCounted (Counted b I g) u a k l
Counted b I (commas g h) u c k l =
    SeqCounted (EachCounted (BehindCounted (mark m.Comma) (Counted b I g))) (MaybeCounted (BehindCounted (mark m.Comma) (Counted b I h))) u c.0 c.1 k l
Counted b I (outermost g) u a k l = Counted b I g u a 0 l
Counted b I (or_enclosed g) u e k l = Counted b I g u e k l ⊎ BehindCounted (mark m.Open) (ClosedCounted I) u e k l

-- an expression in which so many parentheses at most are open
abbrev pub CountedWithin : Bounds → ℕ → Inside
CountedWithin b zero u e k l = ⊥
CountedWithin b (suc room) u e k l = Counted b (CountedWithin b room) expression u e k l

-- ---- without the counts

-- the same lists and trees, whatever the counts
abbrev pub Forgets : {A : Type 0} → Spans A → (List Placed → A → Type 0) → Type 0
Forgets R S = (u : List Placed) (a : _) (k l : ℕ) → R u a k l → S u a

each_uncounted : {A : Type 0} (R : Spans A) (S : List Placed → A → Type 0) → Forgets R S → (u : List Placed) (as_ : List A) (k l : ℕ) → EachCounted R u as_ k l → Each S u as_
each_uncounted R S f u [] k l (nil, is) = nil
each_uncounted R S f u (a ∷ as_) k l (v, w, split, j, r, more) = (v, w, split, f v a k j r, each_uncounted R S f w as_ j l more)

maybe_uncounted : {A : Type 0} (R : Spans A) (S : List Placed → A → Type 0) → Forgets R S → (u : List Placed) (o : Option A) (k l : ℕ) → MaybeCounted R u o k l → Maybe S u o
maybe_uncounted R S f u None k l (nil, is) = nil
maybe_uncounted R S f u (Some a) k l r = f u a k l r

behind_uncounted : {A : Type 0} (t : Terminal (Unit {0})) (R : Spans A) (S : List Placed → A → Type 0) → Forgets R S → Forgets (BehindCounted t R) (Behind t S)
behind_uncounted t R S f u a k l (p, v, split, some, r) = (p, v, split, some, f v a k l r)

pub uncounted : (b : Bounds) (I : Inside) (J : List Placed → Expr → Type 0) → Forgets I J → {A : Type 0} (g : Grammar A) → Forgets (Counted b I g) (Matches J g)
uncounted b I J f (terminal t) u a k l (one, step) = one
uncounted b I J f (empty x) u a k l (nil, is, same) = (nil, is)
uncounted b I J f (made g h) u c k l (a, r, is) = (a, uncounted b I J f g u a k l r, is)
uncounted b I J f (both g h) u c k l (v, w, split, j, r, s) =
    (v, w, split, uncounted b I J f g v c.0 k j r, uncounted b I J f h w c.1 j l s)
uncounted b I J f (either g h) u a k l (inl r) = inl (uncounted b I J f g u a k l r)
uncounted b I J f (either g h) u a k l (inr r) = inr (uncounted b I J f h u a k l r)
uncounted b I J f (many g) u as_ k l r =
    each_uncounted (Counted b I g) (Matches J g) (λ v a i j s. uncounted b I J f g v a i j s) u as_ k l r
uncounted b I J f (commas g h) u c k l (v, w, split, j, r, s) =
    (v, w, split, each_uncounted (BehindCounted (mark m.Comma) (Counted b I g)) (Behind (mark m.Comma) (Matches J g)) (behind_uncounted (mark m.Comma) (Counted b I g) (Matches J g) (λ x a i i' t. uncounted b I J f g x a i i' t)) v c.0 k j r, maybe_uncounted (BehindCounted (mark m.Comma) (Counted b I h)) (Behind (mark m.Comma) (Matches J h)) (behind_uncounted (mark m.Comma) (Counted b I h) (Matches J h) (λ x a i i' t. uncounted b I J f h x a i i' t)) w c.1 j l s)
uncounted b I J f (outermost g) u a k l r = uncounted b I J f g u a 0 l r
uncounted b I J f (or_enclosed g) u e k l (inl r) = inl (uncounted b I J f g u e k l r)
uncounted b I J f (or_enclosed g) u e k l (inr (p, v, split, some, (x, y, split', i, c))) =
    inr (p, v, split, some, (x, y, split', f x e k l i, c))

pub within_uncounted : (b : Bounds) (room : ℕ) → Forgets (CountedWithin b room) (Within room)
within_uncounted b zero u e k l w = w
within_uncounted b (suc room) u e k l w =
    uncounted b (CountedWithin b room) (Within room) (within_uncounted b room) expression u e k l w

-- ---- more room changes nothing

abbrev pub MoreCounted : {A : Type 0} → Spans A → Spans A → Type 0
MoreCounted R S = (u : List Placed) (a : _) (k l : ℕ) → R u a k l → S u a k l

pub each_counted : {A : Type 0} (R S : Spans A) → MoreCounted R S → (u : List Placed) (as_ : List A) (k l : ℕ) → EachCounted R u as_ k l → EachCounted S u as_ k l
each_counted R S f u [] k l r = r
each_counted R S f u (a ∷ as_) k l (v, w, split, j, r, more) = (v, w, split, j, f v a k j r, each_counted R S f w as_ j l more)

pub maybe_counted : {A : Type 0} (R S : Spans A) → MoreCounted R S → (u : List Placed) (o : Option A) (k l : ℕ) → MaybeCounted R u o k l → MaybeCounted S u o k l
maybe_counted R S f u None k l r = r
maybe_counted R S f u (Some a) k l r = f u a k l r

behind_counted : {A : Type 0} (t : Terminal (Unit {0})) (R S : Spans A) → MoreCounted R S → MoreCounted (BehindCounted t R) (BehindCounted t S)
behind_counted t R S f u a k l (p, v, split, some, r) = (p, v, split, some, f v a k l r)

pub counted_more : (b : Bounds) (I J : Inside) → MoreCounted I J → {A : Type 0} (g : Grammar A) → MoreCounted (Counted b I g) (Counted b J g)
counted_more b I J f (terminal t) u a k l r = r
counted_more b I J f (empty x) u a k l r = r
counted_more b I J f (made g h) u c k l (a, r, is) = (a, counted_more b I J f g u a k l r, is)
counted_more b I J f (both g h) u c k l (v, w, split, j, r, s) =
    (v, w, split, j, counted_more b I J f g v c.0 k j r, counted_more b I J f h w c.1 j l s)
counted_more b I J f (either g h) u a k l (inl r) = inl (counted_more b I J f g u a k l r)
counted_more b I J f (either g h) u a k l (inr r) = inr (counted_more b I J f h u a k l r)
counted_more b I J f (many g) u as_ k l r =
    each_counted (Counted b I g) (Counted b J g) (λ v a i j s. counted_more b I J f g v a i j s) u as_ k l r
counted_more b I J f (commas g h) u c k l (v, w, split, j, r, s) =
    (v, w, split, j, each_counted (BehindCounted (mark m.Comma) (Counted b I g)) (BehindCounted (mark m.Comma) (Counted b J g)) (behind_counted (mark m.Comma) (Counted b I g) (Counted b J g) (λ x a i i' t. counted_more b I J f g x a i i' t)) v c.0 k j r, maybe_counted (BehindCounted (mark m.Comma) (Counted b I h)) (BehindCounted (mark m.Comma) (Counted b J h)) (behind_counted (mark m.Comma) (Counted b I h) (Counted b J h) (λ x a i i' t. counted_more b I J f h x a i i' t)) w c.1 j l s)
counted_more b I J f (outermost g) u a k l r = counted_more b I J f g u a 0 l r
counted_more b I J f (or_enclosed g) u e k l (inl r) = inl (counted_more b I J f g u e k l r)
counted_more b I J f (or_enclosed g) u e k l (inr (p, v, split, some, (x, y, split', i, c))) =
    inr (p, v, split, some, (x, y, split', f x e k l i, c))

pub room_more : (b : Bounds) (room : ℕ) → MoreCounted (CountedWithin b room) (CountedWithin b (suc room))
room_more b zero u e k l w = absurd w
room_more b (suc room) u e k l w =
    counted_more b (CountedWithin b room) (CountedWithin b (suc room)) (room_more b room) expression u e k l w

-- ---- what is matched can be counted, where nothing is bounded

-- from any count some count is reached
abbrev pub Counts : {A : Type 0} → (List Placed → A → Type 0) → Spans A → Type 0
Counts R S = (u : List Placed) (a : _) (k : ℕ) → R u a → (l : ℕ) × S u a k l

one_counts : {A : Type 0} (t : Terminal A) → Counts (One t) (OneCounted unbounded t)
one_counts (mark a) u x k r = (k, (r, refl))
one_counts (operator a) u x k r = (k + 1, (r, (refl, refl)))
one_counts name u x k r = (k, (r, refl))
one_counts number u x k r = (k, (r, refl))
one_counts caller u x k r = (k, (r, (refl, refl)))
one_counts text u x k r = (k, (r, refl))

each_counts : {A : Type 0} (R : List Placed → A → Type 0) (S : Spans A) → Counts R S → (u : List Placed) (as_ : List A) (k : ℕ) → Each R u as_ → (l : ℕ) × EachCounted S u as_ k l
each_counts R S f u [] k nil = (k, (nil, refl))
each_counts R S f u (a ∷ as_) k (v, w, split, r, more) =
    let one = f v a k r in
    let others = each_counts R S f w as_ one.0 more in
    (others.0, (v, w, split, one.0, one.1, others.1))

maybe_counts : {A : Type 0} (R : List Placed → A → Type 0) (S : Spans A) → Counts R S → (u : List Placed) (o : Option A) (k : ℕ) → Maybe R u o → (l : ℕ) × MaybeCounted S u o k l
maybe_counts R S f u None k nil = (k, (nil, refl))
maybe_counts R S f u (Some a) k r = f u a k r

behind_counts : {A : Type 0} (t : Terminal (Unit {0})) (R : List Placed → A → Type 0) (S : Spans A) → Counts R S → Counts (Behind t R) (BehindCounted t S)
behind_counts t R S f u a k (p, v, split, some, r) = let one = f v a k r in (one.0, (p, v, split, some, one.1))

pub counted : (I : List Placed → Expr → Type 0) (J : Inside) → Counts I J → {A : Type 0} (g : Grammar A) → Counts (Matches I g) (Counted unbounded J g)
counted I J f (terminal t) u a k r = one_counts t u a k r
counted I J f (empty x) u a k (nil, is) = (k, (nil, is, refl))
counted I J f (made g h) u c k (a, r, is) = let one = counted I J f g u a k r in (one.0, (a, one.1, is))
counted I J f (both g h) u c k (v, w, split, r, s) =
    let one = counted I J f g v c.0 k r in
    let two = counted I J f h w c.1 one.0 s in
    (two.0, (v, w, split, one.0, one.1, two.1))
counted I J f (either g h) u a k (inl r) = let one = counted I J f g u a k r in (one.0, inl one.1)
counted I J f (either g h) u a k (inr r) = let one = counted I J f h u a k r in (one.0, inr one.1)
counted I J f (many g) u as_ k r =
    each_counts (Matches I g) (Counted unbounded J g) (λ v a i s. counted I J f g v a i s) u as_ k r
counted I J f (commas g h) u c k (v, w, split, r, s) =
    let one = each_counts (Behind (mark m.Comma) (Matches I g)) (BehindCounted (mark m.Comma) (Counted unbounded J g)) (behind_counts (mark m.Comma) (Matches I g) (Counted unbounded J g) (λ x a i t. counted I J f g x a i t)) v c.0 k r in
    let two = maybe_counts (Behind (mark m.Comma) (Matches I h)) (BehindCounted (mark m.Comma) (Counted unbounded J h)) (behind_counts (mark m.Comma) (Matches I h) (Counted unbounded J h) (λ x a i t. counted I J f h x a i t)) w c.1 one.0 s in
    (two.0, (v, w, split, one.0, one.1, two.1))
counted I J f (outermost g) u a k r = counted I J f g u a 0 r
counted I J f (or_enclosed g) u e k (inl r) = let one = counted I J f g u e k r in (one.0, inl one.1)
counted I J f (or_enclosed g) u e k (inr (p, v, split, some, (x, y, split', i, c))) =
    let one = f x e k i in
    (one.0, inr (p, v, split, some, (x, y, split', one.1, c)))

pub within_counted : (room : ℕ) → Counts (Within room) (CountedWithin unbounded room)
within_counted zero u e k w = absurd w
within_counted (suc room) u e k w =
    counted (Within room) (CountedWithin unbounded room) (within_counted room) expression u e k w

-- ---- from fewer operators to fewer

-- where one more operator may follow, so it may where there are fewer
abbrev pub Falls : Bounds → Type 0
Falls b = (i k : ℕ) → i ≤ k → b.counts k ≡ true → b.counts i ≡ true

pub unbounded_falls : Falls unbounded
unbounded_falls i k few is = refl

pub limits_fall : Falls limits
limits_fall i k few is = grind (arith, nat_tests)

pub fewer : {A : Type 0} (b : Bounds) (t : Terminal A) (a : A) (i k l : ℕ) → Falls b → Step b t a k l → i ≤ k → (j : ℕ) × (j ≤ l) × Step b t a i j
fewer b (mark a) x i k l falls is few = (i, omega arith, refl)
fewer b (operator a) x i k l falls (more, is) few = (i + 1, omega arith, (falls i k few more, refl))
fewer b name x i k l falls is few = (i, omega arith, refl)
fewer b number x i k l falls is few = (i, omega arith, refl)
fewer b caller x i k l falls (allowed, is) few = (i, omega arith, (allowed, refl))
fewer b text x i k l falls is few = (i, omega arith, refl)
