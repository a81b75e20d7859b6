-- What a grammar's reader reads is what the grammar matches.
use Rattle.std.proofs.Common.{◌≡◌, ℕ, zero, suc, ◌≤◌, ◌<◌, Bool, true, false, ◌&&◌, ◌||◌, List, [], ◌∷◌, ◌++◌, length, Option, Some, None, is_some, Result, Ok, Err, ◌⊎◌, inl, inr, refl, sym, ◌∙◌, ap, subst, append_assoc, length-append, if◌then◌else◌, arith}
use Rattle.strip_ast.specs.declared.marks.Mark.TheVariants as m
use Rattle.strip_ast.specs.declared.token_types.Token.{Token}
use Rattle.strip_ast.specs.declared.token_types.Token.TheVariants as token
use Rattle.strip_ast.specs.declared.token_types.Placed.{Placed}
use Rattle.strip_ast.specs.declared.expressions.Expr.{Expr}
use Rattle.strip_ast.specs.Marks.{mark_text}
use Rattle.strip_ast.specs.Grammar.{Terminal, Grammar, mark, operator, name, number, caller, text, terminal, empty, made, both, either, many, commas, outermost, or_enclosed, takes, some_if, One, Seq, Behind, Each, Maybe, Closed, Matches}
use Rattle.strip_parse.specs.Deciding.{Class, marks, token_class, has_class, begins_in, disjoint, classes_if, nullable, firsts, is_decided}
use Rattle.strip_parse.specs.Reading.{Read, and_then, one_of, read_one, read_many, behind, read_commas, read_enclosed, read}
use Rattle.std.proofs.lemmas.Slice.Eq.{bytes_eq-Decides}
use Rattle.strip_parse.proofs.Begins.{mark_split, both_true, not_true, apart_begins, begins_left, begins_right, taken_class, Starts, none, first}

-- ---- how lists begin

starts_left : (n k : Bool) (cs ds : List Class) (v w : List Placed) → Starts n cs v → Starts k ds w → Starts (n && k) (cs ++ classes_if n ds) (v ++ w)
starts_left n k cs ds v w (first f) s = first (λ z. rw (append_assoc v w z) (begins_left cs (classes_if n ds) (v ++ (w ++ z)) (f (w ++ z))))
starts_left n k cs ds v w (none nil is) (first f) = first (λ z. rw (nil, is) (begins_right cs ds (w ++ z) (f z)))
starts_left n k cs ds v w (none nil is) (none nil' is') = none (rw (nil, nil') refl) (rw (is, is') refl)

or_left : (a b : Bool) → a ≡ true → (a || b) ≡ true
or_left true b is = refl
or_left false b is = cc

or_right : (a b : Bool) → b ≡ true → (a || b) ≡ true
or_right true b is = refl
or_right false b is = is

starts_one : (n k : Bool) (cs ds : List Class) (u : List Placed) → Starts n cs u → Starts (n || k) (cs ++ ds) u
starts_one n k cs ds u (none nil is) = none nil (or_left n k is)
starts_one n k cs ds u (first f) = first (λ z. begins_left cs ds (u ++ z) (f z))

starts_other : (n k : Bool) (cs ds : List Class) (u : List Placed) → Starts k ds u → Starts (n || k) (cs ++ ds) u
starts_other n k cs ds u (none nil is) = none nil (or_right n k is)
starts_other n k cs ds u (first f) = first (λ z. begins_right cs ds (u ++ z) (f z))

-- a list that isn't empty begins with a first token
pub starts_some : (n : Bool) (cs : List Class) (u : List Placed) → Starts n cs u → n ≡ false → (w : List Placed) → begins_in cs (u ++ w) ≡ true
starts_some n cs u (none nil is) not_null w = cc
starts_some n cs u (first f) not_null w = f w

pub starts_each : {A : Type 0} (R : List Placed → A → Type 0) (cs : List Class) → ((v : List Placed) (a : A) → R v a → (w : List Placed) → begins_in cs (v ++ w) ≡ true) → (u : List Placed) (as_ : List A) → Each R u as_ → Starts true cs u
starts_each R cs begins u [] nil = none nil refl
starts_each R cs begins u (a ∷ as_) (v, w, split, r, more) =
    first (λ z. rw (split, append_assoc v w z) (begins v a r (w ++ z)))

pub starts_behind : {A : Type 0} (b : _) (R : List Placed → A → Type 0) (u : List Placed) (a : A) → Behind (mark b) R u a → (w : List Placed) → begins_in (marks b ∷ []) (u ++ w) ≡ true
starts_behind b R u a (p, v, split, taken, r) w = rw split (comma_begins b p (takes (mark b) p.token) refl taken)
  where
    comma_begins : (b : _) (p : Placed) (o : Option (Unit {0})) → takes (mark b) p.token ≡ o → is_some o ≡ true → has_class (token_class p.token) (marks b ∷ []) ≡ true
    comma_begins b p (Some x) is some = taken_class (mark b) p.token x is
    comma_begins b p None is some = cc

pub starts_maybe : {A : Type 0} (b : _) (R : List Placed → A → Type 0) (u : List Placed) (o : Option A) → Maybe (Behind (mark b) R) u o → Starts true (marks b ∷ []) u
starts_maybe b R u None nil = none nil refl
starts_maybe b R u (Some a) r = first (starts_behind b R u a r)

pub starts_join : (cs : List Class) (v w : List Placed) → Starts true cs v → Starts true cs w → Starts true cs (v ++ w)
starts_join cs v w (first f) s = first (λ z. rw (append_assoc v w z) (f (w ++ z)))
starts_join cs v w (none nil is) (first f) = first (λ z. rw nil (f z))
starts_join cs v w (none nil is) (none nil' is') = none (rw (nil, nil') refl) refl

-- the lists of a grammar begin with its first tokens
pub starts : (I : List Placed → Expr → Type 0) {A : Type 0} (g : Grammar A) → is_decided g ≡ true → (u : List Placed) (a : A) → Matches I g u a → Starts (nullable g) (firsts g) u
starts I (terminal t) d u a (p, split, taken) = first (λ w. rw split (taken_class t p.token a taken))
starts I (empty b) d u a (nil, is) = none nil refl
starts I (made g f) d u b (a, r, is) = starts I g d u a r
starts I (both g h) d u c (v, w, split, r, s) =
    rw split (starts_left _ _ _ _ v w (starts I g (both_true _ _ d).0 v c.0 r) (starts I h (both_true _ _ (both_true _ _ d).1).0 w c.1 s))
starts I (either g h) d u a (inl r) = starts_one _ _ _ _ u (starts I g (both_true _ _ d).0 u a r)
starts I (either g h) d u a (inr r) = starts_other _ _ _ _ u (starts I h (both_true _ _ (both_true _ _ d).1).0 u a r)
starts I (many g) d u as_ r =
    starts_each (Matches I g) (firsts g) (λ v a s w. starts_some _ _ v (starts I g (both_true _ _ d).0 v a s) (not_true _ (both_true _ _ (both_true _ _ d).1).0) w) u as_ r
starts I (commas g h) d u c (v, w, split, r, s) =
    rw split (starts_join (marks m.Comma ∷ []) v w (starts_each (Behind (mark m.Comma) (Matches I g)) (marks m.Comma ∷ []) (λ v' a r' w'. starts_behind m.Comma (Matches I g) v' a r' w') v c.0 r) (starts_maybe m.Comma _ w c.1 s))
starts I (outermost g) d u a r = starts I g d u a r
starts I (or_enclosed g) d u e (inl r) = starts_other false _ (marks m.Open ∷ []) _ u (starts I g (both_true _ _ d).0 u e r)
starts I (or_enclosed g) d u e (inr r) = first (λ w. begins_left (marks m.Open ∷ []) (firsts g) (u ++ w) (starts_behind m.Open (Closed I) u e r w))

-- ---- each grammar has a list

sample : {A : Type 0} → Terminal A → Token
sample (mark a) = token.Mark a
sample (operator a) = token.Mark a
sample name = token.Name []
sample number = token.Number 0
sample caller = token.Number 0
sample text = token.Text []

same_self : (xs : List ℕ) → Rattle.std.specs.Str.bytes_eq xs xs ≡ true
same_self xs = (bytes_eq-Decides xs xs).1 refl

sampled : {A : Type 0} (t : Terminal A) → (a : A) × (takes t (sample t) ≡ Some a)
unfolding sample
sampled (mark a) = (tt, ap some_if (same_self (mark_text a)))
sampled (operator a) = (tt, ap some_if (same_self (mark_text a)))
sampled name = ([], refl)
sampled number = (0, refl)
sampled caller = (0, refl)
sampled text = ([], refl)

pub placed_sample : {A : Type 0} → Terminal A → Placed
placed_sample t = record { at = 0; token = sample t }

-- some list and its tree
pub some_list : (I : List Placed → Expr → Type 0) {A : Type 0} (g : Grammar A) → (u : List Placed) × (a : A) × Matches I g u a
unfolding placed_sample sample
some_list I (terminal t) = (placed_sample t ∷ [], (sampled t).0, (placed_sample t, refl, (sampled t).1))
some_list I (empty b) = ([], b, (refl, refl))
some_list I (made g f) = let s = some_list I g in (s.0, f s.1, (s.1, s.2, refl))
some_list I (both g h) =
    let s = some_list I g in
    let t = some_list I h in
    (s.0 ++ t.0, (s.1, t.1), (s.0, t.0, refl, s.2, t.2))
some_list I (either g h) = let s = some_list I g in (s.0, s.1, inl s.2)
some_list I (many g) = ([], [], refl)
some_list I (commas g h) = ([], ([], None), ([], [], refl, refl, refl))
some_list I (outermost g) = some_list I g
some_list I (or_enclosed g) = let s = some_list I g in (s.0, s.1, inl s.2)

-- ---- sound

pub pair_ok : {A : Type 0} (a b : A) (x y : List Placed) → (let one : Read A = Ok (a, x) in let two : Read A = Ok (b, y) in one ≡ two) → (a ≡ b) × (x ≡ y)
pair_ok {A} a b x y is =
    let both_same : (a, x) ≡ (b, y) = cc in
    (ap (λ (p : A × List Placed). p.0) both_same, ap (λ (p : A × List Placed). p.1) both_same)

pub ok_inv : {A B : Type 0} (r : Read A) (k : A → List Placed → Result B (List Placed)) (b : B) → and_then r k ≡ Ok b → (a : A) × (ts : List Placed) × (r ≡ Ok (a, ts)) × (k a ts ≡ Ok b)
ok_inv (Ok (a, ts)) k b is = (a, ts, refl, is)
ok_inv (Err ts) k b is = cc

pub err_inv : {A B : Type 0} (r : Read A) (k : A → List Placed → Result B (List Placed)) (rest : List Placed) → and_then r k ≡ Err rest → (r ≡ Err rest) ⊎ ((a : A) × (ts : List Placed) × (r ≡ Ok (a, ts)) × (k a ts ≡ Err rest))
err_inv (Ok (a, ts)) k rest is = inr (a, ts, refl, is)
err_inv (Err ts) k rest is = inl (let same : ts ≡ rest = cc in ap Err same)

pub by_test : {B : Type 0} (b : Bool) (x y r : B) (P : Type 0) → (if b then x else y) ≡ r → (b ≡ true → x ≡ r → P) → (b ≡ false → y ≡ r → P) → P
by_test true x y r P is f g = f refl is
by_test false x y r P is f g = g refl is

-- what is read stands at the front and is matched
abbrev pub Sound : {A : Type 0} → (List Placed → A → Type 0) → (List Placed → Read A) → Type 0
Sound R p = (ts rest : List Placed) (a : _) → p ts ≡ Ok (a, rest) → (u : List Placed) × (ts ≡ u ++ rest) × R u a

one_sound : {A : Type 0} (t : Terminal A) (p : Placed) (ps rest : List Placed) (a : A) (o : Option A) → takes t p.token ≡ o → one_of o p ps ≡ Ok (a, rest) → (u : List Placed) × (p ∷ ps ≡ u ++ rest) × One t u a
one_sound t p ps rest a None is e = cc
one_sound t p ps rest a (Some b) is e =
    let same = pair_ok b a ps rest e in
    (p ∷ [], ap (λ x. p ∷ x) same.1, (p, refl, is ∙ ap Some same.0))

pub read_one_sound : {A : Type 0} (t : Terminal A) → Sound (One t) (read_one t)
read_one_sound t [] rest a e = cc
read_one_sound t (p ∷ ps) rest a e = one_sound t p ps rest a (takes t p.token) refl e

pub both_split : (ts v w m rest : List Placed) → ts ≡ v ++ m → m ≡ w ++ rest → ts ≡ (v ++ w) ++ rest
both_split ts v w m rest one two = one ∙ ap (λ x. v ++ x) two ∙ sym (append_assoc v w rest)

pub many_sound : {A : Type 0} (R : List Placed → A → Type 0) (cs : List Class) (p : List Placed → Read A) → Sound R p → (n : ℕ) → Sound (Each R) (read_many cs p n)
many_sound R cs p sound zero ts rest as_ e =
    let same = pair_ok [] as_ ts rest e in
    ([], same.1, subst (λ xs. Each R [] xs) same.0 refl)
many_sound {A} R cs p sound (suc n) ts rest as_ e =
    by_test (begins_in cs ts) _ _ _ ((u : List Placed) × (ts ≡ u ++ rest) × Each R u as_) e
    (λ _ e1.
    let one = ok_inv (p ts) _ (as_, rest) e1 in
    let two = ok_inv (read_many cs p n one.1) _ (as_, rest) one.3 in
    let same = pair_ok (one.0 ∷ two.0) as_ two.1 rest two.3 in
    let v = sound ts one.1 one.0 one.2 in
    let w = many_sound R cs p sound n one.1 two.1 two.0 two.2 in
    (v.0 ++ w.0, both_split ts v.0 w.0 one.1 rest v.1 (w.1 ∙ ap (λ x. w.0 ++ x) same.1), subst (λ xs. Each R (v.0 ++ w.0) xs) same.0 (v.0, w.0, refl, v.2, w.2)))
    (λ _ e1.
    let same = pair_ok [] as_ ts rest e1 in
    ([], same.1, subst (λ xs. Each R [] xs) same.0 refl))

-- the relation of `{"," x} ["," y]`
abbrev pub Commas : {A B : Type 0} → (List Placed → A → Type 0) → (List Placed → B → Type 0) → List Placed → List A × Option B → Type 0
Commas R S u c = Seq (Each (Behind (mark m.Comma) R)) (Maybe (Behind (mark m.Comma) S)) u c.0 c.1

pub pair_same : {A : Type 0} (R : List Placed → A → Type 0) (u ts rest x : List Placed) (a b : A) → (let one : Read A = Ok (a, x) in let two : Read A = Ok (b, rest) in one ≡ two) → ts ≡ u ++ x → R u a → (v : List Placed) × (ts ≡ v ++ rest) × R v b
pair_same R u ts rest x a b is split r =
    let same = pair_ok a b x rest is in
    (u, split ∙ ap (λ z. u ++ z) same.1, subst (λ z. R u z) same.0 r)

pub commas_sound : {A B : Type 0} (R : List Placed → A → Type 0) (S : List Placed → B → Type 0) (cs : List Class) (p : List Placed → Read A) (q : List Placed → Read B) → Sound R p → Sound S q → (n : ℕ) → Sound (Commas R S) (read_commas cs p q n)
commas_sound R S cs p q sound_p sound_q zero ts rest c e =
    pair_same (Commas R S) [] ts rest ts ([], None) c e refl ([], [], refl, refl, refl)
commas_sound R S cs p q sound_p sound_q (suc n) ts rest c e =
    by_test (begins_in (marks m.Comma ∷ []) ts) _ _ _ ((u : List Placed) × (ts ≡ u ++ rest) × Commas R S u c) e
    (λ comma e1.
    let x = mark_split m.Comma ts comma in
    by_test (begins_in cs (behind ts)) _ _ _ ((u : List Placed) × (ts ≡ u ++ rest) × Commas R S u c) e1
    (λ _ e2.
    let one = ok_inv (q (behind ts)) _ (c, rest) e2 in
    let w = sound_q (behind ts) one.1 one.0 one.2 in
    pair_same (Commas R S) (x.0 ∷ w.0) ts rest one.1 ([], Some one.0) c one.3 (x.1 ∙ ap (λ z. x.0 ∷ z) w.1) ([], x.0 ∷ w.0, refl, refl, (x.0, w.0, refl, ap is_some x.2, w.2)))
    (λ _ e2.
    let one = ok_inv (p (behind ts)) _ (c, rest) e2 in
    let two = ok_inv (read_commas cs p q n one.1) _ (c, rest) one.3 in
    let v = sound_p (behind ts) one.1 one.0 one.2 in
    let w = commas_sound R S cs p q sound_p sound_q n one.1 two.1 two.0 two.2 in
    pair_same (Commas R S) ((x.0 ∷ v.0) ++ w.0) ts rest two.1 (one.0 ∷ two.0.0, two.0.1) c two.3 (x.1 ∙ ap (λ z. x.0 ∷ z) (both_split (behind ts) v.0 w.0 one.1 two.1 v.1 w.1)) ((x.0 ∷ v.0) ++ w.2.0, w.2.1, ap (λ z. (x.0 ∷ v.0) ++ z) w.2.2 ∙ sym (append_assoc (x.0 ∷ v.0) w.2.0 w.2.1), (x.0 ∷ v.0, w.2.0, refl, (x.0, v.0, refl, ap is_some x.2, v.2), w.2.3), w.2.4)))
    (λ _ e1. pair_same (Commas R S) [] ts rest ts ([], None) c e1 refl ([], [], refl, refl, refl))

abbrev pub InnerSound : (List Placed → Expr → Type 0) → Option (List Placed → Read Expr) → Type 0
InnerSound I None = Unit {0}
InnerSound I (Some f) = Sound I f

-- what may also be an expression in parentheses
abbrev pub OrEnclosed : (List Placed → Expr → Type 0) → (List Placed → Expr → Type 0) → List Placed → Expr → Type 0
OrEnclosed I R u e = R u e ⊎ Behind (mark m.Open) (Closed I) u e

enclosed_sound : (I R : List Placed → Expr → Type 0) (r : Option (List Placed → Read Expr)) (p : List Placed → Read Expr) → InnerSound I r → Sound R p → Sound (OrEnclosed I R) (read_enclosed r p)
enclosed_sound I R None p inner sound ts rest e is =
    let w = sound ts rest e is in
    (w.0, w.1, inl w.2)
enclosed_sound I R (Some f) p inner sound ts rest e is =
    by_test (begins_in (marks m.Open ∷ []) ts) _ _ _ ((u : List Placed) × (ts ≡ u ++ rest) × OrEnclosed I R u e) is
    (λ open_ e1.
    let x = mark_split m.Open ts open_ in
    let one = ok_inv (f (behind ts)) _ (e, rest) e1 in
    let two = ok_inv (read_one (mark m.Close) one.1) _ (e, rest) one.3 in
    let v = inner (behind ts) one.1 one.0 one.2 in
    let w = read_one_sound (mark m.Close) one.1 two.1 two.0 two.2 in
    pair_same (OrEnclosed I R) (x.0 ∷ (v.0 ++ w.0)) ts rest two.1 one.0 e two.3 (x.1 ∙ ap (λ z. x.0 ∷ z) (both_split (behind ts) v.0 w.0 one.1 two.1 v.1 w.1)) (inr (x.0, v.0 ++ w.0, refl, ap is_some x.2, (v.0, w.0, refl, v.2, w.2))))
    (λ _ e1.
    let w = sound ts rest e e1 in
    (w.0, w.1, inl w.2))

-- what a grammar's reader reads is matched
pub sound : (most : ℕ) (I : List Placed → Expr → Type 0) (r : Option (List Placed → Read Expr)) → InnerSound I r → {A : Type 0} (g : Grammar A) → Sound (Matches I g) (read most r g)
sound most I r inner (terminal t) ts rest a is = read_one_sound t ts rest a is
sound most I r inner (empty b) ts rest a is =
    let same = pair_ok b a ts rest is in
    ([], same.1, (refl, sym same.0))
sound most I r inner (made g f) ts rest b is =
    let one = ok_inv (read most r g ts) _ (b, rest) is in
    let same = pair_ok (f one.0) b one.1 rest one.3 in
    let u = sound most I r inner g ts one.1 one.0 one.2 in
    (u.0, u.1 ∙ ap (λ z. u.0 ++ z) same.1, (one.0, u.2, sym same.0))
sound most I r inner (both g h) ts rest c is =
    let one = ok_inv (read most r g ts) _ (c, rest) is in
    let two = ok_inv (read most r h one.1) _ (c, rest) one.3 in
    let v = sound most I r inner g ts one.1 one.0 one.2 in
    let w = sound most I r inner h one.1 two.1 two.0 two.2 in
    pair_same (Matches I (both g h)) (v.0 ++ w.0) ts rest two.1 (one.0, two.0) c two.3 (both_split ts v.0 w.0 one.1 two.1 v.1 w.1) (v.0, w.0, refl, v.2, w.2)
sound most I r inner (either g h) ts rest a is =
    by_test (begins_in (firsts g) ts) _ _ _ ((u : List Placed) × (ts ≡ u ++ rest) × Matches I (either g h) u a) is
    (λ _ e. let u = sound most I r inner g ts rest a e in (u.0, u.1, inl u.2))
    (λ _ e. let u = sound most I r inner h ts rest a e in (u.0, u.1, inr u.2))
sound most I r inner (many g) ts rest a is =
    many_sound (Matches I g) (firsts g) (read most r g) (λ ts' rest' a' e. sound most I r inner g ts' rest' a' e) most ts rest a is
sound most I r inner (commas g h) ts rest a is =
    commas_sound (Matches I g) (Matches I h) (firsts h) (read most r g) (read most r h) (λ ts' rest' a' e. sound most I r inner g ts' rest' a' e) (λ ts' rest' a' e. sound most I r inner h ts' rest' a' e) most ts rest a is
sound most I r inner (outermost g) ts rest a is = sound most I r inner g ts rest a is
sound most I r inner (or_enclosed g) ts rest a is =
    enclosed_sound I (Matches I g) r (read most r g) inner (λ ts' rest' a' e. sound most I r inner g ts' rest' a' e) ts rest a is

-- ---- complete

abbrev pub Complete : {A : Type 0} → ℕ → (List Placed → A → Type 0) → List Class → (List Placed → Read A) → Type 0
Complete most R cs p = (u rest : List Placed) (a : _) → length (u ++ rest) ≤ most → R u a → begins_in cs rest ≡ false → p (u ++ rest) ≡ Ok (a, rest)

abbrev pub Begins : {A : Type 0} → (List Placed → A → Type 0) → List Class → Type 0
Begins R cs = (v : List Placed) (a : _) → R v a → (w : List Placed) → begins_in cs (v ++ w) ≡ true

pub read_one_complete : {A : Type 0} (t : Terminal A) (u rest : List Placed) (a : A) → One t u a → read_one t (u ++ rest) ≡ Ok (a, rest)
read_one_complete t u rest a (p, split, taken) = rw (split, taken) refl

pub begins_some : (cs : List Class) (ts : List Placed) → begins_in cs ts ≡ true → 0 < length ts
begins_some cs [] is = cc
begins_some cs (p ∷ ps) is = omega arith

pub begins_item : (cs : List Class) (v : List Placed) → begins_in cs (v ++ []) ≡ true → 0 < length v
begins_item cs v is = omega (arith, begins_some cs (v ++ []) is, length-append v [])

each_stops : {A : Type 0} (R : List Placed → A → Type 0) (cs gs : List Class) → Begins R cs → disjoint gs cs ≡ true → (u rest : List Placed) (as_ : List A) → Each R u as_ → begins_in gs rest ≡ false → begins_in gs (u ++ rest) ≡ false
each_stops R cs gs begins apart u rest [] nil stops = rw nil stops
each_stops R cs gs begins apart u rest (a ∷ as_) (v, w, split, r, more) stops =
    let yes : begins_in cs ((v ++ w) ++ rest) ≡ true = rw (append_assoc v w rest) (begins v a r (w ++ rest)) in
    rw split (apart_begins gs cs ((v ++ w) ++ rest) apart yes)

pub many_complete : {A : Type 0} (most : ℕ) (R : List Placed → A → Type 0) (cs gs : List Class) (p : List Placed → Read A) → Complete most R gs p → Begins R cs → disjoint gs cs ≡ true → (n : ℕ) (u rest : List Placed) (as_ : List A) → length (u ++ rest) ≤ n → length (u ++ rest) ≤ most → Each R u as_ → begins_in gs rest ≡ false → begins_in cs rest ≡ false → read_many cs p n (u ++ rest) ≡ Ok (as_, rest)
many_complete most R cs gs p complete begins apart zero u rest [] few fits nil stops ends = rw nil refl
many_complete most R cs gs p complete begins apart zero u rest (a ∷ as_) few fits (v, w, split, r, more) stops ends =
    let some = begins_item cs v (begins v a r []) in
    absurd (omega (arith, length-append u rest, length-append v w, ap length split))
many_complete most R cs gs p complete begins apart (suc n) u rest [] few fits nil stops ends = rw (nil, ends) refl
many_complete most R cs gs p complete begins apart (suc n) u rest (a ∷ as_) few fits (v, w, split, r, more) stops ends =
    let joined : u ++ rest ≡ v ++ (w ++ rest) = ap (λ x. x ++ rest) split ∙ append_assoc v w rest in
    let some = begins_item cs v (begins v a r []) in
    let yes : begins_in cs (v ++ (w ++ rest)) ≡ true = begins v a r (w ++ rest) in
    let item : p (v ++ (w ++ rest)) ≡ Ok (a, w ++ rest) = complete v (w ++ rest) a (subst (λ x. length x ≤ most) joined fits) r (each_stops R cs gs begins apart w rest as_ more stops) in
    let fewer : length (w ++ rest) ≤ n = omega (arith, ap length joined, length-append v (w ++ rest)) in
    let fit : length (w ++ rest) ≤ most = omega (arith, ap length joined, length-append v (w ++ rest)) in
    let others : read_many cs p n (w ++ rest) ≡ Ok (as_, rest) = many_complete most R cs gs p complete begins apart n w rest as_ fewer fit more stops ends in
    rw (joined, yes, item, others) refl
