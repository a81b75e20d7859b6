-- What a grammar matches is read as it.
use Rattle.std.proofs.Common.{◌≡◌, ℕ, zero, suc, ◌≤◌, Bool, true, false, not, ◌&&◌, List, [], ◌∷◌, ◌++◌, length, Option, Some, None, is_some, Ok, inl, inr, refl, ◌∙◌, ap, subst, append_assoc, length-append, arith}
use Rattle.strip_ast.specs.declared.marks.Mark.TheVariants as m
use Rattle.strip_ast.specs.declared.token_types.Placed.{Placed}
use Rattle.strip_ast.specs.declared.expressions.Expr.{Expr}
use Rattle.strip_ast.specs.Grammar.{Grammar, mark, terminal, empty, made, both, either, many, commas, outermost, or_enclosed, takes, Behind, Each, Maybe, Matches}
use Rattle.strip_parse.specs.Deciding.{Class, marks, token_class, has_class, begins_in, disjoint, classes_if, nullable, firsts, goes, is_decided}
use Rattle.strip_parse.specs.Reading.{Read, read_commas, read_enclosed, read}
use Rattle.strip_parse.proofs.Begins.{both_true, not_true, apart_begins, begins_none, taken_class, Starts, none, first}
use Rattle.strip_parse.proofs.Laws.{starts, starts_some, starts_each, starts_behind, starts_maybe, starts_join, Complete, Begins, read_one_complete, many_complete, OrEnclosed}

mark_begins_at : (b : _) (p : Placed) (o : Option (Unit {0})) → takes (mark b) p.token ≡ o → is_some o ≡ true → has_class (token_class p.token) (marks b ∷ []) ≡ true
mark_begins_at b p (Some x) is some = taken_class (mark b) p.token x is
mark_begins_at b p None is some = cc

-- a mark begins as itself
pub mark_begins : (b : _) (p : Placed) (w : List Placed) → is_some (takes (mark b) p.token) ≡ true → begins_in (marks b ∷ []) (p ∷ w) ≡ true
mark_begins b p w some = mark_begins_at b p (takes (mark b) p.token) refl some

tail_stops : {A B : Type 0} (R : List Placed → A → Type 0) (S : List Placed → B → Type 0) (gs : List Class) (v w rest : List Placed) (as_ : List A) (o : Option B) → disjoint gs (marks m.Comma ∷ []) ≡ true → Each (Behind (mark m.Comma) R) v as_ → Maybe (Behind (mark m.Comma) S) w o → begins_in gs rest ≡ false → begins_in gs ((v ++ w) ++ rest) ≡ false
tail_stops R S gs v w rest as_ o apart each maybe stops =
    by_start (starts_join (marks m.Comma ∷ []) v w (starts_each (Behind (mark m.Comma) R) (marks m.Comma ∷ []) (λ v' a r' w'. starts_behind m.Comma R v' a r' w') v as_ each) (starts_maybe m.Comma S w o maybe))
  where
    by_start : Starts true (marks m.Comma ∷ []) (v ++ w) → begins_in gs ((v ++ w) ++ rest) ≡ false
    by_start (none nil is) = rw nil stops
    by_start (first f) = apart_begins gs (marks m.Comma ∷ []) ((v ++ w) ++ rest) apart (f rest)

last_complete : {A B : Type 0} (most : ℕ) (R : List Placed → A → Type 0) (S : List Placed → B → Type 0) (cs gs hs : List Class) (p : List Placed → Read A) (q : List Placed → Read B) → Complete most S hs q → Begins S cs → (n : ℕ) (u rest : List Placed) (o : Option B) → length (u ++ rest) ≤ n → length (u ++ rest) ≤ most → Maybe (Behind (mark m.Comma) S) u o → begins_in hs rest ≡ false → begins_in (marks m.Comma ∷ []) rest ≡ false → read_commas cs p q n (u ++ rest) ≡ Ok (([], o), rest)
last_complete most R S cs gs hs p q complete begins zero u rest None few fits nil stops ends = rw nil refl
last_complete most R S cs gs hs p q complete begins (suc n) u rest None few fits nil stops ends = rw (nil, ends) refl
last_complete most R S cs gs hs p q complete begins zero u rest (Some b) few fits (x, v, split, some, s) stops ends =
    absurd (omega (arith, length-append u rest, ap length split))
last_complete most R S cs gs hs p q complete begins (suc n) u rest (Some b) few fits (x, v, split, some, s) stops ends =
    let yes : begins_in (marks m.Comma ∷ []) (x ∷ (v ++ rest)) ≡ true = mark_begins m.Comma x (v ++ rest) some in
    let last : begins_in cs (v ++ rest) ≡ true = begins v b s rest in
    let fit : length (v ++ rest) ≤ most = omega (arith, length-append u rest, length-append v rest, ap length split, fits) in
    let item : q (v ++ rest) ≡ Ok (b, rest) = complete v rest b fit s stops in
    rw (split, yes, last, item) refl

commas_complete : {A B : Type 0} (most : ℕ) (R : List Placed → A → Type 0) (S : List Placed → B → Type 0) (fs cs gs hs : List Class) (p : List Placed → Read A) (q : List Placed → Read B) → Complete most R gs p → Complete most S hs q → Begins R fs → Begins S cs → disjoint cs fs ≡ true → disjoint gs (marks m.Comma ∷ []) ≡ true → (n : ℕ) (u v w rest : List Placed) (as_ : List A) (o : Option B) → u ≡ v ++ w → length (u ++ rest) ≤ n → length (u ++ rest) ≤ most → Each (Behind (mark m.Comma) R) v as_ → Maybe (Behind (mark m.Comma) S) w o → begins_in gs rest ≡ false → begins_in hs rest ≡ false → begins_in (marks m.Comma ∷ []) rest ≡ false → read_commas cs p q n (u ++ rest) ≡ Ok ((as_, o), rest)
commas_complete most R S fs cs gs hs p q complete_p complete_q begins_p begins_q apart apart' n u v w rest [] o split few fits nil maybe stops_g stops_h ends =
    let same : u ≡ w = split ∙ ap (λ x. x ++ w) nil in
    last_complete most R S cs gs hs p q complete_q begins_q n u rest o few fits (rw same maybe) stops_h ends
commas_complete most R S fs cs gs hs p q complete_p complete_q begins_p begins_q apart apart' zero u v w rest (a ∷ as_) o split few fits (v1, v2, split', (x, y, split'', some, r), more) maybe stops_g stops_h ends =
    absurd (omega (arith, length-append u rest, length-append v w, length-append v1 v2, ap length split, ap length split', ap length split''))
commas_complete most R S fs cs gs hs p q complete_p complete_q begins_p begins_q apart apart' (suc n) u v w rest (a ∷ as_) o split few fits (v1, v2, split', (x, y, split'', some, r), more) maybe stops_g stops_h ends =
    let tail = (v2 ++ w) ++ rest in
    let joined : u ++ rest ≡ x ∷ (y ++ tail) = rw (split, split', split'', append_assoc y v2 w, append_assoc y (v2 ++ w) rest) refl in
    let yes : begins_in (marks m.Comma ∷ []) (x ∷ (y ++ tail)) ≡ true = mark_begins m.Comma x (y ++ tail) some in
    let item_next : begins_in cs (y ++ tail) ≡ false = apart_begins cs fs (y ++ tail) apart (begins_p y a r tail) in
    let stops = tail_stops R S gs v2 w rest as_ o apart' more maybe stops_g in
    let fit : length (y ++ tail) ≤ most = omega (arith, ap length joined, fits) in
    let item : p (y ++ tail) ≡ Ok (a, tail) = complete_p y tail a fit r stops in
    let few' : length tail ≤ n = omega (arith, ap length joined, few, length-append y tail) in
    let fit' : length tail ≤ most = omega (arith, fit, length-append y tail) in
    let others : read_commas cs p q n tail ≡ Ok ((as_, o), rest) = commas_complete most R S fs cs gs hs p q complete_p complete_q begins_p begins_q apart apart' n (v2 ++ w) v2 w rest as_ o refl few' fit' more maybe stops_g stops_h ends in
    rw (joined, yes, item_next, item, others) refl

-- before a `)`, an expression in parentheses is read as it is matched
abbrev pub InnerComplete : ℕ → (List Placed → Expr → Type 0) → Option (List Placed → Read Expr) → Type 0
InnerComplete most I None = (v : List Placed) (e : Expr) → I v e → ⊥
InnerComplete most I (Some f) = (v rest : List Placed) (p : Placed) (e : Expr) → length (v ++ p ∷ rest) ≤ most → I v e → takes (mark m.Close) p.token ≡ Some tt → f (v ++ p ∷ rest) ≡ Ok (e, p ∷ rest)

enclosed_complete : (most : ℕ) (I R : List Placed → Expr → Type 0) (r : Option (List Placed → Read Expr)) (fs gs : List Class) (p : List Placed → Read Expr) → InnerComplete most I r → Complete most R gs p → Begins R fs → disjoint (marks m.Open ∷ []) fs ≡ true → Complete most (OrEnclosed I R) gs (read_enclosed r p)
enclosed_complete most I R None fs gs p inner complete begins apart u rest e fits (inl s) stops = complete u rest e fits s stops
enclosed_complete most I R None fs gs p inner complete begins apart u rest e fits (inr (x, y, split, some, (v, w, split', i, c))) stops =
    absurd (inner v e i)
enclosed_complete most I R (Some f) fs gs p inner complete begins apart u rest e fits (inl s) stops =
    let no : begins_in (marks m.Open ∷ []) (u ++ rest) ≡ false = apart_begins (marks m.Open ∷ []) fs (u ++ rest) apart (begins u e s rest) in
    rw no (complete u rest e fits s stops)
enclosed_complete most I R (Some f) fs gs p inner complete begins apart u rest e fits (inr (x, y, split, some, (v, w, split', i, (z, single, taken)))) stops =
    let joined : u ++ rest ≡ x ∷ (v ++ z ∷ rest) = rw (split, split', single, append_assoc v (z ∷ []) rest) refl in
    let yes : begins_in (marks m.Open ∷ []) (x ∷ (v ++ z ∷ rest)) ≡ true = mark_begins m.Open x (v ++ z ∷ rest) some in
    let fit : length (v ++ z ∷ rest) ≤ most = omega (arith, ap length joined, fits) in
    let inside : f (v ++ z ∷ rest) ≡ Ok (e, z ∷ rest) = inner v rest z e fit i taken in
    rw (joined, yes, inside, taken) refl

-- what a grammar matches is read as it, where what follows can't be read as more of it
pub complete : (most : ℕ) (I : List Placed → Expr → Type 0) (r : Option (List Placed → Read Expr)) → InnerComplete most I r → {A : Type 0} (g : Grammar A) → is_decided g ≡ true → Complete most (Matches I g) (goes g) (read most r g)
complete most I r inner (terminal t) d u rest a fits s stops = read_one_complete t u rest a s
complete most I r inner (empty b) d u rest a fits (nil, is) stops = rw (nil, is) refl
complete most I r inner (made g f) d u rest b fits (a, s, is) stops =
    let e = complete most I r inner g d u rest a fits s stops in
    rw (e, is) refl
complete most I r inner (both g h) d u rest c fits (v, w, split, s, t) stops =
    let dg = (both_true _ _ d).0 in
    let dh = (both_true _ _ (both_true _ _ d).1).0 in
    let apart = (both_true _ _ (both_true _ _ d).1).1 in
    let parts = begins_none (goes h) (classes_if (nullable h) (goes g)) rest stops in
    let joined : u ++ rest ≡ v ++ (w ++ rest) = ap (λ x. x ++ rest) split ∙ append_assoc v w rest in
    let fit : length (v ++ (w ++ rest)) ≤ most = subst (λ x. length x ≤ most) joined fits in
    let fit' : length (w ++ rest) ≤ most = omega (arith, fit, length-append v (w ++ rest)) in
    let one : read most r g (v ++ (w ++ rest)) ≡ Ok (c.0, w ++ rest) = complete most I r inner g dg v (w ++ rest) c.0 fit s (both_stops (goes g) (firsts h) (nullable h) w rest (starts I h dh w c.1 t) apart parts.1) in
    let two : read most r h (w ++ rest) ≡ Ok (c.1, rest) = complete most I r inner h dh w rest c.1 fit' t parts.0 in
    rw (joined, one, two) refl
  where
    both_stops : (gs fs : List Class) (n : Bool) (w rest : List Placed) → Starts n fs w → disjoint gs fs ≡ true → begins_in (classes_if n gs) rest ≡ false → begins_in gs (w ++ rest) ≡ false
    both_stops gs fs n w rest (none nil is) apart stops = rw nil (rw is at stops)
    both_stops gs fs n w rest (first f) apart stops = apart_begins gs fs (w ++ rest) apart (f rest)
complete most I r inner (either g h) d u rest a fits (inl s) stops =
    let dg = (both_true _ _ d).0 in
    let more = (both_true _ _ (both_true _ _ d).1).1 in
    let yes : begins_in (firsts g) (u ++ rest) ≡ true = starts_some _ _ u (starts I g dg u a s) (not_true _ (both_true _ _ more).0) rest in
    let parts = begins_none (goes g) (goes h ++ classes_if (nullable h) (firsts g)) rest stops in
    rw yes (complete most I r inner g dg u rest a fits s parts.0)
complete most I r inner (either g h) d u rest a fits (inr s) stops =
    let d2 : (is_decided h && (not (nullable g) && disjoint (firsts g) (firsts h))) ≡ true = (both_true (is_decided g) _ d).1 in
    let dh : is_decided h ≡ true = (both_true (is_decided h) _ d2).0 in
    let more : (not (nullable g) && disjoint (firsts g) (firsts h)) ≡ true = (both_true (is_decided h) _ d2).1 in
    let parts = begins_none (goes g) (goes h ++ classes_if (nullable h) (firsts g)) rest stops in
    let parts' = begins_none (goes h) (classes_if (nullable h) (firsts g)) rest parts.1 in
    let no : begins_in (firsts g) (u ++ rest) ≡ false = other_stops (firsts g) (firsts h) (nullable h) u rest (starts I h dh u a s) (both_true (not (nullable g)) (disjoint (firsts g) (firsts h)) more).1 parts'.1 in
    rw no (complete most I r inner h dh u rest a fits s parts'.0)
  where
    other_stops : (gs fs : List Class) (n : Bool) (w rest : List Placed) → Starts n fs w → disjoint gs fs ≡ true → begins_in (classes_if n gs) rest ≡ false → begins_in gs (w ++ rest) ≡ false
    other_stops gs fs n w rest (none nil is) apart stops = rw nil (rw is at stops)
    other_stops gs fs n w rest (first f) apart stops = apart_begins gs fs (w ++ rest) apart (f rest)
complete most I r inner (many g) d u rest as_ fits s stops =
    let dg = (both_true _ _ d).0 in
    let more = (both_true _ _ d).1 in
    let parts = begins_none (goes g) (firsts g) rest stops in
    many_complete most (Matches I g) (firsts g) (goes g) (read most r g) (λ u' rest' a' fits' s' stops'. complete most I r inner g dg u' rest' a' fits' s' stops') (λ v a' s' w. starts_some _ _ v (starts I g dg v a' s') (not_true _ (both_true _ _ more).0) w) (both_true _ _ more).1 most u rest as_ fits fits s parts.0 parts.1
complete most I r inner (commas g h) d u rest c fits (v, w, split, each, maybe) stops =
    let dg = (both_true _ _ d).0 in
    let d2 = (both_true _ _ d).1 in
    let dh = (both_true _ _ d2).0 in
    let d3 = (both_true _ _ d2).1 in
    let d4 = (both_true _ _ d3).1 in
    let d5 = (both_true _ _ d4).1 in
    let parts = begins_none (marks m.Comma ∷ []) (goes g ++ goes h) rest stops in
    let parts' = begins_none (goes g) (goes h) rest parts.1 in
    commas_complete most (Matches I g) (Matches I h) (firsts g) (firsts h) (goes g) (goes h) (read most r g) (read most r h) (λ u' rest' a' fits' s' stops'. complete most I r inner g dg u' rest' a' fits' s' stops') (λ u' rest' a' fits' s' stops'. complete most I r inner h dh u' rest' a' fits' s' stops') (λ v' a' s' w'. starts_some _ _ v' (starts I g dg v' a' s') (not_true _ (both_true _ _ d3).0) w') (λ v' a' s' w'. starts_some _ _ v' (starts I h dh v' a' s') (not_true _ (both_true _ _ d4).0) w') (both_true _ _ d5).0 (both_true _ _ d5).1 most u v w rest c.0 c.1 split fits fits each maybe parts'.0 parts'.1 parts.0
complete most I r inner (outermost g) d u rest a fits s stops = complete most I r inner g d u rest a fits s stops
complete most I r inner (or_enclosed g) d u rest a fits s stops =
    let dg = (both_true _ _ d).0 in
    let more = (both_true _ _ d).1 in
    enclosed_complete most I (Matches I g) r (firsts g) (goes g) (read most r g) inner (λ u' rest' a' fits' s' stops'. complete most I r inner g dg u' rest' a' fits' s' stops') (λ v a' s' w. starts_some _ _ v (starts I g dg v a' s') (not_true _ (both_true _ _ more).0) w) (both_true _ _ more).1 u rest a fits s stops
