-- Where reading stops, the tokens so far can go on, and with the next one they can't.
use Rattle.std.proofs.Common.{◌≡◌, ℕ, zero, suc, Bool, true, false, List, [], ◌∷◌, ◌++◌, length, Option, Some, None, is_some, Result, Ok, Err, inl, inr, refl, sym, ◌∙◌, ap, append_assoc, length-append, if◌then◌else◌, arith}
use Rattle.strip_ast.specs.declared.marks.Mark.TheVariants as m
use Rattle.strip_ast.specs.declared.token_types.Placed.{Placed}
use Rattle.strip_ast.specs.declared.expressions.Expr.{Expr}
use Rattle.strip_ast.specs.Grammar.{Terminal, Grammar, mark, terminal, empty, made, both, either, many, commas, outermost, or_enclosed, takes, Each, Matches}
use Rattle.strip_parse.specs.Deciding.{Class, marks, begins_in, firsts}
use Rattle.strip_parse.specs.Reading.{Read, and_then, one_of, read_one, read_many, behind, read_commas, read_enclosed, read}
use Rattle.strip_parse.proofs.Begins.{mark_split, begins_alike}
use Rattle.strip_parse.proofs.Laws.{by_test, err_inv, Sound, InnerSound, sound, some_list, Commas, OrEnclosed}

-- ---- the tokens so far can go on

abbrev pub Live : {A : Type 0} → (List Placed → A → Type 0) → (List Placed → Read A) → Type 0
Live R p = (ts rest : List Placed) → p ts ≡ Err rest → (u : List Placed) × (more : List Placed) × (a : _) × (ts ≡ u ++ rest) × R (u ++ more) a

abbrev pub HasSome : {A : Type 0} → (List Placed → A → Type 0) → Type 0
HasSome R = (u : List Placed) × (a : _) × R u a

append_none : {A : Type 0} (xs : List A) → xs ++ [] ≡ xs
append_none [] = refl
append_none (x ∷ xs) = ap (λ ys. x ∷ ys) (append_none xs)

one_live : {A : Type 0} (t : Terminal A) (p : Placed) (ps rest : List Placed) (o : Option A) → one_of o p ps ≡ Err rest → p ∷ ps ≡ rest
one_live t p ps rest None e = cc
one_live t p ps rest (Some a) e = cc

pub read_one_live : {A : Type 0} (t : Terminal A) (ts rest : List Placed) → read_one t ts ≡ Err rest → ts ≡ rest
read_one_live t [] rest e = cc
read_one_live t (p ∷ ps) rest e = one_live t p ps rest (takes t p.token) e

split_on : (ts v u m rest : List Placed) → ts ≡ v ++ m → m ≡ u ++ rest → ts ≡ (v ++ u) ++ rest
split_on ts v u m rest one two = one ∙ ap (λ x. v ++ x) two ∙ sym (append_assoc v u rest)

many_live : {A : Type 0} (R : List Placed → A → Type 0) (cs : List Class) (p : List Placed → Read A) → Sound R p → Live R p → (n : ℕ) → Live (Each R) (read_many cs p n)
many_live R cs p sound live zero ts rest e = cc
many_live {A} R cs p sound live (suc n) ts rest e =
    by_test (begins_in cs ts) _ _ _ ((u : List Placed) × (more : List Placed) × (as_ : List A) × (ts ≡ u ++ rest) × Each R (u ++ more) as_) e
    (λ _ e1.
    elim (err_inv (p ts) _ rest e1) [
      | inl e2 ↦
          (let h = live ts rest e2 in
          (h.0, h.1, h.2 ∷ [], h.3, (h.0 ++ h.1, [], sym (append_none (h.0 ++ h.1)), h.4, refl)))
      | inr one ↦
          (elim (err_inv (read_many cs p n one.1) _ rest one.3) [
            | inl e3 ↦
                (let v = sound ts one.1 one.0 one.2 in
                let h = many_live R cs p sound live n one.1 rest e3 in
                (v.0 ++ h.0, h.1, one.0 ∷ h.2, split_on ts v.0 h.0 one.1 rest v.1 h.3, (v.0, h.0 ++ h.1, append_assoc v.0 h.0 h.1, v.2, h.4)))
            | inr two ↦ cc
          ])
    ])
    (λ _ e1. cc)

commas_live : {A B : Type 0} (R : List Placed → A → Type 0) (S : List Placed → B → Type 0) (cs : List Class) (p : List Placed → Read A) (q : List Placed → Read B) → Sound R p → Live R p → Live S q → (n : ℕ) → Live (Commas R S) (read_commas cs p q n)
commas_live R S cs p q sound live_p live_q zero ts rest e = cc
commas_live {A} {B} R S cs p q sound live_p live_q (suc n) ts rest e =
    by_test (begins_in (marks m.Comma ∷ []) ts) _ _ _ ((u : List Placed) × (more : List Placed) × (c : List A × Option B) × (ts ≡ u ++ rest) × Commas R S (u ++ more) c) e
    (λ comma e1.
    let x = mark_split m.Comma ts comma in
    by_test (begins_in cs (behind ts)) _ _ _ ((u : List Placed) × (more : List Placed) × (c : List A × Option B) × (ts ≡ u ++ rest) × Commas R S (u ++ more) c) e1
    (λ _ e2.
    elim (err_inv (q (behind ts)) _ rest e2) [
      | inl e3 ↦
          (let h = live_q (behind ts) rest e3 in
          (x.0 ∷ h.0, h.1, ([], Some h.2), x.1 ∙ ap (λ z. x.0 ∷ z) h.3, ([], x.0 ∷ (h.0 ++ h.1), refl, refl, (x.0, h.0 ++ h.1, refl, ap is_some x.2, h.4))))
      | inr one ↦ cc
    ])
    (λ _ e2.
    elim (err_inv (p (behind ts)) _ rest e2) [
      | inl e3 ↦
          (let h = live_p (behind ts) rest e3 in
          (x.0 ∷ h.0, h.1, (h.2 ∷ [], None), x.1 ∙ ap (λ z. x.0 ∷ z) h.3, (x.0 ∷ (h.0 ++ h.1), [], sym (append_none (x.0 ∷ (h.0 ++ h.1))), (x.0 ∷ (h.0 ++ h.1), [], sym (append_none (x.0 ∷ (h.0 ++ h.1))), (x.0, h.0 ++ h.1, refl, ap is_some x.2, h.4), refl), refl)))
      | inr one ↦
          (elim (err_inv (read_commas cs p q n one.1) _ rest one.3) [
            | inl e3 ↦
                (let v = sound (behind ts) one.1 one.0 one.2 in
                let h = commas_live R S cs p q sound live_p live_q n one.1 rest e3 in
                ((x.0 ∷ v.0) ++ h.0, h.1, (one.0 ∷ h.2.0, h.2.1), x.1 ∙ ap (λ z. x.0 ∷ z) (split_on (behind ts) v.0 h.0 one.1 rest v.1 h.3), ((x.0 ∷ v.0) ++ h.4.0, h.4.1, append_assoc (x.0 ∷ v.0) h.0 h.1 ∙ ap (λ z. (x.0 ∷ v.0) ++ z) h.4.2 ∙ sym (append_assoc (x.0 ∷ v.0) h.4.0 h.4.1), (x.0 ∷ v.0, h.4.0, refl, (x.0, v.0, refl, ap is_some x.2, v.2), h.4.3), h.4.4)))
            | inr two ↦ cc
          ])
    ]))
    (λ _ e1. cc)

abbrev pub InnerLive : (List Placed → Expr → Type 0) → Option (List Placed → Read Expr) → Type 0
InnerLive I None = Unit {0}
InnerLive I (Some f) = Live I f

enclosed_live : (I R : List Placed → Expr → Type 0) (r : Option (List Placed → Read Expr)) (p : List Placed → Read Expr) → InnerSound I r → InnerLive I r → Live R p → Live (OrEnclosed I R) (read_enclosed r p)
enclosed_live I R None p inner inner_live live ts rest e =
    let h = live ts rest e in
    (h.0, h.1, h.2, h.3, inl h.4)
enclosed_live I R (Some f) p inner inner_live live ts rest e =
    let close = some_list I (terminal (mark m.Close)) in
    by_test (begins_in (marks m.Open ∷ []) ts) _ _ _ ((u : List Placed) × (more : List Placed) × (a : Expr) × (ts ≡ u ++ rest) × OrEnclosed I R (u ++ more) a) e
    (λ open_ e1.
    let x = mark_split m.Open ts open_ in
    elim (err_inv (f (behind ts)) _ rest e1) [
      | inl e2 ↦
          (let h = inner_live (behind ts) rest e2 in
          (x.0 ∷ h.0, h.1 ++ close.0, h.2, x.1 ∙ ap (λ z. x.0 ∷ z) h.3, inr (x.0, h.0 ++ (h.1 ++ close.0), refl, ap is_some x.2, (h.0 ++ h.1, close.0, sym (append_assoc h.0 h.1 close.0), h.4, close.2))))
      | inr one ↦
          (elim (err_inv (read_one (mark m.Close) one.1) _ rest one.3) [
            | inl e3 ↦
                (let v = inner (behind ts) one.1 one.0 one.2 in
                let same = read_one_live (mark m.Close) one.1 rest e3 in
                (x.0 ∷ v.0, close.0, one.0, x.1 ∙ ap (λ z. x.0 ∷ z) (v.1 ∙ ap (λ z. v.0 ++ z) same), inr (x.0, v.0 ++ close.0, refl, ap is_some x.2, (v.0, close.0, refl, v.2, close.2))))
            | inr two ↦ cc
          ])
    ])
    (λ _ e1.
    let h = live ts rest e1 in
    (h.0, h.1, h.2, h.3, inl h.4))

-- where a grammar's reader stops, the tokens so far can go on
pub live : (most : ℕ) (I : List Placed → Expr → Type 0) (r : Option (List Placed → Read Expr)) → InnerSound I r → InnerLive I r → {A : Type 0} (g : Grammar A) → Live (Matches I g) (read most r g)
live most I r inner inner_live (terminal t) ts rest e =
    let s = some_list I (terminal t) in
    ([], s.0, s.1, read_one_live t ts rest e, s.2)
live most I r inner inner_live (empty b) ts rest e = cc
live most I r inner inner_live (made g f) ts rest e =
    elim (err_inv (read most r g ts) _ rest e) [
      | inl e1 ↦
          (let h = live most I r inner inner_live g ts rest e1 in
          (h.0, h.1, f h.2, h.3, (h.2, h.4, refl)))
      | inr one ↦ cc
    ]
live most I r inner inner_live (both g h) ts rest e =
    elim (err_inv (read most r g ts) _ rest e) [
      | inl e1 ↦
          (let x = live most I r inner inner_live g ts rest e1 in
          let s = some_list I h in
          (x.0, x.1 ++ s.0, (x.2, s.1), x.3, (x.0 ++ x.1, s.0, sym (append_assoc x.0 x.1 s.0), x.4, s.2)))
      | inr one ↦
          (elim (err_inv (read most r h one.1) _ rest one.3) [
            | inl e2 ↦
                (let v = sound most I r inner g ts one.1 one.0 one.2 in
                let x = live most I r inner inner_live h one.1 rest e2 in
                (v.0 ++ x.0, x.1, (one.0, x.2), split_on ts v.0 x.0 one.1 rest v.1 x.3, (v.0, x.0 ++ x.1, append_assoc v.0 x.0 x.1, v.2, x.4)))
            | inr two ↦ cc
          ])
    ]
live most I r inner inner_live {A} (either g h) ts rest e =
    by_test (begins_in (firsts g) ts) _ _ _ ((u : List Placed) × (more : List Placed) × (a : A) × (ts ≡ u ++ rest) × Matches I (either g h) (u ++ more) a) e
    (λ _ e1. let x = live most I r inner inner_live g ts rest e1 in (x.0, x.1, x.2, x.3, inl x.4))
    (λ _ e1. let x = live most I r inner inner_live h ts rest e1 in (x.0, x.1, x.2, x.3, inr x.4))
live most I r inner inner_live (many g) ts rest e =
    many_live (Matches I g) (firsts g) (read most r g) (λ ts' rest' a' e'. sound most I r inner g ts' rest' a' e') (λ ts' rest' e'. live most I r inner inner_live g ts' rest' e') most ts rest e
live most I r inner inner_live (commas g h) ts rest e =
    commas_live (Matches I g) (Matches I h) (firsts h) (read most r g) (read most r h) (λ ts' rest' a' e'. sound most I r inner g ts' rest' a' e') (λ ts' rest' e'. live most I r inner inner_live g ts' rest' e') (λ ts' rest' e'. live most I r inner inner_live h ts' rest' e') most ts rest e
live most I r inner inner_live (outermost g) ts rest e = live most I r inner inner_live g ts rest e
live most I r inner inner_live (or_enclosed g) ts rest e =
    enclosed_live I (Matches I g) r (read most r g) inner inner_live (λ ts' rest' e'. live most I r inner inner_live g ts' rest' e') ts rest e

-- ---- the next token alone decides where reading stops

-- a reader stops within its list, and at a token whatever follows it
pub record Local {S : Type 0} (q : List Placed → Result S (List Placed)) : Type 0 where
  pub within : (ts rest : List Placed) → q ts ≡ Err rest → (u : List Placed) × (ts ≡ u ++ rest)
  pub same : (u w z : List Placed) (x : Placed) → q (u ++ x ∷ w) ≡ Err (x ∷ w) → q (u ++ x ∷ z) ≡ Err (x ∷ z)

local_along : {S : Type 0} (p q : List Placed → Result S (List Placed)) → ((ts : List Placed) → p ts ≡ q ts) → Local p → Local q
local_along p q along l = record {
  within = λ ts rest e. l.within ts rest (along ts ∙ e);
  same = λ u w z x e. sym (along (u ++ x ∷ z)) ∙ l.same u w z x (along (u ++ x ∷ w) ∙ e);
}

then_then : {A B S : Type 0} (r : Read A) (k : A → List Placed → Read B) (l : B → List Placed → Result S (List Placed)) → and_then r (λ a ts. and_then (k a ts) l) ≡ and_then (and_then r k) l
then_then (Ok (a, ts)) k l = refl
then_then (Err ts) k l = refl

abbrev pub Localizes : {A : Type 0} → Type 0 → (List Placed → Read A) → Type 0
Localizes {A} S p = (k : A → List Placed → Result S (List Placed)) → ((a : A) → Local (k a)) → Local (λ ts. and_then (p ts) k)

one_within : {A S : Type 0} (t : Terminal A) (k : A → List Placed → Result S (List Placed)) → ((a : A) → Local (k a)) → (p : Placed) (ps rest : List Placed) (o : Option A) → and_then (one_of o p ps) k ≡ Err rest → (u : List Placed) × (p ∷ ps ≡ u ++ rest)
one_within t k l p ps rest None e = ([], cc)
one_within t k l p ps rest (Some a) e =
    let h = (l a).within ps rest e in
    (p ∷ h.0, ap (λ z. p ∷ z) h.1)

one_same : {A S : Type 0} (k : A → List Placed → Result S (List Placed)) → ((a : A) → Local (k a)) → (w z : List Placed) (x : Placed) (o : Option A) → and_then (one_of o x w) k ≡ Err (x ∷ w) → and_then (one_of o x z) k ≡ Err (x ∷ z)
one_same k l w z x None e = refl
one_same k l w z x (Some a) e =
    let h = (l a).within w (x ∷ w) e in
    absurd (omega (arith, ap length h.1, length-append h.0 (x ∷ w)))

one_later : {A S : Type 0} (k : A → List Placed → Result S (List Placed)) → ((a : A) → Local (k a)) → (p : Placed) (u w z : List Placed) (x : Placed) (o : Option A) → and_then (one_of o p (u ++ x ∷ w)) k ≡ Err (x ∷ w) → and_then (one_of o p (u ++ x ∷ z)) k ≡ Err (x ∷ z)
one_later k l p u w z x None e =
    let same : p ∷ (u ++ x ∷ w) ≡ x ∷ w = cc in
    absurd (omega (arith, ap length same, length-append u (x ∷ w)))
one_later k l p u w z x (Some a) e = (l a).same u w z x e

read_one_local : {A S : Type 0} (t : Terminal A) → Localizes S (read_one t)
read_one_local t k l = record { within = within; same = same }
  where
    within : (ts rest : List Placed) → and_then (read_one t ts) k ≡ Err rest → (u : List Placed) × (ts ≡ u ++ rest)
    within [] rest e = ([], cc)
    within (p ∷ ps) rest e = one_within t k l p ps rest (takes t p.token) e

    same : (u w z : List Placed) (x : Placed) → and_then (read_one t (u ++ x ∷ w)) k ≡ Err (x ∷ w) → and_then (read_one t (u ++ x ∷ z)) k ≡ Err (x ∷ z)
    same [] w z x e = one_same k l w z x (takes t x.token) e
    same (p ∷ u) w z x e = one_later k l p u w z x (takes t p.token) e

-- ---- the laws of the words

pub pure_local : {A S : Type 0} (a : A) → Localizes S (λ ts. Ok (a, ts))
pure_local a k l = l a

pub then_local : {A B S : Type 0} (p : List Placed → Read A) (f : A → List Placed → Read B) → Localizes S p → ((a : A) → Localizes S (f a)) → Localizes S (λ ts. and_then (p ts) f)
then_local p f lp lf k l =
    local_along (λ ts. and_then (p ts) (λ a ts'. and_then (f a ts') k)) (λ ts. and_then (and_then (p ts) f) k) (λ ts. then_then (p ts) f k) (lp (λ a ts'. and_then (f a ts') k) (λ a. lf a k l))

by_choice : {A S : Type 0} (b : Bool) (x y : Read A) (k : A → List Placed → Result S (List Placed)) (r : Result S (List Placed)) (P : Type 0) → and_then (if b then x else y) k ≡ r → (b ≡ true → and_then x k ≡ r → P) → (b ≡ false → and_then y k ≡ r → P) → P
by_choice true x y k r P is f g = f refl is
by_choice false x y k r P is f g = g refl is

pub choice_local : {A S : Type 0} (cs : List Class) (p q : List Placed → Read A) → Localizes S p → Localizes S q → Localizes S (λ ts. if begins_in cs ts then p ts else q ts)
choice_local {A} {S} cs p q lp lq k l = record { within = within; same = same }
  where
    within : (ts rest : List Placed) → and_then (if begins_in cs ts then p ts else q ts) k ≡ Err rest → (u : List Placed) × (ts ≡ u ++ rest)
    within ts rest e =
        by_choice (begins_in cs ts) (p ts) (q ts) k (Err rest) ((u : List Placed) × (ts ≡ u ++ rest)) e (λ _ e1. (lp k l).within ts rest e1) (λ _ e1. (lq k l).within ts rest e1)

    same : (u w z : List Placed) (x : Placed) → and_then (if begins_in cs (u ++ x ∷ w) then p (u ++ x ∷ w) else q (u ++ x ∷ w)) k ≡ Err (x ∷ w) → and_then (if begins_in cs (u ++ x ∷ z) then p (u ++ x ∷ z) else q (u ++ x ∷ z)) k ≡ Err (x ∷ z)
    same u w z x e =
        by_choice (begins_in cs (u ++ x ∷ w)) (p (u ++ x ∷ w)) (q (u ++ x ∷ w)) k (Err (x ∷ w)) (and_then (if begins_in cs (u ++ x ∷ z) then p (u ++ x ∷ z) else q (u ++ x ∷ z)) k ≡ Err (x ∷ z)) e
        (λ is e1.
        let is' : begins_in cs (u ++ x ∷ z) ≡ true = sym (begins_alike cs u w z x) ∙ is in
        rw is' ((lp k l).same u w z x e1))
        (λ is e1.
        let is' : begins_in cs (u ++ x ∷ z) ≡ false = sym (begins_alike cs u w z x) ∙ is in
        rw is' ((lq k l).same u w z x e1))

along_local : {A S : Type 0} (p q : List Placed → Read A) → ((ts : List Placed) → p ts ≡ q ts) → Localizes S p → Localizes S q
along_local p q along lp k l = local_along (λ ts. and_then (p ts) k) (λ ts. and_then (q ts) k) (λ ts. ap (λ r. and_then r k) (along ts)) (lp k l)

many_local : {A S : Type 0} (cs : List Class) (p : List Placed → Read A) → Localizes S p → (n : ℕ) → Localizes S (read_many cs p n)
many_local cs p lp zero = pure_local []
many_local cs p lp (suc n) =
    choice_local cs (λ ts. and_then (p ts) (λ a rest. and_then (read_many cs p n rest) (λ as_ rest'. Ok (a ∷ as_, rest')))) (λ ts. Ok ([], ts)) (then_local p (λ a rest. and_then (read_many cs p n rest) (λ as_ rest'. Ok (a ∷ as_, rest'))) lp (λ a. then_local (read_many cs p n) (λ as_ rest'. Ok (a ∷ as_, rest')) (many_local cs p lp n) (λ as_. pure_local (a ∷ as_)))) (pure_local [])

-- a mark and what stands behind it
behind_mark : {A : Type 0} (b : _) (f y : List Placed → Read A) (ts : List Placed) → (if begins_in (marks b ∷ []) ts then and_then (read_one (mark b) ts) (λ _ rest. f rest) else y ts) ≡ (if begins_in (marks b ∷ []) ts then f (behind ts) else y ts)
behind_mark {A} b f y ts = by_test' (begins_in (marks b ∷ []) ts) refl
  where
    by_test' : (e : Bool) → begins_in (marks b ∷ []) ts ≡ e → (if e then and_then (read_one (mark b) ts) (λ _ rest. f rest) else y ts) ≡ (if e then f (behind ts) else y ts)
    by_test' false is = refl
    by_test' true is =
        let x = mark_split b ts is in
        let read_is : read_one (mark b) ts ≡ Ok (tt, behind ts) = ap (read_one (mark b)) x.1 ∙ ap (λ o. one_of o x.0 (behind ts)) x.2 in
        rw read_is refl

commas_step : {A B S : Type 0} (cs : List Class) (p : List Placed → Read A) (q : List Placed → Read B) → Localizes S p → Localizes S q → (n : ℕ) → Localizes S (read_commas cs p q n) → Localizes S (read_commas cs p q (suc n))
commas_step {A} {B} {S} cs p q lp lq n others =
    along_local (λ ts. if begins_in (marks m.Comma ∷ []) ts then and_then (read_one (mark m.Comma) ts) (λ _ rest. inner rest) else Ok (([], None), ts)) (read_commas cs p q (suc n)) (λ ts. behind_mark m.Comma inner (λ ts'. Ok (([], None), ts')) ts) (choice_local (marks m.Comma ∷ []) (λ ts. and_then (read_one (mark m.Comma) ts) (λ _ rest. inner rest)) (λ ts. Ok (([], None), ts)) (then_local (read_one (mark m.Comma)) (λ _ rest. inner rest) (read_one_local (mark m.Comma)) (λ _. inner_local)) (pure_local ([], None)))
  where
    inner : List Placed → Read (List A × Option B)
    inner ts =
        if begins_in cs ts then and_then (q ts) (λ b rest. Ok (([], Some b), rest)) else and_then (p ts) (λ a rest. and_then (read_commas cs p q n rest) (λ c rest'. Ok ((a ∷ c.0, c.1), rest')))

    inner_local : Localizes S inner
    inner_local =
        choice_local cs (λ ts. and_then (q ts) (λ b rest. Ok (([], Some b), rest))) (λ ts. and_then (p ts) (λ a rest. and_then (read_commas cs p q n rest) (λ c rest'. Ok ((a ∷ c.0, c.1), rest')))) (then_local q (λ b rest. Ok (([], Some b), rest)) lq (λ b. pure_local ([], Some b))) (then_local p (λ a rest. and_then (read_commas cs p q n rest) (λ c rest'. Ok ((a ∷ c.0, c.1), rest'))) lp (λ a. then_local (read_commas cs p q n) (λ c rest'. Ok ((a ∷ c.0, c.1), rest')) others (λ c. pure_local (a ∷ c.0, c.1))))

commas_local : {A B S : Type 0} (cs : List Class) (p : List Placed → Read A) (q : List Placed → Read B) → Localizes S p → Localizes S q → (n : ℕ) → Localizes S (read_commas cs p q n)
commas_local cs p q lp lq zero = pure_local ([], None)
commas_local cs p q lp lq (suc n) = commas_step cs p q lp lq n (commas_local cs p q lp lq n)

abbrev pub InnerLocal : Type 0 → Option (List Placed → Read Expr) → Type 0
InnerLocal S None = Unit {0}
InnerLocal S (Some f) = Localizes S f

enclosed_local : {S : Type 0} (r : Option (List Placed → Read Expr)) (p : List Placed → Read Expr) → InnerLocal S r → Localizes S p → Localizes S (read_enclosed r p)
enclosed_local None p inner lp = lp
enclosed_local {S} (Some f) p inner lp =
    along_local (λ ts. if begins_in (marks m.Open ∷ []) ts then and_then (read_one (mark m.Open) ts) (λ _ rest. body rest) else p ts) (read_enclosed (Some f) p) (λ ts. behind_mark m.Open body p ts) (choice_local (marks m.Open ∷ []) (λ ts. and_then (read_one (mark m.Open) ts) (λ _ rest. body rest)) p (then_local (read_one (mark m.Open)) (λ _ rest. body rest) (read_one_local (mark m.Open)) (λ _. body_local)) lp)
  where
    body : List Placed → Read Expr
    body ts = and_then (f ts) (λ e rest. and_then (read_one (mark m.Close) rest) (λ _ rest'. Ok (e, rest')))

    body_local : Localizes S body
    body_local =
        then_local f (λ e rest. and_then (read_one (mark m.Close) rest) (λ _ rest'. Ok (e, rest'))) inner (λ e. then_local (read_one (mark m.Close)) (λ _ rest'. Ok (e, rest')) (read_one_local (mark m.Close)) (λ _. pure_local e))

-- where reading stops depends on the tokens up to that one alone
pub local : {S : Type 0} (most : ℕ) (r : Option (List Placed → Read Expr)) → InnerLocal S r → {A : Type 0} (g : Grammar A) → Localizes S (read most r g)
local most r inner (terminal t) = read_one_local t
local most r inner (empty a) = pure_local a
local most r inner (made g f) = then_local (read most r g) (λ a rest. Ok (f a, rest)) (local most r inner g) (λ a. pure_local (f a))
local most r inner (both g h) =
    then_local (read most r g) (λ a rest. and_then (read most r h rest) (λ b rest'. Ok ((a, b), rest'))) (local most r inner g) (λ a. then_local (read most r h) (λ b rest'. Ok ((a, b), rest')) (local most r inner h) (λ b. pure_local (a, b)))
local most r inner (either g h) = choice_local (firsts g) (read most r g) (read most r h) (local most r inner g) (local most r inner h)
local most r inner (many g) = many_local (firsts g) (read most r g) (local most r inner g) most
local most r inner (commas g h) = commas_local (firsts h) (read most r g) (read most r h) (local most r inner g) (local most r inner h) most
local most r inner (outermost g) = local most r inner g
local most r inner (or_enclosed g) = enclosed_local r (read most r g) inner (local most r inner g)
