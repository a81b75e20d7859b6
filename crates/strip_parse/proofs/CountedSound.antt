-- What is taken within the limits is matched within them.
use Rattle.std.proofs.Common.{◌≡◌, ℕ, zero, suc, true, nat_lt, nat_le, List, [], ◌∷◌, ◌++◌, Option, Some, None, is_some, Ok, Err, ◌⊎◌, inl, inr, refl, sym, ◌∙◌, ap, subst, append_assoc}
use Rattle.strip_ast.specs.declared.marks.Mark.TheVariants as m
use Rattle.strip_ast.specs.declared.token_types.Placed.{Placed}
use Rattle.strip_ast.specs.declared.expressions.Expr.{Expr}
use Rattle.strip_ast.specs.Grammar.{Terminal, Grammar, mark, operator, name, number, caller, text, terminal, empty, made, both, either, many, commas, outermost, or_enclosed, takes}
use Rattle.strip_ast.specs.Syntax.{expression}
use Rattle.strip_parse.specs.Deciding.{Class, marks, begins_in, firsts}
use Rattle.strip_parse.specs.Reading.{behind, State, Out, out_then, with_left, with_operator, limited_one, take_from, take_one, take_many, past_one, take_commas, take_enclosed, fresh, take, take_inside}
use Rattle.strip_parse.proofs.Begins.{mark_split}
use Rattle.strip_parse.proofs.Laws.{by_test, both_split}
use Rattle.strip_parse.proofs.Counted.{Inside, Spans, limits, OneCounted, SeqCounted, BehindCounted, EachCounted, MaybeCounted, ClosedCounted, Counted, CountedWithin}

-- from one state to the other stands what is matched as the tree
abbrev pub Taken : {A : Type 0} → Spans A → State → A → State → Type 0
Taken R s a s' = (u : List Placed) × (s.left ≡ u ++ s'.left) × R u a s.operators s'.operators

abbrev pub TakenSound : {A : Type 0} → Spans A → (State → Out A) → Type 0
TakenSound R p = (s s' : State) (a : _) → p s ≡ Ok (a, s') → Taken R s a s'

out_inv : {A B : Type 0} (o : Out A) (k : A → State → Out B) (b : B × State) → out_then o k ≡ Ok b → (a : A) × (s : State) × (o ≡ Ok (a, s)) × (k a s ≡ Ok b)
out_inv (Ok (a, s)) k b is = (a, s, refl, is)
out_inv (Err halt) k b is = cc

-- the same tree and the same state
taken_same : {A : Type 0} (R : Spans A) (s x s' : State) (a b : A) → (let one : Out A = Ok (a, x) in let two : Out A = Ok (b, s') in one ≡ two) → Taken R s a x → Taken R s b s'
taken_same {A} R s x s' a b is t =
    let both_same : (a, x) ≡ (b, s') = cc in
    let tree : a ≡ b = ap (λ (p : A × State). p.0) both_same in
    let state : x ≡ s' = ap (λ (p : A × State). p.1) both_same in
    subst (λ y. Taken R s b y) state (subst (λ y. Taken R s y x) tree t)

one_taken : {A : Type 0} (t : Terminal A) (s s' : State) (p : Placed) (ps : List Placed) (a : A) → s.left ≡ p ∷ ps → (o : Option A) → takes t p.token ≡ o → limited_one t o s ps ≡ Ok (a, s') → Taken (OneCounted limits t) s a s'
one_taken t s s' p ps a left None is e = cc
one_taken (operator w) s s' p ps a left (Some x) is e =
    by_test (nat_lt s.operators 256) _ _ _ (Taken (OneCounted limits (operator w)) s a s') e
    (λ few e1. taken_same (OneCounted limits (operator w)) s (with_operator s ps) s' x a e1 (p ∷ [], left, ((p, refl, is), (few, refl))))
    (λ _ e1. cc)
one_taken caller s s' p ps a left (Some x) is e =
    by_test (nat_le x 4294967295) _ _ _ (Taken (OneCounted limits caller) s a s') e
    (λ few e1. taken_same (OneCounted limits caller) s (with_left s ps) s' x a e1 (p ∷ [], left, ((p, refl, is), (few, refl))))
    (λ _ e1. cc)
one_taken (mark w) s s' p ps a left (Some x) is e = taken_same (OneCounted limits (mark w)) s (with_left s ps) s' x a e (p ∷ [], left, ((p, refl, is), refl))
one_taken name s s' p ps a left (Some x) is e = taken_same (OneCounted limits name) s (with_left s ps) s' x a e (p ∷ [], left, ((p, refl, is), refl))
one_taken number s s' p ps a left (Some x) is e = taken_same (OneCounted limits number) s (with_left s ps) s' x a e (p ∷ [], left, ((p, refl, is), refl))
one_taken text s s' p ps a left (Some x) is e = taken_same (OneCounted limits text) s (with_left s ps) s' x a e (p ∷ [], left, ((p, refl, is), refl))

from_taken : {A : Type 0} (t : Terminal A) (s s' : State) (ts : List Placed) (a : A) → s.left ≡ ts → take_from t s ts ≡ Ok (a, s') → Taken (OneCounted limits t) s a s'
from_taken t s s' [] a left e = cc
from_taken t s s' (p ∷ ps) a left e = one_taken t s s' p ps a left (takes t p.token) refl e

take_one_sound : {A : Type 0} (t : Terminal A) → TakenSound (OneCounted limits t) (take_one t)
take_one_sound t s s' a e = from_taken t s s' s.left a refl e

-- one after the other
taken_both : {A B : Type 0} (R : Spans A) (S : Spans B) (s x y : State) (a : A) (b : B) → Taken R s a x → Taken S x b y → (u : List Placed) × (s.left ≡ u ++ y.left) × SeqCounted R S u a b s.operators y.operators
taken_both R S s x y a b v w =
    (v.0 ++ w.0, both_split s.left v.0 w.0 x.left y.left v.1 w.1, (v.0, w.0, refl, x.operators, v.2, w.2))

many_taken : {A : Type 0} (R : Spans A) (cs : List Class) (p : State → Out A) → TakenSound R p → (n : ℕ) → TakenSound (EachCounted R) (take_many cs p n)
many_taken R cs p sound zero s s' as_ e = taken_same (EachCounted R) s s s' [] as_ e ([], refl, (refl, refl))
many_taken {A} R cs p sound (suc n) s s' as_ e =
    by_test (begins_in cs s.left) _ _ _ (Taken (EachCounted R) s as_ s') e
    (λ _ e1.
    let one = out_inv (p s) _ (as_, s') e1 in
    let two = out_inv (take_many cs p n one.1) _ (as_, s') one.3 in
    let v = sound s one.1 one.0 one.2 in
    let w = many_taken R cs p sound n one.1 two.1 two.0 two.2 in
    taken_same (EachCounted R) s two.1 s' (one.0 ∷ two.0) as_ two.3 (taken_both R (EachCounted R) s one.1 two.1 one.0 two.0 v w))
    (λ _ e1. taken_same (EachCounted R) s s s' [] as_ e1 ([], refl, (refl, refl)))

-- the relation of `{"," x} ["," y]`
abbrev pub CommasCounted : {A B : Type 0} → Spans A → Spans B → Spans (List A × Option B)
CommasCounted R S u c k l =
    SeqCounted (EachCounted (BehindCounted (mark m.Comma) R)) (MaybeCounted (BehindCounted (mark m.Comma) S)) u c.0 c.1 k l

nothing_taken : {A B : Type 0} (R : Spans A) (S : Spans B) (s : State) → Taken (CommasCounted R S) s ([], None) s
nothing_taken R S s = ([], refl, ([], [], refl, s.operators, (refl, refl), (refl, refl)))

-- a keyword or a symbol before it
taken_behind : {A : Type 0} (w : _) (R : Spans A) (s x : State) (a : A) → begins_in (marks w ∷ []) s.left ≡ true → Taken R (past_one s) a x → Taken (BehindCounted (mark w) R) s a x
taken_behind w R s x a here v =
    let p = mark_split w s.left here in
    (p.0 ∷ v.0, p.1 ∙ ap (λ z. p.0 ∷ z) v.1, (p.0, v.0, refl, ap is_some p.2, v.2))

commas_taken : {A B : Type 0} (R : Spans A) (S : Spans B) (cs : List Class) (p : State → Out A) (q : State → Out B) → TakenSound R p → TakenSound S q → (n : ℕ) → TakenSound (CommasCounted R S) (take_commas cs p q n)
commas_taken R S cs p q sound_p sound_q zero s s' c e =
    taken_same (CommasCounted R S) s s s' ([], None) c e (nothing_taken R S s)
commas_taken R S cs p q sound_p sound_q (suc n) s s' c e =
    by_test (begins_in (marks m.Comma ∷ []) s.left) _ _ _ (Taken (CommasCounted R S) s c s') e
    (λ comma e1.
    by_test (begins_in cs (behind s.left)) _ _ _ (Taken (CommasCounted R S) s c s') e1
    (λ _ e2.
    let one = out_inv (q (past_one s)) _ (c, s') e2 in
    let w = taken_behind m.Comma S s one.1 one.0 comma (sound_q (past_one s) one.1 one.0 one.2) in
    taken_same (CommasCounted R S) s one.1 s' ([], Some one.0) c one.3 (w.0, w.1, ([], w.0, refl, s.operators, (refl, refl), w.2)))
    (λ _ e2.
    let one = out_inv (p (past_one s)) _ (c, s') e2 in
    let two = out_inv (take_commas cs p q n one.1) _ (c, s') one.3 in
    let v = taken_behind m.Comma R s one.1 one.0 comma (sound_p (past_one s) one.1 one.0 one.2) in
    let w = commas_taken R S cs p q sound_p sound_q n one.1 two.1 two.0 two.2 in
    taken_same (CommasCounted R S) s two.1 s' (one.0 ∷ two.0.0, two.0.1) c two.3 (v.0 ++ w.0, both_split s.left v.0 w.0 one.1.left two.1.left v.1 w.1, (v.0 ++ w.2.0, w.2.1, ap (λ z. v.0 ++ z) w.2.2 ∙ sym (append_assoc v.0 w.2.0 w.2.1), w.2.3, (v.0, w.2.0, refl, one.1.operators, v.2, w.2.4), w.2.5))))
    (λ _ e1. taken_same (CommasCounted R S) s s s' ([], None) c e1 (nothing_taken R S s))

abbrev pub InnerTaken : Inside → Option (State → Out Expr) → Type 0
InnerTaken I None = Unit {0}
InnerTaken I (Some f) = TakenSound I f

-- what may also be an expression in parentheses
abbrev pub OrEnclosedCounted : Inside → Spans Expr → Spans Expr
OrEnclosedCounted I R u e k l = R u e k l ⊎ BehindCounted (mark m.Open) (ClosedCounted I) u e k l

enclosed_taken : (I : Inside) (R : Spans Expr) (r : Option (State → Out Expr)) (p : State → Out Expr) → InnerTaken I r → TakenSound R p → TakenSound (OrEnclosedCounted I R) (take_enclosed r p)
enclosed_taken I R None p inner sound s s' e is =
    by_test (begins_in (marks m.Open ∷ []) s.left) _ _ _ (Taken (OrEnclosedCounted I R) s e s') is
    (λ _ e1. cc)
    (λ _ e1. let w = sound s s' e e1 in (w.0, w.1, inl w.2))
enclosed_taken I R (Some f) p inner sound s s' e is =
    by_test (begins_in (marks m.Open ∷ []) s.left) _ _ _ (Taken (OrEnclosedCounted I R) s e s') is
    (λ open_ e1.
    let one = out_inv (f (past_one s)) _ (e, s') e1 in
    let two = out_inv (take_one (mark m.Close) one.1) _ (e, s') one.3 in
    let v = inner (past_one s) one.1 one.0 one.2 in
    let w = take_one_sound (mark m.Close) one.1 two.1 two.0 two.2 in
    let inside : Taken (ClosedCounted I) (past_one s) one.0 two.1 = (v.0 ++ w.0, both_split (behind s.left) v.0 w.0 one.1.left two.1.left v.1 w.1, (v.0, w.0, refl, subst (λ l. I v.0 one.0 s.operators l) (sym w.2.1) v.2, w.2.0)) in
    let all = taken_behind m.Open (ClosedCounted I) s two.1 one.0 open_ inside in
    taken_same (OrEnclosedCounted I R) s two.1 s' one.0 e two.3 (all.0, all.1, inr all.2))
    (λ _ e1.
    let w = sound s s' e e1 in
    (w.0, w.1, inl w.2))

-- what is taken within the limits is matched within them
pub taken : (I : Inside) (r : Option (State → Out Expr)) → InnerTaken I r → {A : Type 0} (g : Grammar A) → TakenSound (Counted limits I g) (take r g)
taken I r inner (terminal t) s s' a is = take_one_sound t s s' a is
taken I r inner (empty b) s s' a is = taken_same (Counted limits I (empty b)) s s s' b a is ([], refl, (refl, refl, refl))
taken I r inner (made g f) s s' b is =
    let one = out_inv (take r g s) _ (b, s') is in
    let u = taken I r inner g s one.1 one.0 one.2 in
    taken_same (Counted limits I (made g f)) s one.1 s' (f one.0) b one.3 (u.0, u.1, (one.0, u.2, refl))
taken I r inner (both g h) s s' c is =
    let one = out_inv (take r g s) _ (c, s') is in
    let two = out_inv (take r h one.1) _ (c, s') one.3 in
    let v = taken I r inner g s one.1 one.0 one.2 in
    let w = taken I r inner h one.1 two.1 two.0 two.2 in
    taken_same (Counted limits I (both g h)) s two.1 s' (one.0, two.0) c two.3 (taken_both (Counted limits I g) (Counted limits I h) s one.1 two.1 one.0 two.0 v w)
taken I r inner (either g h) s s' a is =
    by_test (begins_in (firsts g) s.left) _ _ _ (Taken (Counted limits I (either g h)) s a s') is
    (λ _ e. let u = taken I r inner g s s' a e in (u.0, u.1, inl u.2))
    (λ _ e. let u = taken I r inner h s s' a e in (u.0, u.1, inr u.2))
taken I r inner (many g) s s' a is =
    many_taken (Counted limits I g) (firsts g) (take r g) (λ x x' a' e. taken I r inner g x x' a' e) s.most s s' a is
taken I r inner (commas g h) s s' a is =
    commas_taken (Counted limits I g) (Counted limits I h) (firsts h) (take r g) (take r h) (λ x x' a' e. taken I r inner g x x' a' e) (λ x x' a' e. taken I r inner h x x' a' e) s.most s s' a is
taken I r inner (outermost g) s s' a is = taken I r inner g (fresh s) s' a is
taken I r inner (or_enclosed g) s s' a is =
    enclosed_taken I (Counted limits I g) r (take r g) inner (λ x x' a' e. taken I r inner g x x' a' e) s s' a is

pub inside_taken : (room : ℕ) → InnerTaken (CountedWithin limits room) (take_inside room)
unfolding take_inside
inside_taken zero = tt
inside_taken (suc room) = λ s s' e is. taken (CountedWithin limits room) (take_inside room) (inside_taken room) expression s s' e is
