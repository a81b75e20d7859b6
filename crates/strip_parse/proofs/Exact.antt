-- What is read is exactly what is in the grammar, and faults stand where they should.
use Rattle.std.proofs.Common.{◌≡◌, ℕ, zero, suc, ◌+◌, ◌≤◌, ◌<◌, true, List, [], ◌∷◌, ◌++◌, length, Option, Some, None, Result, Ok, Err, inl, inr, refl, sym, ◌∙◌, ap, subst, append_assoc, length-append, arith}
use Rattle.strip_ast.specs.declared.faults.Why.{Why}
use Rattle.strip_ast.specs.declared.faults.Why.TheVariants as why
use Rattle.strip_ast.specs.declared.marks.Mark.TheVariants as m
use Rattle.strip_ast.specs.declared.token_types.Placed.{Placed}
use Rattle.strip_ast.specs.declared.expressions.Expr.{Expr}
use Rattle.strip_ast.specs.declared.statements.Statement.{Statement}
use Rattle.strip_ast.specs.Grammar.{Terminal, Grammar, mark, terminal, empty, made, both, either, many, commas, outermost, or_enclosed, Behind, Each, Maybe, Matches}
use Rattle.strip_ast.specs.Syntax.{names, column, columns, table, stream, step, function, dotted, col, atom, factor, product, sum, comparing, compare, test, conj, expression, whole, item, totalled, total, source, entry, filter, rest, query, plain, derive, enclosed_names, event, bound, unique, manner, trigger, effect, rule, maintain, a_value, row, set, insert, put, update, delete, act, begin, show, deed, called, statement, Within, IsStatementWithin, IsStatement}
use Rattle.strip_parse.specs.Deciding.{marks, goes, is_decided, disjoint}
use Rattle.strip_parse.specs.Reading.{Read, and_then, read, read_inside, Halt, Out, part, take_inside, at_end, ended}
use Rattle.strip_parse.specs.Parsed.{reading, beginning}
use Rattle.strip_parse.specs.Exactness.{CanGoOn, CannotGoOn, IsUnexpected, IsPassed, IsFaultFor, IsRight, IsReadAs}
use Rattle.strip_parse.proofs.Begins.{apart_begins, taken_class}
use Rattle.strip_parse.proofs.Laws.{InnerSound, sound, ok_inv, err_inv}
use Rattle.strip_parse.proofs.Completeness.{InnerComplete, complete}
use Rattle.strip_parse.proofs.Faults.{InnerLive, live, Local, InnerLocal, local}
use Rattle.strip_parse.proofs.Limits.{InnerShrinks, shrinks, InnerFits, fits, Fits, FitsWhy, Past, IsEnd}

-- ---- the next token decides

pub expression_decided : is_decided expression ≡ true
unfolding expression conj test compare comparing sum product factor atom dotted
expression_decided = refl

pub expression_closes : disjoint (goes expression) (marks m.Close ∷ []) ≡ true
unfolding expression conj test compare comparing sum product factor atom dotted
expression_closes = refl

pub statement_decided : is_decided statement ≡ true
unfolding names column columns table stream step function dotted col atom factor product sum comparing compare test conj expression whole item totalled total source entry filter rest query plain derive enclosed_names event bound unique manner trigger effect rule maintain a_value row set insert put update delete act begin show deed called statement
statement_decided = refl

-- ---- expressions in parentheses

inside_sound : (k room : ℕ) → InnerSound (Within room) (read_inside k room)
inside_sound k zero = tt
inside_sound k (suc room) = λ ts rest' e is. sound k (Within room) (read_inside k room) (inside_sound k room) expression ts rest' e is

inside_live : (k room : ℕ) → InnerLive (Within room) (read_inside k room)
inside_live k zero = tt
inside_live k (suc room) = λ ts rest' e. live k (Within room) (read_inside k room) (inside_sound k room) (inside_live k room) expression ts rest' e

inside_complete : (k room : ℕ) → InnerComplete k (Within room) (read_inside k room)
inside_complete k zero = λ v e w. w
inside_complete k (suc room) = λ v rest' p e fit w taken. complete k (Within room) (read_inside k room) (inside_complete k room) expression expression_decided v (p ∷ rest') e fit w (apart_begins (goes expression) (marks m.Close ∷ []) (p ∷ rest') expression_closes (taken_class (mark m.Close) p.token tt taken))

inside_local : (S : Type 0) (k room : ℕ) → InnerLocal S (read_inside k room)
inside_local S k zero = tt
inside_local S k (suc room) = local {S = S} k (read_inside k room) (inside_local S k room) expression

inside_shrinks : (k room : ℕ) → InnerShrinks (read_inside k room)
inside_shrinks k zero = tt
inside_shrinks k (suc room) = λ ts. shrinks k (read_inside k room) (inside_shrinks k room) expression ts

-- room for so many more, and one
raised : ℕ → ℕ → ℕ
raised zero room = suc room
raised (suc n) room = suc (raised n room)

inside_fits : (most k : ℕ) → most ≤ k → (n room : ℕ) → InnerFits most (take_inside n) (read_inside k (raised n room))
unfolding raised take_inside
inside_fits most k fewer zero room = λ ts. shrinks k (read_inside k room) (inside_shrinks k room) expression ts
inside_fits most k fewer (suc n) room =
    (λ ts. shrinks k (read_inside k (raised n room)) (inside_shrinks k (raised n room)) expression ts, fits (Within (raised n room)) most k fewer (take_inside n) (read_inside k (raised n room)) (inside_sound k (raised n room)) (inside_shrinks k (raised n room)) (inside_fits most k fewer n room) expression expression_decided)

-- ---- more room changes nothing

pub each_more : {A : Type 0} (R S : List Placed → A → Type 0) → ((u : List Placed) (a : A) → R u a → S u a) → (u : List Placed) (as_ : List A) → Each R u as_ → Each S u as_
each_more R S f u [] nil = nil
each_more R S f u (a ∷ as_) (v, w, split, r, more) = (v, w, split, f v a r, each_more R S f w as_ more)

maybe_more : {A : Type 0} (R S : List Placed → A → Type 0) → ((u : List Placed) (a : A) → R u a → S u a) → (u : List Placed) (o : Option A) → Maybe R u o → Maybe S u o
maybe_more R S f u None nil = nil
maybe_more R S f u (Some a) r = f u a r

behind_more : {A B : Type 0} (t : Terminal A) (R S : List Placed → B → Type 0) → ((u : List Placed) (b : B) → R u b → S u b) → (u : List Placed) (b : B) → Behind t R u b → Behind t S u b
behind_more t R S f u b (p, v, split, some, r) = (p, v, split, some, f v b r)

pub matches_more : (I J : List Placed → Expr → Type 0) → ((u : List Placed) (e : Expr) → I u e → J u e) → {A : Type 0} (g : Grammar A) → (u : List Placed) (a : A) → Matches I g u a → Matches J g u a
matches_more I J f (terminal t) u a r = r
matches_more I J f (empty b) u a r = r
matches_more I J f (made g h) u b (a, r, is) = (a, matches_more I J f g u a r, is)
matches_more I J f (both g h) u c (v, w, split, r, s) = (v, w, split, matches_more I J f g v c.0 r, matches_more I J f h w c.1 s)
matches_more I J f (either g h) u a (inl r) = inl (matches_more I J f g u a r)
matches_more I J f (either g h) u a (inr r) = inr (matches_more I J f h u a r)
matches_more I J f (many g) u as_ r = each_more (Matches I g) (Matches J g) (λ v a s. matches_more I J f g v a s) u as_ r
matches_more I J f (commas g h) u c (v, w, split, r, s) =
    (v, w, split, each_more (Behind (mark m.Comma) (Matches I g)) (Behind (mark m.Comma) (Matches J g)) (λ v' a s'. behind_more (mark m.Comma) (Matches I g) (Matches J g) (λ x b t. matches_more I J f g x b t) v' a s') v c.0 r, maybe_more (Behind (mark m.Comma) (Matches I h)) (Behind (mark m.Comma) (Matches J h)) (λ v' a s'. behind_more (mark m.Comma) (Matches I h) (Matches J h) (λ x b t. matches_more I J f h x b t) v' a s') w c.1 s)
matches_more I J f (outermost g) u a r = matches_more I J f g u a r
matches_more I J f (or_enclosed g) u e (inl r) = inl (matches_more I J f g u e r)
matches_more I J f (or_enclosed g) u e (inr (p, v, split, some, (x, y, split', i, c))) = inr (p, v, split, some, (x, y, split', f x e i, c))

pub within_more : (room : ℕ) (u : List Placed) (e : Expr) → Within room u e → Within (suc room) u e
within_more zero u e w = absurd w
within_more (suc room) u e w = matches_more (Within room) (Within (suc room)) (within_more room) expression u e w

within_raised : (n room : ℕ) (u : List Placed) (e : Expr) → Within room u e → Within (raised n room) u e
unfolding raised
within_raised zero room u e w = within_more room u e w
within_raised (suc n) room u e w = within_more (raised n room) u e (within_raised n room u e w)

-- ---- whole statements

finish : Statement → List Placed → Result Statement (List Placed)
finish s [] = Ok s
finish s (p ∷ ps) = Err (p ∷ ps)

finish_local : (s : Statement) → Local (finish s)
unfolding finish
finish_local s = record { within = within; same = same }
  where
    within : (ts rest : List Placed) → finish s ts ≡ Err rest → (u : List Placed) × (ts ≡ u ++ rest)
    within [] rest e = cc
    within (p ∷ ps) rest e = ([], cc)

    same : (u w z : List Placed) (x : Placed) → finish s (u ++ x ∷ w) ≡ Err (x ∷ w) → finish s (u ++ x ∷ z) ≡ Err (x ∷ z)
    same [] w z x e = refl
    same (p ∷ u) w z x e =
        let alike : p ∷ (u ++ x ∷ w) ≡ x ∷ w = cc in
        absurd (omega (arith, ap length alike, length-append u (x ∷ w)))

-- a whole statement, read without limits in so many turns at most, with so many parentheses open at most
wholly : ℕ → ℕ → List Placed → Result Statement (List Placed)
wholly k room ts = and_then (read k (read_inside k room) statement ts) finish

wholly_local : (k room : ℕ) → Local (wholly k room)
unfolding wholly
wholly_local k room = local {S = Statement} k (read_inside k room) (inside_local Statement k room) statement finish finish_local

finish_ok : (a s : Statement) (ts : List Placed) → finish a ts ≡ Ok s → (ts ≡ []) × (a ≡ s)
unfolding finish
finish_ok a s [] is = (refl, cc)
finish_ok a s (p ∷ ps) is = cc

finish_err : (a : Statement) (ts rest : List Placed) → finish a ts ≡ Err rest → ts ≡ rest
unfolding finish
finish_err a [] rest is = cc
finish_err a (p ∷ ps) rest is = cc

append_none : {A : Type 0} (xs : List A) → xs ++ [] ≡ xs
append_none [] = refl
append_none (x ∷ xs) = ap (λ ys. x ∷ ys) (append_none xs)

wholly_sound : (k room : ℕ) (ts : List Placed) (s : Statement) → wholly k room ts ≡ Ok s → IsStatement ts s
unfolding wholly
wholly_sound k room ts s is =
    let one = ok_inv (read k (read_inside k room) statement ts) finish s is in
    let last = finish_ok one.0 s one.1 one.3 in
    let u = sound k (Within room) (read_inside k room) (inside_sound k room) statement ts one.1 one.0 one.2 in
    let all : ts ≡ u.0 = u.1 ∙ ap (λ x. u.0 ++ x) last.0 ∙ append_none u.0 in
    (room, subst (λ x. IsStatementWithin room x s) (sym all) (subst (λ x. IsStatementWithin room u.0 x) last.1 u.2))

wholly_complete : (k room : ℕ) (ts : List Placed) (s : Statement) → length ts ≤ k → IsStatementWithin room ts s → wholly k room ts ≡ Ok s
unfolding wholly finish
wholly_complete k room ts s fit r =
    let fit' : length (ts ++ []) ≤ k = rw (append_none ts) fit in
    let is : read k (read_inside k room) statement (ts ++ []) ≡ Ok (s, []) = complete k (Within room) (read_inside k room) (inside_complete k room) statement statement_decided ts [] s fit' r refl in
    let is' : read k (read_inside k room) statement ts ≡ Ok (s, []) = ap (read k (read_inside k room) statement) (sym (append_none ts)) ∙ is in
    ap (λ x. and_then x finish) is'

wholly_live : (k room : ℕ) (ts rest : List Placed) → wholly k room ts ≡ Err rest → (u : List Placed) × (ts ≡ u ++ rest) × CanGoOn u
unfolding wholly
wholly_live k room ts rest is =
    elim (err_inv (read k (read_inside k room) statement ts) finish rest is) [
      | inl e ↦
          (let h = live k (Within room) (read_inside k room) (inside_sound k room) (inside_live k room) statement ts rest e in
          (h.0, h.3, (h.1, h.2, (room, h.4))))
      | inr one ↦
          (let u = sound k (Within room) (read_inside k room) (inside_sound k room) statement ts one.1 one.0 one.2 in
          let same = finish_err one.0 one.1 rest one.3 in
          (u.0, u.1 ∙ ap (λ x. u.0 ++ x) same, ([], one.0, (room, subst (λ x. IsStatementWithin room x one.0) (sym (append_none u.0)) u.2))))
    ]

-- ---- with the limits against without

PastWhole : List Placed → Result Statement (List Placed) → Type 0
PastWhole far (Ok s) = 0 < length far
PastWhole far (Err rest') = length rest' < length far

AnswersWhy : List Placed → Result Statement (List Placed) → Why → List Placed → Type 0
AnswersWhy ts r why.Unexpected rest' = r ≡ Err rest'
AnswersWhy ts r _ rest' = PastWhole rest' r × IsEnd ts rest'

Answers : List Placed → Result Statement (List Placed) → Result Statement Halt → Type 0
Answers ts r (Ok s) = r ≡ Ok s
Answers ts r (Err halt) = AnswersWhy ts r halt.why halt.left

ended_answers : (ts : List Placed) (a : Statement) (left : List Placed) → Answers ts (finish a left) (ended a left)
unfolding Answers AnswersWhy finish
ended_answers ts a [] = refl
ended_answers ts a (p ∷ ps) = refl

finish_past : (far : List Placed) (a : Statement) (m : List Placed) → length m < length far → PastWhole far (finish a m)
unfolding PastWhole finish
finish_past far a [] less = less
finish_past far a (p ∷ ps) less = less

then_past : (far : List Placed) (r : Read Statement) → Past far r → PastWhole far (and_then r finish)
unfolding PastWhole
then_past far (Ok (a, m)) less = finish_past far a m less
then_past far (Err m) less = less

why_answers : (ts : List Placed) (r : Read Statement) (w : Why) (rest' : List Placed) → FitsWhy ts r w rest' → AnswersWhy ts (and_then r finish) w rest'
unfolding AnswersWhy
why_answers ts r why.Unexpected rest' is = ap (λ x. and_then x finish) is
why_answers ts r why.NoToken rest' is = (then_past rest' r is.0, is.1)
why_answers ts r why.TooLong rest' is = (then_past rest' r is.0, is.1)
why_answers ts r why.TooDeep rest' is = (then_past rest' r is.0, is.1)
why_answers ts r why.Ended rest' is = (then_past rest' r is.0, is.1)

answers : (ts : List Placed) (most : ℕ) (r : Read Statement) (o : Out Statement) → Fits ts most r o → Answers ts (and_then r finish) (at_end o)
unfolding Answers
answers ts most r (Ok (a, s)) is = subst (λ x. Answers ts x (ended a s.left)) (ap (λ x. and_then x finish) (sym is.0)) (ended_answers ts a s.left)
answers ts most r (Err halt) is = why_answers ts r halt.why halt.left is

reading_answers : (ts : List Placed) (k room : ℕ) → length ts ≤ k → Answers ts (wholly k (raised 64 room) ts) (reading ts)
unfolding wholly reading
reading_answers ts k room few =
    let r = read_inside k (raised 64 room) in
    answers ts (length ts) (read k r statement ts) (part statement (beginning ts)) (fits (Within (raised 64 room)) (length ts) k few (take_inside 64) r (inside_sound k (raised 64 room)) (inside_shrinks k (raised 64 room)) (inside_fits (length ts) k few 64 room) statement statement_decided (beginning ts) refl (omega arith))

raised_statement : (room : ℕ) (ts : List Placed) (s : Statement) → IsStatementWithin room ts s → IsStatementWithin (raised 64 room) ts s
raised_statement room ts s r = matches_more (Within room) (Within (raised 64 room)) (within_raised 64 room) statement ts s r

prefix_of : (v u w m : List Placed) (x : Placed) → v ++ x ∷ w ≡ u ++ m → length m ≤ length w → (z : List Placed) × (u ≡ v ++ x ∷ z)
prefix_of [] [] w m x is less = absurd (omega (arith, ap length is))
prefix_of [] (y ∷ u) w m x is less =
    let same : x ≡ y = cc in
    (u, ap (λ p. p ∷ u) (sym same))
prefix_of (p ∷ v) [] w m x is less = absurd (omega (arith, ap length is, length-append v (x ∷ w)))
prefix_of (p ∷ v) (y ∷ u) w m x is less =
    let same : p ≡ y = cc in
    let others : v ++ x ∷ w ≡ u ++ m = cc in
    let z = prefix_of v u w m x others less in
    (z.0, ap (λ q. q ∷ u) (sym same) ∙ ap (λ us. p ∷ us) z.1)

goes_on : (v z more : List Placed) (x : Placed) (u : List Placed) (s : Statement) → u ≡ v ++ x ∷ z → IsStatement (u ++ more) s → CanGoOn (v ++ x ∷ [])
goes_on v z more x u s is r =
    let joined : u ++ more ≡ (v ++ x ∷ []) ++ (z ++ more) = rw (is, append_assoc v (x ∷ z) more, append_assoc v (x ∷ []) (z ++ more)) refl in
    (z ++ more, s, subst (λ ts. IsStatement ts s) joined r)

ok_err : (s : Statement) (rest' : List Placed) (r : Result Statement (List Placed)) → r ≡ Ok s → r ≡ Err rest' → ⊥
ok_err s rest' r a b = cc

unexpected_is : (ts rest' : List Placed) (k room : ℕ) → length ts ≤ k → reading ts ≡ Err (record { why = why.Unexpected; left = rest' }) → wholly k (raised 64 room) ts ≡ Err rest'
unfolding Answers AnswersWhy
unexpected_is ts rest' k room few is = subst (λ o. Answers ts (wholly k (raised 64 room) ts) o) is (reading_answers ts k room few)

ok_is : (ts : List Placed) (s : Statement) (k room : ℕ) → length ts ≤ k → reading ts ≡ Ok s → wholly k (raised 64 room) ts ≡ Ok s
unfolding Answers
ok_is ts s k room few is = subst (λ o. Answers ts (wholly k (raised 64 room) ts) o) is (reading_answers ts k room few)

no_statement : (ts rest' : List Placed) (s : Statement) → reading ts ≡ Err (record { why = why.Unexpected; left = rest' }) → IsStatement ts s → ⊥
no_statement ts rest' s is (room, r) =
    ok_err s rest' (wholly (length ts) (raised 64 room) ts) (wholly_complete (length ts) (raised 64 room) ts s (omega arith) (raised_statement room ts s r)) (unexpected_is ts rest' (length ts) room (omega arith) is)

no_further : (u w ts : List Placed) (x : Placed) → ts ≡ u ++ x ∷ w → reading ts ≡ Err (record { why = why.Unexpected; left = x ∷ w }) → CanGoOn (u ++ x ∷ []) → ⊥
no_further u w ts x split is (more, s, (room, r)) =
    let k = length ts + length (u ++ x ∷ more) in
    let stops : wholly k (raised 64 room) ts ≡ Err (x ∷ w) = unexpected_is ts (x ∷ w) k room (omega arith) is in
    let stops' : wholly k (raised 64 room) (u ++ x ∷ w) ≡ Err (x ∷ w) = subst (λ ts'. wholly k (raised 64 room) ts' ≡ Err (x ∷ w)) split stops in
    let later = (wholly_local k (raised 64 room)).same u w more x stops' in
    let here : IsStatementWithin room (u ++ x ∷ more) s = subst (λ ts'. IsStatementWithin room ts' s) (append_assoc u (x ∷ []) more) r in
    ok_err s (x ∷ more) (wholly k (raised 64 room) (u ++ x ∷ more)) (wholly_complete k (raised 64 room) (u ++ x ∷ more) s (omega arith) (raised_statement room (u ++ x ∷ more) s here)) later

cannot_go_on : (u rest' ts : List Placed) → ts ≡ u ++ rest' → reading ts ≡ Err (record { why = why.Unexpected; left = rest' }) → CannotGoOn u rest'
cannot_go_on u [] ts split is = λ s r. no_statement ts [] s is (subst (λ x. IsStatement x s) (sym (split ∙ append_none u)) r)
cannot_go_on u (x ∷ w) ts split is = λ on. no_further u w ts x split is on

right_unexpected : (ts rest' : List Placed) → reading ts ≡ Err (record { why = why.Unexpected; left = rest' }) → IsUnexpected ts rest'
right_unexpected ts rest' is =
    let h = wholly_live (length ts) (raised 64 0) ts rest' (unexpected_is ts rest' (length ts) 0 (omega arith) is) in
    (h.0, h.1, h.2, cannot_go_on h.0 rest' ts h.1 is)

passed_at : (ts v w : List Placed) (x : Placed) (r : Result Statement (List Placed)) → wholly (length ts) (raised 64 0) ts ≡ r → PastWhole (x ∷ w) r → ts ≡ v ++ x ∷ w → CanGoOn (v ++ x ∷ [])
unfolding PastWhole
passed_at ts v w x (Ok s) is past split =
    let r = wholly_sound (length ts) (raised 64 0) ts s is in
    goes_on v w [] x ts s split (subst (λ ts'. IsStatement ts' s) (sym (append_none ts)) r)
passed_at ts v w x (Err m) is past split =
    let h = wholly_live (length ts) (raised 64 0) ts m is in
    let z = prefix_of v h.0 w m x (sym split ∙ h.1) (omega (arith, past)) in
    goes_on v z.0 h.2.0 x h.0 h.2.1 z.1 h.2.2

nothing_passed : (r : Result Statement (List Placed)) → PastWhole [] r → ⊥
unfolding PastWhole
nothing_passed (Ok s) less = absurd (omega (arith, less))
nothing_passed (Err m) less = absurd (omega (arith, less))

right_passed : (ts rest' : List Placed) → PastWhole rest' (wholly (length ts) (raised 64 0) ts) → IsEnd ts rest' → IsPassed ts rest'
right_passed ts [] past end_ = absurd (nothing_passed (wholly (length ts) (raised 64 0) ts) past)
right_passed ts (x ∷ w) past (v, split) =
    (v, x, w, refl, split, passed_at ts v w x (wholly (length ts) (raised 64 0) ts) refl past split)

answers_err : (ts rest' : List Placed) (w : Why) → reading ts ≡ Err (record { why = w; left = rest' }) → AnswersWhy ts (wholly (length ts) (raised 64 0) ts) w rest'
unfolding Answers
answers_err ts rest' w is = subst (λ o. Answers ts (wholly (length ts) (raised 64 0) ts) o) is (reading_answers ts (length ts) 0 (omega arith))

right_err : (ts rest' : List Placed) (w : Why) → reading ts ≡ Err (record { why = w; left = rest' }) → IsFaultFor ts w rest'
unfolding AnswersWhy
right_err ts rest' why.Unexpected is = right_unexpected ts rest' is
right_err ts rest' why.NoToken is = let a = answers_err ts rest' why.NoToken is in right_passed ts rest' a.0 a.1
right_err ts rest' why.TooLong is = let a = answers_err ts rest' why.TooLong is in right_passed ts rest' a.0 a.1
right_err ts rest' why.TooDeep is = let a = answers_err ts rest' why.TooDeep is in right_passed ts rest' a.0 a.1
right_err ts rest' why.Ended is = let a = answers_err ts rest' why.Ended is in right_passed ts rest' a.0 a.1

right_at : (ts : List Placed) (o : Result Statement Halt) → reading ts ≡ o → IsRight ts o
right_at ts (Ok s) is = wholly_sound (length ts) (raised 64 0) ts s (ok_is ts s (length ts) 0 (omega arith) is)
right_at ts (Err halt) is = right_err ts halt.left halt.why is

-- what is read is right
pub right : (ts : List Placed) → IsRight ts (reading ts)
right ts = right_at ts (reading ts) refl

read_at : (ts : List Placed) (s : Statement) (o : Result Statement Halt) → reading ts ≡ o → IsStatement ts s → IsReadAs s o
read_at ts s (Ok t) is (room, r) =
    let one = wholly_complete (length ts) (raised 64 room) ts s (omega arith) (raised_statement room ts s r) in
    let two = ok_is ts t (length ts) room (omega arith) is in
    cc
read_at ts s (Err halt) is r = λ unexpected. no_statement ts halt.left s (is ∙ ap (λ w. Err (record { why = w; left = halt.left })) unexpected) r

-- a statement is read as its tree, or passes a limit
pub read_as : (ts : List Placed) (s : Statement) → IsStatement ts s → IsReadAs s (reading ts)
read_as ts s r = read_at ts s (reading ts) refl r
