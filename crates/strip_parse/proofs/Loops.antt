-- Loops over lists and over operators of one level, turn by turn.
use Rattle.std.proofs.Common.{◌≡◌, ℕ, zero, suc, ◌+◌, ◌-◌, ◌<◌, Bool, true, false, ◌||◌, List, [], ◌∷◌, ◌++◌, Option, Some, None, Ok, Err, ◌⊎◌, inl, inr, refl, sym, ◌∙◌, ap, subst, append_assoc, if◌then◌else◌, arith}
use Rattle.strip_ast.specs.declared.marks.Mark.TheVariants as m
use Rattle.strip_ast.specs.declared.faults.Why.TheVariants as why
use Rattle.strip_ast.specs.declared.token_types.Placed.{Placed}
use Rattle.strip_value.specs.declared.tables.ColumnDef.{ColumnDef}
use Rattle.strip_ast.specs.declared.expressions.Op.{Op}
use Rattle.strip_ast.specs.declared.expressions.Expr.{Expr}
use Rattle.strip_ast.specs.declared.expressions.Expr.TheVariants as expr
use Rattle.strip_ast.specs.Grammar.{Grammar, mark, both}
use Rattle.strip_ast.specs.Syntax.{joined, optional, expression, atom, dotted, factor, compare, comparing, compared, sum, column, names, or_none, ◌▸◌}
use Rattle.strip_parse.specs.declared.stops.Stop.{Stop}
use Rattle.strip_parse.specs.declared.stops.Stop.TheVariants as stops
use Rattle.strip_parse.specs.Deciding.{marks, begins_in, firsts, nullable, classes_if}
use Rattle.strip_parse.specs.Reading.{State, Halt, Out, out_then, take_one, take_many, take_commas, take, take_inside, part, past_one, behind, halted}
use Rattle.strip_parse.specs.Taking.{IsTaken, behind_comma, parenthesized, right_of, compared_from}
use Rattle.strip_parse.proofs.Begins.{begins_append, mark_split}

-- the items so far before those that follow
abbrev pub list_from : {A : Type 0} → (State → Out A) → List A → ℕ → State → Out (List A)
list_from f found n s = out_then (take_many (marks m.Comma ∷ []) (behind_comma f) n s) (λ more s'. Ok (found ++ more, s'))

append_none : {A : Type 0} (xs : List A) → xs ++ [] ≡ xs
append_none [] = refl
append_none (x ∷ xs) = ap (λ ys. x ∷ ys) (append_none xs)

-- no comma follows
pub list_stop : {A : Type 0} (f : State → Out A) (found : List A) (n : ℕ) (s : State) → begins_in (marks m.Comma ∷ []) s.left ≡ false → list_from f found n s ≡ Ok (found, s)
list_stop f found zero s gone = rw (append_none found) refl
list_stop f found (suc n) s gone = rw (gone, append_none found) refl

-- a comma and an item follow
list_next : {A : Type 0} (f : State → Out A) (found : List A) (n : ℕ) (s s1 s2 : State) (a : A) → begins_in (marks m.Comma ∷ []) s.left ≡ true → take_one (mark m.Comma) s ≡ Ok (tt, s1) → f s1 ≡ Ok (a, s2) → list_from f found (suc n) s ≡ list_from f (found ++ a ∷ []) n s2
list_next {A} f found n s s1 s2 a here comma item = rw (here, comma, item) (regroup (take_many (marks m.Comma ∷ []) (behind_comma f) n s2))
  where
    regroup : (o : Out (List A)) → out_then (out_then o (λ as_ s''. Ok (a ∷ as_, s''))) (λ more s'. Ok (found ++ more, s')) ≡ out_then o (λ more s'. Ok ((found ++ a ∷ []) ++ more, s'))
    regroup (Ok (as_, s3)) = rw (append_assoc found (a ∷ []) as_) refl
    regroup (Err halt) = refl

pub list_more : {A : Type 0} (f : State → Out A) (found : List A) (turn end : ℕ) (s s1 s2 : State) (a : A) → turn < end → begins_in (marks m.Comma ∷ []) s.left ≡ true → take_one (mark m.Comma) s ≡ Ok (tt, s1) → f s1 ≡ Ok (a, s2) → list_from f found (end - turn) s ≡ list_from f (found ++ a ∷ []) (end - (turn + 1)) s2
list_more f found turn end s s1 s2 a below here comma item =
    let turns : end - turn ≡ suc (end - (turn + 1)) = omega arith in
    rw turns (list_next f found (end - (turn + 1)) s s1 s2 a here comma item)

pub list_fault : {A : Type 0} (f : State → Out A) (found : List A) (turn end : ℕ) (s s1 : State) (halt : Halt) → turn < end → begins_in (marks m.Comma ∷ []) s.left ≡ true → take_one (mark m.Comma) s ≡ Ok (tt, s1) → f s1 ≡ Err halt → list_from f found (end - turn) s ≡ Err halt
list_fault f found turn end s s1 halt below here comma item =
    let turns : end - turn ≡ suc (end - (turn + 1)) = omega arith in
    rw (turns, here, comma, item) refl

-- what was read of a chain before what follows
abbrev pub chain_from : Option (State → Out Expr) → Grammar Op → Grammar Expr → Expr → ℕ → State → Out Expr
chain_from r o g e n s = out_then (take_many (firsts (both o g)) (take r (both o g)) n s) (λ rest s'. Ok (joined e rest, s'))

alone : (o : Grammar Op) (g : Grammar Expr) → nullable o ≡ false → (ts : List Placed) → begins_in (firsts (both o g)) ts ≡ begins_in (firsts o) ts
alone o g some ts =
    begins_append (firsts o) (classes_if (nullable o) (firsts g)) ts ∙ by_cases (nullable o) some (begins_in (firsts o) ts)
  where
    nothing : (ts' : List Placed) → begins_in [] ts' ≡ false
    nothing [] = refl
    nothing (p ∷ ps) = refl

    by_cases : (n : Bool) → n ≡ false → (b : Bool) → (b || begins_in (classes_if n (firsts g)) ts) ≡ b
    by_cases true is b = cc
    by_cases false is true = refl
    by_cases false is false = nothing ts

-- an operator may follow: whether it does, and then its answer
optional_inv : (r : Option (State → Out Expr)) (o : Grammar Op) (s : State) (out : Out (Option Op)) → take r (optional o) s ≡ out → ((begins_in (firsts o) s.left ≡ true) × (out_then (take r o s) (λ a s'. Ok (Some a, s')) ≡ out)) ⊎ ((begins_in (firsts o) s.left ≡ false) × (out ≡ Ok (None, s)))
optional_inv r o s out is = by_cases (begins_in (firsts o) s.left) refl is
  where
    by_cases : (b : Bool) → begins_in (firsts o) s.left ≡ b → (if b then out_then (take r o s) (λ a s'. Ok (Some a, s')) else Ok (None, s)) ≡ out → ((begins_in (firsts o) s.left ≡ true) × (out_then (take r o s) (λ a s'. Ok (Some a, s')) ≡ out)) ⊎ ((begins_in (firsts o) s.left ≡ false) × (out ≡ Ok (None, s)))
    by_cases true e is = inl (e, is)
    by_cases false e is = inr (e, sym is)

pub out_pair : {A : Type 0} (a b : A) (s t : State) → (let one : Out A = Ok (a, s) in let two : Out A = Ok (b, t) in one ≡ two) → (a ≡ b) × (s ≡ t)
out_pair {A} a b s t is =
    let both_same : (a, s) ≡ (b, t) = cc in
    (ap (λ (p : A × State). p.0) both_same, ap (λ (p : A × State). p.1) both_same)

some_inv : (out : Out Op) (a : Op) (s : State) → out_then out (λ x s'. Ok (Some x, s')) ≡ Ok (Some a, s) → out ≡ Ok (a, s)
some_inv (Ok (b, s')) a s is =
    let parts = out_pair (Some b) (Some a) s' s is in
    let same : b ≡ a = cc (parts.0) in
    ap (λ x. Ok (x, s')) same ∙ ap (λ x. Ok (a, x)) parts.1
some_inv (Err h) a s is = cc

none_some : (a : Op) (s t : State) → (let one : Out (Option Op) = Ok (None, s) in let two : Out (Option Op) = Ok (Some a, t) in one ≡ two) → ⊥
none_some a s t is =
    let parts = out_pair None (Some a) s t is in
    let apart : None ≡ Some a = parts.0 in
    cc

none_inv : (out : Out Op) (s : State) → out_then out (λ x s'. Ok (Some x, s')) ≡ Ok (None, s) → ⊥
none_inv (Ok (b, s')) s is = none_some b s s' (sym is)
none_inv (Err h) s is = cc

-- no operator follows
pub chain_stop : (r : Option (State → Out Expr)) (o : Grammar Op) (g : Grammar Expr) → nullable o ≡ false → (e : Expr) (n : ℕ) (s s1 : State) → take r (optional o) s ≡ Ok (None, s1) → chain_from r o g e n s ≡ Ok (e, s1)
chain_stop r o g some e n s s1 is =
    elim (optional_inv r o s (Ok (None, s1)) is) [
      | inl w ↦ absurd (none_inv (take r o s) s1 w.1)
      | inr w ↦
          (let stays : begins_in (firsts (both o g)) s.left ≡ false = alone o g some s.left ∙ w.0 in
          let same : s ≡ s1 = (out_pair None None s s1 (sym w.1)).1 in
          stopped n stays ∙ ap (λ x. Ok (e, x)) same)
    ]
  where
    stopped : (n : ℕ) → begins_in (firsts (both o g)) s.left ≡ false → chain_from r o g e n s ≡ Ok (e, s)
    stopped zero gone = refl
    stopped (suc n) gone = rw gone refl

-- an operator and its right operand follow
pub chain_more : (r : Option (State → Out Expr)) (o : Grammar Op) (g : Grammar Expr) → nullable o ≡ false → (e right e' : Expr) (a : Op) (turn end : ℕ) (s s1 s2 : State) → turn < end → take r (optional o) s ≡ Ok (Some a, s1) → take r g s1 ≡ Ok (right, s2) → e' ≡ expr.Two a e right → chain_from r o g e (end - turn) s ≡ chain_from r o g e' (end - (turn + 1)) s2
chain_more r o g some e right e' a turn end s s1 s2 below is item made_ =
    let turns : end - turn ≡ suc (end - (turn + 1)) = omega arith in
    elim (optional_inv r o s (Ok (Some a, s1)) is) [
      | inl w ↦
          (let here : begins_in (firsts (both o g)) s.left ≡ true = alone o g some s.left ∙ w.0 in
          let taken : take r o s ≡ Ok (a, s1) = some_inv (take r o s) a s1 w.1 in
          rw (turns, here, taken, item, made_) (regroup (take_many (firsts (both o g)) (take r (both o g)) (end - (turn + 1)) s2)))
      | inr w ↦ absurd (none_some a s s1 (sym w.1))
    ]
  where
    regroup : (out : Out (List (Op × Expr))) → out_then (out_then out (λ rest s'. Ok ((a, right) ∷ rest, s'))) (λ rest s'. Ok (joined e rest, s')) ≡ out_then out (λ rest s'. Ok (joined (expr.Two a e right) rest, s'))
    regroup (Ok (rest, s3)) = refl
    regroup (Err h) = refl

-- the operator is one too many
pub chain_fault : (r : Option (State → Out Expr)) (o : Grammar Op) (g : Grammar Expr) → nullable o ≡ false → (e : Expr) (turn end : ℕ) (s : State) (h : Halt) → turn < end → take r (optional o) s ≡ Err h → chain_from r o g e (end - turn) s ≡ Err h
chain_fault r o g some e turn end s h below is =
    let turns : end - turn ≡ suc (end - (turn + 1)) = omega arith in
    elim (optional_inv r o s (Err h) is) [
      | inl w ↦
          (let here : begins_in (firsts (both o g)) s.left ≡ true = alone o g some s.left ∙ w.0 in
          let taken : take r o s ≡ Err h = fault_inv (take r o s) w.1 in
          rw (turns, here, taken) refl)
      | inr w ↦ cc (w.1)
    ]
  where
    fault_inv : (out : Out Op) → out_then out (λ x s'. Ok (Some x, s')) ≡ Err h → out ≡ Err h
    fault_inv (Ok (b, s')) is = cc
    fault_inv (Err h') is = cc

-- the right operand is at fault
pub chain_item_fault : (r : Option (State → Out Expr)) (o : Grammar Op) (g : Grammar Expr) → nullable o ≡ false → (e : Expr) (a : Op) (turn end : ℕ) (s s1 : State) (h : Halt) → turn < end → take r (optional o) s ≡ Ok (Some a, s1) → take r g s1 ≡ Err h → chain_from r o g e (end - turn) s ≡ Err h
chain_item_fault r o g some e a turn end s s1 h below is item =
    let turns : end - turn ≡ suc (end - (turn + 1)) = omega arith in
    elim (optional_inv r o s (Ok (Some a, s1)) is) [
      | inl w ↦
          (let here : begins_in (firsts (both o g)) s.left ≡ true = alone o g some s.left ∙ w.0 in
          let taken : take r o s ≡ Ok (a, s1) = some_inv (take r o s) a s1 w.1 in
          rw (turns, here, taken, item) refl)
      | inr w ↦ absurd (none_some a s s1 (sym w.1))
    ]

-- parentheses inside, by the room that is left
pub inside_some : (room : ℕ) → 0 < room → take_inside room ≡ Some (λ s. take (take_inside (room - 1)) expression s)
unfolding take_inside
inside_some zero some = absurd (omega arith)
inside_some (suc room) some =
    let less : suc room - 1 ≡ room = omega arith in
    rw less refl

pub inside_none : (room : ℕ) → room ≡ 0 → take_inside room ≡ None
unfolding take_inside
inside_none zero is = refl
inside_none (suc room) is = absurd (omega arith)

-- an atom has no parentheses
pub atom_anywhere : (r : Option (State → Out Expr)) (s : State) → take r atom s ≡ part atom s
unfolding atom dotted
atom_anywhere r s = refl

open_taken : (s : State) → begins_in (marks m.Open ∷ []) s.left ≡ true → take_one (mark m.Open) s ≡ Ok (tt, past_one s)
open_taken s is = by_left s.left is refl
  where
    by_left : (ts : List Placed) → begins_in (marks m.Open ∷ []) ts ≡ true → s.left ≡ ts → take_one (mark m.Open) s ≡ Ok (tt, past_one s)
    by_left ts is left_is =
        let x = mark_split m.Open ts is in
        let whole : s.left ≡ x.0 ∷ behind ts = left_is ∙ x.1 in
        rw (whole, x.2) refl

-- parentheses, where one more may be open
pub enclosed_is : (room : ℕ) (s : State) → 0 < room → begins_in (marks m.Open ∷ []) s.left ≡ true → take (take_inside room) factor s ≡ parenthesized (take (take_inside (room - 1)) expression) s
unfolding factor
enclosed_is room s some is = rw (inside_some room some, is, open_taken s is) refl

-- and where none may
pub enclosed_deep : (room : ℕ) (s : State) → room ≡ 0 → begins_in (marks m.Open ∷ []) s.left ≡ true → take (take_inside room) factor s ≡ halted why.TooDeep s.left
unfolding factor
enclosed_deep room s nothing is = rw (inside_none room nothing, is) refl

out_then_then : (out : Out (Option (Op × Expr))) (e : Expr) → out_then (out_then out (λ b s''. Ok ((e, b), s''))) (λ p s'. Ok (compared p, s')) ≡ out_then out (λ o s'. Ok (compared (e, o), s'))
out_then_then (Ok (b, s)) e = refl
out_then_then (Err h) e = refl

-- a comparison goes on behind its left side
pub compare_is : (r : Option (State → Out Expr)) (e : Expr) (s s1 : State) → take r sum s ≡ Ok (e, s1) → take r compare s ≡ compared_from r e s1
unfolding compare
compare_is r e s s1 is = rw is (out_then_then (take r (optional (both comparing sum)) s1) e)

comparing_some : nullable comparing ≡ false
unfolding comparing
comparing_some = refl

-- no comparison follows
pub compared_stop : (r : Option (State → Out Expr)) (e : Expr) (s s1 : State) → take r (optional comparing) s ≡ Ok (None, s1) → compared_from r e s ≡ Ok (e, s1)
compared_stop r e s s1 is =
    elim (optional_inv r comparing s (Ok (None, s1)) is) [
      | inl w ↦ absurd (none_inv (take r comparing s) s1 w.1)
      | inr w ↦
          (let stays : begins_in (firsts (both comparing sum)) s.left ≡ false = alone comparing sum comparing_some s.left ∙ w.0 in
          let same : s ≡ s1 = (out_pair None None s s1 (sym w.1)).1 in
          rw stays (ap (λ x. Ok (e, x)) same))
    ]

-- a comparison and its right side follow
pub compared_next : (r : Option (State → Out Expr)) (e : Expr) (a : Op) (s s1 : State) → take r (optional comparing) s ≡ Ok (Some a, s1) → compared_from r e s ≡ right_of (take r sum) a e s1
compared_next r e a s s1 is =
    elim (optional_inv r comparing s (Ok (Some a, s1)) is) [
      | inl w ↦
          (let here : begins_in (firsts (both comparing sum)) s.left ≡ true = alone comparing sum comparing_some s.left ∙ w.0 in
          let taken : take r comparing s ≡ Ok (a, s1) = some_inv (take r comparing s) a s1 w.1 in
          rw (here, taken) (regroup (take r sum s1)))
      | inr w ↦ absurd (none_some a s s1 (sym w.1))
    ]
  where
    regroup : (out : Out Expr) → out_then (out_then (out_then out (λ b s''. Ok ((a, b), s''))) (λ o s'. Ok (Some o, s'))) (λ o s'. Ok (compared (e, o), s')) ≡ out_then out (λ right s'. Ok (expr.Two a e right, s'))
    regroup (Ok (b, s2)) = refl
    regroup (Err h) = refl

-- operators are read alike inside and outside of parentheses
pub comparing_anywhere : (r : Option (State → Out Expr)) (s : State) → take r (optional comparing) s ≡ part (optional comparing) s
unfolding comparing
comparing_anywhere r s = refl

compared_fault : (r : Option (State → Out Expr)) (e : Expr) (s : State) (h : Halt) → part (optional comparing) s ≡ Err h → compared_from r e s ≡ Err h
compared_fault r e s h is =
    elim (optional_inv r comparing s (Err h) (comparing_anywhere r s ∙ is)) [
      | inl w ↦
          (let here : begins_in (firsts (both comparing sum)) s.left ≡ true = alone comparing sum comparing_some s.left ∙ w.0 in
          let taken : take r comparing s ≡ Err h = fault_inv (take r comparing s) w.1 in
          rw (here, taken) refl)
      | inr w ↦ cc (w.1)
    ]
  where
    fault_inv : (out : Out Op) → out_then out (λ x s'. Ok (Some x, s')) ≡ Err h → out ≡ Err h
    fault_inv (Ok (b, s')) is = cc
    fault_inv (Err h') is = cc

-- what stops at the comparison stops the whole
pub compared_stopped : (r : Option (State → Out Expr)) (e : Expr) (s new : State) (o : Option Op) (stop : Stop) → IsTaken {A = Option Op} (part (optional comparing) s) (Err stop) new → IsTaken {A = Expr} (compared_from r e s) (Err stop) new
compared_stopped r e s new o stops.Unexpected is = compared_fault r e s _ is
compared_stopped r e s new o stops.TooDeep is = compared_fault r e s _ is
compared_stopped r e s new o stops.TooLong is = compared_fault r e s _ is
compared_stopped r e s new o stops.Memory is = tt

-- the columns so far before those that follow, and the key
abbrev pub columns_from : List ColumnDef → ℕ → State → Out (List ColumnDef × List (List ℕ))
columns_from found n s =
    out_then (take_commas (marks m.Key ∷ []) (part column) (part (m.Key ▸ names)) n s) (λ c s'. Ok ((found ++ c.0, or_none c.1), s'))

comma_taken : (s s1 : State) → begins_in (marks m.Comma ∷ []) s.left ≡ true → take_one (mark m.Comma) s ≡ Ok (tt, s1) → s1 ≡ past_one s
comma_taken s s1 is taken = (out_pair tt tt s1 (past_one s) (sym taken ∙ by_left s.left is refl)).1
  where
    by_left : (ts : List Placed) → begins_in (marks m.Comma ∷ []) ts ≡ true → s.left ≡ ts → take_one (mark m.Comma) s ≡ Ok (tt, past_one s)
    by_left ts is left_is =
        let x = mark_split m.Comma ts is in
        let whole : s.left ≡ x.0 ∷ behind ts = left_is ∙ x.1 in
        rw (whole, x.2) refl

pub columns_stop : (found : List ColumnDef) (n : ℕ) (s : State) → begins_in (marks m.Comma ∷ []) s.left ≡ false → columns_from found n s ≡ Ok ((found, []), s)
columns_stop found zero s gone = rw (append_none found) refl
columns_stop found (suc n) s gone = rw (gone, append_none found) refl

pub columns_key : (found : List ColumnDef) (turn end : ℕ) (s s1 s2 s3 : State) (key : List (List ℕ)) → turn < end → begins_in (marks m.Comma ∷ []) s.left ≡ true → take_one (mark m.Comma) s ≡ Ok (tt, s1) → begins_in (marks m.Key ∷ []) s1.left ≡ true → take_one (mark m.Key) s1 ≡ Ok (tt, s2) → part names s2 ≡ Ok (key, s3) → columns_from found (end - turn) s ≡ Ok ((found, key), s3)
columns_key found turn end s s1 s2 s3 key below here comma then_key key_taken item =
    let turns : end - turn ≡ suc (end - (turn + 1)) = omega arith in
    let past : s1 ≡ past_one s = comma_taken s s1 here comma in
    let key_here : begins_in (marks m.Key ∷ []) (past_one s).left ≡ true = subst (λ (x : State). begins_in (marks m.Key ∷ []) x.left ≡ true) past then_key in
    let key_is : take_one (mark m.Key) (past_one s) ≡ Ok (tt, s2) = subst (λ (x : State). take_one (mark m.Key) x ≡ Ok (tt, s2)) past key_taken in
    rw (turns, here, key_here, key_is, item, append_none found) refl

pub columns_more : (found found' : List ColumnDef) (turn end : ℕ) (s s1 s2 : State) (a : ColumnDef) → turn < end → begins_in (marks m.Comma ∷ []) s.left ≡ true → take_one (mark m.Comma) s ≡ Ok (tt, s1) → begins_in (marks m.Key ∷ []) s1.left ≡ false → part column s1 ≡ Ok (a, s2) → found' ≡ found ++ a ∷ [] → columns_from found (end - turn) s ≡ columns_from found' (end - (turn + 1)) s2
columns_more found found' turn end s s1 s2 a below here comma no_key item pushed =
    let turns : end - turn ≡ suc (end - (turn + 1)) = omega arith in
    let past : s1 ≡ past_one s = comma_taken s s1 here comma in
    let key_gone : begins_in (marks m.Key ∷ []) (past_one s).left ≡ false = subst (λ (x : State). begins_in (marks m.Key ∷ []) x.left ≡ false) past no_key in
    let item_is : part column (past_one s) ≡ Ok (a, s2) = subst (λ (x : State). part column x ≡ Ok (a, s2)) past item in
    rw (turns, here, key_gone, item_is, pushed) (regroup (take_commas (marks m.Key ∷ []) (part column) (part (m.Key ▸ names)) (end - (turn + 1)) s2))
  where
    regroup : (out : Out (List ColumnDef × Option (List (List ℕ)))) → out_then {A = List ColumnDef × Option (List (List ℕ))} {B = List ColumnDef × List (List ℕ)} (out_then {A = List ColumnDef × Option (List (List ℕ))} {B = List ColumnDef × Option (List (List ℕ))} out (λ c s''. Ok ((a ∷ c.0, c.1), s''))) (λ c s'. Ok ((found ++ c.0, or_none c.1), s')) ≡ out_then out (λ c s'. Ok (((found ++ a ∷ []) ++ c.0, or_none c.1), s'))
    regroup (Ok (c, s3)) = rw (append_assoc found (a ∷ []) c.0) refl
    regroup (Err h) = refl
