-- What the parts of the parser answer, and in what state they leave the cursor.
use Rattle.std.specs.Prelude.{◌≡◌, ℕ, Bool, true, false, List, [], ◌∷◌, Option, Some, None, Result, Ok, Err, ℤ, pos, neg_ℤ}
use Rattle.strip_ast.specs.declared.faults.Why.TheVariants as why
use Rattle.strip_ast.specs.declared.marks.Mark.TheVariants as m
use Rattle.strip_ast.specs.declared.marks.Mark.{Mark as OneMark}
use Rattle.strip_ast.specs.declared.expressions.Op.{Op}
use Rattle.strip_ast.specs.declared.expressions.Op.TheVariants as op
use Rattle.strip_ast.specs.declared.token_types.Placed.{Placed}
use Rattle.strip_ast.specs.declared.expressions.Expr.{Expr}
use Rattle.strip_ast.specs.declared.expressions.Expr.TheVariants as expr
use Rattle.strip_ast.specs.Grammar.{mark, both}
use Rattle.strip_ast.specs.Syntax.{optional, comparing, compared, sum}
use Rattle.strip_parse.specs.declared.stops.Stop.{Stop}
use Rattle.strip_parse.specs.declared.stops.Stop.TheVariants as stop
use Rattle.strip_parse.specs.Deciding.{marks, begins_in}
use Rattle.strip_parse.specs.Reading.{State, Out, out_then, halted, take_one, take_many, take}

-- what was taken and the state behind it; or why it stopped, the cursor standing where it did
abbrev pub IsTaken : {A : Type 0} → Out A → Result A Stop → State → Type 0
IsTaken out (Ok a) s = out ≡ Ok (a, s)
IsTaken out (Err stop.Unexpected) s = out ≡ halted why.Unexpected s.left
IsTaken out (Err stop.TooDeep) s = out ≡ halted why.TooDeep s.left
IsTaken out (Err stop.TooLong) s = out ≡ halted why.TooLong s.left
IsTaken out (Err stop.Memory) s = Unit {0}

-- a comma and then an item
abbrev pub behind_comma : {A : Type 0} → (State → Out A) → State → Out A
behind_comma {A} f s =
    out_then {A = Unit {0} × A} (out_then (take_one (mark m.Comma) s) (λ x s'. out_then (f s') (λ a s''. Ok ((x, a), s'')))) (λ p s'. Ok (p.1, s'))

-- the items that follow, each behind a comma
abbrev pub following_of : {A : Type 0} → (State → Out A) → State → Out (List A)
following_of f s = take_many (marks m.Comma ∷ []) (behind_comma f) s.most s

-- items with commas between
abbrev pub listed_of : {A : Type 0} → (State → Out A) → State → Out (List A)
listed_of {A} f s =
    out_then {A = A × List A} (out_then (f s) (λ a s'. out_then (following_of f s') (λ as_ s''. Ok ((a, as_), s'')))) (λ p s'. Ok (p.0 ∷ p.1, s'))

-- what is made, but for want of memory
abbrev pub IsMade : {A : Type 0} → A → Result A Stop → Type 0
IsMade wanted (Ok a) = a ≡ wanted
IsMade wanted (Err stop.Memory) = Unit {0}
IsMade wanted (Err _) = ⊥

abbrev pub first_if : Bool → OneMark → Op → Option (OneMark × Op) → Option (OneMark × Op)
first_if true a o rest = Some (a, o)
first_if false a o rest = rest

-- the comparison that the next token is
abbrev pub comparison_at : List Placed → Option (OneMark × Op)
comparison_at ts =
    first_if (begins_in (marks m.Equal ∷ []) ts) m.Equal op.Eq (first_if (begins_in (marks m.Unequal ∷ []) ts) m.Unequal op.Ne (first_if (begins_in (marks m.Below ∷ []) ts) m.Below op.Lt (first_if (begins_in (marks m.AtMost ∷ []) ts) m.AtMost op.Le (first_if (begins_in (marks m.Above ∷ []) ts) m.Above op.Gt (first_if (begins_in (marks m.AtLeast ∷ []) ts) m.AtLeast op.Ge None)))))

-- the number, signed, and with a minus before it
abbrev pub signed_of : Out ℕ → Out ℤ
signed_of out = out_then out (λ n s. Ok (pos n, s))

abbrev pub negated_of : Out ℕ → Out ℤ
negated_of out = out_then out (λ n s. Ok (neg_ℤ (pos n), s))

abbrev pub parenthesized : (State → Out Expr) → State → Out Expr
parenthesized f s =
    out_then (take_one (mark m.Open) s) (λ _ s1. out_then (f s1) (λ e s2. out_then (take_one (mark m.Close) s2) (λ _ s3. Ok (e, s3))))

abbrev pub right_of : (State → Out Expr) → Op → Expr → State → Out Expr
right_of f o e s = out_then (f s) (λ right s'. Ok (expr.Two o e right, s'))

-- an expression, which may be the left side of a comparison
abbrev pub compared_from : Option (State → Out Expr) → Expr → State → Out Expr
compared_from r e s = out_then (take r (optional (both comparing sum)) s) (λ o s'. Ok (compared (e, o), s'))

-- where the first token begins
abbrev pub place_of : List Placed → Option ℕ
place_of [] = None
place_of (p ∷ ps) = Some p.at
