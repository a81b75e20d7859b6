-- How a list of tokens is read by a grammar: from the left, the next token deciding.
use Rattle.std.specs.Prelude.{ℕ, zero, suc, ◌+◌, List, [], ◌∷◌, Option, Some, None, Result, Ok, Err, nat_lt, nat_le, if◌then◌else◌}
use Rattle.strip_ast.specs.declared.faults.Why.{Why}
use Rattle.strip_ast.specs.declared.faults.Why.TheVariants as why
use Rattle.strip_ast.specs.declared.marks.Mark.TheVariants as m
use Rattle.strip_ast.specs.declared.token_types.Placed.{Placed}
use Rattle.strip_ast.specs.declared.expressions.Expr.{Expr}
use Rattle.strip_ast.specs.Grammar.{Terminal, Grammar, mark, operator, caller, terminal, empty, made, both, either, many, commas, outermost, or_enclosed, takes}
use Rattle.strip_ast.specs.Syntax.{expression}
use Rattle.strip_parse.specs.Deciding.{Class, marks, firsts, begins_in}

-- ---- without limits

-- what was read and the tokens behind it; or the tokens from the first one at which nothing can go on
abbrev pub Read : Type 0 → Type 0
Read A = Result (A × List Placed) (List Placed)

abbrev pub and_then : {A B : Type 0} → Read A → (A → List Placed → Result B (List Placed)) → Result B (List Placed)
and_then (Ok (a, rest)) k = k a rest
and_then (Err rest) k = Err rest

abbrev pub one_of : {A : Type 0} → Option A → Placed → List Placed → Read A
one_of (Some a) p ps = Ok (a, ps)
one_of None p ps = Err (p ∷ ps)

abbrev pub read_one : {A : Type 0} → Terminal A → List Placed → Read A
read_one t [] = Err []
read_one t (p ∷ ps) = one_of (takes t p.token) p ps

-- in so many turns at most
abbrev pub read_many : {A : Type 0} → List Class → (List Placed → Read A) → ℕ → List Placed → Read (List A)
read_many cs p zero ts = Ok ([], ts)
read_many cs p (suc n) ts =
    if begins_in cs ts then and_then (p ts) (λ a rest. and_then (read_many cs p n rest) (λ as_ rest'. Ok (a ∷ as_, rest'))) else Ok ([], ts)

-- what stands behind a comma
abbrev pub behind : List Placed → List Placed
behind [] = []
behind (p ∷ ps) = ps

abbrev pub read_commas : {A B : Type 0} → List Class → (List Placed → Read A) → (List Placed → Read B) → ℕ → List Placed → Read (List A × Option B)
read_commas cs p q zero ts = Ok (([], None), ts)
read_commas cs p q (suc n) ts =
    if begins_in (marks m.Comma ∷ []) ts then (if begins_in cs (behind ts) then and_then (q (behind ts)) (λ b rest. Ok (([], Some b), rest)) else and_then (p (behind ts)) (λ a rest. and_then (read_commas cs p q n rest) (λ c rest'. Ok ((a ∷ c.0, c.1), rest')))) else Ok (([], None), ts)

-- an expression in parentheses, where one more may be open
abbrev pub read_enclosed : Option (List Placed → Read Expr) → (List Placed → Read Expr) → List Placed → Read Expr
read_enclosed None p ts = p ts
read_enclosed (Some inner) p ts =
    if begins_in (marks m.Open ∷ []) ts then and_then (inner (behind ts)) (λ e rest. and_then (read_one (mark m.Close) rest) (λ _ rest'. Ok (e, rest'))) else p ts

-- no list is read in more than `most` turns
abbrev pub read : {A : Type 0} → ℕ → Option (List Placed → Read Expr) → Grammar A → List Placed → Read A
read most r (terminal t) ts = read_one t ts
read most r (empty a) ts = Ok (a, ts)
read most r (made g f) ts = and_then (read most r g ts) (λ a rest. Ok (f a, rest))
read most r (both g h) ts = and_then (read most r g ts) (λ a rest. and_then (read most r h rest) (λ b rest'. Ok ((a, b), rest')))
read most r (either g h) ts = if begins_in (firsts g) ts then read most r g ts else read most r h ts
read most r (many g) ts = read_many (firsts g) (read most r g) most ts
read most r (commas g h) ts = read_commas (firsts h) (read most r g) (read most r h) most ts
read most r (outermost g) ts = read most r g ts
read most r (or_enclosed g) ts = read_enclosed r (read most r g) ts

-- expressions in which so many parentheses at most are open
abbrev pub read_inside : ℕ → ℕ → Option (List Placed → Read Expr)
read_inside most zero = None
read_inside most (suc room) = Some (λ ts. read most (read_inside most room) expression ts)

-- ---- with limits

-- the tokens that are left, the operators of the expression so far, and the number of turns
pub record State : Type 0 where
  pub left : List Placed
  pub operators : ℕ
  pub most : ℕ

-- why the reading stopped, and the tokens from there on
pub record Halt : Type 0 where
  pub why : Why
  pub left : List Placed

abbrev pub Out : Type 0 → Type 0
Out A = Result (A × State) Halt

abbrev pub out_then : {A B : Type 0} → Out A → (A → State → Out B) → Out B
out_then (Ok (a, s)) k = k a s
out_then (Err halt) k = Err halt

abbrev pub halted : {A : Type 0} → Why → List Placed → Out A
halted w ts = Err (record { why = w; left = ts })

abbrev pub with_left : State → List Placed → State
with_left s ts = record { left = ts; operators = s.operators; most = s.most }

abbrev pub with_operator : State → List Placed → State
with_operator s ts = record { left = ts; operators = s.operators + 1; most = s.most }

-- at most 256 operators, and no caller above 4,294,967,295
abbrev pub limited : {A : Type 0} → Terminal A → A → State → List Placed → Out A
limited (operator a) x s ps = if nat_lt s.operators 256 then Ok (x, with_operator s ps) else halted why.TooDeep s.left
limited caller n s ps = if nat_le n 4294967295 then Ok (n, with_left s ps) else halted why.TooLong s.left
limited _ x s ps = Ok (x, with_left s ps)

abbrev pub limited_one : {A : Type 0} → Terminal A → Option A → State → List Placed → Out A
limited_one t (Some a) s ps = limited t a s ps
limited_one t None s ps = halted why.Unexpected s.left

abbrev pub take_from : {A : Type 0} → Terminal A → State → List Placed → Out A
take_from t s [] = halted why.Unexpected []
take_from t s (p ∷ ps) = limited_one t (takes t p.token) s ps

abbrev pub take_one : {A : Type 0} → Terminal A → State → Out A
take_one t s = take_from t s s.left

abbrev pub take_many : {A : Type 0} → List Class → (State → Out A) → ℕ → State → Out (List A)
take_many cs p zero s = Ok ([], s)
take_many cs p (suc n) s =
    if begins_in cs s.left then out_then (p s) (λ a s'. out_then (take_many cs p n s') (λ as_ s''. Ok (a ∷ as_, s''))) else Ok ([], s)

abbrev pub past_one : State → State
past_one s = with_left s (behind s.left)

abbrev pub take_commas : {A B : Type 0} → List Class → (State → Out A) → (State → Out B) → ℕ → State → Out (List A × Option B)
take_commas cs p q zero s = Ok (([], None), s)
take_commas cs p q (suc n) s =
    if begins_in (marks m.Comma ∷ []) s.left then (if begins_in cs (behind s.left) then out_then (q (past_one s)) (λ b s'. Ok (([], Some b), s')) else out_then (p (past_one s)) (λ a s'. out_then (take_commas cs p q n s') (λ c s''. Ok ((a ∷ c.0, c.1), s'')))) else Ok (([], None), s)

-- no more than 64 parentheses are open at one place
abbrev pub take_enclosed : Option (State → Out Expr) → (State → Out Expr) → State → Out Expr
take_enclosed None p s = if begins_in (marks m.Open ∷ []) s.left then halted why.TooDeep s.left else p s
take_enclosed (Some inner) p s =
    if begins_in (marks m.Open ∷ []) s.left then out_then (inner (past_one s)) (λ e s'. out_then (take_one (mark m.Close) s') (λ _ s''. Ok (e, s''))) else p s

-- operators are counted anew in each expression that is no part of another
abbrev pub fresh : State → State
fresh s = record { left = s.left; operators = 0; most = s.most }

abbrev pub take : {A : Type 0} → Option (State → Out Expr) → Grammar A → State → Out A
take r (terminal t) s = take_one t s
take r (empty a) s = Ok (a, s)
take r (made g f) s = out_then (take r g s) (λ a s'. Ok (f a, s'))
take r (both g h) s = out_then (take r g s) (λ a s'. out_then (take r h s') (λ b s''. Ok ((a, b), s'')))
take r (either g h) s = if begins_in (firsts g) s.left then take r g s else take r h s
take r (many g) s = take_many (firsts g) (take r g) s.most s
take r (commas g h) s = take_commas (firsts h) (take r g) (take r h) s.most s
take r (outermost g) s = take r g (fresh s)
take r (or_enclosed g) s = take_enclosed r (take r g) s

-- expressions in which so many parentheses at most are open
unfoldable pub take_inside : ℕ → Option (State → Out Expr)
take_inside zero = None
take_inside (suc room) = Some (λ s. take (take_inside room) expression s)

-- a part of a statement
abbrev pub part : {A : Type 0} → Grammar A → State → Out A
part g s = take (take_inside 64) g s

-- no token is left
abbrev pub ended : {A : Type 0} → A → List Placed → Result A Halt
ended a [] = Ok a
ended a (p ∷ ps) = Err (record { why = why.Unexpected; left = p ∷ ps })

abbrev pub at_end : {A : Type 0} → Out A → Result A Halt
at_end (Ok (a, s)) = ended a s.left
at_end (Err halt) = Err halt
