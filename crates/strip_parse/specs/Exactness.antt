-- What reading has to do with the grammar.
use Rattle.std.specs.Prelude.{◌≡◌, List, [], ◌∷◌, ◌++◌, Result, Ok, Err}
use Rattle.strip_ast.specs.declared.faults.Why.{Why}
use Rattle.strip_ast.specs.declared.faults.Why.TheVariants as why
use Rattle.strip_ast.specs.declared.token_types.Placed.{Placed}
use Rattle.strip_ast.specs.declared.statements.Statement.{Statement}
use Rattle.strip_ast.specs.Syntax.{IsStatement}
use Rattle.strip_parse.specs.Reading.{Halt}
use Rattle.strip_parse.specs.Parsed.{reading}

-- some statement of the grammar begins with these tokens
abbrev pub CanGoOn : List Placed → Type 0
CanGoOn u = (more : List Placed) × (s : Statement) × IsStatement (u ++ more) s

-- with the next token none does; where there is none, the tokens are no statement
abbrev pub CannotGoOn : List Placed → List Placed → Type 0
CannotGoOn u [] = (s : Statement) → IsStatement u s → ⊥
CannotGoOn u (x ∷ w) = CanGoOn (u ++ x ∷ []) → ⊥

-- the tokens up to the first one at which no statement can go on
abbrev pub IsUnexpected : List Placed → List Placed → Type 0
IsUnexpected ts rest = (u : List Placed) × (ts ≡ u ++ rest) × CanGoOn u × CannotGoOn u rest

-- a limit is passed at a token with which some statement goes on
abbrev pub IsPassed : List Placed → List Placed → Type 0
IsPassed ts rest = (u : List Placed) × (x : Placed) × (w : List Placed) × (rest ≡ x ∷ w) × (ts ≡ u ++ rest) × CanGoOn (u ++ x ∷ [])

abbrev pub IsFaultFor : List Placed → Why → List Placed → Type 0
IsFaultFor ts why.Unexpected rest = IsUnexpected ts rest
IsFaultFor ts _ rest = IsPassed ts rest

-- a tree is the tree of the tokens; a fault stands where it should
abbrev pub IsRight : List Placed → Result Statement Halt → Type 0
IsRight ts (Ok s) = IsStatement ts s
IsRight ts (Err halt) = IsFaultFor ts halt.why halt.left

-- a statement is read as its tree, or passes a limit
abbrev pub IsReadAs : Statement → Result Statement Halt → Type 0
IsReadAs s (Ok t) = t ≡ s
IsReadAs s (Err halt) = halt.why ≡ why.Unexpected → ⊥

-- whatever the tokens: what they are read as is right
abbrev pub ReadsRightly : Type 0
ReadsRightly = (ts : List Placed) → IsRight ts (reading ts)

-- whatever the statement: it is read, unless it passes a limit
abbrev pub ReadsAll : Type 0
ReadsAll = (ts : List Placed) (s : Statement) → IsStatement ts s → IsReadAs s (reading ts)
